use Rattle.bsdl_read.proofs.Whole.{word_is_ascii, capitals_are_upper}
use Rattle.bsdl_read.proofs.contents.name_of.Goals as goal

pub capitals-requires : goal.capitals-requires
capitals-requires c = word_is_ascii c.args.letters.now c.requires

pub returns : goal.returns
returns c = rw (← capitals_are_upper c.args.letters.now) c.capitals.ensures.ok

use Rattle.bsdl_read.proofs.Going.{first_lies}
use Rattle.bsdl_read.proofs.read.number.Goals as goal

pub token_number-requires : goal.token_number-requires
token_number-requires c = first_lies c.args.text.now c.args.tokens.now _ _ c.in-Some.ensures.cases.0 c.requires

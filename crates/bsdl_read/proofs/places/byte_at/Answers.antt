use Rattle.bsdl_read.proofs.Betweens.{begins_at}
use Rattle.bsdl_read.proofs.places.byte_at.Goals as goal

pub returns : goal.returns
returns c = begins_at c.args.text.now c.args.start c.args.end _ c.requires.before c.requires.ends

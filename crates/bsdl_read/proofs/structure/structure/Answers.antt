use Rattle.bsdl_read.proofs.Going.{lies_at}
use Rattle.bsdl_read.proofs.structure.structure.Goals as goal

pub next-requires-clause-lies : goal.next-requires-clause-lies
next-requires-clause-lies c = lies_at c.args.text.now 0 c.args.tokens.now c.loop-index.index _ c.requires c.loop-index-test.true

use Rattle.bsdl_read.proofs.Patterned.{all_patterned}
use Rattle.bsdl_read.proofs.read.opcodes_at.Goals as goal

pub returns-in-Ok-clause-patterns : goal.returns-in-Ok-clause-patterns
returns-in-Ok-clause-patterns c = rw c.from_vec.ensures (all_patterned c.args.text.now c.tokens_of.result.now c.in-Ok.found.items c.in-Ok.ensures)

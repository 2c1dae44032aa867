use Rattle.virtual_tap.proofs.Shifting.{rewritten_fits, rewritten_zeros}
use Rattle.virtual_tap.proofs.instruction.InstructionRegister.clear.Goals as goal

pub invariant_of-self : goal.invariant_of-self
invariant_of-self c = rewritten_fits c.self.inside.part c.self.inside.stage c.put_word.new.self c.ir_len.result 0 c.self.invariant c.ir_len.ensures.is c.put_word.ensures

pub returns : goal.returns
returns c = rw (← c.self.view_is) (rewritten_zeros c.self.inside.part c.self.inside.stage c.put_word.new.self c.ir_len.result c.self.invariant c.ir_len.ensures.is c.put_word.ensures)

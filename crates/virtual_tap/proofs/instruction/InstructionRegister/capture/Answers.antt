use Rattle.virtual_tap.proofs.Shifting.{rewritten_fits}
use Rattle.virtual_tap.proofs.instruction.InstructionRegister.capture.Goals as goal

pub invariant_of-self : goal.invariant_of-self
invariant_of-self c = rewritten_fits c.self.inside.part c.self.inside.stage c.put_word.new.self c.ir_len.result c.capture_code.result c.self.invariant c.ir_len.ensures.is c.put_word.ensures

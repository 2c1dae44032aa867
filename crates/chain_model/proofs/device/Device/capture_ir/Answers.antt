use Rattle.chain_model.proofs.Latches.{recaptured}
use Rattle.chain_model.proofs.device.Device.capture_ir.Goals as goal

pub invariant_of-self : goal.invariant_of-self
invariant_of-self c = (recaptured _ _ _ _ _ _ _ _ _ _ c.self.invariant.0 c.clear.ensures c.ir_len.ensures.is c.push_word.ensures, c.self.invariant.1, c.self.invariant.2)

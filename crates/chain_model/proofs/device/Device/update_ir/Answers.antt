use Rattle.std.proofs.Common.{refl}
use Rattle.chain_model.specs.Devices.{content_of}
use Rattle.chain_model.proofs.Latches.{seen_as, code_read}
use Rattle.chain_model.proofs.device.Device.update_ir.Goals as goal

pub returns : goal.returns
returns c =
    rw (← c.self.view_is) (seen_as c.self.inside.part (content_of c.self.inside.pins.bits c.self.inside.boundary.bits c.self.inside.named.items c.self.inside.captures c.self.inside.updates) _ _ _ _ _ _
    (code_read c.self.inside.ir_stage.bits c.ir_len.result c.self.inside.part.ir_length c.word-self-inside.result c.ir_len.ensures.is c.self.invariant.0.ir_length c.word-self-inside.ensures.bits) refl refl)

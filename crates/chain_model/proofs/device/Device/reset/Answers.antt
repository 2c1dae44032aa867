use Rattle.std.proofs.Common.{[], sym, subst}
use Rattle.chain_model.specs.Devices.{Selects, content_of}
use Rattle.chain_model.proofs.Latches.{recaptured, cleared_stage, seen_as, zeros_put}
use Rattle.chain_model.proofs.Staged.{held_bits}
use Rattle.chain_model.proofs.device.Device.reset.Goals as goal

pub invariant_of-self : goal.invariant_of-self
invariant_of-self c = (
  cleared_stage _ _ _ _ _ _ _ (recaptured _ _ _ _ _ _ _ _ _ _ c.self.invariant.0 c.clear.ensures c.ir_len.ensures.is c.push_word.ensures) c.clear-2.ensures,
  subst (λ code. Selects c.self.inside.part code c.self.inside.reset_register) (sym c.reset_code-self-inside.ensures.is) c.self.invariant.2,
  c.self.invariant.2,
)

pub returns : goal.returns
returns c =
    rw (← c.self.view_is) (seen_as c.self.inside.part (content_of c.self.inside.pins.bits c.self.inside.boundary.bits c.self.inside.named.items c.self.inside.captures c.self.inside.updates) _ _ _ _ _ _
    c.reset_code-self-inside.ensures.is (zeros_put _ _ _ _ _ c.clear.ensures c.ir_len.ensures.is c.push_word.ensures) (held_bits c.clear-2.new.self [] c.self.inside.dr_stage.came.room c.self.inside.pins c.self.inside.named.items c.clear-2.ensures))

use Rattle.std.proofs.Common.{◌∙◌, sym, ap, arith, is_some}
use Rattle.std.specs.List.{slice_get}
use Rattle.chain_model.specs.Chains.{DeviceState}
use Rattle.chain_model.proofs.ShiftRuns.{some_last}
use Rattle.chain_model.proofs.devices.has_dr_bit.Goals as goal

pub returns-then-count-gt0 : goal.returns-then-count-gt0
returns-then-count-gt0 c some =
    some_last c.args.devices.now _ _ (omega (arith, c.if-count-gt0.true)) (omega (arith, c.if-count-gt0.true))
    (ap is_some (ap (λ (d : DeviceState). slice_get d.dr_stage 0) (sym c.index-devices-count.is) ∙ sym c.dr_bit.ensures) ∙ sym c.is_some.ensures ∙ some)

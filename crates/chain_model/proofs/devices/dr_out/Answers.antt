use Rattle.std.proofs.Common.{◌∙◌, sym, ap, arith}
use Rattle.std.specs.List.{slice_get}
use Rattle.chain_model.specs.Chains.{DeviceState}
use Rattle.chain_model.proofs.Stages.{out_found, out_next}
use Rattle.chain_model.proofs.devices.dr_out.Goals as goal

pub returns-in-Some : goal.returns-in-Some
returns-in-Some c =
    sym (out_found (λ (d : DeviceState). d.dr_stage) c.args.devices.now c.loop-at.at _ c.in-Some.bit (omega (arith, c.loop-at-test.true)) c.loop-at.invariant.within (ap (λ (d : DeviceState). slice_get d.dr_stage 0) (sym c.index-devices-at.is) ∙ sym c.dr_bit.ensures ∙ c.in-Some.is)) ∙ c.loop-at.invariant.out

pub loop-at-preserved : goal.loop-at-preserved
loop-at-preserved c = record {
  out = sym (out_next (λ (d : DeviceState). d.dr_stage) c.args.devices.now c.loop-at.at _ (omega (arith, c.loop-at-test.true)) c.loop-at.invariant.within (ap (λ (d : DeviceState). slice_get d.dr_stage 0) (sym c.index-devices-at.is) ∙ sym c.dr_bit.ensures ∙ c.in_default.is)) ∙ c.loop-at.invariant.out;
  within = omega (arith, c.loop-at.invariant.within);
}

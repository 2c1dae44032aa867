use Rattle.std.proofs.Common.{◌∙◌, add-one, arith}
use Rattle.chain_model.proofs.Stages.{next_captured, next_fits}
use Rattle.chain_model.proofs.devices.capture_dr.Goals as goal

pub loop-device-preserved : goal.loop-device-preserved
loop-device-preserved c = record {
  act = λ chain none. next_captured chain c.loop-device.devices c.loop-device.device-index _ c.loop-device.device-index _ _ c.capture_dr.new.self (omega (arith, c.loop-device-test.true, c.loop-device.auto.devices)) (add-one c.loop-device.device-index) (add-one c.loop-device.device-index)
      (c.capture_dr.ensures.captured chain c.loop-device.device-index none) ∙ c.loop-device.invariant.act chain none;
  fits = next_fits c.loop-device.devices c.loop-device.device-index _ c.capture_dr.new.self (omega (arith, c.loop-device-test.true, c.loop-device.auto.devices)) (add-one c.loop-device.device-index) c.loop-device.invariant.fits c.capture_dr.ensures.fits;
}

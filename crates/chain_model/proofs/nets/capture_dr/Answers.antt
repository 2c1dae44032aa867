use Rattle.std.proofs.Common.{◌∙◌, sym, refl, subst, arith, drop}
use Rattle.chain_model.specs.Devices.{EachFits}
use Rattle.chain_model.proofs.Wires.{put_more, fits_wired, dropped}
use Rattle.chain_model.proofs.nets.capture_dr.Goals as goal

pub loop-at-preserved : goal.loop-at-preserved
loop-at-preserved c = record {
  act = λ chain nets_are devices_are.
      c.put_net.ensures ∙ put_more chain _ (drop c.loop-at.at c.args.nets.now) c.args.devices.now c.loop-at.devices
      (nets_are ∙ dropped c.args.nets.now c.loop-at.at _ (omega (arith, c.loop-at-test.true)) c.loop-at.invariant.within) devices_are
      (c.loop-at.invariant.act (record chain { nets = drop c.loop-at.at c.args.nets.now }) refl devices_are);
  fits = subst EachFits (sym c.put_net.ensures) (fits_wired _ _ c.loop-at.invariant.fits);
  within = omega (arith, c.loop-at.invariant.within);
}

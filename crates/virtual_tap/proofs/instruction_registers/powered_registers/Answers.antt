use Rattle.std.proofs.Common.{arith, map}
use Rattle.scan_share.specs.PrivateChains.{entries_at}
use Rattle.virtual_tap.specs.Instructions.{at_power_up}
use Rattle.virtual_tap.proofs.Loaded.{next_plans, next_powered}
use Rattle.virtual_tap.proofs.instruction_registers.powered_registers.Goals as goal

pub loop-place-preserved : goal.loop-place-preserved
loop-place-preserved c = record {
  registers =
      next_powered c.args.layout.now.parts c.args.group.now c.loop-place.place-index 0 c.loop-place.all.items c.push.new.self.items (map at_power_up (entries_at c.args.layout.now.parts c.args.group.now))
      c.part.result.now c.in_ok-new.field-0 (omega (arith, c.loop-place-test.true)) c.part.ensures.is c.in_ok-new.ensures.register c.in_ok-push.ensures.items c.loop-place.invariant.registers;
  plans = next_plans c.loop-place.all.items c.push.new.self.items c.in_ok-new.field-0 c.in_ok-push.ensures.items c.loop-place.invariant.plans c.in_ok-new.ensures.plan;
}

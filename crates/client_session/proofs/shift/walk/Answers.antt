use Rattle.std.proofs.Common.{subst, sym, ◌∙◌, arith, false}
use Rattle.scan_bits.specs.Registers.{bit_at}
use Rattle.chain_model.specs.Cycles.{rise, fall}
use Rattle.xvc_frame.specs.Frames.{tms_bits, tdi_bits}
use Rattle.virtual_tap.specs.Taps.{ScansAt}
use Rattle.virtual_tap.specs.Views.{MovesAs}
use Rattle.client_session.specs.Stores.{HoldsShift}
use Rattle.client_session.specs.Going.{closed_if}
use Rattle.client_session.proofs.ShiftCycles.{keeps_more, walked_on, walked_to_close}
use Rattle.client_session.proofs.shift.walk.Goals as goal

pub returns-then-ends-clause-went : goal.returns-then-ends-clause-went
returns-then-ends-clause-went c = λ grant turn shifts.
    walked_to_close c.args.layout.now grant c.loop-at.frame c.shift_cycle-ends.new.frame c.loop-at.tap c.shift_cycle-ends.new.tap c.loop-at.at c.args.cycles turn
    (c.loop-at.invariant.went grant turn shifts) c.loop-at.invariant.low (sym c.at_capture.ensures ∙ c.if-at_capture.false) c.loop-at.invariant.held c.loop-at-test.true
    c.shift_cycle-ends.ensures.bit c.shift_cycle-ends.ensures.kept c.shift_cycle-ends.ensures.scan (c.shift_cycle-ends.ensures.closing c.if-ends.true)

pub loop-at-preserved : goal.loop-at-preserved
loop-at-preserved c = record {
  behind = omega (arith, c.loop-at.invariant.behind);
  within = omega arith;
  vector = c.shift_cycle-ends.ensures.bit.vector ∙ c.loop-at.invariant.vector;
  held = subst (HoldsShift c.shift_cycle-ends.new.frame) c.loop-at.invariant.held.tdi c.shift_cycle-ends.ensures.held;
  kept = keeps_more c.args.tap.now c.loop-at.tap c.shift_cycle-ends.new.tap c.loop-at.invariant.kept c.shift_cycle-ends.ensures.kept;
  scan = c.shift_cycle-ends.ensures.scan ∙ c.loop-at.invariant.scan;
  codes = λ is_open. c.shift_cycle-ends.ensures.codes (c.loop-at.invariant.scan ∙ is_open) ∙ c.loop-at.invariant.codes is_open;
  low = subst (λ t. ScansAt false (closed_if t c.shift_cycle-ends.new.tap.view)) c.if-ends.false c.shift_cycle-ends.ensures.low;
  went = λ grant turn shifts.
      walked_on c.args.layout.now grant c.loop-at.frame c.shift_cycle-ends.new.frame c.loop-at.tap c.shift_cycle-ends.new.tap c.loop-at.at c.args.cycles turn
      (c.loop-at.invariant.went grant turn shifts) c.loop-at.invariant.low (sym c.at_capture.ensures ∙ c.if-at_capture.false) c.loop-at.invariant.held c.loop-at-test.true
      c.shift_cycle-ends.ensures.bit c.shift_cycle-ends.ensures.kept c.shift_cycle-ends.ensures.scan
      (subst (λ t. MovesAs c.loop-at.tap.parts (λ chain. fall (rise chain (bit_at (tms_bits c.loop-at.frame) c.loop-at.at) (bit_at (tdi_bits c.loop-at.frame) c.loop-at.at))) c.loop-at.tap.view (closed_if t c.shift_cycle-ends.new.tap.view)) c.if-ends.false c.shift_cycle-ends.ensures.moved);
}

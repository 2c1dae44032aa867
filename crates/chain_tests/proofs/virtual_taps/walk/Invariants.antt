use Rattle.std.proofs.Common.{◌≡◌, true, false, is_some}
use Rattle.virtual_tap.specs.Taps.{IsOfLayout, ScansAt}
use Rattle.chain_tests.proofs.virtual_taps.walk.Given as goal

abbrev pub invariant-loop-i : goal.invariant-loop-i
invariant-loop-i l = record {
  grant : l.tap.grant ≡ 0;
  layout : IsOfLayout l.layout l.tap;
  there : is_some l.tap.view.register ≡ true;
  low : ScansAt false l.tap.view;
}

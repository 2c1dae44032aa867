use Rattle.std.proofs.Common.{◌≡◌, ◌≤◌, ◌++◌, length, take, drop}
use Rattle.chain_model.proofs.data_stage.rotate.Given as goal

abbrev pub invariant-loop-left : goal.invariant-loop-left
invariant-loop-left l = record {
  turned : drop l.left l.bits.bits ++ take l.left l.bits.bits ≡ drop l.count l.fn.bits.bits ++ take l.count l.fn.bits.bits;
  within : l.left ≤ length l.bits.bits;
  room : l.bits.room ≡ l.fn.bits.room;
}

abbrev pub decreases-loop-left : goal.decreases-loop-left
decreases-loop-left l = l.left

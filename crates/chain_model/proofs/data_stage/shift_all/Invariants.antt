use Rattle.std.proofs.Common.{◌≡◌, ◌≤◌, ◌-◌, length, drop}
use Rattle.scan_bits.specs.Registers.{shifted_all}
use Rattle.chain_model.proofs.data_stage.shift_all.Given as goal

abbrev pub invariant-loop-at : goal.invariant-loop-at
invariant-loop-at l = record {
  shifted : shifted_all l.register.bits (drop l.at l.bits.bits) ≡ shifted_all l.fn.register.bits l.bits.bits;
  some : 1 ≤ length l.register.bits;
  within : l.at ≤ length l.bits.bits;
  room : l.register.room ≡ l.fn.register.room;
}

abbrev pub decreases-loop-at : goal.decreases-loop-at
decreases-loop-at l = l.count - l.at

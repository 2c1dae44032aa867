use Rattle.std.proofs.Common.{◌≡◌, ◌≤◌, length, take, true}
use Rattle.scan_bits.specs.Registers.{joined, lowest_or}
use Rattle.chain_model.specs.Cycles.{dr_stages}
use Rattle.chain_model.proofs.devices.dr_out.Given as goal

abbrev pub invariant-loop-at : goal.invariant-loop-at
invariant-loop-at l = record {
  out : lowest_or true (joined (dr_stages (take l.at l.devices))) ≡ lowest_or true (joined (dr_stages l.devices));
  within : l.at ≤ length l.devices;
}

abbrev pub decreases-loop-at : goal.decreases-loop-at
decreases-loop-at l = l.at

use Rattle.std.proofs.Common.{◌≡◌, drop, ◌++◌, map}
use Rattle.scan_share.specs.PrivateChains.{entries_at}
use Rattle.virtual_tap.specs.Instructions.{ArePlans, at_power_up, parts_of}
use Rattle.virtual_tap.proofs.instruction_registers.powered_registers.Given as goal

abbrev pub invariant-loop-place : goal.invariant-loop-place
invariant-loop-place l = record {
  registers : l.all.items ++ map at_power_up (entries_at l.layout.parts (drop l.place-index l.group)) ≡ map at_power_up (entries_at l.layout.parts l.group);
  plans : ArePlans (parts_of l.all.items);
}

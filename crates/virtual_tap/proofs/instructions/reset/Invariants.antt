use Rattle.std.proofs.Common.{◌≡◌, take, length}
use Rattle.virtual_tap.specs.Instructions.{SpellCodes, parts_of, reset_codes_of}
use Rattle.virtual_tap.proofs.instructions.reset.Given as goal

abbrev pub invariant-loop-at : goal.invariant-loop-at
invariant-loop-at l = record {
  coded : SpellCodes (parts_of (take l.at l.registers)) (take l.at l.codes) (reset_codes_of (take l.at l.registers));
  long : length l.codes ≡ length l.registers;
}

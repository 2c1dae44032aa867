use Rattle.std.proofs.Common.{◌≡◌, take, length}
use Rattle.virtual_tap.specs.Instructions.{SpellCodes, parts_of, stages_of}
use Rattle.virtual_tap.proofs.instructions.update.Given as goal

abbrev pub invariant-loop-at : goal.invariant-loop-at
invariant-loop-at l = record {
  coded : SpellCodes (parts_of (take l.at l.registers)) (take l.at l.codes) (stages_of (take l.at l.registers));
  long : length l.codes ≡ length l.registers;
}

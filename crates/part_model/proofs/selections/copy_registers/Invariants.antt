use Rattle.std.proofs.Common.{◌≡◌, ◌++◌, drop}
use Rattle.part_model.proofs.selections.copy_registers.Given as goal

abbrev pub invariant-loop-register : goal.invariant-loop-register
invariant-loop-register l = l.copied.items ++ drop l.register-index l.registers ≡ l.registers

use Rattle.std.proofs.Common.{◌≡◌, take, drop, ◌++◌, map}
use Rattle.virtual_tap.specs.Instructions.{cleared}
use Rattle.virtual_tap.proofs.instructions.clear.Given as goal

abbrev pub invariant-loop-register : goal.invariant-loop-register
invariant-loop-register l = take l.register-index l.registers ++ map cleared (drop l.register-index l.registers) ≡ map cleared l.fn.registers

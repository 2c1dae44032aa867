use Rattle.std.proofs.Common.{◌≡◌, take, drop, ◌++◌, map}
use Rattle.virtual_tap.specs.Instructions.{captured}
use Rattle.virtual_tap.proofs.instructions.capture.Given as goal

abbrev pub invariant-loop-register : goal.invariant-loop-register
invariant-loop-register l = take l.register-index l.registers ++ map captured (drop l.register-index l.registers) ≡ map captured l.fn.registers

use Rattle.std.proofs.Common.{◌≡◌, ◌<◌, ◌^◌, take, drop, ◌++◌}
use Rattle.scan_bits.specs.Words.{bits_of}
use Rattle.virtual_tap.specs.Instructions.{shifted_through, out_of}
use Rattle.virtual_tap.proofs.instructions.shift.Given as goal

abbrev pub invariant-loop-register : goal.invariant-loop-register
invariant-loop-register l = record {
  after : take l.register-index l.registers ++ shifted_through (bits_of l.n l.word) (drop l.register-index l.registers) ≡ shifted_through (bits_of l.n l.tdi) l.fn.registers;
  out : out_of (bits_of l.n l.word) (drop l.register-index l.registers) ≡ out_of (bits_of l.n l.tdi) l.fn.registers;
  bound : 0 < l.register-index → l.word < 2 ^ l.n;
}

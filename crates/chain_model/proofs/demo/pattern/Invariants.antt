use Rattle.std.proofs.Common.{◌≡◌, ◌-◌, ◌++◌}
use Rattle.scan_bits.specs.Words.{bits_of}
use Rattle.part_model.specs.Demo.{digits_of_bits}
use Rattle.chain_model.proofs.demo.pattern.Given as goal

abbrev pub invariant-loop : goal.invariant-loop
invariant-loop l = l.digits.items ++ digits_of_bits (bits_of (l.count - l.counter) l.rest) ≡ digits_of_bits (bits_of l.count l.code)

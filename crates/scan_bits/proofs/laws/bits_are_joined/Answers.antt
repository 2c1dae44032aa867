use Rattle.scan_bits.proofs.WordLaws.{bits_of-append, number_of-append}
use Rattle.scan_bits.proofs.laws.bits_are_joined.Goals as goal

pub returns-clause-bits : goal.returns-clause-bits
returns-clause-bits c = bits_of-append

pub returns-clause-number : goal.returns-clause-number
returns-clause-number c = number_of-append

use Rattle.scan_bits.proofs.WordLaws.{length-bits_of, number_of-bits_of, bits_of-number_of, number_of-lt, bits_of-mod}
use Rattle.scan_bits.proofs.laws.bits_are_numbers.Goals as goal

pub returns-clause-length : goal.returns-clause-length
returns-clause-length c = length-bits_of

pub returns-clause-number : goal.returns-clause-number
returns-clause-number c = number_of-bits_of

pub returns-clause-bits : goal.returns-clause-bits
returns-clause-bits c = bits_of-number_of

pub returns-clause-bound : goal.returns-clause-bound
returns-clause-bound c = number_of-lt

pub returns-clause-lowest : goal.returns-clause-lowest
returns-clause-lowest c = bits_of-mod

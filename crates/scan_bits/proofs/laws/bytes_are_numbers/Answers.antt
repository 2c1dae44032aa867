use Rattle.scan_bits.proofs.ByteLaws.{length-bytes_of, bytes_of-small, number_of_bytes-bytes_of, bytes_of-number_of_bytes}
use Rattle.scan_bits.proofs.laws.bytes_are_numbers.Goals as goal

pub returns-clause-length : goal.returns-clause-length
returns-clause-length c = length-bytes_of

pub returns-clause-bytes : goal.returns-clause-bytes
returns-clause-bytes c = bytes_of-small

pub returns-clause-number : goal.returns-clause-number
returns-clause-number c = number_of_bytes-bytes_of

pub returns-clause-back : goal.returns-clause-back
returns-clause-back c = bytes_of-number_of_bytes

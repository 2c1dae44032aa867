use Rattle.scan_bits.proofs.ByteLaws.{length-packed, packed-small, length-unpacked, unpacked-packed, packed-unpacked}
use Rattle.scan_bits.proofs.laws.bit_vectors_are_bytes.Goals as goal

pub returns-clause-packed_length : goal.returns-clause-packed_length
returns-clause-packed_length c = length-packed

pub returns-clause-packed_bytes : goal.returns-clause-packed_bytes
returns-clause-packed_bytes c = packed-small

pub returns-clause-unpacked_length : goal.returns-clause-unpacked_length
returns-clause-unpacked_length c = length-unpacked

pub returns-clause-bits : goal.returns-clause-bits
returns-clause-bits c = unpacked-packed

pub returns-clause-bytes : goal.returns-clause-bytes
returns-clause-bytes c = packed-unpacked

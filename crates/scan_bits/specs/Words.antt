-- Numbers and bytes as lists of bits, the lowest bit first.
use Rattle.std.specs.Prelude.{ℕ, zero, suc, ◌+◌, ◌*◌, ◌/◌, ◌%◌, ◌==◌, Bool, true, false, List, [], ◌∷◌, ◌++◌, take, drop, length}

-- a bit as a number
abbrev pub bit_value : Bool → ℕ
bit_value true = 1
bit_value false = 0

-- so many bits of a number, from the lowest
abbrev pub bits_of : ℕ → ℕ → List Bool
bits_of zero value = []
bits_of (suc count) value = (value % 2 == 1) ∷ bits_of count (value / 2)

-- the number that has these bits
abbrev pub number_of : List Bool → ℕ
number_of [] = 0
number_of (bit ∷ bits) = bit_value bit + 2 * number_of bits

-- the number of little-endian bytes
abbrev pub number_of_bytes : List ℕ → ℕ
number_of_bytes [] = 0
number_of_bytes (byte ∷ bytes) = byte + 256 * number_of_bytes bytes

-- so many little-endian bytes of a number
abbrev pub bytes_of : ℕ → ℕ → List ℕ
bytes_of zero value = []
bytes_of (suc count) value = (value % 256) ∷ bytes_of count (value / 256)

-- the bits of a bit vector in bytes: bit 0 of byte 0 is the first
abbrev pub unpacked : List ℕ → List Bool
unpacked [] = []
unpacked (byte ∷ bytes) = bits_of 8 byte ++ unpacked bytes

-- so many bytes of a bit vector, spare bits 0
abbrev pub packed_in : ℕ → List Bool → List ℕ
packed_in zero bits = []
packed_in (suc bytes) bits = number_of (take 8 bits) ∷ packed_in bytes (drop 8 bits)

-- how many bytes hold so many bits
abbrev pub byte_count : ℕ → ℕ
byte_count bits = (bits + 7) / 8

-- a bit vector in the fewest bytes, spare bits 0
abbrev pub packed : List Bool → List ℕ
packed bits = packed_in (byte_count (length bits)) bits

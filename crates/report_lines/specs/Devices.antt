-- What is told of a device at the end of a replay.
use Rattle.std.specs.Prelude.{ℕ, Bool, ◌+◌, ◌/◌, List, ◌++◌, codes, length}
use Rattle.std.specs.Fmt.{decimal}
use Rattle.scan_bits.specs.Words.{number_of}
use Rattle.text_lines.specs.Hex.{hex_digits}

-- how often registers of a device were captured and updated; devices count from 1
abbrev pub counts_line : (device captures updates : ℕ) → List ℕ
counts_line device captures updates = codes "device " ++ decimal device ++ codes " captures " ++ decimal captures ++ codes " updates " ++ decimal updates ++ codes "\n"

-- how many digits of base 16 so many bits take
abbrev pub digit_count : ℕ → ℕ
digit_count bits = (bits + 3) / 4

-- bits as a number in base 16, with all its digits
abbrev pub bits_text : List Bool → List ℕ
bits_text bits = hex_digits (digit_count (length bits)) (number_of bits)

-- what stands before the name of a register
abbrev pub latch_head : ℕ → List ℕ
latch_head device = codes "latch " ++ decimal device ++ codes " "

-- the number behind it
abbrev pub value_text : List Bool → List ℕ
value_text bits = codes " " ++ (bits_text bits ++ codes "\n")

-- what the latch of a register holds; devices count from 1
abbrev pub latch_line : (device : ℕ) → (name : List ℕ) → (bits : List Bool) → List ℕ
latch_line device name bits = latch_head device ++ (name ++ value_text bits)

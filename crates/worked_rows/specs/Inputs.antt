-- The bytes that the rows send: `shift:` messages in their vectors, as XVC 1.0 has them, and texts.
use Rattle.std.specs.Prelude.{ℕ, ◌+◌, ◌-◌, ◌*◌, nat_lt, List, [], ◌∷◌, ◌++◌, replicate, if◌then◌else◌, codes}
use Rattle.scan_bits.specs.Words.{bytes_of}
use Rattle.xvc_frame.specs.Messages.{encoded_shift, settck_word}

-- the value of a digit of hex
abbrev pub hex_digit : ℕ → ℕ
hex_digit letter = if nat_lt letter 58 then letter - 48 else letter - 87

-- the bytes that a text in hex spells, two digits each
abbrev pub hex : List ℕ → List ℕ
hex (high ∷ low ∷ rest) = (16 * hex_digit high + hex_digit low) ∷ hex rest
hex _ = []

-- Capture-DR, 32 times Shift-DR and back to Run-Test/Idle: after a reset this reads DEVICE_ID
abbrev pub read_id : List ℕ
read_id = encoded_shift 38 (hex (codes "0200000018")) (replicate 5 0)

-- the same for two devices, 64 times Shift-DR
abbrev pub read_two_ids : List ℕ
read_two_ids = encoded_shift 70 (hex (codes "020000000000000018")) (replicate 9 0)

-- loads USER1, scans a byte into USER, updates and returns to Run-Test/Idle
abbrev pub write_user : ℕ → List ℕ
write_user byte = encoded_shift 23 (hex (codes "060730")) (bytes_of 3 (256 + 8192 * byte))

-- loads USER1, captures USER and stays in Shift-DR
abbrev pub hold_user : List ℕ
hold_user = encoded_shift 13 (hex (codes "0607")) (hex (codes "0001"))

-- from Shift-DR: scans a byte, updates and returns to Run-Test/Idle
abbrev pub finish_scan : ℕ → List ℕ
finish_scan byte = encoded_shift 10 (hex (codes "8001")) (byte ∷ 0 ∷ [])

-- from Shift-DR: scans a byte, updates, and captures again by way of Select-DR; it stays in Shift-DR
abbrev pub scan_twice : ℕ → List ℕ
scan_twice byte = encoded_shift 12 (hex (codes "8003")) (byte ∷ 0 ∷ [])

-- from Shift-DR: three bits more, 1 0 1
abbrev pub three_bits : List ℕ
three_bits = encoded_shift 3 (0 ∷ []) (5 ∷ [])

-- loads SAMPLE, scans the boundary register and updates it
abbrev pub sample_pins : List ℕ
sample_pins = encoded_shift 19 (hex (codes "060703")) (hex (codes "20a000"))

-- loads an instruction of both devices, scans their boundary registers and updates them; the vector of TDI says which
abbrev pub scan_both : List ℕ → List ℕ
scan_both tdi = encoded_shift 27 (hex (codes "06700003")) tdi

-- EXTEST in both, and the first device's cell 0 is 1
abbrev pub drive_cell : List ℕ
drive_cell = scan_both (hex (codes "00002000"))

-- SAMPLE in both, and all cells are 0
abbrev pub sample_both : List ℕ
sample_both = scan_both (hex (codes "20020000"))

-- `settck:` with a period
abbrev pub settck : ℕ → List ℕ
settck period = settck_word ++ bytes_of 4 period

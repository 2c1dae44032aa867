-- The letters of the remote_bitbang protocol, as a table by byte (the remote_bitbang manual of OpenOCD).
use Rattle.std.specs.Prelude.{ℕ, true, false, ◌==◌, List, [], ◌∷◌, if◌then◌else◌}
use Rattle.std.specs.declared.option.Option.{Option}
use Rattle.std.specs.declared.option.Option.TheVariants.{None, Some}
use Rattle.bitbang_frame.specs.declared.Letter.{Letter}
use Rattle.bitbang_frame.specs.declared.Letter.TheVariants.{Lines, Read, Quit, Light, Reset}

-- a byte and what it means
pub record Row : Type 0 where
  pub byte : ℕ
  pub letter : Letter

-- a row of the table
abbrev pub row : ℕ → Letter → Row
row byte letter = record { byte = byte; letter = letter }

-- the digits 0 to 7 set TCK, TMS and TDI; R reads TDO; Q quits; B and b are a light; r, s, t and u set TRST and SRST
abbrev pub table : List Row
table =
    row 48 (Lines false false false) ∷ row 49 (Lines false false true) ∷ row 50 (Lines false true false) ∷ row 51 (Lines false true true)
    ∷ row 52 (Lines true false false) ∷ row 53 (Lines true false true) ∷ row 54 (Lines true true false) ∷ row 55 (Lines true true true)
    ∷ row 82 Read ∷ row 81 Quit ∷ row 66 (Light true) ∷ row 98 (Light false)
    ∷ row 114 (Reset false false) ∷ row 115 (Reset false true) ∷ row 116 (Reset true false) ∷ row 117 (Reset true true) ∷ []

-- the letter of a byte in a table
abbrev pub lookup : List Row → ℕ → Option Letter
lookup [] byte = None
lookup (row ∷ rows) byte = if row.byte == byte then Some row.letter else lookup rows byte

-- the letter of a byte; none where the protocol has none
abbrev pub letter : ℕ → Option Letter
letter byte = lookup table byte

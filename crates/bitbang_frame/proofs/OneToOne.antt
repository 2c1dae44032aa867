-- The byte of a letter, and that the table has each once.
use Rattle.std.proofs.Common.{◌≡◌, ℕ, Bool, true, false, cond, List, [], ◌∷◌, refl, ap, sym, ◌∙◌, nat_eq, Some, None}
use Rattle.std.proofs.lemmas.Bool.{eqb-true}
use Rattle.bitbang_frame.specs.declared.Letter.{Letter}
use Rattle.bitbang_frame.specs.declared.Letter.TheVariants.{Lines, Read, Quit, Light, Reset}
use Rattle.bitbang_frame.specs.Letters.{Row, table, lookup, letter}

abbrev code : Letter → ℕ
code (Lines false false false) = 48
code (Lines false false true) = 49
code (Lines false true false) = 50
code (Lines false true true) = 51
code (Lines true false false) = 52
code (Lines true false true) = 53
code (Lines true true false) = 54
code (Lines true true true) = 55
code Read = 82
code Quit = 81
code (Light true) = 66
code (Light false) = 98
code (Reset false false) = 114
code (Reset false true) = 115
code (Reset true false) = 116
code (Reset true true) = 117

pub each_letter : (meant : Letter) → (byte : ℕ) × (letter byte ≡ Some meant)
each_letter (Lines false false false) = (48, refl)
each_letter (Lines false false true) = (49, refl)
each_letter (Lines false true false) = (50, refl)
each_letter (Lines false true true) = (51, refl)
each_letter (Lines true false false) = (52, refl)
each_letter (Lines true false true) = (53, refl)
each_letter (Lines true true false) = (54, refl)
each_letter (Lines true true true) = (55, refl)
each_letter Read = (82, refl)
each_letter Quit = (81, refl)
each_letter (Light true) = (66, refl)
each_letter (Light false) = (98, refl)
each_letter (Reset false false) = (114, refl)
each_letter (Reset false true) = (115, refl)
each_letter (Reset true false) = (116, refl)
each_letter (Reset true true) = (117, refl)

-- each row has the code of its letter
abbrev AreCoded : List Row → Type 0
AreCoded [] = Unit {0}
AreCoded (row ∷ rows) = (code row.letter ≡ row.byte) × AreCoded rows

found : (rows : List Row) (byte : ℕ) (meant : Letter) → AreCoded rows → lookup rows byte ≡ Some meant → code meant ≡ byte
found [] byte meant h e = absurd (let q : None ≡ Some meant = e in cc)
found (row ∷ rows) byte meant h e = go (nat_eq row.byte byte) refl e (found rows byte meant h.1)
  where
    go : (b : Bool) → nat_eq row.byte byte ≡ b → cond b (Some row.letter) (lookup rows byte) ≡ Some meant → (lookup rows byte ≡ Some meant → code meant ≡ byte) → code meant ≡ byte
    go true is k rest =
        let one : Letter = row.letter in
        let same : one ≡ meant = let q : Some one ≡ Some meant = k in cc in
        ap code (sym same) ∙ h.0 ∙ eqb-true row.byte byte is
    go false is k rest = rest k

coded : AreCoded table
coded = (refl, (refl, (refl, (refl, (refl, (refl, (refl, (refl, (refl, (refl, (refl, (refl, (refl, (refl, (refl, (refl, tt))))))))))))))))

pub one_byte : (first second : ℕ) (meant : Letter) → letter first ≡ Some meant → letter second ≡ Some meant → first ≡ second
one_byte first second meant h k = sym (found table first meant coded h) ∙ found table second meant coded k

-- The lines of a text, and the words of a line.
use Rattle.std.specs.Prelude.{ℕ, Bool, true, false, ◌==◌, ◌||◌, List, [], ◌∷◌}
use Rattle.std.specs.List.{slice_split}

-- byte 10 ends a line
abbrev pub ends_line : ℕ → Bool
ends_line byte = byte == 10

-- tabs, byte 13 and spaces separate words
abbrev pub is_blank : ℕ → Bool
is_blank byte = (byte == 9) || (byte == 13) || (byte == 32)

-- the lines of a text, each up to a byte 10 or to the end of the text
abbrev pub lines_of : List ℕ → List (List ℕ)
lines_of text = slice_split ends_line text

-- those that are not empty
abbrev pub not_empty : List (List ℕ) → List (List ℕ)
not_empty [] = []
not_empty ([] ∷ parts) = not_empty parts
not_empty ((byte ∷ bytes) ∷ parts) = (byte ∷ bytes) ∷ not_empty parts

-- the words of a line
abbrev pub words_of : List ℕ → List (List ℕ)
words_of line = not_empty (slice_split is_blank line)

-- a line without words, or whose first word begins with `#`
abbrev pub begins_comment : List ℕ → Bool
begins_comment [] = false
begins_comment (byte ∷ bytes) = byte == 35

abbrev pub is_passed_over : List (List ℕ) → Bool
is_passed_over [] = true
is_passed_over (word ∷ words) = begins_comment word

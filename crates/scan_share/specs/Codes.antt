-- Instruction codes as words.
use Rattle.std.specs.Prelude.{ℕ, ◌<◌, ◌^◌, List, [], ◌∷◌, slice_set}
use Rattle.scan_bits.specs.Words.{number_of}
use Rattle.part_model.specs.Parts.{DeviceType}

-- the word of the code that Test-Logic-Reset loads
abbrev pub reset_word : DeviceType → ℕ
reset_word part = number_of part.reset_code

-- a list, with others put at a group's places
abbrev pub put_at : {X : Type 0} → List ℕ → List X → List X → List X
put_at [] own all = all
put_at (place ∷ group) [] all = all
put_at (place ∷ group) (x ∷ own) all = put_at group own (slice_set all place x)

-- the words are codes of these device types
abbrev pub AreCodes : List DeviceType → List ℕ → Type 0
AreCodes [] [] = Unit {0}
AreCodes (part ∷ parts) (word ∷ words) = (word < 2 ^ part.ir_length) × AreCodes parts words
AreCodes _ _ = ⊥

-- Names with a value each.
use Rattle.std.specs.Prelude.{ℕ, Bool, true, false, ◌+◌, ◌*◌, ◌/◌, ◌%◌, ◌^◌, List, [], ◌∷◌, ◌≡◌, length, slice_index_or, if◌then◌else◌}
use Rattle.std.specs.Borrow.{Bor}
use Rattle.std.specs.BTreeMap.{get_by, BTreeMap}
use Rattle.std.specs.Cmp.Lexicographic.{slice_cmp}
use Rattle.std.specs.Ordering.{nat_cmp, ordering_then}
use Rattle.std.specs.Option.{is_some, option_map, option_or, unwrap_or}
use Rattle.std.specs.declared.option.Option.{Option}
use Rattle.std.specs.declared.option.Option.TheVariants.{None, Some}
use Rattle.part_model.specs.declared.name_index.NameIndex.{NameIndex}
use Rattle.part_model.specs.declared.name_index.Slot.{Slot}
use Rattle.part_model.specs.declared.name_index.Slot.TheVariants.{Empty, One, Two, Several}
use Rattle.part_model.specs.Parts.{NamedRegister, same_name}
use Rattle.part_model.specs.Plans.{AccessEntry, is_listed, length_named, mentioned, place_of_name}

-- the hash of a name, from that of the bytes before it
unfoldable pub hash_from : ℕ → List ℕ → ℕ
hash_from hash [] = hash
hash_from hash (byte ∷ bytes) = hash_from ((hash * 1000003 % 2 ^ 64 + byte) % 2 ^ 64) bytes

-- the slot of a name among so many
abbrev pub place : List ℕ → ℕ → ℕ
place name count = (hash_from 0 name * 11400714819323198485 % 2 ^ 64 / 2 ^ 32) * count % 2 ^ 64 / 2 ^ 32

-- the value of a name among several, where it has one
abbrev pub value_among : {V : Type 0} → BTreeMap (ℕ × Bor (List ℕ)) V → List ℕ → Option V
value_among several name = get_by (λ key. ordering_then (nat_cmp (hash_from 0 name) key.0) (slice_cmp nat_cmp name key.1.now)) several

-- the value of a name in a slot
abbrev pub value_at : {V : Type 0} → Slot V → List ℕ → Option V
value_at Empty name = None
value_at (One kept value) name = if same_name name kept.now then Some value else None
value_at (Two first value second other) name = option_or (if same_name name first.now then Some value else None) (if same_name name second.now then Some other else None)
value_at (Several several) name = value_among several name

-- the value of a name, where it has one
unfoldable pub value_of : {V : Type 0} → NameIndex V → List ℕ → Option V
value_of index name = value_at (slice_index_or index.slots.items (place name (length index.slots.items)) Empty) name

-- a value for a name that stands without one, where it is this name
abbrev pub filled : {V : Type 0} → Bool → V → Option (Option V) → Option (Option V)
filled false value found = found
filled true value None = None
filled true value (Some None) = Some (Some value)
filled true value (Some (Some kept)) = Some (Some kept)

-- the name that is the value of a name, where it has one
abbrev pub told : Option (Option (Bor (List ℕ))) → Option (List ℕ)
told None = None
told (Some None) = None
told (Some (Some name)) = Some name.now

-- these names stand in the index, and no others
pub record Lists {V : Type 0} (names : List (List ℕ)) (index : NameIndex V) : Type 0 where
  pub are : (name : List ℕ) → is_some (value_of index name) ≡ is_listed name names

-- of the instructions that stand in the index, each has as its value the register that one of all accesses names first for it, but for
-- those that the accesses to come name first
pub record Awaits (rest all : List AccessEntry) (index : NameIndex (Option (Bor (List ℕ)))) : Type 0 where
  pub is : (instruction : List ℕ) → is_some (value_of index instruction) ≡ true → option_or (told (value_of index instruction)) (mentioned rest instruction) ≡ mentioned all instruction

-- the register that accesses name first for one of these instructions is its value
pub record Mentions (accesses : List AccessEntry) (instructions : List (List ℕ)) (index : NameIndex (Option (Bor (List ℕ)))) : Type 0 where
  pub is : (instruction : List ℕ) → is_listed instruction instructions ≡ true → told (value_of index instruction) ≡ mentioned accesses instruction

-- the place and the length of each known register are the value of its name
pub record Knows (known : List NamedRegister) (index : NameIndex (ℕ × ℕ)) : Type 0 where
  pub lengths : (name : List ℕ) → option_map (λ found. found.1) (value_of index name) ≡ length_named known name
  pub places : (name : List ℕ) → unwrap_or (option_map (λ found. found.0) (value_of index name)) (length known) ≡ place_of_name known name

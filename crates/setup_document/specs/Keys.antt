-- The keys of a setup file, and the kinds and ranges of their values.
use Rattle.std.specs.Prelude.{◌≡◌, ℕ, suc, pos, Bool, true, false, ◌&&◌, ◌||◌, ◌==◌, nat_lt, List, [], ◌∷◌, length, codes, if◌then◌else◌, Result, Ok, Err}
use Rattle.std.specs.List.{list_all, list_any}
use Rattle.std.specs.Str.{bytes_eq}
use Rattle.std.specs.declared.option.Option.{Option}
use Rattle.std.specs.declared.option.Option.TheVariants.{None, Some}
use Rattle.toml.specs.Data.{Data, integer, string, array, table, Items, no_items, item, Members, no_members, member}
use Rattle.setup_document.specs.declared.plan.Place.{Place}
use Rattle.setup_document.specs.declared.plan.Place.TheVariants as place
use Rattle.setup_document.specs.declared.lists.End.{End}
use Rattle.setup_document.specs.declared.plan.DocumentRefusal.{DocumentRefusal}
use Rattle.setup_document.specs.declared.plan.DocumentRefusal.TheVariants as refusal

-- a cause, and where it stands
pub record DocumentFault : Type 0 where
  pub cause : ℕ
  pub place : Place

abbrev pub refuse : {A : Type 0} → ℕ → Place → Result A DocumentFault
refuse cause place = Err (record { cause = cause; place = place })

-- one after the other, up to the first fault
abbrev pub and_then : {A B : Type 0} → Result A DocumentFault → (A → Result B DocumentFault) → Result B DocumentFault
and_then (Ok x) more = more x
and_then (Err fault) more = Err fault

-- ---- keys

-- the keys of a table that stands there
abbrev pub keys_at : Place → List (List ℕ)
keys_at place.Top = codes "version" ∷ codes "vector" ∷ codes "device" ∷ codes "grant" ∷ codes "net" ∷ []
keys_at (place.Device number) = codes "bsdl" ∷ codes "pins" ∷ []
keys_at (place.Grant number) = codes "devices" ∷ codes "port" ∷ codes "protocol" ∷ []
keys_at (place.Net number) = codes "from" ∷ codes "to" ∷ []

abbrev pub is_known : Place → List ℕ → Bool
is_known place key = list_any (bytes_eq key) (keys_at place)

abbrev pub are_known : Place → Members → Bool
are_known place no_members = true
are_known place (member key value members) = is_known place key && are_known place members

-- cause 3: a table with a key that is not known there
abbrev pub known : Place → Members → Result Members DocumentFault
known place members = if are_known place members then Ok members else refuse 3 place

-- cause 5: a value that is no table
abbrev pub table_in : Place → Data → Result Members DocumentFault
table_in place (table members) = known place members
table_in place _ = refuse 5 place

-- cause 4: no value at a required key
abbrev pub required : Place → Option Data → Result Data DocumentFault
required place None = refuse 4 place
required place (Some value) = Ok value

-- ---- values: cause 5 for another kind, cause 6 for another range

-- an integer of a range
abbrev pub number_in : Place → ℕ → ℕ → Data → Result ℕ DocumentFault
number_in place low high (integer (pos number)) = if nat_lt number low || nat_lt high number then refuse 6 place else Ok number
number_in place low high (integer _) = refuse 6 place
number_in place low high _ = refuse 5 place

-- an array
abbrev pub items_in : Place → Data → Result Items DocumentFault
items_in place (array items) = Ok items
items_in place _ = refuse 5 place

-- a file name has 1 to 255 bytes
abbrev pub file_name : Place → Data → Result (List ℕ) DocumentFault
file_name place (string text) = if (length text == 0) || nat_lt 255 (length text) then refuse 6 place else Ok text
file_name place _ = refuse 5 place

-- a pin is `0` or `1`
abbrev pub is_pin : ℕ → Bool
is_pin byte = (byte == 48) || (byte == 49)

abbrev pub pins : Place → Data → Result (List ℕ) DocumentFault
pins place (string text) = if list_all is_pin text then Ok text else refuse 6 place
pins place _ = refuse 5 place

-- each item is an integer
abbrev pub are_integers : Items → Bool
are_integers no_items = true
are_integers (item (integer number) items) = are_integers items
are_integers (item _ items) = false

-- integers from 0 to 65,535
abbrev pub small_numbers : Place → Items → Result (List ℕ) DocumentFault
small_numbers place no_items = Ok []
small_numbers place (item value items) = and_then (number_in place 0 65535 value) (λ number. and_then (small_numbers place items) (λ numbers. Ok (number ∷ numbers)))

-- an array of such integers; the kinds of all items come before the range of any
abbrev pub numbers : Place → Items → Result (List ℕ) DocumentFault
numbers place items = if are_integers items then small_numbers place items else refuse 5 place

-- two of them
pub record Pair : Type 0 where
  pub device : ℕ
  pub cell : ℕ

abbrev pub pair_of : End → Pair
pair_of end = record { device = end.device; cell = end.cell }

abbrev pub two_numbers : Place → Items → Result Pair DocumentFault
two_numbers place (item device (item cell no_items)) = and_then (number_in place 0 65535 device) (λ device. and_then (number_in place 0 65535 cell) (λ cell. Ok (record { device = device; cell = cell })))
two_numbers place _ = refuse 6 place

-- an array of two such integers; the kinds of all items come before their number and the range of any
abbrev pub pair : Place → Items → Result Pair DocumentFault
pair place items = if are_integers items then two_numbers place items else refuse 5 place

-- the items of an array in turn, numbered from one on
abbrev pub each : {A : Type 0} → (ℕ → Place) → (Place → Data → Result A DocumentFault) → ℕ → Items → Result (List A) DocumentFault
each place read number no_items = Ok []
each place read number (item value items) = and_then (read (place number) value) (λ entry. and_then (each place read (suc number) items) (λ entries. Ok (entry ∷ entries)))

-- ---- what the code answers

-- unless memory runs out
abbrev pub RefusesAs : {A : Type 0} → DocumentRefusal → Result A DocumentFault → Type 0
RefusesAs refusal.Memory read = Unit {0}
RefusesAs (refusal.Refused cause place) read = read ≡ refuse cause place

abbrev pub Reads : {X Y : Type 0} → (X → Y) → Result X DocumentRefusal → Result Y DocumentFault → Type 0
Reads seen (Ok x) read = read ≡ Ok (seen x)
Reads seen (Err refusal) read = RefusesAs refusal read

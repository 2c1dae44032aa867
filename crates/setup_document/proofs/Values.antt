-- Values of the format are read, and what is read has the format.
use Rattle.std.proofs.Common.{◌≡◌, ◌≤◌, ◌⊎◌, inl, inr, ℕ, suc, pos, negsuc, true, false, ◌||◌, ◌==◌, if◌then◌else◌, List, [], ◌∷◌, length, codes, Result, Ok, refl, sym, ap, subst, arith}
use Rattle.std.specs.Prelude.{nat_lt}
use Rattle.std.specs.List.{list_all, list_any}
use Rattle.std.specs.Str.{bytes_eq}
use Rattle.std.specs.declared.option.Option.{Option}
use Rattle.std.specs.declared.option.Option.TheVariants.{None, Some}
use Rattle.std.proofs.lemmas.Bool.{ltb-false, le-ltb, eqb-true, eq-eqb, or_cases, or_parts, or_from, or_left, or_right, ne_eqb, and_parts, and_from}
use Rattle.std.proofs.lemmas.Slice.Eq.{bytes_eq-Decides}
use Rattle.toml.specs.Data.{Data, integer, float, boolean, datetime, string, array, table, Items, no_items, item, Members, no_members, member}
use Rattle.grant_table.specs.declared.Protocol.{Protocol}
use Rattle.grant_table.specs.declared.Protocol.TheVariants.{Xvc, Bitbang}
use Rattle.setup_document.specs.declared.plan.Place.{Place}
use Rattle.setup_document.specs.Keys.{DocumentFault, refuse, and_then, is_known, are_known, keys_at, known, table_in, required, number_in, items_in, file_name, is_pin, pins, are_integers, small_numbers, numbers, Pair, two_numbers, pair, each}
use Rattle.setup_document.specs.Documents.{protocol}
use Rattle.setup_document.specs.Format.{Every, EachSays, IsOneOf, OnlyKeys, IsNumber, IsFileName, ArePins, IsProtocol, IsEnd}
use Rattle.setup_document.proofs.Chains.{Means, chained, changed, tested}

abbrev pub any : DocumentFault → Type 0
any fault = Unit {0}

-- ---- keys

one_of : (key : List ℕ) (keys : List (List ℕ)) → list_any (bytes_eq key) keys ≡ true → IsOneOf key keys
one_of key [] is = absurd (cc is)
one_of key (other ∷ others) is = elim (or_cases (bytes_eq key other) (list_any (bytes_eq key) others) is) [
  | inl same ↦ inl ((bytes_eq-Decides key other).0 same)
  | inr more ↦ inr (one_of key others more)
]

pub any_of : (key : List ℕ) (keys : List (List ℕ)) → IsOneOf key keys → list_any (bytes_eq key) keys ≡ true
any_of key [] is = absurd is
any_of key (other ∷ others) (inl same) = or_left (bytes_eq key other) (list_any (bytes_eq key) others) ((bytes_eq-Decides key other).1 same)
any_of key (other ∷ others) (inr more) = or_right (bytes_eq key other) (list_any (bytes_eq key) others) (any_of key others more)

only_keys : (place : Place) (members : Members) → are_known place members ≡ true → OnlyKeys (keys_at place) members
only_keys place no_members is = tt
only_keys place (member key value members) is =
    let both = and_parts (is_known place key) (are_known place members) is in
    (one_of key (keys_at place) both.0, only_keys place members both.1)

keys_known : (place : Place) (members : Members) → OnlyKeys (keys_at place) members → are_known place members ≡ true
keys_known place no_members is = refl
keys_known place (member key value members) is = and_from (is_known place key) (are_known place members) (any_of key (keys_at place) is.0) (keys_known place members is.1)

pub known_says : (place : Place) (members : Members) → Means (λ found. (found ≡ members) × OnlyKeys (keys_at place) members) any (known place members)
known_says place members = tested _ any (are_known place members) (Ok members) (refuse 3 place) (λ is. (refl, only_keys place members is)) (λ is. tt)

pub known_reads : (place : Place) (members : Members) → OnlyKeys (keys_at place) members → known place members ≡ Ok members
known_reads place members is = rw (keys_known place members is) refl

pub table_says : (place : Place) (value : Data) → Means (λ members. (value ≡ table members) × OnlyKeys (keys_at place) members) any (table_in place value)
table_says place (table members) = changed _ _ any any (known place members) (λ found is. (ap table (sym is.0), subst (OnlyKeys (keys_at place)) (sym is.0) is.1)) (λ fault is. is) (known_says place members)
table_says place (string text) = tt
table_says place (integer number) = tt
table_says place (float number) = tt
table_says place (boolean value) = tt
table_says place (datetime time) = tt
table_says place (array items) = tt

-- a required value
pub required_says : (place : Place) (found : Option Data) → Means (λ value. found ≡ Some value) any (required place found)
required_says place None = tt
required_says place (Some value) = refl

-- ---- numbers and texts

pub number_says : (place : Place) (low high : ℕ) (value : Data) → Means (IsNumber low high value) any (number_in place low high value)
number_says place low high (integer (pos number)) = tested _ any (nat_lt number low || nat_lt high number) (refuse 6 place) (Ok number) (λ is. tt)
    (λ is. let both = or_parts (nat_lt number low) (nat_lt high number) is in
    record { is = refl; no_less = ltb-false number low both.0; no_more = ltb-false high number both.1 })
number_says place low high (integer (negsuc number)) = tt
number_says place low high (string text) = tt
number_says place low high (float number) = tt
number_says place low high (boolean value) = tt
number_says place low high (datetime time) = tt
number_says place low high (array items) = tt
number_says place low high (table _) = tt

pub number_reads : (place : Place) (low high : ℕ) (value : Data) (number : ℕ) → IsNumber low high value number → number_in place low high value ≡ Ok number
number_reads place low high value number n = rw n.is (rw (or_from (nat_lt number low) (nat_lt high number) (le-ltb number low n.no_less) (le-ltb high number n.no_more)) refl)

pub items_says : (place : Place) (value : Data) → Means (λ items. value ≡ array items) any (items_in place value)
items_says place (array items) = refl
items_says place (integer number) = tt
items_says place (string text) = tt
items_says place (float number) = tt
items_says place (boolean value) = tt
items_says place (datetime time) = tt
items_says place (table _) = tt

some_byte : (text : List ℕ) → (length text == 0) ≡ false → 1 ≤ length text
some_byte [] is = absurd (cc is)
some_byte (byte ∷ text) is = omega arith

no_empty : (text : List ℕ) → 1 ≤ length text → (length text == 0) ≡ false
no_empty text some = ne_eqb (length text) 0 (λ is. absurd (omega (arith, is, some)))

pub name_says : (place : Place) (value : Data) → Means (IsFileName value) any (file_name place value)
name_says place (string text) = tested _ any ((length text == 0) || nat_lt 255 (length text)) (refuse 6 place) (Ok text) (λ is. tt)
    (λ is. let both = or_parts (length text == 0) (nat_lt 255 (length text)) is in
    record { is = refl; some_byte = some_byte text both.0; no_more = ltb-false 255 (length text) both.1 })
name_says place (integer number) = tt
name_says place (float number) = tt
name_says place (boolean value) = tt
name_says place (datetime time) = tt
name_says place (array items) = tt
name_says place (table _) = tt

pub name_reads : (place : Place) (value : Data) (name : List ℕ) → IsFileName value name → file_name place value ≡ Ok name
name_reads place value name n = rw n.is (rw (or_from (length name == 0) (nat_lt 255 (length name)) (no_empty name n.some_byte) (le-ltb 255 (length name) n.no_more)) refl)

pins_each : (text : List ℕ) → list_all is_pin text ≡ true → Every (λ byte. (byte ≡ 48) ⊎ (byte ≡ 49)) text
pins_each [] is = tt
pins_each (byte ∷ text) is =
    let both = and_parts (is_pin byte) (list_all is_pin text) is in (
      elim (or_cases (byte == 48) (byte == 49) both.0) [
        | inl low ↦ inl (eqb-true byte 48 low)
        | inr high ↦ inr (eqb-true byte 49 high)
      ],
      pins_each text both.1,
    )

pin_is : (byte : ℕ) → (byte ≡ 48) ⊎ (byte ≡ 49) → is_pin byte ≡ true
pin_is byte (inl low) = or_left (byte == 48) (byte == 49) (eq-eqb byte 48 low)
pin_is byte (inr high) = or_right (byte == 48) (byte == 49) (eq-eqb byte 49 high)

pins_all : (text : List ℕ) → Every (λ byte. (byte ≡ 48) ⊎ (byte ≡ 49)) text → list_all is_pin text ≡ true
pins_all [] each = refl
pins_all (byte ∷ text) each = and_from (is_pin byte) (list_all is_pin text) (pin_is byte each.0) (pins_all text each.1)

pub pins_says : (place : Place) (value : Data) → Means (ArePins value) any (pins place value)
pins_says place (string text) = tested _ any (list_all is_pin text) (Ok text) (refuse 6 place) (λ is. record { is = refl; each = pins_each text is }) (λ is. tt)
pins_says place (integer number) = tt
pins_says place (float number) = tt
pins_says place (boolean value) = tt
pins_says place (datetime time) = tt
pins_says place (array items) = tt
pins_says place (table _) = tt

pub pins_reads : (place : Place) (value : Data) (text : List ℕ) → ArePins value text → pins place value ≡ Ok text
pins_reads place value text p = rw p.is (rw (pins_all text p.each) refl)

pub protocol_says : (place : Place) (value : Data) → Means (IsProtocol value) any (protocol place value)
protocol_says place (string text) = tested _ any (bytes_eq text (codes "xvc")) (Ok Xvc) (if bytes_eq text (codes "bitbang") then Ok Bitbang else refuse 6 place)
    (λ is. ap string ((bytes_eq-Decides text (codes "xvc")).0 is))
    (λ is. tested _ any (bytes_eq text (codes "bitbang")) (Ok Bitbang) (refuse 6 place) (λ is. ap string ((bytes_eq-Decides text (codes "bitbang")).0 is)) (λ is. tt))
protocol_says place (integer number) = tt
protocol_says place (float number) = tt
protocol_says place (boolean value) = tt
protocol_says place (datetime time) = tt
protocol_says place (array items) = tt
protocol_says place (table _) = tt

pub protocol_reads : (place : Place) (value : Data) (p : Protocol) → IsProtocol value p → protocol place value ≡ Ok p
protocol_reads place value Xvc is = rw is refl
protocol_reads place value Bitbang is = rw is refl

-- ---- arrays

small_says : (place : Place) (items : Items) → Means (EachSays (IsNumber 0 65535) items) any (small_numbers place items)
small_says place no_items = tt
small_says place (item value items) =
    chained (IsNumber 0 65535 value) (EachSays (IsNumber 0 65535) (item value items)) any (number_in place 0 65535 value) (λ number. and_then (small_numbers place items) (λ numbers. Ok (number ∷ numbers)))
    (number_says place 0 65535 value) (λ number one.
    chained (EachSays (IsNumber 0 65535) items) (EachSays (IsNumber 0 65535) (item value items)) any (small_numbers place items) (λ numbers. Ok (number ∷ numbers))
    (small_says place items) (λ numbers more. (one, more)))

integers : (items : Items) (numbers : List ℕ) → EachSays (IsNumber 0 65535) items numbers → are_integers items ≡ true
integers no_items numbers each = refl
integers (item value items) [] each = absurd each
integers (item value items) (number ∷ numbers) each = rw each.0.is (integers items numbers each.1)

small_reads : (place : Place) (items : Items) (numbers : List ℕ) → EachSays (IsNumber 0 65535) items numbers → small_numbers place items ≡ Ok numbers
small_reads place no_items [] each = refl
small_reads place no_items (number ∷ numbers) each = absurd each
small_reads place (item value items) [] each = absurd each
small_reads place (item value items) (number ∷ numbers) each = rw (number_reads place 0 65535 value number each.0) (rw (small_reads place items numbers each.1) refl)

pub numbers_says : (place : Place) (items : Items) → Means (EachSays (IsNumber 0 65535) items) any (numbers place items)
numbers_says place items = tested _ any (are_integers items) (small_numbers place items) (refuse 5 place) (λ is. small_says place items) (λ is. tt)

pub numbers_reads : (place : Place) (items : Items) (found : List ℕ) → EachSays (IsNumber 0 65535) items found → numbers place items ≡ Ok found
numbers_reads place items found each = rw (integers items found each) (small_reads place items found each)

-- a device and a cell
abbrev SaysPair : Items → Pair → Type 0
SaysPair items p = IsEnd (array items) p.device p.cell

two_says : (place : Place) (items : Items) → Means (SaysPair items) any (two_numbers place items)
two_says place no_items = tt
two_says place (item one no_items) = tt
two_says place (item one (item two (item three items))) = tt
two_says place (item one (item two no_items)) =
    chained (IsNumber 0 65535 one) (SaysPair (item one (item two no_items))) any (number_in place 0 65535 one) (λ device. and_then (number_in place 0 65535 two) (λ cell. Ok (record { device = device; cell = cell })))
    (number_says place 0 65535 one) (λ device first.
    chained (IsNumber 0 65535 two) (SaysPair (item one (item two no_items))) any (number_in place 0 65535 two) (λ cell. Ok (record { device = device; cell = cell }))
    (number_says place 0 65535 two) (λ cell second.
    record { is = (λ i. array (item (first.is i) (item (second.is i) no_items))); device_no_more = first.no_more; cell_no_more = second.no_more }))

pub pair_says : (place : Place) (items : Items) → Means (SaysPair items) any (pair place items)
pair_says place items = tested _ any (are_integers items) (two_numbers place items) (refuse 5 place) (λ is. two_says place items) (λ is. tt)

small : (place : Place) (number : ℕ) → number ≤ 65535 → number_in place 0 65535 (integer (pos number)) ≡ Ok number
small place number le = number_reads place 0 65535 (integer (pos number)) number (record { is = refl; no_less = omega arith; no_more = le })

pub pair_reads : (place : Place) (device cell : ℕ) → device ≤ 65535 → cell ≤ 65535
    → pair place (item (integer (pos device)) (item (integer (pos cell)) no_items)) ≡ Ok (record { device = device; cell = cell })
pair_reads place device cell one two = rw (small place device one) (rw (small place cell two) refl)

-- each item in turn
pub each_says : {A : Type 0} (at : ℕ → Place) (read : Place → Data → Result A DocumentFault) (says : Data → A → Type 0)
    → ((number : ℕ) (value : Data) → Means (says value) any (read (at number) value)) → (number : ℕ) (items : Items) → Means (EachSays says items) any (each at read number items)
each_says at read says one number no_items = tt
each_says at read says one number (item value items) =
    chained (says value) (EachSays says (item value items)) any (read (at number) value) (λ entry. and_then (each at read (suc number) items) (λ entries. Ok (entry ∷ entries)))
    (one number value) (λ entry first.
    chained (EachSays says items) (EachSays says (item value items)) any (each at read (suc number) items) (λ entries. Ok (entry ∷ entries))
    (each_says at read says one (suc number) items) (λ entries more. (first, more)))

pub each_reads : {A : Type 0} (at : ℕ → Place) (read : Place → Data → Result A DocumentFault) (says : Data → A → Type 0)
    → ((number : ℕ) (value : Data) (entry : A) → says value entry → read (at number) value ≡ Ok entry) → (number : ℕ) (items : Items) (entries : List A) → EachSays says items entries → each at read number items ≡ Ok entries
each_reads at read says one number no_items [] is = refl
each_reads at read says one number no_items (entry ∷ entries) is = absurd is
each_reads at read says one number (item value items) [] is = absurd is
each_reads at read says one number (item value items) (entry ∷ entries) is = rw (one number value entry is.0) (rw (each_reads at read says one (suc number) items entries is.1) refl)

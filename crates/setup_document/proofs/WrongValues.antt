-- What is wrong with a value that is refused.
use Rattle.std.proofs.Common.{◌≡◌, ◌⊎◌, inl, inr, ℕ, pos, negsuc, ℤ, true, false, ◌||◌, ◌==◌, if◌then◌else◌, ◌∷◌, length, codes, Result, Ok, Err, refl, ◌∙◌}
use Rattle.std.specs.Prelude.{nat_lt}
use Rattle.std.specs.List.{list_all}
use Rattle.std.specs.Str.{bytes_eq}
use Rattle.toml.specs.Data.{Data, integer, float, boolean, datetime, string, array, table, Items, no_items, item}
use Rattle.grant_table.specs.declared.Protocol.TheVariants.{Xvc, Bitbang}
use Rattle.setup_document.specs.declared.plan.Place.{Place}
use Rattle.setup_document.specs.Keys.{DocumentFault, refuse, and_then, number_in, items_in, file_name, is_pin, pins, are_integers, small_numbers, numbers, two_numbers, pair}
use Rattle.setup_document.specs.Documents.{protocol}
use Rattle.setup_document.specs.Refusals.{Form, has_kind, HasForm, IsOutOfRange}
use Rattle.setup_document.proofs.Chains.{Means, chained, changed, tested}
use Rattle.setup_document.proofs.Values.{number_reads, name_reads, pins_reads, protocol_reads, numbers_reads, pair_reads}
use Rattle.setup_document.proofs.Formats.{behind}

-- every value will do
abbrev pub fine : {A : Type 0} → A → Type 0
fine x = Unit {0}

-- the fault stands there, and its cause is 5 for another kind and 6 otherwise
abbrev Told : Form → Place → Data → DocumentFault → Type 0
Told form place value fault = (fault.place ≡ place) × (((fault.cause ≡ 5) × (has_kind form value ≡ false)) ⊎ ((fault.cause ≡ 6) × (has_kind form value ≡ true)))

abbrev pub Wrong : Form → Place → Data → DocumentFault → Type 0
Wrong form place value fault = (fault.place ≡ place) × (((fault.cause ≡ 5) × (has_kind form value ≡ false)) ⊎ ((fault.cause ≡ 6) × IsOutOfRange form value))

-- what is refused has not the form, as all of the form is read
sharp : {A : Type 0} (form : Form) (place : Place) (value : Data) (r : Result A DocumentFault) → (HasForm form value → (x : A) × (r ≡ Ok x)) → Means fine (Told form place value) r → Means fine (Wrong form place value) r
sharp form place value (Ok x) reads told = tt
sharp form place value (Err fault) reads told = (
  told.0,
  elim told.1 [
    | inl other ↦ inl other
    | inr out ↦ inr (out.0, record { kind = out.1; out = λ has. absurd (cc (reads has).1) })
  ],
)

abbrev Six : Place → DocumentFault → Type 0
Six place fault = (fault.place ≡ place) × (fault.cause ≡ 6)

integer_told : (place : Place) (low high : ℕ) (number : ℤ) → Means fine (Six place) (number_in place low high (integer number))
integer_told place low high (pos number) = tested fine (Six place) (nat_lt number low || nat_lt high number) (refuse 6 place) (Ok number) (λ is. (refl, refl)) (λ is. tt)
integer_told place low high (negsuc number) = (refl, refl)

number_told : (place : Place) (low high : ℕ) (value : Data) → Means fine (Told (Form.Number low high) place value) (number_in place low high value)
number_told place low high (integer number) = changed fine fine (Six place) (Told (Form.Number low high) place (integer number)) (number_in place low high (integer number)) (λ x is. tt) (λ fault six. (six.0, inr (six.1, refl))) (integer_told place low high number)
number_told place low high (string text) = (refl, inl (refl, refl))
number_told place low high (float number) = (refl, inl (refl, refl))
number_told place low high (boolean value) = (refl, inl (refl, refl))
number_told place low high (datetime time) = (refl, inl (refl, refl))
number_told place low high (array items) = (refl, inl (refl, refl))
number_told place low high (table _) = (refl, inl (refl, refl))

pub number_wrong : (place : Place) (low high : ℕ) (value : Data) → Means fine (Wrong (Form.Number low high) place value) (number_in place low high value)
number_wrong place low high value = sharp (Form.Number low high) place value (number_in place low high value) (λ has. (has.0, number_reads place low high value has.0 has.1)) (number_told place low high value)

name_told : (place : Place) (value : Data) → Means fine (Told Form.FileName place value) (file_name place value)
name_told place (string text) = tested fine (Told Form.FileName place (string text)) ((length text == 0) || nat_lt 255 (length text)) (refuse 6 place) (Ok text) (λ is. (refl, inr (refl, refl))) (λ is. tt)
name_told place (integer number) = (refl, inl (refl, refl))
name_told place (float number) = (refl, inl (refl, refl))
name_told place (boolean value) = (refl, inl (refl, refl))
name_told place (datetime time) = (refl, inl (refl, refl))
name_told place (array items) = (refl, inl (refl, refl))
name_told place (table _) = (refl, inl (refl, refl))

pub name_wrong : (place : Place) (value : Data) → Means fine (Wrong Form.FileName place value) (file_name place value)
name_wrong place value = sharp Form.FileName place value (file_name place value) (λ has. (has.0, name_reads place value has.0 has.1)) (name_told place value)

pins_told : (place : Place) (value : Data) → Means fine (Told Form.Pins place value) (pins place value)
pins_told place (string text) = tested fine (Told Form.Pins place (string text)) (list_all is_pin text) (Ok text) (refuse 6 place) (λ is. tt) (λ is. (refl, inr (refl, refl)))
pins_told place (integer number) = (refl, inl (refl, refl))
pins_told place (float number) = (refl, inl (refl, refl))
pins_told place (boolean value) = (refl, inl (refl, refl))
pins_told place (datetime time) = (refl, inl (refl, refl))
pins_told place (array items) = (refl, inl (refl, refl))
pins_told place (table _) = (refl, inl (refl, refl))

pub pins_wrong : (place : Place) (value : Data) → Means fine (Wrong Form.Pins place value) (pins place value)
pins_wrong place value = sharp Form.Pins place value (pins place value) (λ has. (has.0, pins_reads place value has.0 has.1)) (pins_told place value)

protocol_told : (place : Place) (value : Data) → Means fine (Told Form.ProtocolName place value) (protocol place value)
protocol_told place (string text) = tested fine (Told Form.ProtocolName place (string text)) (bytes_eq text (codes "xvc")) (Ok Xvc) (if bytes_eq text (codes "bitbang") then Ok Bitbang else refuse 6 place) (λ is. tt)
    (λ is. tested fine (Told Form.ProtocolName place (string text)) (bytes_eq text (codes "bitbang")) (Ok Bitbang) (refuse 6 place) (λ is. tt) (λ is. (refl, inr (refl, refl))))
protocol_told place (integer number) = (refl, inl (refl, refl))
protocol_told place (float number) = (refl, inl (refl, refl))
protocol_told place (boolean value) = (refl, inl (refl, refl))
protocol_told place (datetime time) = (refl, inl (refl, refl))
protocol_told place (array items) = (refl, inl (refl, refl))
protocol_told place (table _) = (refl, inl (refl, refl))

pub protocol_wrong : (place : Place) (value : Data) → Means fine (Wrong Form.ProtocolName place value) (protocol place value)
protocol_wrong place value = sharp Form.ProtocolName place value (protocol place value) (λ has. (has.0, protocol_reads place value has.0 has.1)) (protocol_told place value)

-- ---- arrays

small_told : (place : Place) (items : Items) → are_integers items ≡ true → Means fine (Six place) (small_numbers place items)
small_told place no_items is = tt
small_told place (item (integer number) items) is =
    chained fine fine (Six place) (number_in place 0 65535 (integer number)) (λ n. and_then (small_numbers place items) (λ ns. Ok (n ∷ ns))) (integer_told place 0 65535 number) (λ n _.
    chained fine fine (Six place) (small_numbers place items) (λ ns. Ok (n ∷ ns)) (small_told place items is) (λ ns _. tt))
small_told place (item (string text) items) is = absurd (cc is)
small_told place (item (float number) items) is = absurd (cc is)
small_told place (item (boolean value) items) is = absurd (cc is)
small_told place (item (datetime time) items) is = absurd (cc is)
small_told place (item (array more) items) is = absurd (cc is)
small_told place (item (table _) items) is = absurd (cc is)

two_told : (place : Place) (items : Items) → are_integers items ≡ true → Means fine (Six place) (two_numbers place items)
two_told place no_items is = (refl, refl)
two_told place (item one no_items) is = (refl, refl)
two_told place (item one (item two (item three items))) is = (refl, refl)
two_told place (item (integer one) (item (integer two) no_items)) is =
    chained fine fine (Six place) (number_in place 0 65535 (integer one)) (λ device. and_then (number_in place 0 65535 (integer two)) (λ cell. Ok (record { device = device; cell = cell }))) (integer_told place 0 65535 one) (λ device _.
    chained fine fine (Six place) (number_in place 0 65535 (integer two)) (λ cell. Ok (record { device = device; cell = cell })) (integer_told place 0 65535 two) (λ cell _. tt))
two_told place (item (integer one) (item (string text) no_items)) is = absurd (cc is)
two_told place (item (integer one) (item (float number) no_items)) is = absurd (cc is)
two_told place (item (integer one) (item (boolean value) no_items)) is = absurd (cc is)
two_told place (item (integer one) (item (datetime time) no_items)) is = absurd (cc is)
two_told place (item (integer one) (item (array more) no_items)) is = absurd (cc is)
two_told place (item (integer one) (item (table _) no_items)) is = absurd (cc is)
two_told place (item (string text) (item two no_items)) is = absurd (cc is)
two_told place (item (float number) (item two no_items)) is = absurd (cc is)
two_told place (item (boolean value) (item two no_items)) is = absurd (cc is)
two_told place (item (datetime time) (item two no_items)) is = absurd (cc is)
two_told place (item (array more) (item two no_items)) is = absurd (cc is)
two_told place (item (table _) (item two no_items)) is = absurd (cc is)

-- an array of integers, which is then read further
array_told : {A : Type 0} (form : Form) (place : Place) (items : Items) (read : Result A DocumentFault) → has_kind form (array items) ≡ are_integers items
    → (are_integers items ≡ true → Means fine (Six place) read) → Means fine (Told form place (array items)) (if are_integers items then read else refuse 5 place)
array_told form place items read kind told = tested fine (Told form place (array items)) (are_integers items) read (refuse 5 place)
    (λ is. changed fine fine (Six place) (Told form place (array items)) read (λ x is. tt) (λ fault six. (six.0, inr (six.1, kind ∙ is))) (told is))
    (λ is. (refl, inl (refl, kind ∙ is)))

numbers_told : (place : Place) (value : Data) → Means fine (Told Form.Numbers place value) (behind (items_in place) (numbers place) value)
numbers_told place (array items) = array_told Form.Numbers place items (small_numbers place items) refl (small_told place items)
numbers_told place (integer number) = (refl, inl (refl, refl))
numbers_told place (string text) = (refl, inl (refl, refl))
numbers_told place (float number) = (refl, inl (refl, refl))
numbers_told place (boolean value) = (refl, inl (refl, refl))
numbers_told place (datetime time) = (refl, inl (refl, refl))
numbers_told place (table _) = (refl, inl (refl, refl))

pub numbers_wrong : (place : Place) (value : Data) → Means fine (Wrong Form.Numbers place value) (behind (items_in place) (numbers place) value)
numbers_wrong place value = sharp Form.Numbers place value (behind (items_in place) (numbers place) value) (λ has. (has.0, rw has.1.is (numbers_reads place has.1.items has.0 has.1.each))) (numbers_told place value)

end_told : (place : Place) (value : Data) → Means fine (Told Form.End place value) (behind (items_in place) (pair place) value)
end_told place (array items) = array_told Form.End place items (two_numbers place items) refl (two_told place items)
end_told place (integer number) = (refl, inl (refl, refl))
end_told place (string text) = (refl, inl (refl, refl))
end_told place (float number) = (refl, inl (refl, refl))
end_told place (boolean value) = (refl, inl (refl, refl))
end_told place (datetime time) = (refl, inl (refl, refl))
end_told place (table _) = (refl, inl (refl, refl))

pub end_wrong : (place : Place) (value : Data) → Means fine (Wrong Form.End place value) (behind (items_in place) (pair place) value)
end_wrong place value = sharp Form.End place value (behind (items_in place) (pair place) value) (λ has. (record { device = has.0; cell = has.1 }, rw has.2.is (pair_reads place has.0 has.1 has.2.device_no_more has.2.cell_no_more))) (end_told place value)

pub entries_wrong : (place : Place) (value : Data) → Means fine (Wrong Form.Entries place value) (items_in place value)
entries_wrong place (array items) = tt
entries_wrong place (integer number) = (refl, inl (refl, refl))
entries_wrong place (string text) = (refl, inl (refl, refl))
entries_wrong place (float number) = (refl, inl (refl, refl))
entries_wrong place (boolean value) = (refl, inl (refl, refl))
entries_wrong place (datetime time) = (refl, inl (refl, refl))
entries_wrong place (table _) = (refl, inl (refl, refl))

-- Indexes of names, one name on.
use Rattle.std.proofs.Common.{◌≡◌, ◌<◌, length, length-append, map, drop, replicate, ℕ, zero, suc, ◌+◌, ◌∷◌, unwrap_or, arith, Bool, true, false, cond, inl, inr, List, if◌then◌else◌, refl, sym, ap, subst, ◌∙◌, ◌&&◌, ◌||◌, ◌++◌, []}
use Rattle.std.specs.Borrow.{Bor}
use Rattle.std.specs.Prelude.{slice_index_or, slice_set}
use Rattle.std.specs.BTreeMap.{get_by, BTreeMap}
use Rattle.std.specs.Cmp.{tied_then, nat_cmp_is}
use Rattle.std.specs.Cmp.Lexicographic.{slice_cmp}
use Rattle.std.specs.Ordering.{is_eq, nat_cmp, ordering_then}
use Rattle.std.specs.declared.cmp.Ordering.{Ordering}
use Rattle.std.specs.declared.cmp.Ordering.TheVariants.{Equal}
use Rattle.std.proofs.lemmas.Bool.{cases_eq, and_from, or_left, or_right, cases_Bool}
use Rattle.std.proofs.lemmas.Map.Text.{is_eq-slice_cmp}
use Rattle.std.specs.declared.option.Option.{Option}
use Rattle.std.specs.declared.option.Option.TheVariants.{None, Some}
use Rattle.std.specs.Option.{option_map, option_or, is_some}
use Rattle.std.proofs.lemmas.List.{map-append}
use Rattle.std.proofs.lemmas.Cmp.{nat_list_eq_equiv}
use Rattle.part_model.specs.declared.registers.DataRegister.{DataRegister}
use Rattle.part_model.specs.declared.name_index.NameIndex.{NameIndex}
use Rattle.part_model.specs.declared.name_index.Slot.{Slot}
use Rattle.part_model.specs.declared.name_index.Slot.TheVariants.{Empty}
use Rattle.std.proofs.lemmas.List.{length-set, get_or-set_other, get_or_default}
use Rattle.std.proofs.lemmas.Grind.{get_or-set_at}
use Rattle.part_model.specs.NameIndexes.{hash_from, place, value_among, value_at, value_of, filled, told, Lists, Awaits, Mentions, Knows}
use Rattle.part_model.specs.Parts.{NamedRegister, named_of, same_name}
use Rattle.part_model.specs.Plans.{AccessEntry, OpcodeEntry, is_listed, names_known, length_named, place_of_name}
use Rattle.part_model.proofs.PlaceLaws.{equal_bytes, same_is, same_self, length-named_of}

pub swapped : (xs ys : List ℕ) → same_name xs ys ≡ same_name ys xs
swapped xs ys = sym (equal_bytes xs ys) ∙ nat_list_eq_equiv.symm xs ys ∙ equal_bytes ys xs

-- the value where the test passes
abbrev pub value_if : {V : Type 0} → Bool → V → Option V
value_if test value = if test then Some value else None

-- ---- a name and its hash

and_false : (test : Bool) → (test && false) ≡ false
and_false true = refl
and_false false = refl

own_key : (name : List ℕ) → is_eq (ordering_then (nat_cmp (hash_from 0 name) (hash_from 0 name)) (slice_cmp nat_cmp name name)) ≡ true
own_key name = sym (tied_then (nat_cmp (hash_from 0 name) (hash_from 0 name)) (slice_cmp nat_cmp name name))
    ∙ and_from (is_eq (nat_cmp (hash_from 0 name) (hash_from 0 name))) (is_eq (slice_cmp nat_cmp name name)) (ap is_eq (sym (nat_cmp_is (hash_from 0 name) (hash_from 0 name) Equal refl))) (is_eq-slice_cmp name name ∙ equal_bytes name name ∙ same_self name)

-- two names are the same key where they are equal
same_key : (name other : List ℕ) → is_eq (ordering_then (nat_cmp (hash_from 0 name) (hash_from 0 other)) (slice_cmp nat_cmp name other)) ≡ same_name other name
same_key name other = elim (cases_Bool (same_name other name)) [
  | inl same ↦ subst (λ (found : List ℕ). is_eq (ordering_then (nat_cmp (hash_from 0 name) (hash_from 0 found)) (slice_cmp nat_cmp name found)) ≡ true) (sym (same_is other name same)) (own_key name) ∙ sym same
  | inr apart ↦ sym (tied_then (nat_cmp (hash_from 0 name) (hash_from 0 other)) (slice_cmp nat_cmp name other))
      ∙ ap (λ test. is_eq (nat_cmp (hash_from 0 name) (hash_from 0 other)) && test) (is_eq-slice_cmp name other ∙ equal_bytes name other ∙ swapped name other ∙ apart)
      ∙ and_false (is_eq (nat_cmp (hash_from 0 name) (hash_from 0 other)))
      ∙ sym apart
]

-- the order of the keys of an index
abbrev pub key_order : ℕ × Bor (List ℕ) → ℕ × Bor (List ℕ) → Ordering
key_order left right = ordering_then (nat_cmp left.0 right.0) (slice_cmp nat_cmp left.1.now right.1.now)

-- another value, or none, for one name of several
pub one_changed : {V : Type 0} (old new : BTreeMap (ℕ × Bor (List ℕ)) V) (name : Bor (List ℕ)) (hash : ℕ) (value : Option V) → hash ≡ hash_from 0 name.now
    → ((key : ℕ × Bor (List ℕ)) → get_by (key_order key) new ≡ cond (is_eq (key_order (hash, name) key)) value (get_by (key_order key) old))
    → (other : List ℕ) → value_among new other ≡ (if same_name other name.now then value else value_among old other)
one_changed old new name hash value is changed other = changed (hash_from 0 other, record { ref_ptr = (0, 0); now = other })
    ∙ ap (λ own. cond (is_eq (ordering_then (nat_cmp own (hash_from 0 other)) (slice_cmp nat_cmp name.now other))) value (value_among old other)) is
    ∙ ap (λ test. cond test value (value_among old other)) (same_key name.now other)

-- the value of the name itself
pub own_value : {V : Type 0} (several : BTreeMap (ℕ × Bor (List ℕ)) V) (name : Bor (List ℕ)) (hash : ℕ) → hash ≡ hash_from 0 name.now
    → (other : List ℕ) → same_name other name.now ≡ true → get_by (key_order (hash, name)) several ≡ value_among several other
own_value several name hash is other same = ap (λ own. get_by (λ key. ordering_then (nat_cmp own key.0) (slice_cmp nat_cmp name.now key.1.now)) several) is
    ∙ ap (λ found. value_among several found) (sym (same_is other name.now same))

-- ---- one slot

pub no_more : {V : Type 0} (old : Option V) → option_or old None ≡ old
no_more None = refl
no_more (Some value) = refl

more_or : {V : Type 0} (old more : Option V) → is_some old ≡ true → old ≡ option_or old more
more_or None more some = absurd (cc some)
more_or (Some value) more some = refl

-- the name has a value
pub known_stays : {V : Type 0} (old : List ℕ → Option V) (name other : List ℕ) (value : V) → is_some (old name) ≡ true → old other ≡ option_or (old other) (value_if (same_name other name) value)
known_stays old name other value some = elim (cases_Bool (same_name other name)) [
  | inl same ↦ more_or (old other) (value_if (same_name other name) value) (ap (λ (found : List ℕ). is_some (old found)) (same_is other name same) ∙ some)
  | inr apart ↦ sym (no_more (old other)) ∙ ap (λ test. option_or (old other) (value_if test value)) (sym apart)
]

pub one_there : {V : Type 0} (test : Bool) (value : V) → test ≡ true → is_some (value_if test value) ≡ true
one_there true value is = refl
one_there false value is = absurd (cc is)

pub first_there : {V : Type 0} (first second : Bool) (value other : V) → first ≡ true → is_some (option_or (value_if first value) (value_if second other)) ≡ true
first_there true second value other is = refl
first_there false second value other is = absurd (cc is)

pub second_there : {V : Type 0} (first second : Bool) (value other : V) → second ≡ true → is_some (option_or (value_if first value) (value_if second other)) ≡ true
second_there true second value other is = refl
second_there false true value other is = refl
second_there false false value other is = absurd (cc is)

set_case : {V : Type 0} (test : Bool) (old : Option V) (value : V) → value_if test (option_or old (Some value)) ≡ filled test value (value_if test old)
set_case true None value = refl
set_case true (Some kept) value = refl
set_case false old value = refl

-- a value where one name stands
one_set : {V : Type 0} (kept name other : List ℕ) (old : Option V) (value : V) → same_name name kept ≡ true → value_if (same_name other kept) (option_or old (Some value)) ≡ filled (same_name other name) value (value_if (same_name other kept) old)
one_set kept name other old value same = set_case (same_name other kept) old value
    ∙ ap (λ found. filled (same_name other found) value (value_if (same_name other kept) old)) (sym (same_is name kept same))

first_case : {V : Type 0} (test : Bool) (old : Option V) (more : Option (Option V)) (value : V) → option_or (value_if test (option_or old (Some value))) more ≡ filled test value (option_or (value_if test old) more)
first_case true None more value = refl
first_case true (Some kept) more value = refl
first_case false old more value = refl

-- a value for the first of two names
pub first_set : {V : Type 0} (first second name other : List ℕ) (old more : Option V) (value : V) → same_name name first ≡ true
    → option_or (value_if (same_name other first) (option_or old (Some value))) (value_if (same_name other second) more) ≡ filled (same_name other name) value (option_or (value_if (same_name other first) old) (value_if (same_name other second) more))
first_set first second name other old more value same = first_case (same_name other first) old (value_if (same_name other second) more) value
    ∙ ap (λ found. filled (same_name other found) value (option_or (value_if (same_name other first) old) (value_if (same_name other second) more))) (sym (same_is name first same))

second_case : {V : Type 0} (first second : Bool) (front old : Option V) (value : V) → (second ≡ true → first ≡ false) → option_or (value_if first front) (value_if second (option_or old (Some value))) ≡ filled second value (option_or (value_if first front) (value_if second old))
second_case true true front old value apart = absurd (cc (apart refl))
second_case false true front None value apart = refl
second_case false true front (Some kept) value apart = refl
second_case first false front old value apart = refl

-- a value for the second of two names
second_set : {V : Type 0} (first second name other : List ℕ) (front old : Option V) (value : V) → same_name name first ≡ false → same_name name second ≡ true
    → option_or (value_if (same_name other first) front) (value_if (same_name other second) (option_or old (Some value))) ≡ filled (same_name other name) value (option_or (value_if (same_name other first) front) (value_if (same_name other second) old))
second_set first second name other front old value apart same =
    let is : name ≡ second = same_is name second same in
    second_case (same_name other first) (same_name other second) front old value (λ equal. ap (λ found. same_name found first) (same_is other second equal ∙ sym is) ∙ apart)
    ∙ ap (λ found. filled (same_name other found) value (option_or (value_if (same_name other first) front) (value_if (same_name other second) old))) (sym is)

fill_case : {V : Type 0} (test : Bool) (old : Option (Option V)) (value : V) → (test ≡ true → old ≡ filled true value old) → old ≡ filled test value old
fill_case true old value same = same refl
fill_case false old value same = refl

-- the name does not stand there
pub none_filled : {V : Type 0} (old : List ℕ → Option (Option V)) (name other : List ℕ) (value : V) → old name ≡ None → old other ≡ filled (same_name other name) value (old other)
none_filled old name other value none = fill_case (same_name other name) (old other) value (λ same.
    let is : old other ≡ None = ap old (same_is other name same) ∙ none in
    is ∙ ap (filled true value) (sym is))

not_one : {V : Type 0} (test : Bool) (value : V) → test ≡ false → value_if test value ≡ None
not_one true value apart = absurd (cc apart)
not_one false value apart = refl

neither : {V : Type 0} (first second : Bool) (value other : V) → first ≡ false → second ≡ false → option_or (value_if first value) (value_if second other) ≡ None
neither true second value other apart away = absurd (cc apart)
neither false second value other apart away = not_one second other away

-- a value where one name stands, if it is this name
pub one_if : {V : Type 0} (kept name other : List ℕ) (old : Option V) (value : V) (test : Bool) → test ≡ same_name name kept
    → value_if (same_name other kept) (if test then option_or old (Some value) else old) ≡ filled (same_name other name) value (value_if (same_name other kept) old)
one_if kept name other old value true is = one_set kept name other old value (sym is)
one_if kept name other old value false is = none_filled (λ found. value_if (same_name found kept) old) name other value (not_one (same_name name kept) old (sym is))

-- a value for the second of two names, if it is this name
pub second_if : {V : Type 0} (first second name other : List ℕ) (front old : Option V) (value : V) (test : Bool) → same_name name first ≡ false → test ≡ same_name name second
    → option_or (value_if (same_name other first) front) (value_if (same_name other second) (if test then option_or old (Some value) else old)) ≡ filled (same_name other name) value (option_or (value_if (same_name other first) front) (value_if (same_name other second) old))
second_if first second name other front old value true apart is = second_set first second name other front old value apart (sym is)
second_if first second name other front old value false apart is = none_filled (λ found. option_or (value_if (same_name found first) front) (value_if (same_name found second) old)) name other value
    (neither (same_name name first) (same_name name second) front old apart (sym is))

-- the name has a value
pub kept_filled : {V : Type 0} (old : List ℕ → Option (Option V)) (name other : List ℕ) (value kept : V) → old name ≡ Some (Some kept) → old other ≡ filled (same_name other name) value (old other)
kept_filled old name other value kept some = fill_case (same_name other name) (old other) value (λ same.
    let is : old other ≡ Some (Some kept) = ap old (same_is other name same) ∙ some in
    is ∙ ap (filled true value) (sym is))

filled_case : {V : Type 0} (test : Bool) (old new : Option (Option V)) (value : V) → (test ≡ true → old ≡ Some None) → new ≡ (if test then Some (Some value) else old) → new ≡ filled test value old
filled_case true old new value awaits is = is ∙ ap (filled true value) (sym (awaits refl))
filled_case false old new value awaits is = is

-- the name stands without a value
pub one_filled : {V : Type 0} (old : List ℕ → Option (Option V)) (new : Option (Option V)) (name other : List ℕ) (value : V) → old name ≡ Some None → new ≡ (if same_name other name then Some (Some value) else old other) → new ≡ filled (same_name other name) value (old other)
one_filled old new name other value awaits is = filled_case (same_name other name) (old other) new value (λ same. ap old (same_is other name same) ∙ awaits) is

-- ---- one slot of all

other_test : (test : Bool) {V : Type 0} (f : Bool → Option V → Option V) (old : Option V) → ((value : Option V) → f false value ≡ value) → test ≡ false → old ≡ f test old
other_test true f old stays is = absurd (cc is)
other_test false f old stays is = sym (stays old)

-- an empty slot at each place
pub all_empty : {V : Type 0} (count at : ℕ) → slice_index_or {A = Slot V} (replicate count Empty) at Empty ≡ Empty
all_empty zero at = refl
all_empty (suc count) zero = refl
all_empty (suc count) (suc at) = all_empty count at

-- no slot has a value
pub none_there : {V : Type 0} (slots : List (Slot V)) (count : ℕ) → slots ≡ replicate count Empty → (at : ℕ) (name : List ℕ) → value_at (slice_index_or slots at Empty) name ≡ None
none_there slots count is at name = ap (λ (all : List (Slot _)). value_at (slice_index_or all at Empty) name) is ∙ ap (λ slot. value_at slot name) (all_empty count at)

-- there is no slot
pub nothing_there : {V : Type 0} (slots : List (Slot V)) → length slots ≡ 0 → (at : ℕ) (name : List ℕ) → None ≡ value_at (slice_index_or slots at Empty) name
nothing_there [] is at name = refl
nothing_there (slot ∷ slots) is at name = absurd (omega (arith, is))

-- where a name's slot changes for that name alone, its value does
pub slot_changed : {V : Type 0} (f : Bool → Option V → Option V) → ((value : Option V) → f false value ≡ value) → (slots : List (Slot V)) (at : ℕ) (new : Slot V) (name : List ℕ)
    → at ≡ place name (length slots) → at < length slots
    → ((other : List ℕ) → value_at new other ≡ f (same_name other name) (value_at (slice_index_or slots at Empty) other))
    → (other : List ℕ) → value_at (slice_index_or (slice_set slots at new) (place other (length (slice_set slots at new))) Empty) other ≡ f (same_name other name) (value_at (slice_index_or slots (place other (length slots)) Empty) other)
slot_changed f stays slots at new name is within changed other =
    ap (λ count. value_at (slice_index_or (slice_set slots at new) (place other count) Empty) other) (length-set slots at new)
    ∙ elim (cases_eq (place other (length slots)) at) [
      | inl here ↦
          ap (λ found. value_at found other) (get_or-set_at slots at (place other (length slots)) new Empty here within)
          ∙ changed other
          ∙ ap (λ found. f (same_name other name) (value_at (slice_index_or slots found Empty) other)) (sym here)
      | inr apart ↦
          let elsewhere : same_name other name ≡ false = elim (cases_Bool (same_name other name)) [
            | inl same ↦ absurd (apart (ap (λ found. place found (length slots)) (same_is other name same) ∙ sym is))
            | inr different ↦ different
          ] in
          ap (λ found. value_at found other) (get_or-set_other slots at (place other (length slots)) new Empty apart)
          ∙ other_test (same_name other name) f (value_at (slice_index_or slots (place other (length slots)) Empty) other) stays elsewhere
    ]

-- one name more
pub slot_added : {V : Type 0} (slots : List (Slot V)) (at : ℕ) (old new : Slot V) (name : List ℕ) (value : V) → at ≡ place name (length slots) → at < length slots → old ≡ slice_index_or slots at old
    → ((other : List ℕ) → value_at new other ≡ option_or (value_at old other) (value_if (same_name other name) value))
    → (other : List ℕ) → value_at (slice_index_or (slice_set slots at new) (place other (length (slice_set slots at new))) Empty) other ≡ option_or (value_at (slice_index_or slots (place other (length slots)) Empty) other) (value_if (same_name other name) value)
slot_added slots at old new name value is within there added = slot_changed (λ test found. option_or found (value_if test value)) no_more slots at new name is within
    (λ other. added other ∙ ap (λ slot. option_or (value_at slot other) (value_if (same_name other name) value)) (there ∙ get_or_default slots at old Empty within))

-- a value for a name that may stand without one
pub slot_filled : {V : Type 0} (slots : List (Slot (Option V))) (at : ℕ) (old new : Slot (Option V)) (name : List ℕ) (value : V) → at ≡ place name (length slots) → at < length slots → old ≡ slice_index_or slots at old
    → ((other : List ℕ) → value_at new other ≡ filled (same_name other name) value (value_at old other))
    → (other : List ℕ) → value_at (slice_index_or (slice_set slots at new) (place other (length (slice_set slots at new))) Empty) other ≡ filled (same_name other name) value (value_at (slice_index_or slots (place other (length slots)) Empty) other)
slot_filled slots at old new name value is within there done = slot_changed (λ test found. filled test value found) (λ found. refl) slots at new name is within
    (λ other. done other ∙ ap (λ slot. filled (same_name other name) value (value_at slot other)) (there ∙ get_or_default slots at old Empty within))

-- ---- the instructions that have an opcode

listed_case : {V : Type 0} (old : Option V) (same rest : Bool) (value : V) → (is_some (option_or old (value_if same value)) || rest) ≡ (is_some old || (same || rest))
listed_case None true rest value = refl
listed_case None false rest value = refl
listed_case (Some kept) same rest value = refl

-- one opcode more
pub one_listed : {V : Type 0} (old new : Option V) (same rest : Bool) (value : V) → new ≡ option_or old (value_if same value) → (is_some new || rest) ≡ (is_some old || (same || rest))
one_listed old new same rest value is = ap (λ found. is_some found || rest) is ∙ listed_case old same rest value

untold_case : (old : Option (Option (Bor (List ℕ)))) (same : Bool) → told old ≡ None → told (option_or old (value_if same None)) ≡ None
untold_case None true none = refl
untold_case None false none = refl
untold_case (Some found) same none = none

pub one_untold : (old new : Option (Option (Bor (List ℕ)))) (same : Bool) → told old ≡ None → new ≡ option_or old (value_if same None) → told new ≡ None
one_untold old new same none is = ap told is ∙ untold_case old same none

pub or_false : (test : Bool) → (test || false) ≡ test
or_false true = refl
or_false false = refl

-- all accesses
pub all_heard : (all : List AccessEntry) (instructions : List (List ℕ)) (index : NameIndex (Option (Bor (List ℕ)))) → Awaits [] all index → Lists instructions index → Mentions all instructions index
all_heard all instructions index awaits lists = record { is = λ name listed. sym (no_more (told (value_of index name))) ∙ awaits.is name (lists.are name ∙ listed) }

-- an opcode's name is one of the opcodes' names
pub item_listed : (opcodes rest : List OpcodeEntry) (at : ℕ) (opcode : OpcodeEntry) → drop at opcodes ≡ opcode ∷ rest → is_listed opcode.name (map (λ opcode. opcode.name) opcodes) ≡ true
item_listed [] rest zero opcode here = absurd (cc here)
item_listed [] rest (suc at) opcode here = absurd (cc here)
item_listed (first ∷ opcodes) rest zero opcode here =
    let is : first ≡ opcode = cc here in
    or_left (same_name opcode.name first.name) (is_listed opcode.name (map (λ opcode. opcode.name) opcodes)) (ap (λ (found : OpcodeEntry). same_name opcode.name found.name) is ∙ same_self opcode.name)
item_listed (first ∷ opcodes) rest (suc at) opcode here = or_right (same_name opcode.name first.name) (is_listed opcode.name (map (λ opcode. opcode.name) opcodes)) (item_listed opcodes rest at opcode here)

-- ---- the lengths of the registers that are known

some_length : (same : Bool) (length : ℕ) (more : Option ℕ) → is_some (if same then Some length else more) ≡ (same || is_some more)
some_length true length more = refl
some_length false length more = refl

pub known_length : (known : List NamedRegister) (name : List ℕ) → is_some (length_named known name) ≡ is_listed name (names_known known)
known_length [] name = refl
known_length (register ∷ known) name = some_length (same_name register.name name) register.length (length_named known name)
    ∙ (λ i. swapped register.name name i || known_length known name i)

or_behind : {V : Type 0} (same : Bool) (value : V) (more next : Option V) → option_or (if same then Some value else more) next ≡ (if same then Some value else option_or more next)
or_behind true value more next = refl
or_behind false value more next = refl

pub one_more_length : (known : List NamedRegister) (register : NamedRegister) (name : List ℕ) → option_or (length_named known name) (value_if (same_name name register.name) register.length) ≡ length_named (known ++ register ∷ []) name
one_more_length [] register name = ap (λ same. value_if same register.length) (swapped name register.name)
one_more_length (first ∷ known) register name = or_behind (same_name first.name name) first.length (length_named known name) (value_if (same_name name register.name) register.length)
    ∙ ap (λ more. if same_name first.name name then Some first.length else more) (one_more_length known register name)

named-push : (registers : List DataRegister) (register : DataRegister) → named_of (registers ++ register ∷ []) ≡ named_of registers ++ record { name = register.name; length = register.length } ∷ []
named-push registers register = map-append (λ register. record { name = register.name; length = register.length }) registers (register ∷ [])

mapped_or : {V W : Type 0} (f : V → W) (old : Option V) (test : Bool) (value : V) → option_map f (option_or old (value_if test value)) ≡ option_or (option_map f old) (value_if test (f value))
mapped_or f None true value = refl
mapped_or f None false value = refl
mapped_or f (Some kept) test value = refl

place_case : (same : Bool) (length : ℕ) (more : Option ℕ) → (if same then Some length else more) ≡ None → same ≡ false
place_case true length more none = absurd (cc none)
place_case false length more none = refl

rest_none : (same : Bool) (length : ℕ) (more : Option ℕ) → (if same then Some length else more) ≡ None → more ≡ None
rest_none true length more none = absurd (cc none)
rest_none false length more none = none

-- a register of another name behind the others
pub place_behind : (known : List NamedRegister) (register : NamedRegister) (name : List ℕ) → length_named known name ≡ None → place_of_name (known ++ register ∷ []) name ≡ length known + (if same_name register.name name then 0 else 1)
place_behind [] register name none = by (same_name register.name name)
  where
    by : (same : Bool) → (if same then 0 else 1) ≡ 0 + (if same then 0 else 1)
    by true = refl
    by false = refl
place_behind (first ∷ known) register name none =
    let apart = place_case (same_name first.name name) first.length (length_named known name) none in
    let rest = place_behind known register name (rest_none (same_name first.name name) first.length (length_named known name) none) in
    rw apart (omega (arith, rest))

stays_case : (same : Bool) (length : ℕ) (more : Option ℕ) (place behind : ℕ) → is_some (if same then Some length else more) ≡ true → (is_some more ≡ true → behind ≡ place) → (if same then 0 else suc behind) ≡ (if same then 0 else suc place)
stays_case true length more place behind some rest = refl
stays_case false length more place behind some rest = ap suc (rest some)

-- a register of a name that is known has its place before the others
pub place_before : (known : List NamedRegister) (register : NamedRegister) (name : List ℕ) → is_some (length_named known name) ≡ true → place_of_name (known ++ register ∷ []) name ≡ place_of_name known name
place_before [] register name some = absurd (cc some)
place_before (first ∷ known) register name some = stays_case (same_name first.name name) first.length (length_named known name) (place_of_name known name) (place_of_name (known ++ register ∷ []) name) some (place_before known register name)

new_place : (found : Option (ℕ × ℕ)) (known : List NamedRegister) (register : NamedRegister) (name : List ℕ) → option_map (λ found. found.1) found ≡ length_named known name → unwrap_or (option_map (λ found. found.0) found) (length known) ≡ place_of_name known name
    → unwrap_or (option_or (option_map (λ found. found.0) found) (value_if (same_name name register.name) (length known))) (length known + 1) ≡ place_of_name (known ++ register ∷ []) name
new_place None known register name lengths places = by (same_name name register.name) (same_name register.name name) (swapped name register.name) ∙ sym (place_behind known register name (sym lengths))
  where
    by : (same other : Bool) → same ≡ other → unwrap_or (value_if same (length known)) (length known + 1) ≡ length known + (if other then 0 else 1)
    by true true is = omega arith
    by true false is = absurd (cc is)
    by false true is = absurd (cc is)
    by false false is = refl
new_place (Some found) known register name lengths places = places ∙ sym (place_before known register name (ap is_some (sym lengths)))

pub knows_after : (registers : List DataRegister) (register : DataRegister) (place : ℕ) (old new : NameIndex (ℕ × ℕ)) → Knows (named_of registers) old → place ≡ length registers
    → ((name : List ℕ) → value_of new name ≡ option_or (value_of old name) (value_if (same_name name register.name) (place, register.length)))
    → Knows (named_of (registers ++ register ∷ [])) new
knows_after registers register place old new before is added =
    let known = named_of registers in
    let entry : NamedRegister = record { name = register.name; length = register.length } in
    let pushed : named_of (registers ++ register ∷ []) ≡ known ++ entry ∷ [] = named-push registers register in
    let here : place ≡ length known = is ∙ sym (length-named_of registers) in
    record {
      lengths = λ name.
          ap (option_map (λ found. found.1)) (added name)
          ∙ mapped_or (λ found. found.1) (value_of old name) (same_name name register.name) (place, register.length)
          ∙ ap (λ found. option_or found (value_if (same_name name register.name) register.length)) (before.lengths name)
          ∙ one_more_length known entry name
          ∙ ap (λ (all : List NamedRegister). length_named all name) (sym pushed);
      places = λ name.
          ap (λ found. unwrap_or (option_map (λ found. found.0) found) (length (named_of (registers ++ register ∷ [])))) (added name)
          ∙ ap (λ found. unwrap_or found (length (named_of (registers ++ register ∷ [])))) (mapped_or (λ found. found.0) (value_of old name) (same_name name register.name) (place, register.length))
          ∙ ap (λ count. unwrap_or (option_or (option_map (λ found. found.0) (value_of old name)) (value_if (same_name name register.name) place)) count) (ap length pushed ∙ length-append known (entry ∷ []))
          ∙ ap (λ at. unwrap_or (option_or (option_map (λ found. found.0) (value_of old name)) (value_if (same_name name register.name) at)) (length known + 1)) here
          ∙ new_place (value_of old name) known entry name (before.lengths name) (before.places name)
          ∙ ap (λ (all : List NamedRegister). place_of_name all name) (sym pushed);
    }

pub some_mapped : {V W : Type 0} (f : V → W) (found : Option V) → is_some (option_map f found) ≡ true → is_some found ≡ true
some_mapped f None some = absurd (cc some)
some_mapped f (Some value) some = refl

-- a register that is known once more
pub knows_still : (known : List NamedRegister) (given : List ℕ) (value : ℕ × ℕ) (old new : NameIndex (ℕ × ℕ)) → Knows known old → is_some (value_of old given) ≡ true
    → ((name : List ℕ) → value_of new name ≡ option_or (value_of old name) (value_if (same_name name given) value))
    → Knows known new
knows_still known given value old new before some added =
    let stays : (name : List ℕ) → value_of new name ≡ value_of old name = λ name. added name ∙ sym (known_stays (value_of old) given name value some) in
    record {
      lengths = λ name. ap (option_map (λ found. found.1)) (stays name) ∙ before.lengths name;
      places = λ name. ap (λ found. unwrap_or (option_map (λ found. found.0) found) (length known)) (stays name) ∙ before.places name;
    }

-- a register that joins those known
pub named_joined : (registers : List DataRegister) (register : DataRegister) (standard known : Bool) → standard ≡ false → known ≡ false
    → named_of (registers ++ register ∷ []) ≡ (if standard || known then named_of registers else named_of registers ++ record { name = register.name; length = register.length } ∷ [])
named_joined registers register true known apart new = absurd (cc apart)
named_joined registers register false true apart new = absurd (cc new)
named_joined registers register false false apart new = named-push registers register

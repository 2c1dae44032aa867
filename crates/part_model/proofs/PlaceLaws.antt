-- A register that an access names is a standard one or one of the named registers.
use Rattle.std.proofs.Common.{◌≡◌, ◌==◌, nat_eq, ℕ, suc, ◌<◌, ◌≤◌, Bool, true, false, ◌&&◌, ◌||◌, if◌then◌else◌, ◌⊎◌, inl, inr, List, [], ◌∷◌, ◌++◌, length, refl, sym, subst, ap, ◌∙◌, arith}
use Rattle.std.specs.Cmp.Lexicographic.{pointwise}
use Rattle.std.specs.declared.option.Option.{Option}
use Rattle.std.specs.declared.option.Option.TheVariants.{Some}
use Rattle.std.proofs.lemmas.Bool.{and_parts, and_from, or_cases, or_left, or_right, eqb-true, eq-eqb, ne_eqb, cases_Bool}
use Rattle.part_model.specs.declared.registers.DataRegister.{DataRegister}
use Rattle.part_model.specs.Parts.{NamedRegister, named_of, same_name}
use Rattle.part_model.specs.Plans.{AccessEntry, is_listed, standard_names, names_known, named_after, length_or, place_of_name, mentioned}

pub same_is : (xs ys : List ℕ) → same_name xs ys ≡ true → xs ≡ ys
same_is [] [] is = refl
same_is [] (y ∷ ys) is = absurd (cc is)
same_is (x ∷ xs) [] is = absurd (cc is)
same_is (x ∷ xs) (y ∷ ys) is =
    let both = and_parts (x == y) (same_name xs ys) is in
    let first = eqb-true x y both.0 in
    let rest = same_is xs ys both.1 in
    λ i. first i ∷ rest i

pub same_self : (xs : List ℕ) → same_name xs xs ≡ true
same_self [] = refl
same_self (x ∷ xs) = and_from (x == x) (same_name xs xs) (eq-eqb x x refl) (same_self xs)

turned : (xs ys : List ℕ) → same_name xs ys ≡ true → same_name ys xs ≡ true
turned xs ys is = subst (λ (zs : List ℕ). same_name zs xs ≡ true) (same_is xs ys is) (same_self xs)

-- the names are equal where their bytes are
pub equal_bytes : (xs ys : List ℕ) → pointwise nat_eq xs ys ≡ same_name xs ys
equal_bytes [] [] = refl
equal_bytes [] (y ∷ ys) = refl
equal_bytes (x ∷ xs) [] = refl
equal_bytes (x ∷ xs) (y ∷ ys) = ap (λ rest. (x == y) && rest) (equal_bytes xs ys)

-- names of other lengths are not equal
pub other_lengths : (xs ys : List ℕ) → (length xs ≡ length ys → ⊥) → nat_eq (length xs) (length ys) ≡ same_name xs ys
other_lengths xs ys apart = elim (cases_Bool (same_name xs ys)) [
  | inl same ↦ absurd (apart (ap length (same_is xs ys same)))
  | inr differs ↦ ne_eqb (length xs) (length ys) apart ∙ sym differs
]

-- ---- the place of a name

pub length-named_of : (registers : List DataRegister) → length (named_of registers) ≡ length registers
length-named_of [] = refl
length-named_of (register ∷ registers) = omega (arith, length-named_of registers)

further : (place count : ℕ) → place < count → suc place < suc count
further place count lt = omega (arith, lt)

not_further : (place count : ℕ) → place ≤ count → suc place ≤ suc count
not_further place count le = omega (arith, le)

pub place_bound : (named : List NamedRegister) (name : List ℕ) → place_of_name named name ≤ length named
place_bound [] name = omega arith
place_bound (register ∷ named) name = elim (cases_Bool (same_name register.name name)) [
  | inl same ↦ rw same (omega arith)
  | inr other ↦ rw other (not_further (place_of_name named name) (length named) (place_bound named name))
]

later : (register : NamedRegister) (named : List NamedRegister) (name : List ℕ) → same_name register.name name ≡ false → is_listed name (names_known (register ∷ named)) ≡ true → is_listed name (names_known named) ≡ true
later register named name other is = elim (or_cases (same_name name register.name) (is_listed name (names_known named)) is) [
  | inl same ↦ absurd (cc (sym (turned name register.name same) ∙ other))
  | inr more ↦ more
]

pub place_within : (named : List NamedRegister) (name : List ℕ) → is_listed name (names_known named) ≡ true → place_of_name named name < length named
place_within [] name is = absurd (cc is)
place_within (register ∷ named) name is = elim (cases_Bool (same_name register.name name)) [
  | inl same ↦ rw same (omega arith)
  | inr other ↦ rw other (further (place_of_name named name) (length named) (place_within named name (later register named name other is)))
]

-- ---- one more access

abbrev is_there : List NamedRegister → List ℕ → Bool
is_there known name = is_listed name standard_names || is_listed name (names_known known)

stays : (known : List NamedRegister) (register : NamedRegister) (name : List ℕ) → is_listed name (names_known known) ≡ true → is_listed name (names_known (known ++ register ∷ [])) ≡ true
stays [] register name is = absurd (cc is)
stays (first ∷ known) register name is = elim (or_cases (same_name name first.name) (is_listed name (names_known known)) is) [
  | inl same ↦ or_left (same_name name first.name) (is_listed name (names_known (known ++ register ∷ []))) same
  | inr more ↦ or_right (same_name name first.name) (is_listed name (names_known (known ++ register ∷ []))) (stays known register name more)
]

last : (known : List NamedRegister) (register : NamedRegister) → is_listed register.name (names_known (known ++ register ∷ [])) ≡ true
last [] register = or_left (same_name register.name register.name) false (same_self register.name)
last (first ∷ known) register = or_right (same_name register.name first.name) (is_listed register.name (names_known (known ++ register ∷ []))) (last known register)

still_there : (known : List NamedRegister) (register : NamedRegister) (name : List ℕ) → is_there known name ≡ true → is_there (known ++ register ∷ []) name ≡ true
still_there known register name is = elim (or_cases (is_listed name standard_names) (is_listed name (names_known known)) is) [
  | inl standard ↦ or_left (is_listed name standard_names) (is_listed name (names_known (known ++ register ∷ []))) standard
  | inr more ↦ or_right (is_listed name standard_names) (is_listed name (names_known (known ++ register ∷ []))) (stays known register name more)
]

abbrev next_known : List NamedRegister → AccessEntry → List NamedRegister
next_known known access = if is_there known access.register then known else known ++ record { name = access.register; length = length_or access.length 0 } ∷ []

keeps_case : (known : List NamedRegister) (register : NamedRegister) (name : List ℕ) (test : Bool) → is_there known name ≡ true → is_there (if test then known else known ++ register ∷ []) name ≡ true
keeps_case known register name true is = is
keeps_case known register name false is = still_there known register name is

joins_case : (known : List NamedRegister) (register : NamedRegister) (test : Bool) → is_there known register.name ≡ test → is_there (if test then known else known ++ register ∷ []) register.name ≡ true
joins_case known register true is = is
joins_case known register false is = or_right (is_listed register.name standard_names) (is_listed register.name (names_known (known ++ register ∷ []))) (last known register)

keeps : (access : List AccessEntry) (known : List NamedRegister) (name : List ℕ) → is_there known name ≡ true → is_there (named_after known access) name ≡ true
keeps [] known name is = is
keeps (first ∷ access) known name is = keeps access (next_known known first) name (keeps_case known (record { name = first.register; length = length_or first.length 0 }) name (is_there known first.register) is)

found_case : (test : Bool) (register : List ℕ) (more : Option (List ℕ)) (name : List ℕ) → (if test then Some register else more) ≡ Some name → (register ≡ name) ⊎ (more ≡ Some name)
found_case true register more name is = inl (cc is)
found_case false register more name is = inr is

-- the register that an access names first is there in the end
pub mentioned_there : (access : List AccessEntry) (known : List NamedRegister) (instruction name : List ℕ) → mentioned access instruction ≡ Some name → is_there (named_after known access) name ≡ true
mentioned_there [] known instruction name is = absurd (cc is)
mentioned_there (first ∷ access) known instruction name is = elim (found_case (is_listed instruction first.instructions) first.register (mentioned access instruction) name is) [
  | inl same ↦ subst (λ (n : List ℕ). is_there (named_after (next_known known first) access) n ≡ true) same
      (keeps access (next_known known first) first.register (joins_case known (record { name = first.register; length = length_or first.length 0 }) (is_there known first.register) refl))
  | inr more ↦ mentioned_there access (next_known known first) instruction name more
]

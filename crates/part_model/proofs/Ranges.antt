-- A plan that is not refused: the ranges of its lengths, and the registers that its codes select.
use Rattle.std.proofs.Common.{◌≡◌, ℕ, zero, suc, ◌<◌, ◌≤◌, ◌==◌, nat_lt, Bool, true, false, not, ◌||◌, cond, max, inl, inr, List, [], ◌∷◌, ◌++◌, length, map, refl, sym, subst, ◌∙◌, arith}
use Rattle.std.specs.Prelude.{codes, if◌then◌else◌}
use Rattle.std.specs.List.{list_any, list_all}
use Rattle.std.specs.declared.option.Option.{Option}
use Rattle.std.specs.declared.option.Option.TheVariants.{None, Some}
use Rattle.std.proofs.Math.Nat.{le-max_left, le-max_right, max-le}
use Rattle.std.proofs.lemmas.Bool.{and_from, or_cases, or_left, or_right, ltb-false}
use Rattle.part_model.specs.declared.Digit.{Digit}
use Rattle.part_model.specs.declared.Field.TheVariants.{InstructionOpcode, RegisterAccess, BoundaryLength}
use Rattle.part_model.specs.Parts.{DeviceType, NamedRegister, Register, same_name, matches, first_match, register_of, selected, length_of, named_length, longest, longest_named, is_identified, has_usercode, has_device_id}
use Rattle.part_model.specs.Parts.Register.{Bypass, Boundary, Idcode, Usercode, Named}
use Rattle.part_model.specs.Plans.{OpcodeEntry, AccessEntry, PartAttributes, plan_refusal, code_refusal, accesses_refusal, access_refusal, boundary_refusal, opcode_refusal, identification_refusal, or_else, refuse_if, differs, is_none_of, no_identification, is_zero, is_large, known_length, length_named, length_or, is_listed, standard_names, names_known, named_after, named_registers, mentioned, place_of_name, register_or, register_for, opcode_of, has_opcode, part_of, pattern_bits}
use Rattle.part_model.specs.Sound.{Within, HasRegister, IsRegisterOf}
use Rattle.part_model.proofs.ResetLaws.{first_none, refuse_none, both_false}
use Rattle.part_model.proofs.PlaceLaws.{same_is, same_self, place_within, mentioned_there}

-- each refusal is none
pub record NotRefused (plan : PartAttributes) : Type 0 where
  pub has_codes : code_refusal plan ≡ None
  pub has_accesses : accesses_refusal plan [] plan.access ≡ None
  pub has_boundary : boundary_refusal plan ≡ None
  pub has_opcodes : opcode_refusal plan.idcode plan.opcodes ≡ None
  pub has_identification : identification_refusal plan.idcode plan ≡ None

pub not_refused : (plan : PartAttributes) → plan_refusal plan ≡ None → NotRefused plan
not_refused plan is =
    let a = first_none (code_refusal plan) _ is in
    let b = first_none (accesses_refusal plan [] plan.access) _ a.1 in
    let c = first_none (or_else (boundary_refusal plan) (opcode_refusal plan.idcode plan.opcodes)) (identification_refusal plan.idcode plan) b.1 in
    let d = first_none (boundary_refusal plan) (opcode_refusal plan.idcode plan.opcodes) c.0 in
    record { has_codes = a.0; has_accesses = b.0; has_boundary = d.0; has_opcodes = d.1; has_identification = c.1 }

-- ---- lengths

some_length : (n : ℕ) → (n == 0) ≡ false → 1 ≤ n
some_length zero is = absurd (cc is)
some_length (suc n) is = omega arith

pub boundary_within : (plan : PartAttributes) → boundary_refusal plan ≡ None → Within 1 65536 plan.boundary
boundary_within plan is =
    let a = first_none (refuse_if (plan.boundary == 0) 6 BoundaryLength) (refuse_if (nat_lt 65536 plan.boundary) 7 BoundaryLength) is in
    (some_length plan.boundary (refuse_none (plan.boundary == 0) 6 BoundaryLength a.0), ltb-false 65536 plan.boundary (refuse_none (nat_lt 65536 plan.boundary) 7 BoundaryLength a.1))

-- every named register has a length in range
abbrev pub AllWithin : List NamedRegister → Type 0
AllWithin [] = Unit {0}
AllWithin (register ∷ registers) = Within 1 65536 register.length × AllWithin registers

one_more : (known : List NamedRegister) (register : NamedRegister) → AllWithin known → Within 1 65536 register.length → AllWithin (known ++ register ∷ [])
one_more [] register all range = (range, tt)
one_more (first ∷ known) register all range = (all.0, one_more known register all.1 range)

other_way : (a b : List ℕ) → same_name a b ≡ false → same_name b a ≡ false
other_way a b is = by (same_name b a) refl
  where
    by : (t : Bool) → same_name b a ≡ t → t ≡ false
    by false h = refl
    by true h = let same : same_name a b ≡ true = subst (λ (c : List ℕ). same_name c b ≡ true) (same_is b a h) (same_self b) in absurd (cc (sym same ∙ is))

not_known : (known : List NamedRegister) (name : List ℕ) → is_listed name (names_known known) ≡ false → length_named known name ≡ None
not_known [] name free = refl
not_known (register ∷ known) name free =
    let b = both_false (same_name name register.name) (is_listed name (names_known known)) free in
    let other = other_way name register.name b.0 in
    rw other (not_known known name b.1)

no_length : (plan : PartAttributes) (known : List NamedRegister) (name : List ℕ) → is_listed name standard_names ≡ false → is_listed name (names_known known) ≡ false → known_length plan known name ≡ None
no_length plan known name standard free =
    let a = both_false (same_name name (codes "BYPASS")) _ standard in
    let b = both_false (same_name name (codes "BOUNDARY")) _ a.1 in
    let c = both_false (same_name name (codes "DEVICE_ID")) false b.1 in
    rw (a.0, b.0, c.0) (not_known known name free)

given_length : (length : Option ℕ) → is_none_of None length ≡ false → is_zero length ≡ false → is_large length ≡ false → Within 1 65536 (length_or length 0)
given_length None some positive small = absurd (cc some)
given_length (Some length) some positive small = (some_length length positive, ltb-false 65536 length small)

-- what one access keeps to
record Kept (plan : PartAttributes) (known : List NamedRegister) (access : AccessEntry) : Type 0 where
  some : is_none_of (known_length plan known access.register) access.length ≡ false
  identified : no_identification plan.idcode access.register access.instructions ≡ false
  positive : is_zero access.length ≡ false
  small : is_large access.length ≡ false

kept : (plan : PartAttributes) (known : List NamedRegister) (access : AccessEntry) → access_refusal plan known access ≡ None → Kept plan known access
kept plan known access is =
    let a = first_none (refuse_if (differs (known_length plan known access.register) access.length) 4 RegisterAccess) _ is in
    let given = is_none_of (known_length plan known access.register) access.length in
    let unnamed = no_identification plan.idcode access.register access.instructions in
    let b = first_none (refuse_if (given || unnamed) 5 RegisterAccess) _ a.1 in
    let c = first_none (refuse_if (is_zero access.length) 6 RegisterAccess) _ b.1 in
    let d = first_none (refuse_if (is_large access.length) 7 RegisterAccess) _ c.1 in
    let both = both_false given unnamed (refuse_none (given || unnamed) 5 RegisterAccess b.0) in
    record { some = both.0; identified = both.1; positive = refuse_none (is_zero access.length) 6 RegisterAccess c.0; small = refuse_none (is_large access.length) 7 RegisterAccess d.0 }

one_within : (plan : PartAttributes) (known : List NamedRegister) (access : AccessEntry) → Kept plan known access → AllWithin known → AllWithin (named_after known (access ∷ []))
one_within plan known access keeps all = by (is_listed access.register standard_names || is_listed access.register (names_known known)) refl
  where
    by : (t : Bool) → (is_listed access.register standard_names || is_listed access.register (names_known known)) ≡ t → AllWithin (cond t known (known ++ record { name = access.register; length = length_or access.length 0 } ∷ []))
    by true h = all
    by false h =
        let free = both_false (is_listed access.register standard_names) (is_listed access.register (names_known known)) h in
        let some = subst (λ (o : Option ℕ). is_none_of o access.length ≡ false) (no_length plan known access.register free.0 free.1) keeps.some in
        one_more known (record { name = access.register; length = length_or access.length 0 }) all (given_length access.length some keeps.positive keeps.small)

all_within : (access : List AccessEntry) (plan : PartAttributes) (known : List NamedRegister) → accesses_refusal plan known access ≡ None → AllWithin known → AllWithin (named_after known access)
all_within [] plan known is all = all
all_within (entry ∷ access) plan known is all =
    let a = first_none (access_refusal plan known entry) _ is in
    all_within access plan (named_after known (entry ∷ [])) a.1 (one_within plan known entry (kept plan known entry a.0) all)

pub named_within : (plan : PartAttributes) → accesses_refusal plan [] plan.access ≡ None → AllWithin (named_registers plan.access)
named_within plan is = all_within plan.access plan [] is tt

pub length_within : (named : List NamedRegister) (at : ℕ) → AllWithin named → Within 1 65536 (named_length named at)
length_within [] at all = (omega arith, omega arith)
length_within (register ∷ named) zero all = all.0
length_within (register ∷ named) (suc at) all = length_within named at all.1

pub register_within : (part : DeviceType) (register : Register) → Within 1 65536 part.boundary_length → AllWithin part.named → Within 1 65536 (length_of part register)
register_within part Bypass boundary named = (omega arith, omega arith)
register_within part Boundary boundary named = boundary
register_within part Idcode boundary named = (omega arith, omega arith)
register_within part Usercode boundary named = (omega arith, omega arith)
register_within part (Named at) boundary named = length_within part.named at named

-- ---- the longest register

named_covered : (named : List NamedRegister) (at : ℕ) → at < length named → named_length named at ≤ longest_named named
named_covered [] at lt = absurd (omega (arith, lt))
named_covered (register ∷ named) zero lt = le-max_left register.length (longest_named named)
named_covered (register ∷ named) (suc at) lt =
    let more : at < length named = omega (arith, lt) in
    omega (arith, named_covered named at more, le-max_right register.length (longest_named named))

longest_within : (named : List NamedRegister) → AllWithin named → longest_named named ≤ 65536
longest_within [] all = omega arith
longest_within (register ∷ named) all = max-le all.0.1 (longest_within named all.1)

device_within : (t : Bool) → (if t then 32 else 0) ≤ 65536
device_within true = omega arith
device_within false = omega arith

device_covered : (t : Bool) → t ≡ true → 32 ≤ (if t then 32 else 0)
device_covered true is = omega arith
device_covered false is = absurd (cc is)

-- each of the four is at most the greatest
record Covered (fixed device named greatest : ℕ) : Type 0 where
  over_fixed : fixed ≤ greatest
  over_device : device ≤ greatest
  over_named : named ≤ greatest

covers : (a device named : ℕ) → Covered a device named (max a (max device named))
covers a device named =
    let l = le-max_left a (max device named) in
    let r = le-max_right a (max device named) in
    record { over_fixed = l; over_device = omega (arith, le-max_left device named, r); over_named = omega (arith, le-max_right device named, r) }

covered : (part : DeviceType) → Covered (max 1 part.boundary_length) (if has_device_id part then 32 else 0) (longest_named part.named) (longest part)
covered part = covers (max 1 part.boundary_length) (if has_device_id part then 32 else 0) (longest_named part.named)

pub register_covered : (part : DeviceType) (register : Register) → IsRegisterOf part register → length_of part register ≤ longest part
register_covered part Bypass is = omega (arith, (covered part).over_fixed, le-max_left 1 part.boundary_length)
register_covered part Boundary is = omega (arith, (covered part).over_fixed, le-max_right 1 part.boundary_length)
register_covered part Idcode is = omega (arith, (covered part).over_device, device_covered (has_device_id part) (or_left (is_identified part.idcode) (has_usercode part.opcodes) is))
register_covered part Usercode is = omega (arith, (covered part).over_device, device_covered (has_device_id part) (or_right (is_identified part.idcode) (has_usercode part.opcodes) is))
register_covered part (Named at) is = omega (arith, (covered part).over_named, named_covered part.named at is)

pub longest_is_within : (part : DeviceType) → Within 1 65536 part.boundary_length → AllWithin part.named → Within 1 65536 (longest part)
longest_is_within part boundary named = (omega (arith, (covered part).over_fixed, le-max_left 1 part.boundary_length), max-le (max-le (omega arith) boundary.1) (max-le (device_within (has_device_id part)) (longest_within part.named named)))

-- ---- the registers that codes select

any_other : (instructions : List (List ℕ)) (instruction : List ℕ) → is_listed instruction instructions ≡ true → same_name instruction (codes "USERCODE") ≡ false
    → list_any (λ other. not (same_name other (codes "USERCODE"))) instructions ≡ true
any_other [] instruction listed free = absurd (cc listed)
any_other (first ∷ instructions) instruction listed free = elim (or_cases (same_name instruction first) (is_listed instruction instructions) listed) [
  | inl same ↦
      let other : same_name first (codes "USERCODE") ≡ false = subst (λ (name : List ℕ). same_name name (codes "USERCODE") ≡ false) (same_is instruction first same) free in
      rw other refl
  | inr more ↦ or_right (not (same_name first (codes "USERCODE"))) (list_any (λ other. not (same_name other (codes "USERCODE"))) instructions) (any_other instructions instruction more free)
]

is_identified_by : (idcode : Option (List Digit)) (register : List ℕ) (instructions : List (List ℕ)) → no_identification idcode register instructions ≡ false → same_name register (codes "DEVICE_ID") ≡ true
    → list_any (λ other. not (same_name other (codes "USERCODE"))) instructions ≡ true → is_identified (pattern_bits idcode) ≡ true
is_identified_by None register instructions is device other =
    absurd (cc (sym (and_from (same_name register (codes "DEVICE_ID")) (list_any (λ other. not (same_name other (codes "USERCODE"))) instructions) device other) ∙ is))
is_identified_by (Some pattern) register instructions is device other = refl

-- DEVICE_ID is named for another instruction than USERCODE only where there is an identification code
identifies : (access : List AccessEntry) (plan : PartAttributes) (known : List NamedRegister) (instruction name : List ℕ) → accesses_refusal plan known access ≡ None → mentioned access instruction ≡ Some name
    → same_name name (codes "DEVICE_ID") ≡ true → same_name instruction (codes "USERCODE") ≡ false → is_identified (pattern_bits plan.idcode) ≡ true
identifies [] plan known instruction name is found device free = absurd (let q : None ≡ Some name = found in cc)
identifies (entry ∷ access) plan known instruction name is found device free =
    let first = first_none (access_refusal plan known entry) (accesses_refusal plan (named_after known (entry ∷ [])) access) is in
    by first.0 (is_listed instruction entry.instructions) refl found (λ k. identifies access plan (named_after known (entry ∷ [])) instruction name first.1 k device free)
  where
    by : access_refusal plan known entry ≡ None → (t : Bool) → is_listed instruction entry.instructions ≡ t → cond t (Some entry.register) (mentioned access instruction) ≡ Some name
        → (mentioned access instruction ≡ Some name → is_identified (pattern_bits plan.idcode) ≡ true) → is_identified (pattern_bits plan.idcode) ≡ true
    by accepted true h k more =
        let same : entry.register ≡ name = cc in
        let is_device : same_name entry.register (codes "DEVICE_ID") ≡ true = subst (λ (n : List ℕ). same_name n (codes "DEVICE_ID") ≡ true) (sym same) device in
        is_identified_by plan.idcode entry.register entry.instructions (kept plan known entry accepted).identified is_device (any_other entry.instructions instruction h free)
    by accepted false h k more = more k

default_there : (part : DeviceType) (boundary idcode usercode : Bool) → (idcode ≡ true → is_identified part.idcode ≡ true) → (usercode ≡ true → has_usercode part.opcodes ≡ true)
    → IsRegisterOf part (cond boundary Boundary (cond idcode Idcode (cond usercode Usercode Bypass)))
default_there part true idcode usercode identified uses = tt
default_there part false true usercode identified uses = identified refl
default_there part false false true identified uses = uses refl
default_there part false false false identified uses = tt

named_there : (part : DeviceType) (place : ℕ) (bypass boundary device usercode : Bool) → ((bypass || (boundary || (device || false))) ≡ false → place < length part.named)
    → (device ≡ true → usercode ≡ false → is_identified part.idcode ≡ true) → (usercode ≡ true → has_usercode part.opcodes ≡ true)
    → IsRegisterOf part (cond bypass Bypass (cond boundary Boundary (cond device (cond usercode Usercode Idcode) (Named place))))
named_there part place true boundary device usercode within identified uses = tt
named_there part place false true device usercode within identified uses = tt
named_there part place false false true true within identified uses = uses refl
named_there part place false false true false within identified uses = identified refl refl
named_there part place false false false usercode within identified uses = within refl

free_place : (access : List AccessEntry) (instruction name : List ℕ) → mentioned access instruction ≡ Some name → is_listed name standard_names ≡ false → place_of_name (named_registers access) name < length (named_registers access)
free_place access instruction name found free = elim (or_cases (is_listed name standard_names) (is_listed name (names_known (named_after [] access))) (mentioned_there access [] instruction name found)) [
  | inl standard ↦ absurd (cc (sym standard ∙ free))
  | inr known ↦ place_within (named_registers access) name known
]

register_there : (plan : PartAttributes) (instruction : List ℕ) → accesses_refusal plan [] plan.access ≡ None
    → (same_name instruction (codes "IDCODE") ≡ true → is_identified (part_of plan).idcode ≡ true) → (same_name instruction (codes "USERCODE") ≡ true → has_usercode (part_of plan).opcodes ≡ true)
    → IsRegisterOf (part_of plan) (register_for plan.access instruction)
register_there plan instruction is identified uses = by (mentioned plan.access instruction) refl
  where
    by : (o : Option (List ℕ)) → mentioned plan.access instruction ≡ o → IsRegisterOf (part_of plan) (register_or o (named_registers plan.access) instruction)
    by None h = default_there (part_of plan) (is_listed instruction (codes "EXTEST" ∷ codes "SAMPLE" ∷ codes "PRELOAD" ∷ codes "INTEST" ∷ [])) (same_name instruction (codes "IDCODE")) (same_name instruction (codes "USERCODE")) identified uses
    by (Some name) h = named_there (part_of plan) (place_of_name (named_registers plan.access) name) (same_name name (codes "BYPASS")) (same_name name (codes "BOUNDARY")) (same_name name (codes "DEVICE_ID")) (same_name instruction (codes "USERCODE"))
        (free_place plan.access instruction name h) (λ device free. identifies plan.access plan [] instruction name is h device free) uses

first_there : (plan : PartAttributes) (opcodes : List OpcodeEntry) (code : List Bool) → accesses_refusal plan [] plan.access ≡ None
    → (has_opcode opcodes (codes "IDCODE") ≡ true → is_identified (part_of plan).idcode ≡ true) → (has_usercode (map (opcode_of plan.access) opcodes) ≡ true → has_usercode (part_of plan).opcodes ≡ true)
    → IsRegisterOf (part_of plan) (register_of (first_match (map (opcode_of plan.access) opcodes) code))
first_there plan [] code is identified uses = tt
first_there plan (entry ∷ opcodes) code is identified uses = by (list_any (λ pattern. matches pattern code) entry.patterns)
    (first_there plan opcodes code is
    (λ more. identified (or_right (same_name entry.name (codes "IDCODE")) (has_opcode opcodes (codes "IDCODE")) more))
    (λ more. uses (or_right (same_name entry.name (codes "USERCODE")) (has_usercode (map (opcode_of plan.access) opcodes)) more)))
  where
    by : (t : Bool) → IsRegisterOf (part_of plan) (register_of (first_match (map (opcode_of plan.access) opcodes) code))
        → IsRegisterOf (part_of plan) (register_of (cond t (Some (opcode_of plan.access entry)) (first_match (map (opcode_of plan.access) opcodes) code)))
    by true more = register_there plan entry.name is
        (λ same. identified (or_left (same_name entry.name (codes "IDCODE")) (has_opcode opcodes (codes "IDCODE")) same))
        (λ same. uses (or_left (same_name entry.name (codes "USERCODE")) (has_usercode (map (opcode_of plan.access) opcodes)) same))
    by false more = more

identified_opcode : (idcode : Option (List Digit)) (opcodes : List OpcodeEntry) → opcode_refusal idcode opcodes ≡ None → has_opcode opcodes (codes "IDCODE") ≡ true → is_identified (pattern_bits idcode) ≡ true
identified_opcode None opcodes is has = absurd (cc (sym has ∙ refuse_none (has_opcode opcodes (codes "IDCODE")) 5 InstructionOpcode is))
identified_opcode (Some pattern) opcodes is has = refl

pub selected_there : (plan : PartAttributes) (code : List Bool) → accesses_refusal plan [] plan.access ≡ None → opcode_refusal plan.idcode plan.opcodes ≡ None → IsRegisterOf (part_of plan) (selected (part_of plan) code)
selected_there plan code is has_opcodes = by (list_all (λ bit. bit) code)
  where
    by : (t : Bool) → IsRegisterOf (part_of plan) (register_of (cond t None (first_match (map (opcode_of plan.access) plan.opcodes) code)))
    by true = tt
    by false = first_there plan plan.opcodes code is (identified_opcode plan.idcode plan.opcodes has_opcodes) (λ has. has)

pub has_register : (part : DeviceType) (register : Register) → IsRegisterOf part register → HasRegister part.named register
has_register part Bypass is = tt
has_register part Boundary is = tt
has_register part Idcode is = tt
has_register part Usercode is = tt
has_register part (Named at) is = is

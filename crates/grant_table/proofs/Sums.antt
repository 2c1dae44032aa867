-- Sums of lengths over the parts of a layout.
use Rattle.std.proofs.Common.{◌≡◌, ℕ, zero, suc, ◌+◌, ◌*◌, ◌≤◌, ◌<◌, ◌||◌, ◌==◌, nat_lt, max, Bool, true, false, cond, List, [], ◌∷◌, ◌++◌, length, drop, refl, ap, sym, subst, ◌∙◌, arith, inl, inr, Some, None, get_or}
use Rattle.std.specs.declared.option.Option.{Option}
use Rattle.std.specs.List.{sum_by, filter_map, cons_option}
use Rattle.std.specs.Prelude.{slice_get}
use Rattle.std.proofs.lemmas.Bool.{cases_lt, ltb-false}
use Rattle.std.proofs.lemmas.Option.{slice_get_read}
use Rattle.std.proofs.lemmas.List.{drop_more}
use Rattle.std.proofs.lemmas.List.Sums.{sum_by-cons}
use Rattle.part_model.specs.declared.Field.TheVariants.{RegisterAccess, BoundaryLength}
use Rattle.part_model.specs.Parts.{DeviceType, NamedRegister, longest, longest_named, has_device_id}
use Rattle.part_model.specs.Plans.{PartAttributes, AccessEntry, IsPart, part_of, named_registers, named_after, names_known, is_listed, standard_names, length_or, code_refusal, accesses_refusal, access_refusal, boundary_refusal, opcode_refusal, identification_refusal, or_else, refuse_if, is_large, is_zero, differs, is_none_of, known_length, no_identification}
use Rattle.part_model.proofs.ResetLaws.{coded, first_none, refuse_none}
use Rattle.grant_table.specs.Kept.{AllParts}

-- ---- the lengths of one part

pub few_bits : (part : DeviceType) → IsPart part → part.ir_length ≤ 64
few_bits part is =
    let first = first_none (code_refusal is.plan) _ is.accepted in
    subst (λ (p : DeviceType). p.ir_length ≤ 64) (sym is.made) (coded is.plan first.0).most

few_stated : (length : Option ℕ) → is_large length ≡ false → length_or length 0 ≤ 65536
few_stated None is = omega arith
few_stated (Some length) is = ltb-false 65536 length is

access_few : (plan : PartAttributes) (known : List NamedRegister) (access : AccessEntry) → access_refusal plan known access ≡ None → length_or access.length 0 ≤ 65536
access_few plan known access is =
    let a = first_none (refuse_if (differs (known_length plan known access.register) access.length) 4 RegisterAccess) _ is in
    let b = first_none (refuse_if (is_none_of (known_length plan known access.register) access.length || no_identification plan.idcode access.register access.instructions) 5 RegisterAccess) _ a.1 in
    let c = first_none (refuse_if (is_zero access.length) 6 RegisterAccess) _ b.1 in
    let d = first_none (refuse_if (is_large access.length) 7 RegisterAccess) _ c.1 in
    few_stated access.length (refuse_none (is_large access.length) 7 RegisterAccess d.0)

snoc_few : (known : List NamedRegister) (register : NamedRegister) → longest_named known ≤ 65536 → register.length ≤ 65536 → longest_named (known ++ register ∷ []) ≤ 65536
snoc_few [] register few own = omega (arith, own)
snoc_few (first ∷ known) register few own =
    let rest : longest_named (known ++ register ∷ []) ≤ 65536 = snoc_few known register (omega (arith, few)) own in
    omega (arith, few, rest)

one_few : (t : Bool) (known : List NamedRegister) (access : AccessEntry) → longest_named known ≤ 65536 → length_or access.length 0 ≤ 65536
    → longest_named (cond t known (known ++ record { name = access.register; length = length_or access.length 0 } ∷ [])) ≤ 65536
one_few true known access few own = few
one_few false known access few own = snoc_few known (record { name = access.register; length = length_or access.length 0 }) few own

after_few : (plan : PartAttributes) (known : List NamedRegister) (accesses : List AccessEntry) → accesses_refusal plan known accesses ≡ None
    → longest_named known ≤ 65536 → longest_named (named_after known accesses) ≤ 65536
after_few plan known [] is few = few
after_few plan known (access ∷ rest) is few =
    let a = first_none (access_refusal plan known access) _ is in
    after_few plan (named_after known (access ∷ [])) rest a.1
    (one_few (is_listed access.register standard_names || is_listed access.register (names_known known)) known access few (access_few plan known access a.0))

greatest : (boundary named : ℕ) (t : Bool) → boundary ≤ 65536 → named ≤ 65536 → max (max 1 boundary) (max (cond t 32 0) named) ≤ 65536
greatest boundary named true b n = omega (arith, b, n)
greatest boundary named false b n = omega (arith, b, n)

-- a data register has at most 65,536 bits
longest_few : (part : DeviceType) → IsPart part → longest part ≤ 65536
longest_few part is =
    let plan = is.plan in
    let a = first_none (code_refusal plan) _ is.accepted in
    let b = first_none (accesses_refusal plan [] plan.access) _ a.1 in
    let c = first_none (or_else (boundary_refusal plan) (opcode_refusal plan.idcode plan.opcodes)) (identification_refusal plan.idcode plan) b.1 in
    let d = first_none (boundary_refusal plan) (opcode_refusal plan.idcode plan.opcodes) c.0 in
    let e = first_none (refuse_if (plan.boundary == 0) 6 BoundaryLength) (refuse_if (nat_lt 65536 plan.boundary) 7 BoundaryLength) d.0 in
    subst (λ (p : DeviceType). longest p ≤ 65536) (sym is.made)
    (greatest plan.boundary (longest_named (named_registers plan.access)) (has_device_id (part_of plan))
    (ltb-false 65536 plan.boundary (refuse_none (nat_lt 65536 plan.boundary) 7 BoundaryLength e.1))
    (after_few plan [] plan.access b.0 (omega arith)))

-- ---- the sum of the instruction lengths

abbrev pub ir_length : DeviceType → ℕ
ir_length part = part.ir_length

-- the parts before a place are summed up
pub record Summed (parts : List DeviceType) (at sum : ℕ) : Type 0 where
  pub is : sum + sum_by ir_length (drop at parts) ≡ sum_by ir_length parts
  pub most : sum ≤ 64 * at
  pub are : (place : ℕ) (part : DeviceType) → place < at → slice_get parts place ≡ Some part → IsPart part

pub summed_more : (parts : List DeviceType) (at sum : ℕ) (part : DeviceType) (bits : ℕ) → Summed parts at sum → at < length parts → part ≡ get_or parts at part → bits ≡ part.ir_length → IsPart part
    → Summed parts (at + 1) (sum + bits)
summed_more parts at sum part bits so lt item bits_are is =
    let rest : drop at parts ≡ part ∷ drop (at + 1) parts = drop_more parts at part lt ∙ ap (λ p. p ∷ drop (at + 1) parts) (sym item) in
    let split : sum_by ir_length (drop at parts) ≡ part.ir_length + sum_by ir_length (drop (at + 1) parts) = ap (sum_by ir_length) rest ∙ sum_by-cons ir_length part (drop (at + 1) parts) in
    record {
      is = omega (arith, so.is, split, bits_are);
      most = omega (arith, so.most, bits_are, few_bits part is);
      are = λ place other below there. elim (cases_lt place at) [
        | inl lt ↦ so.are place other lt there
        | inr ge ↦
            let same : place ≡ at = omega (arith, below, ge) in
            let here : Some part ≡ Some other = sym (slice_get_read parts (length parts) at part refl lt item) ∙ ap (slice_get parts) (sym same) ∙ there in
            subst IsPart (cc here) is
      ];
    }

pub all_parts : (parts : List DeviceType) (at sum : ℕ) → Summed parts at sum → length parts ≤ at → AllParts parts
all_parts parts at sum so end place part there = elim (cases_lt place at) [
  | inl lt ↦ so.are place part lt there
  | inr ge ↦ absurd (past parts place (omega (arith, ge, end)) there)
]
  where
    past : (xs : List DeviceType) (i : ℕ) → length xs ≤ i → slice_get xs i ≡ Some part → ⊥
    past [] i le e = let q : None ≡ Some part = e in cc
    past (x ∷ xs) zero le e = omega (arith, le)
    past (x ∷ xs) (suc i) le e = past xs i (omega (arith, le)) e

rest_are : (part : DeviceType) (parts : List DeviceType) → AllParts (part ∷ parts) → AllParts parts
rest_are part parts are place other there = are (suc place) other there

pub total_few : (parts : List DeviceType) → AllParts parts → sum_by ir_length parts ≤ 64 * length parts
total_few [] are = omega arith
total_few (part ∷ parts) are = omega (arith, sum_by-cons ir_length part parts, few_bits part (are 0 part refl), total_few parts (rest_are part parts are))

-- ---- the sum of the greatest register lengths of a group

-- the places before one are summed up
pub record LongestSummed (parts : List DeviceType) (group : List ℕ) (at sum : ℕ) : Type 0 where
  pub is : sum + sum_by longest (filter_map (slice_get parts) (drop at group)) ≡ sum_by longest (filter_map (slice_get parts) group)
  pub most : sum ≤ 65536 * at

pub longest_more : (parts : List DeviceType) (group : List ℕ) (at sum place : ℕ) (part : DeviceType) (bits : ℕ) → LongestSummed parts group at sum → at < length group → place ≡ get_or group at place
    → place < length parts → part ≡ get_or parts place part → bits ≡ longest part → AllParts parts → LongestSummed parts group (at + 1) (sum + bits)
longest_more parts group at sum place part bits so lt item within at_place bits_are are =
    let there : slice_get parts place ≡ Some part = slice_get_read parts (length parts) place part refl within at_place in
    let rest : drop at group ≡ place ∷ drop (at + 1) group = drop_more group at place lt ∙ ap (λ p. p ∷ drop (at + 1) group) (sym item) in
    let found : filter_map (slice_get parts) (drop at group) ≡ part ∷ filter_map (slice_get parts) (drop (at + 1) group) =
    ap (filter_map (slice_get parts)) rest ∙ ap (λ o. cons_option o (filter_map (slice_get parts) (drop (at + 1) group))) there in
    let split : sum_by longest (filter_map (slice_get parts) (drop at group)) ≡ longest part + sum_by longest (filter_map (slice_get parts) (drop (at + 1) group)) =
    ap (sum_by longest) found ∙ sum_by-cons longest part (filter_map (slice_get parts) (drop (at + 1) group)) in
    record { is = omega (arith, so.is, split, bits_are); most = omega (arith, so.most, bits_are, longest_few part (are place part there)) }

-- The registers of a device type that a plan makes have at least one bit.
use Rattle.std.proofs.Common.{◌≡◌, ◌≤◌, ℕ, zero, suc, Bool, true, false, cond, ◌||◌, List, [], ◌∷◌, ◌++◌, refl, ap, sym, subst, ◌∙◌, arith, nat_eq, Some, None}
use Rattle.std.specs.Prelude.{◌==◌, nat_lt}
use Rattle.std.specs.declared.option.Option.{Option}
use Rattle.std.specs.List.{list_any}
use Rattle.std.proofs.lemmas.Bool.{eqb-true, eq-eqb}
use Rattle.part_model.specs.declared.Field.{Field}
use Rattle.part_model.specs.declared.Field.TheVariants.{InstructionLength, RegisterAccess, BoundaryLength}
use Rattle.part_model.specs.declared.plan.PlanRefusal.{PlanRefusal}
use Rattle.part_model.specs.Parts.{DeviceType, NamedRegister, Register, selected, width, length_of, named_length, same_name}
use Rattle.part_model.specs.Parts.Register.{Bypass, Boundary, Idcode, Usercode, Named}
use Rattle.part_model.specs.Plans.{PartAttributes, AccessEntry, IsPart, plan_refusal, part_of, or_else, refuse_if, code_refusal, length_refusal, accesses_refusal, access_refusal, boundary_refusal, opcode_refusal, identification_refusal, named_after, is_listed, standard_names, names_known, length_or, known_length, length_named, differs, is_none_of, no_identification, is_zero}

never : {A : Type 0} → false ≡ true → A
never e = absurd (let q : false ≡ true = e in cc)

neither : (a b : Bool) → (a || b) ≡ false → (a ≡ false) × (b ≡ false)
neither true b h = never (sym h)
neither false b h = (refl, h)

no_refusal : (a b : Option PlanRefusal) → or_else a b ≡ None → (a ≡ None) × (b ≡ None)
no_refusal None b h = (refl, h)
no_refusal (Some refusal) b h = absurd (let q : Some refusal ≡ None = h in cc)

not_refused : (test : Bool) (cause : ℕ) (field : Field) → refuse_if test cause field ≡ None → test ≡ false
not_refused true cause field h = absurd (let q : Some (record { cause = cause; field = field }) ≡ None = h in cc)
not_refused false cause field h = refl

-- each named register has a bit
abbrev pub EachHasBit : List NamedRegister → Type 0
EachHasBit [] = Unit {0}
EachHasBit (register ∷ registers) = (1 ≤ register.length) × EachHasBit registers

one_more : (known : List NamedRegister) (register : NamedRegister) → EachHasBit known → 1 ≤ register.length → EachHasBit (known ++ register ∷ [])
one_more [] register each some = (some, tt)
one_more (first ∷ known) register each some = (each.0, one_more known register each.1 some)

pub named_some : (registers : List NamedRegister) (at : ℕ) → EachHasBit registers → 1 ≤ named_length registers at
named_some [] at each = omega arith
named_some (register ∷ registers) zero each = each.0
named_some (register ∷ registers) (suc at) each = named_some registers at each.1

same_either : (a b : Bool) → (a ≡ true → b ≡ true) → (b ≡ true → a ≡ true) → a ≡ b
same_either true b f g = sym (f refl)
same_either false true f g = never (g refl)
same_either false false f g = refl

same_name-sym : (a b : List ℕ) → same_name a b ≡ same_name b a
same_name-sym [] [] = refl
same_name-sym [] (y ∷ b) = refl
same_name-sym (x ∷ a) [] = refl
same_name-sym (x ∷ a) (y ∷ b) =
    let first : nat_eq x y ≡ nat_eq y x = same_either (nat_eq x y) (nat_eq y x) (λ h. eq-eqb y x (sym (eqb-true x y h))) (λ h. eq-eqb x y (sym (eqb-true y x h))) in
    rw (first, same_name-sym a b) refl

-- a name that is not listed has no length
unknown : (registers : List NamedRegister) (name : List ℕ) → is_listed name (names_known registers) ≡ false → length_named registers name ≡ None
unknown [] name free = refl
unknown (register ∷ registers) name free =
    let both = neither (same_name name register.name) (is_listed name (names_known registers)) free in
    rw (same_name-sym register.name name ∙ both.0) (unknown registers name both.1)

-- a length that is stated, and not 0
length_some : (length : Option ℕ) → is_none_of None length ≡ false → is_zero length ≡ false → 1 ≤ length_or length 0
length_some None there some = never (sym there)
length_some (Some zero) there some = never (sym some)
length_some (Some (suc n)) there some = omega arith

module _ (plan : PartAttributes) where
  -- an accepted access to a register that is new states its length
  access_some : (known : List NamedRegister) (access : AccessEntry) → access_refusal plan known access ≡ None
      → is_listed access.register standard_names ≡ false → is_listed access.register (names_known known) ≡ false → 1 ≤ length_or access.length 0
  access_some known access accepted free new =
      let bypass = neither (same_name access.register (Rattle.std.specs.Prelude.codes "BYPASS")) _ free in
      let boundary = neither (same_name access.register (Rattle.std.specs.Prelude.codes "BOUNDARY")) _ bypass.1 in
      let device = neither (same_name access.register (Rattle.std.specs.Prelude.codes "DEVICE_ID")) false boundary.1 in
      let none : known_length plan known access.register ≡ None = rw (bypass.0, boundary.0, device.0) (unknown known access.register new) in
      let a = no_refusal (refuse_if (differs (known_length plan known access.register) access.length) 4 RegisterAccess) _ accepted in
      let b = no_refusal (refuse_if (is_none_of (known_length plan known access.register) access.length || no_identification plan.idcode access.register access.instructions) 5 RegisterAccess) _ a.1 in
      let c = no_refusal (refuse_if (is_zero access.length) 6 RegisterAccess) _ b.1 in
      let there = neither (is_none_of (known_length plan known access.register) access.length) (no_identification plan.idcode access.register access.instructions) (not_refused _ 5 RegisterAccess b.0) in
      length_some access.length (ap (λ o. is_none_of o access.length) (sym none) ∙ there.0) (not_refused (is_zero access.length) 6 RegisterAccess c.0)

  after_some : (known : List NamedRegister) (access : List AccessEntry) → EachHasBit known → accesses_refusal plan known access ≡ None → EachHasBit (named_after known access)
  after_some known [] each accepted = each
  after_some known (access ∷ rest) each accepted =
      let split = no_refusal (access_refusal plan known access) (accesses_refusal plan (named_after known (access ∷ [])) rest) accepted in
      by (is_listed access.register standard_names || is_listed access.register (names_known known)) refl split.0 split.1 (λ k. after_some k rest)
    where
      more : NamedRegister
      more = record { name = access.register; length = length_or access.length 0 }

      by : (t : Bool) → (is_listed access.register standard_names || is_listed access.register (names_known known)) ≡ t
          → access_refusal plan known access ≡ None
          → accesses_refusal plan (cond t known (known ++ more ∷ [])) rest ≡ None
          → ((k : List NamedRegister) → EachHasBit k → accesses_refusal plan k rest ≡ None → EachHasBit (named_after k rest))
          → EachHasBit (named_after (cond t known (known ++ more ∷ [])) rest)
      by true h this next go = go known each next
      by false h this next go =
          let both = neither (is_listed access.register standard_names) (is_listed access.register (names_known known)) h in
          go (known ++ more ∷ []) (one_more known more each (access_some known access this both.0 both.1)) next

not_zero : (n : ℕ) → (n == 0) ≡ false → 1 ≤ n
not_zero zero h = never (sym h)
not_zero (suc n) h = omega arith

not_below : (n : ℕ) → nat_lt n 2 ≡ false → 1 ≤ n
not_below zero h = never (sym h)
not_below (suc n) h = omega arith

register_some : (part : DeviceType) (register : Register) → 1 ≤ part.boundary_length → EachHasBit part.named → 1 ≤ length_of part register
register_some part Bypass boundary named = omega arith
register_some part Boundary boundary named = boundary
register_some part Idcode boundary named = omega arith
register_some part Usercode boundary named = omega arith
register_some part (Named at) boundary named = named_some part.named at named

-- what accepted plans say of lengths
record SomeBits (part : DeviceType) : Type 0 where
  pub instruction : 1 ≤ part.ir_length
  pub boundary : 1 ≤ part.boundary_length
  pub named : EachHasBit part.named

accepted_some : (plan : PartAttributes) → plan_refusal plan ≡ None → SomeBits (part_of plan)
accepted_some plan accepted =
    let t = no_refusal (code_refusal plan) _ accepted in
    let a = no_refusal (length_refusal plan) _ t.0 in
    let d = no_refusal (accesses_refusal plan [] plan.access) _ t.1 in
    let e = no_refusal (or_else (boundary_refusal plan) (opcode_refusal plan.idcode plan.opcodes)) (identification_refusal plan.idcode plan) d.1 in
    let f = no_refusal (boundary_refusal plan) (opcode_refusal plan.idcode plan.opcodes) e.0 in
    let g = no_refusal (refuse_if (plan.boundary == 0) 6 BoundaryLength) _ f.0 in
    let few = neither (nat_lt plan.ir_len 2) (nat_lt 64 plan.ir_len) (not_refused (nat_lt plan.ir_len 2 || nat_lt 64 plan.ir_len) 1 InstructionLength a.0) in
    record {
      instruction = not_below plan.ir_len few.0;
      boundary = not_zero plan.boundary (not_refused (plan.boundary == 0) 6 BoundaryLength g.0);
      named = after_some plan [] plan.access tt d.0;
    }

part_some : (part : DeviceType) → IsPart part → SomeBits part
part_some part is = subst SomeBits (sym is.made) (accepted_some is.plan is.accepted)

pub instruction_some : (part : DeviceType) → IsPart part → 1 ≤ part.ir_length
instruction_some part is = (part_some part is).instruction

pub width_some : (part : DeviceType) → IsPart part → (code : List Bool) → 1 ≤ width part code
width_some part is code = let some = part_some part is in register_some part (selected part code) some.boundary some.named

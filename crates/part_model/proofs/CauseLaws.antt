-- The causes of refused plans are 1 to 9.
use Rattle.std.proofs.Common.{◌≡◌, ◌==◌, nat_lt, ℕ, ◌≤◌, Bool, true, false, not, List, [], ◌∷◌, subst, arith}
use Rattle.std.specs.declared.option.Option.{Option}
use Rattle.std.specs.declared.option.Option.TheVariants.{None, Some}
use Rattle.part_model.specs.declared.Digit.{Digit}
use Rattle.part_model.specs.declared.Field.{Field}
use Rattle.part_model.specs.declared.Field.TheVariants.{InstructionOpcode, InstructionCapture, IdcodeRegister, UsercodeRegister, BoundaryLength}
use Rattle.part_model.specs.declared.plan.PlanRefusal.{PlanRefusal}
use Rattle.part_model.specs.declared.plan.Opcode.{Opcode}
use Rattle.part_model.specs.Parts.{NamedRegister}
use Rattle.part_model.specs.Plans.{PartAttributes, AccessEntry, or_else, refuse, refuse_if, length_refusal, pattern_refusal, code_refusal, any_of_another_length, wrong_length, wrong_option, captures_01, bits_of_pattern, access_refusal, accesses_refusal, named_after, boundary_refusal, opcode_refusal, identification_refusal, plan_refusal}

abbrev Most9 : Option PlanRefusal → Type 0
Most9 None = Unit {0}
Most9 (Some refusal) = refusal.cause ≤ 9

-- the cause is at most 9
record Small (refusal : Option PlanRefusal) : Type 0 where
  is : Most9 refusal

both_are : (first next : Option PlanRefusal) → Most9 first → Most9 next → Most9 (or_else first next)
both_are None next small rest = rest
both_are (Some refusal) next small rest = small

both : {first next : Option PlanRefusal} → Small first → Small next → Small (or_else first next)
both small rest = record { is = both_are _ _ small.is rest.is }

test_is : (test : Bool) (cause : ℕ) (field : Field) → cause ≤ 9 → Most9 (refuse_if test cause field)
test_is true cause field le = le
test_is false cause field le = tt

tested : (test : Bool) (cause : ℕ) (field : Field) → cause ≤ 9 → Small (refuse_if test cause field)
tested test cause field le = record { is = test_is test cause field le }

of_patterns : (plan : PartAttributes) → Small (pattern_refusal plan)
of_patterns plan = both (tested (any_of_another_length plan.ir_len plan.opcodes) 2 InstructionOpcode (omega arith))
    (both (tested (wrong_length plan.ir_len plan.capture) 2 InstructionCapture (omega arith))
    (both (tested (wrong_option plan.idcode) 2 IdcodeRegister (omega arith)) (tested (wrong_option plan.usercode) 2 UsercodeRegister (omega arith))))

of_length : (plan : PartAttributes) → Small (length_refusal plan)
of_length plan = tested _ 1 _ (omega arith)

of_codes : (plan : PartAttributes) → Small (code_refusal plan)
of_codes plan = both (of_length plan) (both (of_patterns plan) (tested (not (captures_01 (bits_of_pattern plan.capture))) 3 InstructionCapture (omega arith)))

of_boundary : (plan : PartAttributes) → Small (boundary_refusal plan)
of_boundary plan = both (tested (plan.boundary == 0) 6 BoundaryLength (omega arith)) (tested (nat_lt 65536 plan.boundary) 7 BoundaryLength (omega arith))

of_access : (plan : PartAttributes) (known : List NamedRegister) (access : AccessEntry) → Small (access_refusal plan known access)
of_access plan known access = both (tested _ 4 _ (omega arith)) (both (tested _ 5 _ (omega arith)) (both (tested _ 6 _ (omega arith)) (both (tested _ 7 _ (omega arith)) (tested _ 9 _ (omega arith)))))

of_accesses : (plan : PartAttributes) (known : List NamedRegister) (accesses : List AccessEntry) → Small (accesses_refusal plan known accesses)
of_accesses plan known [] = record { is = tt }
of_accesses plan known (access ∷ rest) = both (of_access plan known access) (of_accesses plan (named_after known (access ∷ [])) rest)

of_opcodes : (idcode : Option (List Digit)) (opcodes : List Opcode) → Small (opcode_refusal idcode opcodes)
of_opcodes None opcodes = tested _ 5 _ (omega arith)
of_opcodes (Some pattern) opcodes = record { is = tt }

of_identification : (idcode : Option (List Digit)) (plan : PartAttributes) → Small (identification_refusal idcode plan)
of_identification None plan = record { is = tt }
of_identification (Some pattern) plan = tested _ 8 _ (omega arith)

of_plan : (plan : PartAttributes) → Small (plan_refusal plan)
of_plan plan = both (of_codes plan)
    (both (of_accesses plan [] plan.access)
    (both (both (of_boundary plan) (of_opcodes plan.idcode plan.opcodes))
    (of_identification plan.idcode plan)))

pub cause_is_small : (plan : PartAttributes) (cause : ℕ) (field : Field) → plan_refusal plan ≡ refuse cause field → cause ≤ 9
cause_is_small plan cause field is = subst Most9 is (of_plan plan).is

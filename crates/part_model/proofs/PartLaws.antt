-- Laws of device types that plans make.
use Rattle.std.proofs.Common.{◌≡◌, Bool, true, false, not, ◌||◌, take, List, [], ◌∷◌, codes, refl, sym, ap, subst, ◌∙◌}
use Rattle.std.specs.declared.option.Option.{Option}
use Rattle.std.specs.declared.option.Option.TheVariants.{None, Some}
use Rattle.std.proofs.lemmas.Bool.{not-false}
use Rattle.part_model.specs.declared.Digit.{Digit}
use Rattle.part_model.specs.declared.Field.TheVariants.{IdcodeRegister}
use Rattle.part_model.specs.Parts.{DeviceType, Register, selected, is_identified}
use Rattle.part_model.specs.Parts.Register.{Bypass, Boundary, Idcode, Usercode, Named}
use Rattle.part_model.specs.Plans.{PartAttributes, part_of, bits_of_pattern, pattern_bits, reset_of, captures_01, code_refusal, identification_refusal, has_opcode, is_odd, selects_idcode}
use Rattle.part_model.specs.Laws.{CapturedEndsIn01, ResetIdentifies, ResetBypasses}
use Rattle.part_model.proofs.Bypass.{selected-ones}
use Rattle.part_model.proofs.Ranges.{not_refused}
use Rattle.part_model.proofs.ResetLaws.{coded, first_none, refuse_none, both_false}

ends : (bits : List Bool) → captures_01 bits ≡ true → take 2 bits ≡ true ∷ false ∷ []
ends [] is = absurd (cc is)
ends (true ∷ []) is = absurd (cc is)
ends (false ∷ bits) is = absurd (cc is)
ends (true ∷ true ∷ bits) is = absurd (cc is)
ends (true ∷ false ∷ bits) is = refl

pub captured_ends_in_01 : CapturedEndsIn01
captured_ends_in_01 part is =
    let first = first_none (code_refusal is.plan) _ is.accepted in
    let captured = ends (bits_of_pattern is.plan.capture) (coded is.plan first.0).ends in
    subst (λ (p : DeviceType). take 2 p.ir_captures ≡ true ∷ false ∷ []) (sym is.made) captured

idcode_is : (register : Register) → selects_idcode register ≡ true → register ≡ Idcode
idcode_is Bypass is = absurd (cc is)
idcode_is Boundary is = absurd (cc is)
idcode_is Idcode is = refl
idcode_is Usercode is = absurd (cc is)
idcode_is (Named at) is = absurd (cc is)

identified : (plan : PartAttributes) (idcode : Option (List Digit)) → identification_refusal idcode plan ≡ None → is_identified (pattern_bits idcode) ≡ true → selected (part_of plan) (part_of plan).reset_code ≡ Idcode
identified plan None is some = absurd (cc some)
identified plan (Some pattern) is some =
    let test = not (has_opcode plan.opcodes (codes "IDCODE")) || (not (is_odd (bits_of_pattern pattern)) || not (selects_idcode (selected (part_of plan) (part_of plan).reset_code))) in
    let passed : test ≡ false = refuse_none test 8 IdcodeRegister is in
    let a = both_false (not (has_opcode plan.opcodes (codes "IDCODE"))) _ passed in
    let b = both_false (not (is_odd (bits_of_pattern pattern))) (not (selects_idcode (selected (part_of plan) (part_of plan).reset_code))) a.1 in
    idcode_is _ (not-false (selects_idcode (selected (part_of plan) (part_of plan).reset_code)) b.1)

pub reset_identifies : ResetIdentifies
reset_identifies part is some =
    let same : is_identified (pattern_bits is.plan.idcode) ≡ true = ap (λ (p : DeviceType). is_identified p.idcode) (sym is.made) ∙ some in
    subst (λ (p : DeviceType). selected p p.reset_code ≡ Idcode) (sym is.made) (identified is.plan is.plan.idcode (not_refused is.plan is.accepted).has_identification same)

bypassed : (plan : PartAttributes) (idcode : Option (List Digit)) → is_identified (pattern_bits idcode) ≡ false → selected (part_of plan) (reset_of idcode plan.ir_len plan.opcodes) ≡ Bypass
bypassed plan None other = selected-ones (part_of plan) plan.ir_len
bypassed plan (Some pattern) other = absurd (cc other)

pub reset_bypasses : ResetBypasses
reset_bypasses part is other =
    let same : is_identified (pattern_bits is.plan.idcode) ≡ false = ap (λ (p : DeviceType). is_identified p.idcode) (sym is.made) ∙ other in
    subst (λ (p : DeviceType). selected p p.reset_code ≡ Bypass) (sym is.made) (bypassed is.plan is.plan.idcode same)

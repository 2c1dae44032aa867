-- The device type of a plan that is not refused is sound.
use Rattle.std.proofs.Common.{◌≡◌, ℕ, suc, Bool, true, false, not, ◌||◌, cond, List, [], ◌∷◌, length, map, refl, ap, sym, subst, ◌∙◌, ◌&&◌, Some, None}
use Rattle.std.specs.Prelude.{codes}
use Rattle.std.specs.declared.option.Option.{Option}
use Rattle.std.specs.List.{list_any, list_all}
use Rattle.std.proofs.lemmas.Bool.{not-false}
use Rattle.std.proofs.lemmas.List.{length-replicate}
use Rattle.part_model.specs.declared.Digit.{Digit}
use Rattle.part_model.specs.declared.Field.TheVariants.{IdcodeRegister}
use Rattle.part_model.specs.Parts.{Instruction, Register, digit_matches, matches, first_match, register_of, selected, length_of}
use Rattle.part_model.specs.Plans.{OpcodeEntry, AccessEntry, PartAttributes, plan_refusal, wrong_length, wrong_option, bits_of_pattern, pattern_bits, bits_or_zeros, part_of, opcode_of, identification_refusal, selects_idcode, is_odd, has_opcode}
pub use Rattle.part_model.specs.Sound.{IsSoundPart, HasRegister, HasBits}
use Rattle.part_model.specs.Sound.{PartsAreSound, Within, IsRegisterOf}
use Rattle.part_model.proofs.ResetLaws.{coded, length-pattern, right_length, both_false, refuse_none}
use Rattle.part_model.proofs.Ranges.{not_refused, boundary_within, named_within, length_within, register_within, register_covered, longest_is_within, selected_there, has_register}

-- ---- lengths of patterns

never : {A : Type 0} → false ≡ true → A
never e = absurd (let q : false ≡ true = e in cc)

right_bits : (count : ℕ) (digits : List Digit) → wrong_length count digits ≡ false → length (bits_of_pattern digits) ≡ count
right_bits count digits h = length-pattern digits ∙ right_length count digits h

matches_length : (digits : List Digit) (code : List Bool) → matches digits code ≡ true → length digits ≡ length code
matches_length [] [] h = refl
matches_length [] (bit ∷ code) h = never h
matches_length (digit ∷ digits) [] h = never h
matches_length (digit ∷ digits) (bit ∷ code) h = ap suc (matches_length digits code (second (digit_matches digit bit) (matches digits code) h))
  where
    second : (a b : Bool) → (a && b) ≡ true → b ≡ true
    second true b h = h
    second false b h = never h

-- ---- the code that a reset loads

any_matches_length : (count : ℕ) (patterns : List (List Digit)) (code : List Bool) → list_any (wrong_length count) patterns ≡ false → list_any (λ pattern. matches pattern code) patterns ≡ true → length code ≡ count
any_matches_length count [] code right found = never found
any_matches_length count (pattern ∷ patterns) code right found = by (matches pattern code) refl found (any_matches_length count patterns code rights.1)
  where
    rights : (wrong_length count pattern ≡ false) × (list_any (wrong_length count) patterns ≡ false)
    rights = both_false (wrong_length count pattern) (list_any (wrong_length count) patterns) right

    by : (t : Bool) → matches pattern code ≡ t → (t || list_any (λ p. matches p code) patterns) ≡ true → (list_any (λ p. matches p code) patterns ≡ true → length code ≡ count) → length code ≡ count
    by true h k more = sym (matches_length pattern code h) ∙ right_length count pattern rights.0
    by false h k more = more k

-- an instruction that is found has a pattern as long as the code
first_match_length : (access : List AccessEntry) (count : ℕ) (opcodes : List OpcodeEntry) (code : List Bool) (opcode : Instruction)
    → list_any (λ entry. list_any (wrong_length count) entry.patterns) opcodes ≡ false → first_match (map (opcode_of access) opcodes) code ≡ Some opcode → length code ≡ count
first_match_length access count [] code opcode right found = absurd (let q : None ≡ Some opcode = found in cc)
first_match_length access count (entry ∷ opcodes) code opcode right found = by (list_any (λ pattern. matches pattern code) entry.patterns) refl found (first_match_length access count opcodes code opcode rights.1)
  where
    rights : (list_any (wrong_length count) entry.patterns ≡ false) × (list_any (λ other. list_any (wrong_length count) other.patterns) opcodes ≡ false)
    rights = both_false (list_any (wrong_length count) entry.patterns) (list_any (λ other. list_any (wrong_length count) other.patterns) opcodes) right

    by : (t : Bool) → list_any (λ pattern. matches pattern code) entry.patterns ≡ t → cond t (Some (opcode_of access entry)) (first_match (map (opcode_of access) opcodes) code) ≡ Some opcode
        → (first_match (map (opcode_of access) opcodes) code ≡ Some opcode → length code ≡ count) → length code ≡ count
    by true h k more = any_matches_length count entry.patterns code rights.0 h
    by false h k more = more k

-- a code that selects IDCODE is one of an instruction
selecting_length : (plan : PartAttributes) (code : List Bool) → list_any (λ entry. list_any (wrong_length plan.ir_len) entry.patterns) plan.opcodes ≡ false
    → selects_idcode (selected (part_of plan) code) ≡ true → length code ≡ plan.ir_len
selecting_length plan code right selects = by (list_all (λ bit. bit) code) selects
  where
    found : (o : Option Instruction) → first_match (map (opcode_of plan.access) plan.opcodes) code ≡ o → selects_idcode (register_of o) ≡ true → length code ≡ plan.ir_len
    found None h k = never k
    found (Some opcode) h k = first_match_length plan.access plan.ir_len plan.opcodes code opcode right h

    by : (t : Bool) → selects_idcode (register_of (cond t None (first_match (map (opcode_of plan.access) plan.opcodes) code))) ≡ true → length code ≡ plan.ir_len
    by true k = never k
    by false k = found (first_match (map (opcode_of plan.access) plan.opcodes) code) refl k

-- the identification is selected, where there is one
selects_after_reset : (plan : PartAttributes) (pattern : List Digit) → identification_refusal (Some pattern) plan ≡ None → selects_idcode (selected (part_of plan) (part_of plan).reset_code) ≡ true
selects_after_reset plan pattern h =
    let selects = selects_idcode (selected (part_of plan) (part_of plan).reset_code) in
    let listed = not (has_opcode plan.opcodes (codes "IDCODE")) in
    let odd = not (is_odd (bits_of_pattern pattern)) in
    let none = both_false listed (odd || not selects) (refuse_none (listed || (odd || not selects)) 8 IdcodeRegister h) in
    not-false selects (both_false odd (not selects) none.1).1

reset_length : (plan : PartAttributes) → list_any (λ entry. list_any (wrong_length plan.ir_len) entry.patterns) plan.opcodes ≡ false → identification_refusal plan.idcode plan ≡ None
    → length (part_of plan).reset_code ≡ plan.ir_len
reset_length plan right accepted = by plan.idcode refl
  where
    by : (idcode : Option (List Digit)) → plan.idcode ≡ idcode → length (part_of plan).reset_code ≡ plan.ir_len
    by None e = rw e (length-replicate plan.ir_len true)
    by (Some pattern) e = selecting_length plan (part_of plan).reset_code right (selects_after_reset plan pattern (ap (λ idcode. identification_refusal idcode plan) (sym e) ∙ accepted))

-- ---- all of it

idcode_fits : (idcode : Option (List Digit)) → wrong_option idcode ≡ false → HasBits 32 (pattern_bits idcode)
idcode_fits None h = tt
idcode_fits (Some pattern) h = right_bits 32 pattern h

usercode_fits : (usercode : Option (List Digit)) → wrong_option usercode ≡ false → length (bits_or_zeros usercode) ≡ 32
usercode_fits None h = refl
usercode_fits (Some pattern) h = right_bits 32 pattern h

accepted_sound : (plan : PartAttributes) → plan_refusal plan ≡ None → IsSoundPart (part_of plan)
accepted_sound plan accepted =
    let n = not_refused plan accepted in
    let c = coded plan n.has_codes in
    let selects : (code : List Bool) → IsRegisterOf (part_of plan) (selected (part_of plan) code) = λ code. selected_there plan code n.has_accesses n.has_opcodes in
    let boundary = boundary_within plan n.has_boundary in
    let named = named_within plan n.has_accesses in
    let register_range : (register : Register) → Within 1 65536 (length_of (part_of plan) register) = λ register. register_within (part_of plan) register boundary named in
    let fits_longest = register_covered (part_of plan) in
    record {
      instruction_range = (c.some, c.most);
      captures = length-pattern plan.capture ∙ c.capture;
      reset = reset_length plan c.patterns n.has_identification;
      idcode = idcode_fits plan.idcode c.idcode;
      usercode = usercode_fits plan.usercode c.usercode;
      registers = λ code. has_register (part_of plan) (selected (part_of plan) code) (selects code);
      selects = selects;
      boundary_range = boundary;
      named_range = λ at lt. length_within (part_of plan).named at named;
      register_range = register_range;
      fits_longest = fits_longest;
      width_range = λ code. ((register_range (selected (part_of plan) code)).0, fits_longest (selected (part_of plan) code) (selects code));
      longest_range = longest_is_within (part_of plan) boundary named;
    }

pub part_is_sound : PartsAreSound
part_is_sound part is = subst IsSoundPart (sym is.made) (accepted_sound is.plan is.accepted)

-- Each entry of INSTRUCTION_OPCODE has a pattern.
use Rattle.std.proofs.Common.{◌≡◌, ℕ, ◌==◌, nat_lt, Bool, true, inl, inr, if◌then◌else◌, List, [], ◌∷◌, ◌++◌, length, reverse, Result, Ok, Err, refl, subst, arith, length-append}
use Rattle.std.proofs.lemmas.Bool.{and_parts, and_from, lt-ltb}
use Rattle.bsdl_lex.specs.declared.Token.{Token}
use Rattle.bsdl_lex.specs.Tokens.{is_letter, in_word}
use Rattle.part_model.specs.declared.Digit.{Digit}
use Rattle.part_model.specs.declared.plan.Opcode.{Opcode}
use Rattle.part_model.specs.Plans.{all_have_patterns}
use Rattle.bsdl_read.specs.Contents.{is_space, is_pattern_digit, inside, through, through_all}
use Rattle.bsdl_read.specs.Opcodes.{Entries, at_stage, with_letter, with_digit, with_pattern, with_entry, behind_pattern, behind_name, byte_at, next_byte, is_closed, closed, no_entries, opcodes}
use Rattle.bsdl_read.specs.declared.opcodes.OpcodeStage.{OpcodeStage}
use Rattle.bsdl_read.specs.declared.opcodes.OpcodeStage.TheVariants as stage
use Rattle.bsdl_read.proofs.Spans.{chosen, bound}

-- what each byte keeps, the whole content keeps
through_keeps : {S : Type 0} (step : S → ℕ → Result S ℕ) (P : S → Type 0) → ((state : S) (byte : ℕ) (after : S) → step state byte ≡ Ok after → P state → P after)
    → (state : S) (bytes : List ℕ) (after : S) → through step state bytes ≡ Ok after → P state → P after
through_keeps step P each state [] after is holds = let same : state ≡ after = cc is in subst P same holds
through_keeps step P each state (byte ∷ bytes) after is holds =
    let b = bound (step state byte) (λ next. through step next bytes) after is in
    through_keeps step P each b.0 bytes after b.2 (each state byte b.0 b.1 holds)

all_keeps : {S : Type 0} (step : S → ℕ → Result S ℕ) (P : S → Type 0) → ((state : S) (byte : ℕ) (after : S) → step state byte ≡ Ok after → P state → P after)
    → (text : List ℕ) (state : S) (tokens : List Token) (after : S) → through_all step text state tokens ≡ Ok after → P state → P after
all_keeps step P each text state [] after is holds = let same : state ≡ after = cc is in subst P same holds
all_keeps step P each text state (token ∷ tokens) after is holds =
    let b = bound (through step state (inside text token)) (λ next. through_all step text next tokens) after is in
    all_keeps step P each text b.0 tokens after b.2 (through_keeps step P each state (inside text token) b.0 b.1 holds)

-- ---- the entries

abbrev Patterned : Entries → Type 0
Patterned e = all_have_patterns e.done ≡ true

abbrev fine : Entries → Result Entries ℕ
fine e = Ok e

abbrev departs : Result Entries ℕ
departs = Err 8

kept : (e after : Entries) → fine e ≡ fine after → Patterned e → Patterned after
kept e after is holds = let same : e ≡ after = cc is in subst Patterned same holds

one_more : (done : List Opcode) (name : List ℕ) (patterns : List (List Digit)) (last : List Digit) → all_have_patterns done ≡ true → all_have_patterns (done ++ record { name = name; patterns = patterns ++ last ∷ [] } ∷ []) ≡ true
one_more [] name patterns last holds = and_from (nat_lt 0 (length (patterns ++ last ∷ []))) true (lt-ltb 0 (length (patterns ++ last ∷ [])) (omega (arith, length-append patterns (last ∷ [])))) refl
one_more (opcode ∷ done) name patterns last holds =
    let both = and_parts (nat_lt 0 (length opcode.patterns)) (all_have_patterns done) holds in
    and_from (nat_lt 0 (length opcode.patterns)) (all_have_patterns (done ++ record { name = name; patterns = patterns ++ last ∷ [] } ∷ [])) both.0 (one_more done name patterns last both.1)

name_keeps : (e : Entries) (byte : ℕ) (after : Entries) → behind_name e byte ≡ Ok after → Patterned e → Patterned after
name_keeps e byte after is holds = elim (chosen (is_space byte) _ _ _ is) [
  | inl a ↦ kept (at_stage e stage.Named) after a.1 holds
  | inr b ↦ elim (chosen (byte == 40) _ _ _ b.1) [ inl c ↦ kept (at_stage e stage.Pattern) after c.1 holds | inr d ↦ absurd (cc d.1) ]
]

pattern_keeps : (e : Entries) (byte : ℕ) (after : Entries) → behind_pattern e byte ≡ Ok after → Patterned e → Patterned after
pattern_keeps e byte after is holds = elim (chosen (is_space byte) _ _ _ is) [
  | inl a ↦ kept (at_stage e stage.Joined) after a.1 holds
  | inr b ↦ elim (chosen (byte == 44) _ _ _ b.1) [
    | inl c ↦ kept (with_pattern e) after c.1 holds
    | inr d ↦ elim (chosen (byte == 41) _ _ _ d.1) [
      | inl f ↦ kept (with_entry e) after f.1 (one_more e.done e.name e.patterns (reverse e.digits) holds)
      | inr g ↦ absurd (cc g.1)
    ]
  ]
]

two_tests : (first second : Bool) (e x after : Entries) → (if first then fine e else (if second then fine x else departs)) ≡ fine after → Patterned e → Patterned x → Patterned after
two_tests first second e x after is holds more = elim (chosen first _ _ _ is) [
  | inl a ↦ kept e after a.1 holds
  | inr b ↦ elim (chosen second _ _ _ b.1) [ inl c ↦ kept x after c.1 more | inr d ↦ absurd (cc d.1) ]
]

stage_keeps : (stage : OpcodeStage) (e : Entries) (byte : ℕ) (after : Entries) → byte_at stage e byte ≡ Ok after → Patterned e → Patterned after
stage_keeps stage.Entry e byte after is holds = two_tests (is_space byte) (is_letter byte) e (with_letter e byte) after is holds holds
stage_keeps stage.Name e byte after is holds = elim (chosen (in_word byte) _ _ _ is) [ inl a ↦ kept (with_letter e byte) after a.1 holds | inr b ↦ name_keeps e byte after b.1 holds ]
stage_keeps stage.Named e byte after is holds = name_keeps e byte after is holds
stage_keeps stage.Pattern e byte after is holds = two_tests (is_space byte) (is_pattern_digit byte) e (with_digit e byte) after is holds holds
stage_keeps stage.Digits e byte after is holds = elim (chosen (is_pattern_digit byte) _ _ _ is) [ inl a ↦ kept (with_digit e byte) after a.1 holds | inr b ↦ pattern_keeps e byte after b.1 holds ]
stage_keeps stage.Joined e byte after is holds = pattern_keeps e byte after is holds
stage_keeps stage.Closed e byte after is holds = two_tests (is_space byte) (byte == 44) e (at_stage e stage.Entry) after is holds holds

closed_keeps : (e : Entries) (out : List Opcode) → closed e ≡ Ok out → Patterned e → all_have_patterns out ≡ true
closed_keeps e out is holds = elim (chosen (is_closed e.stage) _ _ _ is) [
  | inl a ↦ let same : e.done ≡ out = cc a.1 in subst (λ (ops : List Opcode). all_have_patterns ops ≡ true) same holds
  | inr b ↦ absurd (cc b.1)
]

pub all_patterned : (text : List ℕ) (tokens : List Token) (out : List Opcode) → opcodes text tokens ≡ Ok out → all_have_patterns out ≡ true
all_patterned text tokens out is =
    let b = bound (through_all next_byte text no_entries tokens) closed out is in
    closed_keeps b.0 out b.2 (all_keeps next_byte Patterned (λ e byte after step holds. stage_keeps e.stage e byte after step holds) text no_entries tokens b.0 b.1 refl)

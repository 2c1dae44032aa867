-- Each content says what its parts say, and is refused where it has none.
use Rattle.std.proofs.Common.{◌≡◌, ℕ, ◌+◌, ◌-◌, ◌*◌, ◌==◌, ◌&&◌, Bool, true, false, if◌then◌else◌, List, [], ◌∷◌, ◌++◌, reverse, Result, Ok, Err, refl, sym, ap, subst, ◌∙◌}
use Rattle.bsdl_lex.specs.declared.Token.{Token}
use Rattle.bsdl_lex.specs.Tokens.{is_letter, in_word}
use Rattle.bsdl_read.specs.Contents.{and_then, is_space, is_pattern_digit, number_from, through}
use Rattle.bsdl_read.specs.Opcodes as o
use Rattle.bsdl_read.specs.declared.opcodes.OpcodeStage.{OpcodeStage}
use Rattle.bsdl_read.specs.declared.opcodes.OpcodeStage.TheVariants as stage
use Rattle.bsdl_read.specs.Patterns as p
use Rattle.bsdl_read.specs.declared.patterns.PatternStage.TheVariants as pattern_stage
use Rattle.bsdl_read.specs.Accesses as a
use Rattle.bsdl_read.specs.ContentGrammar.{content, SaysOpcodes, SaysPattern}
use Rattle.bsdl_read.specs.Laws.{OneContent, OpcodesHaveParts, OpcodesAreRefused, PatternsHaveParts, PatternsAreRefused, AccessesHaveParts, LastDigitIsLowest}
use Rattle.bsdl_read.proofs.Spans.{through-content}
use Rattle.bsdl_read.proofs.OpcodeParts.{opcodes_have_parts, parts_are_opcodes}
use Rattle.bsdl_read.proofs.PatternParts.{pattern_has_parts, parts_are_pattern}
use Rattle.bsdl_read.proofs.AccessParts.{accesses_have_parts, parts_are_accesses}

pub one_content : OneContent
one_content text others tokens more same = record {
  same_opcodes = ap (λ (r : Result o.Entries ℕ). and_then r o.closed) (through-content o.next_byte text o.no_entries tokens ∙ ap (through o.next_byte o.no_entries) same ∙ sym (through-content o.next_byte others o.no_entries more));
  same_accesses = ap (λ (r : Result a.Entries ℕ). and_then r a.closed) (through-content a.next_byte text a.no_entries tokens ∙ ap (through a.next_byte a.no_entries) same ∙ sym (through-content a.next_byte others a.no_entries more));
  same_pattern = λ many. ap (λ (r : Result p.Digits ℕ). and_then r p.closed) (through-content p.next_byte text (p.no_digits many) tokens ∙ ap (through p.next_byte (p.no_digits many)) same ∙ sym (through-content p.next_byte others (p.no_digits many) more));
}

pub opcodes_law : OpcodesHaveParts
opcodes_law text tokens found = (opcodes_have_parts text tokens found, parts_are_opcodes text tokens found)

pub patterns_law : PatternsHaveParts
patterns_law many text tokens found = (pattern_has_parts many text tokens found, parts_are_pattern many text tokens found)

pub accesses_law : AccessesHaveParts
accesses_law text tokens found = (accesses_have_parts text tokens found, parts_are_accesses text tokens found)

-- ---- the cause of a departure

abbrev fine : {A : Type 0} → A → Result A ℕ
fine x = Ok x

-- the refusal, where there is one, has cause 8
abbrev Eight : {A : Type 0} → Result A ℕ → Type 0
Eight (Ok x) = Unit {0}
Eight (Err cause) = cause ≡ 8

either : {A : Type 0} (test : Bool) (x y : Result A ℕ) → Eight x → Eight y → Eight (if test then x else y)
either true x y one other = one
either false x y one other = other

chained : {A B : Type 0} (first : Result A ℕ) (more : A → Result B ℕ) → Eight first → ((x : A) → Eight (more x)) → Eight (and_then first more)
chained (Ok x) more one each = each x
chained (Err cause) more one each = one

through_eight : {S : Type 0} (step : S → ℕ → Result S ℕ) → ((s : S) (byte : ℕ) → Eight (step s byte)) → (s : S) (bytes : List ℕ) → Eight (through step s bytes)
through_eight step each s [] = tt
through_eight step each s (byte ∷ bytes) = chained (step s byte) (λ after. through step after bytes) (each s byte) (λ after. through_eight step each after bytes)

two : {A : Type 0} (a b : Bool) (x y : A) → Eight (if a then fine x else (if b then fine y else Err 8))
two a b x y = either a (fine x) (if b then fine y else Err 8) tt (either b (fine y) (Err 8) tt refl)

behind_pattern_eight : (e : o.Entries) (byte : ℕ) → Eight (o.behind_pattern e byte)
behind_pattern_eight e byte = either (is_space byte) (fine (o.at_stage e stage.Joined)) (if byte == 44 then fine (o.with_pattern e) else (if byte == 41 then fine (o.with_entry e) else Err 8)) tt (two (byte == 44) (byte == 41) (o.with_pattern e) (o.with_entry e))

opcode_eight : (st : OpcodeStage) (e : o.Entries) (byte : ℕ) → Eight (o.byte_at st e byte)
opcode_eight stage.Entry e byte = two (is_space byte) (is_letter byte) e (o.with_letter e byte)
opcode_eight stage.Name e byte = either (in_word byte) (fine (o.with_letter e byte)) (o.behind_name e byte) tt (two (is_space byte) (byte == 40) (o.at_stage e stage.Named) (o.at_stage e stage.Pattern))
opcode_eight stage.Named e byte = two (is_space byte) (byte == 40) (o.at_stage e stage.Named) (o.at_stage e stage.Pattern)
opcode_eight stage.Pattern e byte = two (is_space byte) (is_pattern_digit byte) e (o.with_digit e byte)
opcode_eight stage.Digits e byte = either (is_pattern_digit byte) (fine (o.with_digit e byte)) (o.behind_pattern e byte) tt (behind_pattern_eight e byte)
opcode_eight stage.Joined e byte = behind_pattern_eight e byte
opcode_eight stage.Closed e byte = two (is_space byte) (byte == 44) e (o.at_stage e stage.Entry)

opcodes_eight : (text : List ℕ) (tokens : List Token) → Eight (o.opcodes text tokens)
opcodes_eight text tokens = subst (λ (r : Result o.Entries ℕ). Eight (and_then r o.closed)) (sym (through-content o.next_byte text o.no_entries tokens))
    (chained (through o.next_byte o.no_entries (content text tokens)) o.closed (through_eight o.next_byte (λ e byte. opcode_eight e.stage e byte) o.no_entries (content text tokens))
    (λ e. either (o.is_closed e.stage) (fine e.done) (Err 8) tt refl))

pattern_eight : (many : Bool) (text : List ℕ) (tokens : List Token) → Eight (p.pattern many text tokens)
pattern_eight many text tokens = subst (λ (r : Result p.Digits ℕ). Eight (and_then r p.closed)) (sym (through-content p.next_byte text (p.no_digits many) tokens))
    (chained (through p.next_byte (p.no_digits many) (content text tokens)) p.closed
    (through_eight p.next_byte (λ d byte. either (is_space byte) (fine d) _ tt (two (is_pattern_digit byte) ((byte == 44) && p.may_join d.stage d) (p.digit_at d.stage d byte) (p.at_stage d (pattern_stage.Later false)))) (p.no_digits many) (content text tokens))
    (λ d. either (p.is_closed d.stage d) (fine (reverse d.digits)) (Err 8) tt refl))

-- a result is what is said, or the refusal for cause 8
refused_law : {A : Type 0} (result : Result A ℕ) (Says : A → Type 0) → Eight result → ((found : A) → result ≡ Ok found → Says found) → ((found : A) → Says found → result ≡ Ok found)
    → (cause : ℕ) → (result ≡ Err cause → (cause ≡ 8) × ((found : A) → Says found → ⊥)) × ((cause ≡ 8) × ((found : A) → Says found → ⊥) → result ≡ Err cause)
refused_law {A = A} result Says eight to from cause = (λ is. (subst Eight is eight, λ found says. never found (sym (from found says) ∙ is)), λ both. by result refl eight both.0 both.1)
  where
    never : (found : A) → fine found ≡ Err cause → ⊥
    never found e = absurd (let q : fine found ≡ Err cause = e in cc)

    by : (r : Result A ℕ) → result ≡ r → Eight r → cause ≡ 8 → ((found : A) → Says found → ⊥) → result ≡ Err cause
    by (Ok found) h e is none = absurd (none found (to found h))
    by (Err other) h e is none = h ∙ ap (λ (n : ℕ). Err n) (e ∙ sym is)

pub opcodes_refused : OpcodesAreRefused
opcodes_refused text tokens cause = refused_law (o.opcodes text tokens) (SaysOpcodes (content text tokens)) (opcodes_eight text tokens) (opcodes_have_parts text tokens) (parts_are_opcodes text tokens) cause

pub patterns_refused : PatternsAreRefused
patterns_refused many text tokens cause = refused_law (p.pattern many text tokens) (SaysPattern many (content text tokens)) (pattern_eight many text tokens) (pattern_has_parts many text tokens) (parts_are_pattern many text tokens) cause

-- ---- numbers

further : (value : ℕ) (digits : List ℕ) (last : ℕ) → number_from value (digits ++ last ∷ []) ≡ number_from value digits * 10 + (last - 48)
further value [] last = refl
further value (digit ∷ digits) last = further (value * 10 + (digit - 48)) digits last

pub last_digit : LastDigitIsLowest
last_digit digits last = further 0 digits last

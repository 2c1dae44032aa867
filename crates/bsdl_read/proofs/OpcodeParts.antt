-- The content of INSTRUCTION_OPCODE: what the stages read, by its parts, and back.
use Rattle.std.proofs.Common.{◌≡◌, ℕ, ◌==◌, true, inl, inr, List, [], ◌∷◌, ◌++◌, map, Result, Ok, refl, sym, ap, subst, ◌∙◌, append_assoc}
use Rattle.std.specs.List.{list_all}
use Rattle.std.proofs.lemmas.Bool.{and_parts, and_from, eqb-true}
use Rattle.std.proofs.lemmas.List.{append-nil}
use Rattle.bsdl_lex.specs.declared.Token.{Token}
use Rattle.bsdl_lex.specs.Tokens.{is_letter, in_word}
use Rattle.part_model.specs.declared.Digit.{Digit}
use Rattle.part_model.specs.declared.plan.Opcode.{Opcode}
use Rattle.bsdl_read.specs.Words.{capital}
use Rattle.bsdl_read.specs.Contents.{and_then, is_space, is_pattern_digit, digit_of, through, through_all}
use Rattle.bsdl_read.specs.Opcodes.{Entries, behind_pattern, behind_name, next_byte, closed, with_entries, no_entries, opcodes, BeginsWith, with_whole}
use Rattle.bsdl_read.specs.declared.opcodes.OpcodeStage.{OpcodeStage}
use Rattle.bsdl_read.specs.declared.opcodes.OpcodeStage.TheVariants as stage
use Rattle.bsdl_read.specs.ContentGrammar.{content, Every, are_spaces, Padded, written_padded, IsPadded, is_name, is_pattern, name_of, pattern_of, followed, written_joined, OpcodeText, written_opcode, IsOpcodeText, opcode_of, SaysOpcodes}
use Rattle.bsdl_read.proofs.Spans.{chosen, bound, through-content, every-snoc, passes-snoc, map-snoc, followed-snoc, snoc-append, blank_no_word, blank_no_digit, word_no_blank, letter_no_blank, over_blanks, behind_blanks, run_over, begun, IsBegun, named, more_blanks, padded_more, still_padded}

-- ---- from the stages to the parts

-- the part that is open
data Front : Type 0 where
  AtEntry : (before : List ℕ) → Front
  InName : (before : List ℕ) (first : ℕ) (more : List ℕ) → Front
  BehindName : (name : Padded) → Front
  AtPattern : (name : Padded) (patterns : List Padded) (before : List ℕ) → Front
  InDigits : (name : Padded) (patterns : List Padded) (before : List ℕ) (first : ℕ) (more : List ℕ) → Front
  BehindDigits : (name : Padded) (patterns : List Padded) (last : Padded) → Front
  Ended : (entry : OpcodeText) → Front

-- whole entries, each with a `,` behind it, and the part that is open
record Read : Type 0 where
  entries : List OpcodeText
  front : Front

abbrev parts : List OpcodeText → Front → Read
parts entries front = record { entries = entries; front = front }

abbrev in_list : Padded → List Padded → List ℕ → List ℕ
in_list name patterns rest = written_padded name (40 ∷ followed written_padded patterns rest)

abbrev written_front : Front → List ℕ → List ℕ
written_front (Front.AtEntry before) rest = before ++ rest
written_front (Front.InName before first more) rest = begun before first more rest
written_front (Front.BehindName name) rest = written_padded name rest
written_front (Front.AtPattern name patterns before) rest = in_list name patterns (before ++ rest)
written_front (Front.InDigits name patterns before first more) rest = in_list name patterns (begun before first more rest)
written_front (Front.BehindDigits name patterns last) rest = in_list name patterns (written_padded last rest)
written_front (Front.Ended entry) rest = written_opcode entry rest

abbrev written_read : Read → List ℕ → List ℕ
written_read r rest = followed written_opcode r.entries (written_front r.front rest)

abbrev with_parts : OpcodeStage → List Opcode → List ℕ → List (List Digit) → List Digit → Entries
with_parts stage done name patterns digits = record { stage = stage; done = done; name = name; patterns = patterns; digits = digits }

abbrev state_of : List Opcode → Front → Entries
state_of done (Front.AtEntry before) = with_parts stage.Entry done [] [] []
state_of done (Front.InName before first more) = with_parts stage.Name done (map capital (first ∷ more)) [] []
state_of done (Front.BehindName name) = with_parts stage.Named done (name_of name) [] []
state_of done (Front.AtPattern name patterns before) = with_parts stage.Pattern done (name_of name) (map pattern_of patterns) []
state_of done (Front.InDigits name patterns before first more) = with_parts stage.Digits done (name_of name) (map pattern_of patterns) (map digit_of (first ∷ more))
state_of done (Front.BehindDigits name patterns last) = with_parts stage.Joined done (name_of name) (map pattern_of patterns) (map digit_of last.inside)
state_of done (Front.Ended entry) = with_parts stage.Closed (done ++ opcode_of entry ∷ []) [] [] []

abbrev state : Read → Entries
state r = state_of (map opcode_of r.entries) r.front

record InList (name : Padded) (patterns : List Padded) : Type 0 where
  has_name : IsPadded is_name name
  has_patterns : Every (IsPadded is_pattern) patterns

abbrev IsFront : Front → Type 0
IsFront (Front.AtEntry before) = are_spaces before ≡ true
IsFront (Front.InName before first more) = IsBegun is_letter in_word before first more
IsFront (Front.BehindName name) = IsPadded is_name name
IsFront (Front.AtPattern name patterns before) = InList name patterns × (are_spaces before ≡ true)
IsFront (Front.InDigits name patterns before first more) = InList name patterns × IsBegun is_pattern_digit is_pattern_digit before first more
IsFront (Front.BehindDigits name patterns last) = InList name patterns × IsPadded is_pattern last
IsFront (Front.Ended entry) = IsOpcodeText entry

record IsRead (r : Read) : Type 0 where
  are_entries : Every IsOpcodeText r.entries
  is_front : IsFront r.front

-- one byte leads from parts to parts
record Leads (r : Read) (byte : ℕ) (after : Entries) : Type 0 where
  now : Read
  fine : IsRead now
  is : state now ≡ after
  same : (rest : List ℕ) → written_read r (byte ∷ rest) ≡ written_read now rest

abbrev fine_result : Entries → Result Entries ℕ
fine_result e = Ok e

same_ok : (x y : Entries) → fine_result x ≡ fine_result y → x ≡ y
same_ok x y is = cc is

-- the open part grows
grown : (entries : List OpcodeText) (front next : Front) (byte : ℕ) (after : Entries) → Every IsOpcodeText entries → IsFront next → state_of (map opcode_of entries) next ≡ after
    → ((rest : List ℕ) → written_front front (byte ∷ rest) ≡ written_front next rest) → Leads (parts entries front) byte after
grown entries front next byte after all is_front is same = record {
  now = parts entries next;
  fine = record { are_entries = all; is_front = is_front };
  is = is;
  same = λ rest. ap (followed written_opcode entries) (same rest);
}

name_leads : (entries : List OpcodeText) (front : Front) (st : OpcodeStage) (name : Padded) (byte : ℕ) (after : Entries) → Every IsOpcodeText entries → IsPadded is_name name
    → ((rest : List ℕ) → written_front front rest ≡ written_padded name rest) → behind_name (with_parts st (map opcode_of entries) (name_of name) [] []) byte ≡ Ok after → Leads (parts entries front) byte after
name_leads entries front st name byte after all fine same is = elim (chosen (is_space byte) _ _ _ is) [
  | inl a ↦ grown entries front (Front.BehindName (more_blanks name byte)) byte after all (still_padded is_name name byte fine a.0) (same_ok _ _ a.1) (λ rest. same (byte ∷ rest) ∙ padded_more name byte rest)
  | inr b ↦ elim (chosen (byte == 40) _ _ _ b.1) [
    | inl c ↦ grown entries front (Front.AtPattern name [] []) byte after all (record { has_name = fine; has_patterns = tt }, refl) (same_ok _ _ c.1)
        (λ rest. same (byte ∷ rest) ∙ ap (λ (x : ℕ). written_padded name (x ∷ rest)) (eqb-true byte 40 c.0))
    | inr d ↦ absurd (cc d.1)
  ]
]

pattern_leads : (entries : List OpcodeText) (front : Front) (st : OpcodeStage) (name : Padded) (patterns : List Padded) (last : Padded) (byte : ℕ) (after : Entries) → Every IsOpcodeText entries
    → InList name patterns → IsPadded is_pattern last → ((rest : List ℕ) → written_front front rest ≡ in_list name patterns (written_padded last rest))
    → behind_pattern (with_parts st (map opcode_of entries) (name_of name) (map pattern_of patterns) (map digit_of last.inside)) byte ≡ Ok after → Leads (parts entries front) byte after
pattern_leads entries front st name patterns last byte after all in_it fine same is = elim (chosen (is_space byte) _ _ _ is) [
  | inl a ↦ grown entries front (Front.BehindDigits name patterns (more_blanks last byte)) byte after all (in_it, still_padded is_pattern last byte fine a.0) (same_ok _ _ a.1)
      (λ rest. same (byte ∷ rest) ∙ ap (in_list name patterns) (padded_more last byte rest))
  | inr b ↦ elim (chosen (byte == 44) _ _ _ b.1) [
    | inl c ↦ grown entries front (Front.AtPattern name (patterns ++ last ∷ []) []) byte after all
        (record { has_name = in_it.has_name; has_patterns = every-snoc (IsPadded is_pattern) patterns last in_it.has_patterns fine }, refl)
        (ap (λ (ps : List (List Digit)). with_parts stage.Pattern (map opcode_of entries) (name_of name) ps []) (map-snoc pattern_of patterns last) ∙ same_ok _ _ c.1)
        (λ rest. same (byte ∷ rest) ∙ ap (λ (x : ℕ). in_list name patterns (written_padded last (x ∷ rest))) (eqb-true byte 44 c.0)
        ∙ ap (λ (x : List ℕ). written_padded name (40 ∷ x)) (sym (followed-snoc written_padded patterns last rest)))
    | inr d ↦ elim (chosen (byte == 41) _ _ _ d.1) [
      | inl f ↦ grown entries front (Front.Ended (record { name = name; patterns = record { firsts = patterns; last = last }; behind = [] })) byte after all
          (record { has_name = in_it.has_name; has_patterns = record { each_first = in_it.has_patterns; is_last = fine }; blank_behind = refl }) (same_ok _ _ f.1)
          (λ rest. same (byte ∷ rest) ∙ ap (λ (x : ℕ). in_list name patterns (written_padded last (x ∷ rest))) (eqb-true byte 41 f.0))
      | inr g ↦ absurd (cc g.1)
    ]
  ]
]

front_leads : (entries : List OpcodeText) (front : Front) (byte : ℕ) (after : Entries) → Every IsOpcodeText entries → IsFront front → next_byte (state_of (map opcode_of entries) front) byte ≡ Ok after
    → Leads (parts entries front) byte after
front_leads entries (Front.AtEntry before) byte after all fine is = elim (chosen (is_space byte) _ _ _ is) [
  | inl a ↦ grown entries (Front.AtEntry before) (Front.AtEntry (before ++ byte ∷ [])) byte after all (passes-snoc is_space before byte fine a.0) (same_ok _ _ a.1) (λ rest. snoc-append before byte rest)
  | inr b ↦ elim (chosen (is_letter byte) _ _ _ b.1) [
    | inl c ↦ grown entries (Front.AtEntry before) (Front.InName before byte []) byte after all (fine, c.0, refl) (same_ok _ _ c.1) (λ rest. refl)
    | inr d ↦ absurd (cc d.1)
  ]
]
front_leads entries (Front.InName before first more) byte after all fine is = elim (chosen (in_word byte) _ _ _ is) [
  | inl a ↦ grown entries (Front.InName before first more) (Front.InName before first (more ++ byte ∷ [])) byte after all (fine.0, fine.1, passes-snoc in_word more byte fine.2 a.0)
      (ap (λ (n : List ℕ). with_parts stage.Name (map opcode_of entries) (capital first ∷ n) [] []) (map-snoc capital more byte) ∙ same_ok _ _ a.1)
      (λ rest. ap (λ (x : List ℕ). before ++ (first ∷ x)) (snoc-append more byte rest))
  | inr b ↦ name_leads entries (Front.InName before first more) stage.Name (named before first more) byte after all
      (record { blank_before = fine.0; is_inside = and_from (is_letter first) (list_all in_word more) fine.1 fine.2; blank_behind = refl }) (λ rest. refl) b.1
]
front_leads entries (Front.BehindName name) byte after all fine is = name_leads entries (Front.BehindName name) stage.Named name byte after all fine (λ rest. refl) is
front_leads entries (Front.AtPattern name patterns before) byte after all fine is = elim (chosen (is_space byte) _ _ _ is) [
  | inl a ↦ grown entries (Front.AtPattern name patterns before) (Front.AtPattern name patterns (before ++ byte ∷ [])) byte after all (fine.0, passes-snoc is_space before byte fine.1 a.0) (same_ok _ _ a.1)
      (λ rest. ap (in_list name patterns) (snoc-append before byte rest))
  | inr b ↦ elim (chosen (is_pattern_digit byte) _ _ _ b.1) [
    | inl c ↦ grown entries (Front.AtPattern name patterns before) (Front.InDigits name patterns before byte []) byte after all (fine.0, (fine.1, c.0, refl)) (same_ok _ _ c.1) (λ rest. refl)
    | inr d ↦ absurd (cc d.1)
  ]
]
front_leads entries (Front.InDigits name patterns before first more) byte after all fine is = elim (chosen (is_pattern_digit byte) _ _ _ is) [
  | inl a ↦ grown entries (Front.InDigits name patterns before first more) (Front.InDigits name patterns before first (more ++ byte ∷ [])) byte after all
      (fine.0, (fine.1.0, fine.1.1, passes-snoc is_pattern_digit more byte fine.1.2 a.0))
      (ap (λ (ds : List Digit). with_parts stage.Digits (map opcode_of entries) (name_of name) (map pattern_of patterns) (digit_of first ∷ ds)) (map-snoc digit_of more byte) ∙ same_ok _ _ a.1)
      (λ rest. ap (λ (x : List ℕ). in_list name patterns (before ++ (first ∷ x))) (snoc-append more byte rest))
  | inr b ↦ pattern_leads entries (Front.InDigits name patterns before first more) stage.Digits name patterns (named before first more) byte after all fine.0
      (record { blank_before = fine.1.0; is_inside = and_from (is_pattern_digit first) (list_all is_pattern_digit more) fine.1.1 fine.1.2; blank_behind = refl }) (λ rest. refl) b.1
]
front_leads entries (Front.BehindDigits name patterns last) byte after all fine is = pattern_leads entries (Front.BehindDigits name patterns last) stage.Joined name patterns last byte after all fine.0 fine.1 (λ rest. refl) is
front_leads entries (Front.Ended entry) byte after all fine is = elim (chosen (is_space byte) _ _ _ is) [
  | inl a ↦ grown entries (Front.Ended entry) (Front.Ended (record { name = entry.name; patterns = entry.patterns; behind = entry.behind ++ byte ∷ [] })) byte after all
      (record { has_name = fine.has_name; has_patterns = fine.has_patterns; blank_behind = passes-snoc is_space entry.behind byte fine.blank_behind a.0 }) (same_ok _ _ a.1)
      (λ rest. ap (λ (x : List ℕ). written_padded entry.name (40 ∷ written_joined written_padded entry.patterns (41 ∷ x))) (snoc-append entry.behind byte rest))
  | inr b ↦ elim (chosen (byte == 44) _ _ _ b.1) [
    | inl c ↦ record {
      now = parts (entries ++ entry ∷ []) (Front.AtEntry []);
      fine = record { are_entries = every-snoc IsOpcodeText entries entry all fine; is_front = refl };
      is = ap (λ (done : List Opcode). with_parts stage.Entry done [] [] []) (map-snoc opcode_of entries entry) ∙ same_ok _ _ c.1;
      same = λ rest. ap (λ (x : ℕ). followed written_opcode entries (written_opcode entry (x ∷ rest))) (eqb-true byte 44 c.0) ∙ sym (followed-snoc written_opcode entries entry rest);
    }
    | inr d ↦ absurd (cc d.1)
  ]
]

says_parts : (entries : List OpcodeText) (front : Front) (found : List Opcode) → IsRead (parts entries front) → closed (state (parts entries front)) ≡ Ok found → SaysOpcodes (written_read (parts entries front) []) found
says_parts entries (Front.AtEntry before) found fine is = absurd (cc is)
says_parts entries (Front.InName before first more) found fine is = absurd (cc is)
says_parts entries (Front.BehindName name) found fine is = absurd (cc is)
says_parts entries (Front.AtPattern name patterns before) found fine is = absurd (cc is)
says_parts entries (Front.InDigits name patterns before first more) found fine is = absurd (cc is)
says_parts entries (Front.BehindDigits name patterns last) found fine is = absurd (cc is)
says_parts entries (Front.Ended entry) found fine is =
    record { entries = record { firsts = entries; last = entry }; are = refl; forms = record { each_first = fine.are_entries; is_last = fine.is_front }; says = sym (cc is) }

step_leads : (r : Read) (byte : ℕ) (after : Entries) → IsRead r → next_byte (state r) byte ≡ Ok after → (now : Read) × IsRead now × (state now ≡ after) × ((rest : List ℕ) → written_read r (byte ∷ rest) ≡ written_read now rest)
step_leads r byte after fine is = let l = front_leads r.entries r.front byte after fine.are_entries fine.is_front is in (l.now, l.fine, l.is, l.same)

pub opcodes_have_parts : (text : List ℕ) (tokens : List Token) (found : List Opcode) → opcodes text tokens ≡ Ok found → SaysOpcodes (content text tokens) found
opcodes_have_parts text tokens found is =
    let b = bound (through_all next_byte text no_entries tokens) closed found is in
    let runs = sym (through-content next_byte text no_entries tokens) ∙ b.1 in
    let r = run_over next_byte state written_read IsRead step_leads (content text tokens) (parts [] (Front.AtEntry [])) b.0 (record { are_entries = tt; is_front = refl }) runs in
    subst (λ (bytes : List ℕ). SaysOpcodes bytes found) (sym r.3) (says_parts r.0.entries r.0.front found r.1 (ap closed r.2 ∙ b.2))

-- ---- from the parts to the stages

letters_go : (done : List Opcode) (name more rest : List ℕ) → list_all in_word more ≡ true
    → through next_byte (with_parts stage.Name done name [] []) (more ++ rest) ≡ through next_byte (with_parts stage.Name done (name ++ map capital more) [] []) rest
letters_go done name [] rest all = ap (λ (n : List ℕ). through next_byte (with_parts stage.Name done n [] []) rest) (sym (append-nil name))
letters_go done name (byte ∷ more) rest all =
    let both = and_parts (in_word byte) (list_all in_word more) all in
    rw both.0 (letters_go done (name ++ capital byte ∷ []) more rest both.1 ∙ ap (λ (n : List ℕ). through next_byte (with_parts stage.Name done n [] []) rest) (append_assoc name (capital byte ∷ []) (map capital more)))

word_goes : (done : List Opcode) (word behind rest : List ℕ) → is_name word ≡ true → are_spaces behind ≡ true
    → through next_byte (with_parts stage.Entry done [] [] []) (word ++ (behind ++ 40 ∷ rest)) ≡ through next_byte (with_parts stage.Pattern done (map capital word) [] []) rest
word_goes done [] behind rest is blank = absurd (cc is)
word_goes done (first ∷ more) behind rest is blank =
    let both = and_parts (is_letter first) (list_all in_word more) is in
    rw (letter_no_blank first both.0, both.0) (letters_go done (capital first ∷ []) more (behind ++ 40 ∷ rest) both.1
    ∙ behind_blanks next_byte (with_parts stage.Name done (map capital (first ∷ more)) [] []) (with_parts stage.Named done (map capital (first ∷ more)) [] []) (with_parts stage.Pattern done (map capital (first ∷ more)) [] []) 40
    (λ byte blank_is. rw (blank_no_word byte blank_is, blank_is) refl) (λ byte blank_is. rw blank_is refl) refl refl behind rest blank)

name_goes : (done : List Opcode) (p : Padded) (rest : List ℕ) → IsPadded is_name p
    → through next_byte (with_parts stage.Entry done [] [] []) (written_padded p (40 ∷ rest)) ≡ through next_byte (with_parts stage.Pattern done (name_of p) [] []) rest
name_goes done p rest is =
    over_blanks next_byte (with_parts stage.Entry done [] [] []) (λ byte blank. rw blank refl) p.before (p.inside ++ (p.behind ++ 40 ∷ rest)) is.blank_before ∙ word_goes done p.inside p.behind rest is.is_inside is.blank_behind

digits_go : (done : List Opcode) (name : List ℕ) (patterns : List (List Digit)) (digits : List Digit) (more rest : List ℕ) → list_all is_pattern_digit more ≡ true
    → through next_byte (with_parts stage.Digits done name patterns digits) (more ++ rest) ≡ through next_byte (with_parts stage.Digits done name patterns (digits ++ map digit_of more)) rest
digits_go done name patterns digits [] rest all = ap (λ (ds : List Digit). through next_byte (with_parts stage.Digits done name patterns ds) rest) (sym (append-nil digits))
digits_go done name patterns digits (byte ∷ more) rest all =
    let both = and_parts (is_pattern_digit byte) (list_all is_pattern_digit more) all in
    rw both.0 (digits_go done name patterns (digits ++ digit_of byte ∷ []) more rest both.1
    ∙ ap (λ (ds : List Digit). through next_byte (with_parts stage.Digits done name patterns ds) rest) (append_assoc digits (digit_of byte ∷ []) (map digit_of more)))

-- a pattern, and the sign behind it
sign_goes : (done : List Opcode) (name : List ℕ) (patterns : List (List Digit)) (inside behind : List ℕ) (sign : ℕ) (next : Entries) (rest : List ℕ) → is_pattern inside ≡ true → are_spaces behind ≡ true
    → next_byte (with_parts stage.Digits done name patterns (map digit_of inside)) sign ≡ Ok next → next_byte (with_parts stage.Joined done name patterns (map digit_of inside)) sign ≡ Ok next
    → through next_byte (with_parts stage.Pattern done name patterns []) (inside ++ (behind ++ sign ∷ rest)) ≡ through next_byte next rest
sign_goes done name patterns [] behind sign next rest is blank from_digits from_joined = absurd (cc is)
sign_goes done name patterns (first ∷ more) behind sign next rest is blank from_digits from_joined =
    let both = and_parts (is_pattern_digit first) (list_all is_pattern_digit more) is in
    rw (word_no_blank first is_pattern_digit blank_no_digit both.0, both.0) (digits_go done name patterns (digit_of first ∷ []) more (behind ++ sign ∷ rest) both.1
    ∙ behind_blanks next_byte (with_parts stage.Digits done name patterns (map digit_of (first ∷ more))) (with_parts stage.Joined done name patterns (map digit_of (first ∷ more))) next sign
    (λ byte blank_is. rw (blank_no_digit byte blank_is, blank_is) refl) (λ byte blank_is. rw blank_is refl) from_digits from_joined behind rest blank)

pattern_goes : (done : List Opcode) (name : List ℕ) (patterns : List (List Digit)) (p : Padded) (sign : ℕ) (next : Entries) (rest : List ℕ) → IsPadded is_pattern p
    → next_byte (with_parts stage.Digits done name patterns (map digit_of p.inside)) sign ≡ Ok next → next_byte (with_parts stage.Joined done name patterns (map digit_of p.inside)) sign ≡ Ok next
    → through next_byte (with_parts stage.Pattern done name patterns []) (written_padded p (sign ∷ rest)) ≡ through next_byte next rest
pattern_goes done name patterns p sign next rest is from_digits from_joined =
    over_blanks next_byte (with_parts stage.Pattern done name patterns []) (λ byte blank. rw blank refl) p.before (p.inside ++ (p.behind ++ sign ∷ rest)) is.blank_before
    ∙ sign_goes done name patterns p.inside p.behind sign next rest is.is_inside is.blank_behind from_digits from_joined

patterns_go : (done : List Opcode) (name : List ℕ) (patterns : List (List Digit)) (firsts : List Padded) (rest : List ℕ) → Every (IsPadded is_pattern) firsts
    → through next_byte (with_parts stage.Pattern done name patterns []) (followed written_padded firsts rest) ≡ through next_byte (with_parts stage.Pattern done name (patterns ++ map pattern_of firsts) []) rest
patterns_go done name patterns [] rest each = ap (λ (ps : List (List Digit)). through next_byte (with_parts stage.Pattern done name ps []) rest) (sym (append-nil patterns))
patterns_go done name patterns (p ∷ firsts) rest each =
    pattern_goes done name patterns p 44 (with_parts stage.Pattern done name (patterns ++ pattern_of p ∷ []) []) (followed written_padded firsts rest) each.0 refl refl
    ∙ patterns_go done name (patterns ++ pattern_of p ∷ []) firsts rest each.1
    ∙ ap (λ (ps : List (List Digit)). through next_byte (with_parts stage.Pattern done name ps []) rest) (append_assoc patterns (pattern_of p ∷ []) (map pattern_of firsts))

entry_goes : (done : List Opcode) (o : OpcodeText) (rest : List ℕ) → IsOpcodeText o
    → through next_byte (with_parts stage.Entry done [] [] []) (written_opcode o rest) ≡ through next_byte (with_parts stage.Closed (done ++ opcode_of o ∷ []) [] [] []) rest
entry_goes done o rest is =
    name_goes done o.name (written_joined written_padded o.patterns (41 ∷ o.behind ++ rest)) is.has_name
    ∙ patterns_go done (name_of o.name) [] o.patterns.firsts (written_padded o.patterns.last (41 ∷ o.behind ++ rest)) is.has_patterns.each_first
    ∙ pattern_goes done (name_of o.name) (map pattern_of o.patterns.firsts) o.patterns.last 41 (with_parts stage.Closed (done ++ opcode_of o ∷ []) [] [] []) (o.behind ++ rest) is.has_patterns.is_last refl refl
    ∙ over_blanks next_byte (with_parts stage.Closed (done ++ opcode_of o ∷ []) [] [] []) (λ byte blank. rw blank refl) o.behind rest is.blank_behind

-- an entry that stands whole in a text
whole_goes : (done : List Opcode) (bytes name digits behind : List ℕ) → BeginsWith bytes name digits behind
    → through next_byte (with_whole (with_entries done) name digits) behind ≡ through next_byte (with_entries done) bytes
whole_goes done bytes name digits behind begins = sym (ap (through next_byte (with_entries done)) begins.are ∙ entry_goes done entry behind is_entry)
  where
    entry : OpcodeText
    entry = record {
      name = record { before = []; inside = name; behind = begins.blanks };
      patterns = record { firsts = []; last = record { before = []; inside = digits; behind = [] } };
      behind = [];
    }

    is_entry : IsOpcodeText entry
    is_entry = record {
      has_name = record { blank_before = refl; is_inside = begins.has_name; blank_behind = begins.are_blank };
      has_patterns = record { each_first = tt; is_last = record { blank_before = refl; is_inside = begins.has_digits; blank_behind = refl } };
      blank_behind = refl;
    }

pub whole_is_read : (e after : Entries) (bytes name digits behind : List ℕ) → e ≡ with_entries e.done → fine_result (with_whole e name digits) ≡ fine_result after → BeginsWith bytes name digits behind
    → through next_byte after behind ≡ through next_byte e bytes
whole_is_read e after bytes name digits behind between leads begins =
    ap (λ (x : Entries). through next_byte x behind) (sym (same_ok _ _ leads) ∙ ap (λ (x : Entries). with_whole x name digits) between)
    ∙ whole_goes e.done bytes name digits behind begins
    ∙ ap (λ (x : Entries). through next_byte x bytes) (sym between)

entries_go : (done : List Opcode) (firsts : List OpcodeText) (rest : List ℕ) → Every IsOpcodeText firsts
    → through next_byte (with_parts stage.Entry done [] [] []) (followed written_opcode firsts rest) ≡ through next_byte (with_parts stage.Entry (done ++ map opcode_of firsts) [] [] []) rest
entries_go done [] rest each = ap (λ (d : List Opcode). through next_byte (with_parts stage.Entry d [] [] []) rest) (sym (append-nil done))
entries_go done (o ∷ firsts) rest each =
    entry_goes done o (44 ∷ followed written_opcode firsts rest) each.0
    ∙ entries_go (done ++ opcode_of o ∷ []) firsts rest each.1
    ∙ ap (λ (d : List Opcode). through next_byte (with_parts stage.Entry d [] [] []) rest) (append_assoc done (opcode_of o ∷ []) (map opcode_of firsts))

pub parts_are_opcodes : (text : List ℕ) (tokens : List Token) (found : List Opcode) → SaysOpcodes (content text tokens) found → opcodes text tokens ≡ Ok found
parts_are_opcodes text tokens found says =
    ap (λ (r : Result Entries ℕ). and_then r closed)
    (through-content next_byte text no_entries tokens ∙ ap (through next_byte no_entries) says.are ∙ entries_go [] says.entries.firsts (written_opcode says.entries.last []) says.forms.each_first
    ∙ entry_goes (map opcode_of says.entries.firsts) says.entries.last [] says.forms.is_last)
    ∙ ap (λ (f : List Opcode). opcodes_found f) (sym says.says)
  where
    opcodes_found : List Opcode → Result (List Opcode) ℕ
    opcodes_found f = Ok f

-- The content of REGISTER_ACCESS: what the stages read, by its parts, and back.
use Rattle.std.proofs.Common.{◌≡◌, ℕ, ◌==◌, nat_lt, ◌&&◌, not, Bool, true, false, ◌⊎◌, inl, inr, if◌then◌else◌, length, List, [], ◌∷◌, ◌++◌, map, Result, Ok, Err, refl, sym, ap, subst, ◌∙◌, append_assoc}
use Rattle.std.specs.Prelude.{codes}
use Rattle.std.specs.declared.option.Option.{Option}
use Rattle.std.specs.declared.option.Option.TheVariants.{Some, None}
use Rattle.std.specs.List.{list_all}
use Rattle.std.proofs.lemmas.Bool.{and_parts, and_from, eqb-true, not-true}
use Rattle.std.proofs.lemmas.List.{append-nil}
use Rattle.bsdl_lex.specs.declared.Token.{Token}
use Rattle.bsdl_lex.specs.Tokens.{is_letter, is_digit, in_word}
use Rattle.part_model.specs.declared.plan.Access.{Access}
use Rattle.bsdl_read.specs.Words.{capital, same_word}
use Rattle.bsdl_read.specs.Contents.{and_then, is_space, is_short, number_from, through, through_all}
use Rattle.bsdl_read.specs.Accesses.{Entries, with_number, behind_register, behind_number, behind_name, next_byte, closed, no_entries, accesses, word_cause, name_cause, with_digit}
use Rattle.bsdl_read.specs.declared.accesses.AccessStage.{AccessStage}
use Rattle.bsdl_read.specs.declared.accesses.AccessStage.TheVariants as stage
use Rattle.bsdl_read.specs.ContentGrammar.{content, Every, are_spaces, Padded, written_padded, IsPadded, is_name, name_of, followed, written_joined, LengthText, written_length, IsLengthText, MayHaveLength, length_of, AccessText, written_access, is_instruction, IsAccessText, access_of, SaysAccesses, LeftOut, NamesLeftOut}
use Rattle.bsdl_read.proofs.Spans.{chosen, bound, through-content, every-snoc, passes-snoc, map-snoc, followed-snoc, snoc-append, blank_no_word, blank_no_number, word_no_blank, letter_no_blank, over_blanks, behind_blanks, run_over, run_stops, begun, IsBegun, named, more_blanks, padded_more, still_padded}

-- ---- from the stages to the parts

-- the part that is open; a word behind a name is never whole
data Front : Type 0 where
  AtEntry : (before : List ℕ) → Front
  InRegister : (before : List ℕ) (first : ℕ) (more : List ℕ) → Front
  BehindRegister : (register : Padded) → Front
  AtNumber : (register : Padded) (before : List ℕ) → Front
  InNumber : (register : Padded) (before : List ℕ) (first : ℕ) (more : List ℕ) → Front
  BehindNumber : (register number : Padded) → Front
  Bracketed : (register : Padded) (length : LengthText) → Front
  AtName : (register : Padded) (length : Option LengthText) (names : List Padded) (before : List ℕ) → Front
  InName : (register : Padded) (length : Option LengthText) (names : List Padded) (before : List ℕ) (first : ℕ) (more : List ℕ) → Front
  BehindName : (register : Padded) (length : Option LengthText) (names : List Padded) (last : Padded) → Front
  InWord : (front : Front) (word : List ℕ) → Front
  Ended : (entry : AccessText) → Front

-- whole entries, each with a `,` behind it, and the part that is open
record Read : Type 0 where
  entries : List AccessText
  front : Front

abbrev parts : List AccessText → Front → Read
parts entries front = record { entries = entries; front = front }

abbrev in_list : Padded → Option LengthText → List Padded → List ℕ → List ℕ
in_list register length names rest = written_padded register (written_length length (40 ∷ followed written_padded names rest))

abbrev written_front : Front → List ℕ → List ℕ
written_front (Front.AtEntry before) rest = before ++ rest
written_front (Front.InRegister before first more) rest = begun before first more rest
written_front (Front.BehindRegister register) rest = written_padded register rest
written_front (Front.AtNumber register before) rest = written_padded register (91 ∷ before ++ rest)
written_front (Front.InNumber register before first more) rest = written_padded register (91 ∷ begun before first more rest)
written_front (Front.BehindNumber register number) rest = written_padded register (91 ∷ written_padded number rest)
written_front (Front.Bracketed register length) rest = written_padded register (written_length (Some length) rest)
written_front (Front.AtName register length names before) rest = in_list register length names (before ++ rest)
written_front (Front.InName register length names before first more) rest = in_list register length names (begun before first more rest)
written_front (Front.BehindName register length names last) rest = in_list register length names (written_padded last rest)
written_front (Front.InWord front word) rest = written_front front (word ++ rest)
written_front (Front.Ended entry) rest = written_access entry rest

abbrev written_read : Read → List ℕ → List ℕ
written_read r rest = followed written_access r.entries (written_front r.front rest)

abbrev pub with_parts : AccessStage → List Access → List ℕ → Option ℕ → List ℕ → List ℕ → List (List ℕ) → Entries
with_parts stage done register length number name instructions = record { stage = stage; done = done; register = register; length = length; number = number; name = name; instructions = instructions }

abbrev worded : Entries → List ℕ → Entries
worded e word = record e { stage = stage.Word; name = map capital word }

abbrev state_of : List Access → Front → Entries
state_of done (Front.AtEntry before) = with_parts stage.Entry done [] None [] [] []
state_of done (Front.InRegister before first more) = with_parts stage.Register done (map capital (first ∷ more)) None [] [] []
state_of done (Front.BehindRegister register) = with_parts stage.Registered done (name_of register) None [] [] []
state_of done (Front.AtNumber register before) = with_parts stage.Open done (name_of register) None [] [] []
state_of done (Front.InNumber register before first more) = with_parts stage.Number done (name_of register) None (first ∷ more) [] []
state_of done (Front.BehindNumber register number) = with_parts stage.Numbered done (name_of register) (Some (number_from 0 number.inside)) [] [] []
state_of done (Front.Bracketed register length) = with_parts stage.Bracketed done (name_of register) (length_of (Some length)) [] [] []
state_of done (Front.AtName register length names before) = with_parts stage.Instruction done (name_of register) (length_of length) [] [] (map name_of names)
state_of done (Front.InName register length names before first more) = with_parts stage.Name done (name_of register) (length_of length) [] (map capital (first ∷ more)) (map name_of names)
state_of done (Front.BehindName register length names last) = with_parts stage.Named done (name_of register) (length_of length) [] (name_of last) (map name_of names)
state_of done (Front.InWord front word) = worded (state_of done front) word
state_of done (Front.Ended entry) = with_parts stage.Closed (done ++ access_of entry ∷ []) [] None [] [] []

abbrev state : Read → Entries
state r = state_of (map access_of r.entries) r.front

record InList (register : Padded) (length : Option LengthText) (names : List Padded) : Type 0 where
  has_register : IsPadded is_name register
  has_length : MayHaveLength length
  has_names : Every (IsPadded is_instruction) names

-- a name stands last
abbrev IsBehind : Front → Type 0
IsBehind (Front.BehindRegister register) = Unit {0}
IsBehind (Front.BehindName register length names last) = Unit {0}
IsBehind _ = ⊥

abbrev IsFront : Front → Type 0
IsFront (Front.AtEntry before) = are_spaces before ≡ true
IsFront (Front.InRegister before first more) = IsBegun is_letter in_word before first more
IsFront (Front.BehindRegister register) = IsPadded is_name register
IsFront (Front.AtNumber register before) = IsPadded is_name register × (are_spaces before ≡ true)
IsFront (Front.InNumber register before first more) = IsPadded is_name register × (are_spaces before ≡ true)
IsFront (Front.BehindNumber register number) = IsPadded is_name register × IsPadded is_short number
IsFront (Front.Bracketed register length) = IsPadded is_name register × IsLengthText length
IsFront (Front.AtName register length names before) = InList register length names × (are_spaces before ≡ true)
IsFront (Front.InName register length names before first more) = InList register length names × IsBegun is_letter in_word before first more
IsFront (Front.BehindName register length names last) = InList register length names × IsPadded is_instruction last
IsFront (Front.InWord front word) = IsFront front × IsBehind front
IsFront (Front.Ended entry) = IsAccessText entry

record IsRead (r : Read) : Type 0 where
  are_entries : Every IsAccessText r.entries
  is_front : IsFront r.front

-- one byte leads from parts to parts
record Leads (r : Read) (byte : ℕ) (after : Entries) : Type 0 where
  now : Read
  fine : IsRead now
  is : state now ≡ after
  same : (rest : List ℕ) → written_read r (byte ∷ rest) ≡ written_read now rest

abbrev fine_result : Entries → Result Entries ℕ
fine_result e = Ok e

same_ok : (x y : Entries) → fine_result x ≡ fine_result y → x ≡ y
same_ok x y is = cc is

-- the open part grows
grown : (entries : List AccessText) (front next : Front) (byte : ℕ) (after : Entries) → Every IsAccessText entries → IsFront next → state_of (map access_of entries) next ≡ after
    → ((rest : List ℕ) → written_front front (byte ∷ rest) ≡ written_front next rest) → Leads (parts entries front) byte after
grown entries front next byte after all is_front is same = record {
  now = parts entries next;
  fine = record { are_entries = all; is_front = is_front };
  is = is;
  same = λ rest. ap (followed written_access entries) (same rest);
}

is_named : (before : List ℕ) (first : ℕ) (more : List ℕ) → IsBegun is_letter in_word before first more → IsPadded is_name (named before first more)
is_named before first more fine = record { blank_before = fine.0; is_inside = and_from (is_letter first) (list_all in_word more) fine.1 fine.2; blank_behind = refl }

register_leads : (entries : List AccessText) (front : Front) (st : AccessStage) (register : Padded) (byte : ℕ) (after : Entries) → Every IsAccessText entries → IsPadded is_name register
    → ((rest : List ℕ) → written_front front rest ≡ written_padded register rest)
    → behind_register (with_parts st (map access_of entries) (name_of register) None [] [] []) byte ≡ Ok after → Leads (parts entries front) byte after
register_leads entries front st register byte after all fine same is = elim (chosen (is_space byte) _ _ _ is) [
  | inl a ↦ grown entries front (Front.BehindRegister (more_blanks register byte)) byte after all (still_padded is_name register byte fine a.0) (same_ok _ _ a.1) (λ rest. same (byte ∷ rest) ∙ padded_more register byte rest)
  | inr b ↦ elim (chosen (byte == 91) _ _ _ b.1) [
    | inl c ↦ grown entries front (Front.AtNumber register []) byte after all (fine, refl) (same_ok _ _ c.1) (λ rest. same (byte ∷ rest) ∙ ap (λ (x : ℕ). written_padded register (x ∷ rest)) (eqb-true byte 91 c.0))
    | inr d ↦ elim (chosen (byte == 40) _ _ _ d.1) [
      | inl e ↦ grown entries front (Front.AtName register None [] []) byte after all (record { has_register = fine; has_length = tt; has_names = tt }, refl) (same_ok _ _ e.1)
          (λ rest. same (byte ∷ rest) ∙ ap (λ (x : ℕ). written_padded register (x ∷ rest)) (eqb-true byte 40 e.0))
      | inr f ↦ elim (chosen (is_letter byte) _ _ _ f.1) [
        | inl g ↦ grown entries front (Front.InWord (Front.BehindRegister register) (byte ∷ [])) byte after all (fine, tt) (same_ok _ _ g.1) (λ rest. same (byte ∷ rest))
        | inr h ↦ absurd (cc h.1)
      ]
    ]
  ]
]

-- the number is whole
number_ok : (e : Entries) (next : AccessStage) (after : Entries) → with_number e next ≡ Ok after → (is_short e.number ≡ true) × (record e { stage = next; length = Some (number_from 0 e.number); number = [] } ≡ after)
number_ok e next after is = by (is_short e.number) refl
  where
    by : (t : Bool) → is_short e.number ≡ t → (is_short e.number ≡ true) × (record e { stage = next; length = Some (number_from 0 e.number); number = [] } ≡ after)
    by true h = (h, same_ok _ _ (sym (rw h refl) ∙ is))
    by false h = absurd (let q : with_number e next ≡ Err 8 = rw h refl in cc (sym q ∙ is))

number_leads : (entries : List AccessText) (register : Padded) (before : List ℕ) (first : ℕ) (more : List ℕ) (byte : ℕ) (after : Entries) → Every IsAccessText entries → IsPadded is_name register → are_spaces before ≡ true
    → behind_number (with_parts stage.Number (map access_of entries) (name_of register) None (first ∷ more) [] []) byte ≡ Ok after → Leads (parts entries (Front.InNumber register before first more)) byte after
number_leads entries register before first more byte after all fine blank is = elim (chosen (is_space byte) _ _ _ is) [
  | inl a ↦
      let n = number_ok (with_parts stage.Number (map access_of entries) (name_of register) None (first ∷ more) [] []) stage.Numbered after a.1 in
      grown entries (Front.InNumber register before first more) (Front.BehindNumber register (more_blanks (named before first more) byte)) byte after all
      (fine, record { blank_before = blank; is_inside = n.0; blank_behind = passes-snoc is_space [] byte refl a.0 }) n.1 (λ rest. refl)
  | inr b ↦ elim (chosen (byte == 93) _ _ _ b.1) [
    | inl c ↦
        let n = number_ok (with_parts stage.Number (map access_of entries) (name_of register) None (first ∷ more) [] []) stage.Bracketed after c.1 in
        grown entries (Front.InNumber register before first more) (Front.Bracketed register (record { number = named before first more; behind = [] })) byte after all
        (fine, record { has_number = record { blank_before = blank; is_inside = n.0; blank_behind = refl }; blank_behind = refl }) n.1
        (λ rest. ap (λ (x : ℕ). written_padded register (91 ∷ written_padded (named before first more) (x ∷ rest))) (eqb-true byte 93 c.0))
    | inr d ↦ absurd (cc d.1)
  ]
]

name_leads : (entries : List AccessText) (front : Front) (st : AccessStage) (register : Padded) (length : Option LengthText) (names : List Padded) (last : Padded) (byte : ℕ) (after : Entries) → Every IsAccessText entries
    → InList register length names → IsPadded is_instruction last
    → ((rest : List ℕ) → written_front front rest ≡ in_list register length names (written_padded last rest))
    → behind_name (with_parts st (map access_of entries) (name_of register) (length_of length) [] (name_of last) (map name_of names)) byte ≡ Ok after → Leads (parts entries front) byte after
name_leads entries front st register length names last byte after all in_it fine same is = elim (chosen (is_space byte) _ _ _ is) [
  | inl a ↦ grown entries front (Front.BehindName register length names (more_blanks last byte)) byte after all (in_it, still_padded is_instruction last byte fine a.0) (same_ok _ _ a.1)
      (λ rest. same (byte ∷ rest) ∙ ap (in_list register length names) (padded_more last byte rest))
  | inr b ↦ elim (chosen (byte == 44) _ _ _ b.1) [
    | inl c ↦ grown entries front (Front.AtName register length (names ++ last ∷ []) []) byte after all
        (record { has_register = in_it.has_register; has_length = in_it.has_length; has_names = every-snoc (IsPadded is_instruction) names last in_it.has_names fine }, refl)
        (ap (λ (ns : List (List ℕ)). with_parts stage.Instruction (map access_of entries) (name_of register) (length_of length) [] [] ns) (map-snoc name_of names last) ∙ same_ok _ _ c.1)
        (λ rest. same (byte ∷ rest) ∙ ap (λ (x : ℕ). in_list register length names (written_padded last (x ∷ rest))) (eqb-true byte 44 c.0)
        ∙ ap (λ (x : List ℕ). written_padded register (written_length length (40 ∷ x))) (sym (followed-snoc written_padded names last rest)))
    | inr d ↦ elim (chosen (byte == 41) _ _ _ d.1) [
      | inl f ↦ grown entries front (Front.Ended (record { register = register; length = length; instructions = record { firsts = names; last = last }; behind = [] })) byte after all
          (record { has_register = in_it.has_register; has_length = in_it.has_length; has_instructions = record { each_first = in_it.has_names; is_last = fine }; blank_behind = refl }) (same_ok _ _ f.1)
          (λ rest. same (byte ∷ rest) ∙ ap (λ (x : ℕ). in_list register length names (written_padded last (x ∷ rest))) (eqb-true byte 41 f.0))
      | inr g ↦ elim (chosen (is_letter byte) _ _ _ g.1) [
        | inl h ↦ grown entries front (Front.InWord (Front.BehindName register length names last) (byte ∷ [])) byte after all ((in_it, fine), tt) (same_ok _ _ h.1) (λ rest. same (byte ∷ rest))
        | inr k ↦ absurd (cc k.1)
      ]
    ]
  ]
]

front_leads : (entries : List AccessText) (front : Front) (byte : ℕ) (after : Entries) → Every IsAccessText entries → IsFront front → next_byte (state_of (map access_of entries) front) byte ≡ Ok after
    → Leads (parts entries front) byte after
front_leads entries (Front.AtEntry before) byte after all fine is = elim (chosen (is_space byte) _ _ _ is) [
  | inl a ↦ grown entries (Front.AtEntry before) (Front.AtEntry (before ++ byte ∷ [])) byte after all (passes-snoc is_space before byte fine a.0) (same_ok _ _ a.1) (λ rest. snoc-append before byte rest)
  | inr b ↦ elim (chosen (is_letter byte) _ _ _ b.1) [
    | inl c ↦ grown entries (Front.AtEntry before) (Front.InRegister before byte []) byte after all (fine, c.0, refl) (same_ok _ _ c.1) (λ rest. refl)
    | inr d ↦ absurd (cc d.1)
  ]
]
front_leads entries (Front.InRegister before first more) byte after all fine is = elim (chosen (in_word byte) _ _ _ is) [
  | inl a ↦ grown entries (Front.InRegister before first more) (Front.InRegister before first (more ++ byte ∷ [])) byte after all (fine.0, fine.1, passes-snoc in_word more byte fine.2 a.0)
      (ap (λ (n : List ℕ). with_parts stage.Register (map access_of entries) (capital first ∷ n) None [] [] []) (map-snoc capital more byte) ∙ same_ok _ _ a.1)
      (λ rest. ap (λ (x : List ℕ). before ++ (first ∷ x)) (snoc-append more byte rest))
  | inr b ↦ register_leads entries (Front.InRegister before first more) stage.Register (named before first more) byte after all (is_named before first more fine) (λ rest. refl) b.1
]
front_leads entries (Front.BehindRegister register) byte after all fine is = register_leads entries (Front.BehindRegister register) stage.Registered register byte after all fine (λ rest. refl) is
front_leads entries (Front.AtNumber register before) byte after all fine is = elim (chosen (is_space byte) _ _ _ is) [
  | inl a ↦ grown entries (Front.AtNumber register before) (Front.AtNumber register (before ++ byte ∷ [])) byte after all (fine.0, passes-snoc is_space before byte fine.1 a.0) (same_ok _ _ a.1)
      (λ rest. ap (λ (x : List ℕ). written_padded register (91 ∷ x)) (snoc-append before byte rest))
  | inr b ↦ elim (chosen (is_digit byte) _ _ _ b.1) [
    | inl c ↦ grown entries (Front.AtNumber register before) (Front.InNumber register before byte []) byte after all fine (same_ok _ _ c.1) (λ rest. refl)
    | inr d ↦ absurd (cc d.1)
  ]
]
front_leads entries (Front.InNumber register before first more) byte after all fine is = elim (chosen (is_digit byte) _ _ _ is) [
  | inl a ↦ grown entries (Front.InNumber register before first more) (Front.InNumber register before first (more ++ byte ∷ [])) byte after all fine (same_ok _ _ a.1)
      (λ rest. ap (λ (x : List ℕ). written_padded register (91 ∷ before ++ (first ∷ x))) (snoc-append more byte rest))
  | inr b ↦ number_leads entries register before first more byte after all fine.0 fine.1 b.1
]
front_leads entries (Front.BehindNumber register number) byte after all fine is = elim (chosen (is_space byte) _ _ _ is) [
  | inl a ↦ grown entries (Front.BehindNumber register number) (Front.BehindNumber register (more_blanks number byte)) byte after all (fine.0, still_padded is_short number byte fine.1 a.0) (same_ok _ _ a.1)
      (λ rest. ap (λ (x : List ℕ). written_padded register (91 ∷ x)) (padded_more number byte rest))
  | inr b ↦ elim (chosen (byte == 93) _ _ _ b.1) [
    | inl c ↦ grown entries (Front.BehindNumber register number) (Front.Bracketed register (record { number = number; behind = [] })) byte after all (fine.0, record { has_number = fine.1; blank_behind = refl }) (same_ok _ _ c.1)
        (λ rest. ap (λ (x : ℕ). written_padded register (91 ∷ written_padded number (x ∷ rest))) (eqb-true byte 93 c.0))
    | inr d ↦ absurd (cc d.1)
  ]
]
front_leads entries (Front.Bracketed register length) byte after all fine is = elim (chosen (is_space byte) _ _ _ is) [
  | inl a ↦ grown entries (Front.Bracketed register length) (Front.Bracketed register (record { number = length.number; behind = length.behind ++ byte ∷ [] })) byte after all
      (fine.0, record { has_number = fine.1.has_number; blank_behind = passes-snoc is_space length.behind byte fine.1.blank_behind a.0 }) (same_ok _ _ a.1)
      (λ rest. ap (λ (x : List ℕ). written_padded register (91 ∷ written_padded length.number (93 ∷ x))) (snoc-append length.behind byte rest))
  | inr b ↦ elim (chosen (byte == 40) _ _ _ b.1) [
    | inl c ↦ grown entries (Front.Bracketed register length) (Front.AtName register (Some length) [] []) byte after all (record { has_register = fine.0; has_length = fine.1; has_names = tt }, refl) (same_ok _ _ c.1)
        (λ rest. ap (λ (x : ℕ). written_padded register (written_length (Some length) (x ∷ rest))) (eqb-true byte 40 c.0))
    | inr d ↦ absurd (cc d.1)
  ]
]
front_leads entries (Front.AtName register length names before) byte after all fine is = elim (chosen (is_space byte) _ _ _ is) [
  | inl a ↦ grown entries (Front.AtName register length names before) (Front.AtName register length names (before ++ byte ∷ [])) byte after all (fine.0, passes-snoc is_space before byte fine.1 a.0) (same_ok _ _ a.1)
      (λ rest. ap (in_list register length names) (snoc-append before byte rest))
  | inr b ↦ elim (chosen (is_letter byte) _ _ _ b.1) [
    | inl c ↦ grown entries (Front.AtName register length names before) (Front.InName register length names before byte []) byte after all (fine.0, (fine.1, c.0, refl)) (same_ok _ _ c.1) (λ rest. refl)
    | inr d ↦ absurd (cc d.1)
  ]
]
front_leads entries (Front.InName register length names before first more) byte after all fine is = elim (chosen (in_word byte) _ _ _ is) [
  | inl a ↦ grown entries (Front.InName register length names before first more) (Front.InName register length names before first (more ++ byte ∷ [])) byte after all
      (fine.0, (fine.1.0, fine.1.1, passes-snoc in_word more byte fine.1.2 a.0))
      (ap (λ (n : List ℕ). with_parts stage.Name (map access_of entries) (name_of register) (length_of length) [] (capital first ∷ n) (map name_of names)) (map-snoc capital more byte) ∙ same_ok _ _ a.1)
      (λ rest. ap (λ (x : List ℕ). in_list register length names (before ++ (first ∷ x))) (snoc-append more byte rest))
  | inr b ↦ elim (chosen (same_word (map capital (first ∷ more)) (codes "RUNBIST")) _ _ _ b.1) [
    | inl c ↦ absurd (cc c.1)
    | inr d ↦
        let p = is_named before first more fine.1 in
        name_leads entries (Front.InName register length names before first more) stage.Name register length names (named before first more) byte after all fine.0
        (record { blank_before = p.blank_before; is_inside = and_from (is_name (first ∷ more)) (not (same_word (map capital (first ∷ more)) (codes "RUNBIST"))) p.is_inside (rw d.0 refl); blank_behind = refl }) (λ rest. refl) d.1
  ]
]
front_leads entries (Front.BehindName register length names last) byte after all fine is = name_leads entries (Front.BehindName register length names last) stage.Named register length names last byte after all fine.0 fine.1 (λ rest. refl) is
front_leads entries (Front.InWord front word) byte after all fine is = elim (chosen (in_word byte) _ _ _ is) [
  | inl a ↦ grown entries (Front.InWord front word) (Front.InWord front (word ++ byte ∷ [])) byte after all fine
      (ap (λ (n : List ℕ). record (state_of (map access_of entries) front) { stage = stage.Word; name = n }) (map-snoc capital word byte) ∙ same_ok _ _ a.1) (λ rest. ap (written_front front) (snoc-append word byte rest))
  | inr b ↦ absurd (cc b.1)
]
front_leads entries (Front.Ended entry) byte after all fine is = elim (chosen (is_space byte) _ _ _ is) [
  | inl a ↦ grown entries (Front.Ended entry) (Front.Ended (record { register = entry.register; length = entry.length; instructions = entry.instructions; behind = entry.behind ++ byte ∷ [] })) byte after all
      (record { has_register = fine.has_register; has_length = fine.has_length; has_instructions = fine.has_instructions; blank_behind = passes-snoc is_space entry.behind byte fine.blank_behind a.0 }) (same_ok _ _ a.1)
      (λ rest. ap (λ (x : List ℕ). written_padded entry.register (written_length entry.length (40 ∷ written_joined written_padded entry.instructions (41 ∷ x)))) (snoc-append entry.behind byte rest))
  | inr b ↦ elim (chosen (byte == 44) _ _ _ b.1) [
    | inl c ↦ record {
      now = parts (entries ++ entry ∷ []) (Front.AtEntry []);
      fine = record { are_entries = every-snoc IsAccessText entries entry all fine; is_front = refl };
      is = ap (λ (done : List Access). with_parts stage.Entry done [] None [] [] []) (map-snoc access_of entries entry) ∙ same_ok _ _ c.1;
      same = λ rest. ap (λ (x : ℕ). followed written_access entries (written_access entry (x ∷ rest))) (eqb-true byte 44 c.0) ∙ sym (followed-snoc written_access entries entry rest);
    }
    | inr d ↦ absurd (cc d.1)
  ]
]

says_parts : (entries : List AccessText) (front : Front) (found : List Access) → IsRead (parts entries front) → closed (state (parts entries front)) ≡ Ok found → SaysAccesses (written_read (parts entries front) []) found
says_parts entries (Front.AtEntry before) found fine is = absurd (cc is)
says_parts entries (Front.InRegister before first more) found fine is = absurd (cc is)
says_parts entries (Front.BehindRegister register) found fine is = absurd (cc is)
says_parts entries (Front.AtNumber register before) found fine is = absurd (cc is)
says_parts entries (Front.InNumber register before first more) found fine is = absurd (cc is)
says_parts entries (Front.BehindNumber register number) found fine is = absurd (cc is)
says_parts entries (Front.Bracketed register length) found fine is = absurd (cc is)
says_parts entries (Front.AtName register length names before) found fine is = absurd (cc is)
says_parts entries (Front.InName register length names before first more) found fine is = absurd (cc is)
says_parts entries (Front.BehindName register length names last) found fine is = absurd (cc is)
says_parts entries (Front.InWord front word) found fine is = absurd (cc is)
says_parts entries (Front.Ended entry) found fine is =
    record { entries = record { firsts = entries; last = entry }; are = refl; forms = record { each_first = fine.are_entries; is_last = fine.is_front }; says = sym (cc is) }

step_leads : (r : Read) (byte : ℕ) (after : Entries) → IsRead r → next_byte (state r) byte ≡ Ok after → (now : Read) × IsRead now × (state now ≡ after) × ((rest : List ℕ) → written_read r (byte ∷ rest) ≡ written_read now rest)
step_leads r byte after fine is = let l = front_leads r.entries r.front byte after fine.are_entries fine.is_front is in (l.now, l.fine, l.is, l.same)

pub accesses_have_parts : (text : List ℕ) (tokens : List Token) (found : List Access) → accesses text tokens ≡ Ok found → SaysAccesses (content text tokens) found
accesses_have_parts text tokens found is =
    let b = bound (through_all next_byte text no_entries tokens) closed found is in
    let runs = sym (through-content next_byte text no_entries tokens) ∙ b.1 in
    let r = run_over next_byte state written_read IsRead step_leads (content text tokens) (parts [] (Front.AtEntry [])) b.0 (record { are_entries = tt; is_front = refl }) runs in
    subst (λ (bytes : List ℕ). SaysAccesses bytes found) (sym r.3) (says_parts r.0.entries r.0.front found r.1 (ap closed r.2 ∙ b.2))

-- ---- from the parts to the stages

register_letters : (done : List Access) (name more rest : List ℕ) → list_all in_word more ≡ true
    → through next_byte (with_parts stage.Register done name None [] [] []) (more ++ rest) ≡ through next_byte (with_parts stage.Register done (name ++ map capital more) None [] [] []) rest
register_letters done name [] rest all = ap (λ (n : List ℕ). through next_byte (with_parts stage.Register done n None [] [] []) rest) (sym (append-nil name))
register_letters done name (byte ∷ more) rest all =
    let both = and_parts (in_word byte) (list_all in_word more) all in
    rw both.0 (register_letters done (name ++ capital byte ∷ []) more rest both.1 ∙ ap (λ (n : List ℕ). through next_byte (with_parts stage.Register done n None [] [] []) rest) (append_assoc name (capital byte ∷ []) (map capital more)))

register_word : (done : List Access) (word behind : List ℕ) (sign : ℕ) (next : Entries) (rest : List ℕ) → is_name word ≡ true → are_spaces behind ≡ true
    → next_byte (with_parts stage.Register done (map capital word) None [] [] []) sign ≡ Ok next → next_byte (with_parts stage.Registered done (map capital word) None [] [] []) sign ≡ Ok next
    → through next_byte (with_parts stage.Entry done [] None [] [] []) (word ++ (behind ++ sign ∷ rest)) ≡ through next_byte next rest
register_word done [] behind sign next rest is blank from_word from_behind = absurd (cc is)
register_word done (first ∷ more) behind sign next rest is blank from_word from_behind =
    let both = and_parts (is_letter first) (list_all in_word more) is in
    rw (letter_no_blank first both.0, both.0) (register_letters done (capital first ∷ []) more (behind ++ sign ∷ rest) both.1
    ∙ behind_blanks next_byte (with_parts stage.Register done (map capital (first ∷ more)) None [] [] []) (with_parts stage.Registered done (map capital (first ∷ more)) None [] [] []) next sign
    (λ byte blank_is. rw (blank_no_word byte blank_is, blank_is) refl) (λ byte blank_is. rw blank_is refl) from_word from_behind behind rest blank)

register_goes : (done : List Access) (p : Padded) (sign : ℕ) (next : Entries) (rest : List ℕ) → IsPadded is_name p
    → next_byte (with_parts stage.Register done (name_of p) None [] [] []) sign ≡ Ok next → next_byte (with_parts stage.Registered done (name_of p) None [] [] []) sign ≡ Ok next
    → through next_byte (with_parts stage.Entry done [] None [] [] []) (written_padded p (sign ∷ rest)) ≡ through next_byte next rest
register_goes done p sign next rest is from_word from_behind =
    over_blanks next_byte (with_parts stage.Entry done [] None [] [] []) (λ byte blank. rw blank refl) p.before (p.inside ++ (p.behind ++ sign ∷ rest)) is.blank_before
    ∙ register_word done p.inside p.behind sign next rest is.is_inside is.blank_behind from_word from_behind

number_digits : (done : List Access) (register number more rest : List ℕ) → list_all is_digit more ≡ true
    → through next_byte (with_parts stage.Number done register None number [] []) (more ++ rest) ≡ through next_byte (with_parts stage.Number done register None (number ++ more) [] []) rest
number_digits done register number [] rest all = ap (λ (n : List ℕ). through next_byte (with_parts stage.Number done register None n [] []) rest) (sym (append-nil number))
number_digits done register number (byte ∷ more) rest all =
    let both = and_parts (is_digit byte) (list_all is_digit more) all in
    rw both.0 (number_digits done register (number ++ byte ∷ []) more rest both.1 ∙ ap (λ (n : List ℕ). through next_byte (with_parts stage.Number done register None n [] []) rest) (append_assoc number (byte ∷ []) more))

short_digits : (bytes : List ℕ) → is_short bytes ≡ true → list_all is_digit bytes ≡ true
short_digits bytes is = (and_parts (nat_lt (length bytes) 10) (list_all is_digit bytes) (and_parts (nat_lt 0 (length bytes)) (nat_lt (length bytes) 10 && list_all is_digit bytes) is).1).1

number_word : (done : List Access) (register number behind rest : List ℕ) → is_short number ≡ true → are_spaces behind ≡ true
    → through next_byte (with_parts stage.Open done register None [] [] []) (number ++ (behind ++ 93 ∷ rest)) ≡ through next_byte (with_parts stage.Bracketed done register (Some (number_from 0 number)) [] [] []) rest
number_word done register [] behind rest is blank = absurd (cc is)
number_word done register (first ∷ more) behind rest is blank =
    let both = and_parts (is_digit first) (list_all is_digit more) (short_digits (first ∷ more) is) in
    let numbered = with_parts stage.Numbered done register (Some (number_from 0 (first ∷ more))) [] [] [] in
    let bracketed = with_parts stage.Bracketed done register (Some (number_from 0 (first ∷ more))) [] [] [] in
    rw (word_no_blank first is_digit blank_no_number both.0, both.0) (number_digits done register (first ∷ []) more (behind ++ 93 ∷ rest) both.1
    ∙ behind_blanks next_byte (with_parts stage.Number done register None (first ∷ more) [] []) numbered bracketed 93
    (λ byte blank_is. rw (blank_no_number byte blank_is, blank_is, is) refl) (λ byte blank_is. rw blank_is refl) (rw is refl) refl behind rest blank)

number_goes : (done : List Access) (register : List ℕ) (l : LengthText) (rest : List ℕ) → IsLengthText l
    → through next_byte (with_parts stage.Open done register None [] [] []) (written_padded l.number (93 ∷ l.behind ++ rest)) ≡ through next_byte (with_parts stage.Bracketed done register (length_of (Some l)) [] [] []) rest
number_goes done register l rest is =
    over_blanks next_byte (with_parts stage.Open done register None [] [] []) (λ byte blank. rw blank refl) l.number.before (l.number.inside ++ (l.number.behind ++ (93 ∷ (l.behind ++ rest)))) is.has_number.blank_before
    ∙ number_word done register l.number.inside l.number.behind (l.behind ++ rest) is.has_number.is_inside is.has_number.blank_behind
    ∙ over_blanks next_byte (with_parts stage.Bracketed done register (length_of (Some l)) [] [] []) (λ byte blank. rw blank refl) l.behind rest is.blank_behind

-- a register up to the `(` of its names
pub opened_goes : (done : List Access) (p : Padded) (length : Option LengthText) (rest : List ℕ) → IsPadded is_name p → MayHaveLength length
    → through next_byte (with_parts stage.Entry done [] None [] [] []) (written_padded p (written_length length (40 ∷ rest))) ≡ through next_byte (with_parts stage.Instruction done (name_of p) (length_of length) [] [] []) rest
opened_goes done p None rest is may = register_goes done p 40 (with_parts stage.Instruction done (name_of p) None [] [] []) rest is refl refl
opened_goes done p (Some l) rest is may =
    register_goes done p 91 (with_parts stage.Open done (name_of p) None [] [] []) (written_padded l.number (93 ∷ l.behind ++ 40 ∷ rest)) is refl refl
    ∙ number_goes done (name_of p) l (40 ∷ rest) may

name_letters : (done : List Access) (register : List ℕ) (length : Option ℕ) (names : List (List ℕ)) (name more rest : List ℕ) → list_all in_word more ≡ true
    → through next_byte (with_parts stage.Name done register length [] name names) (more ++ rest) ≡ through next_byte (with_parts stage.Name done register length [] (name ++ map capital more) names) rest
name_letters done register length names name [] rest all = ap (λ (n : List ℕ). through next_byte (with_parts stage.Name done register length [] n names) rest) (sym (append-nil name))
name_letters done register length names name (byte ∷ more) rest all =
    let both = and_parts (in_word byte) (list_all in_word more) all in
    rw both.0 (name_letters done register length names (name ++ capital byte ∷ []) more rest both.1
    ∙ ap (λ (n : List ℕ). through next_byte (with_parts stage.Name done register length [] n names) rest) (append_assoc name (capital byte ∷ []) (map capital more)))

name_word : (done : List Access) (register : List ℕ) (length : Option ℕ) (names : List (List ℕ)) (word behind : List ℕ) (sign : ℕ) (next : Entries) (rest : List ℕ) → is_name word ≡ true → are_spaces behind ≡ true
    → same_word (map capital word) (codes "RUNBIST") ≡ false
    → next_byte (with_parts stage.Name done register length [] (map capital word) names) sign ≡ Ok next → next_byte (with_parts stage.Named done register length [] (map capital word) names) sign ≡ Ok next
    → through next_byte (with_parts stage.Instruction done register length [] [] names) (word ++ (behind ++ sign ∷ rest)) ≡ through next_byte next rest
name_word done register length names [] behind sign next rest is blank other from_word from_behind = absurd (cc is)
name_word done register length names (first ∷ more) behind sign next rest is blank other from_word from_behind =
    let both = and_parts (is_letter first) (list_all in_word more) is in
    rw (letter_no_blank first both.0, both.0) (name_letters done register length names (capital first ∷ []) more (behind ++ sign ∷ rest) both.1
    ∙ behind_blanks next_byte (with_parts stage.Name done register length [] (map capital (first ∷ more)) names) (with_parts stage.Named done register length [] (map capital (first ∷ more)) names) next sign
    (λ byte blank_is. rw (blank_no_word byte blank_is, other, blank_is) refl) (λ byte blank_is. rw blank_is refl) from_word from_behind behind rest blank)

pub name_goes : (done : List Access) (register : List ℕ) (length : Option ℕ) (names : List (List ℕ)) (p : Padded) (sign : ℕ) (next : Entries) (rest : List ℕ) → IsPadded is_instruction p
    → in_word sign ≡ false → behind_name (with_parts stage.Name done register length [] (name_of p) names) sign ≡ Ok next → behind_name (with_parts stage.Named done register length [] (name_of p) names) sign ≡ Ok next
    → through next_byte (with_parts stage.Instruction done register length [] [] names) (written_padded p (sign ∷ rest)) ≡ through next_byte next rest
name_goes done register length names p sign next rest is no_letter from_word from_behind =
    let both = and_parts (is_name p.inside) (not (same_word (map capital p.inside) (codes "RUNBIST"))) is.is_inside in
    let other : same_word (map capital p.inside) (codes "RUNBIST") ≡ false = not-true (same_word (map capital p.inside) (codes "RUNBIST")) both.1 in
    over_blanks next_byte (with_parts stage.Instruction done register length [] [] names) (λ byte blank. rw blank refl) p.before (p.inside ++ (p.behind ++ sign ∷ rest)) is.blank_before
    ∙ name_word done register length names p.inside p.behind sign next rest both.0 is.blank_behind other (rw (no_letter, other) from_word) from_behind

names_go : (done : List Access) (register : List ℕ) (length : Option ℕ) (names : List (List ℕ)) (firsts : List Padded) (rest : List ℕ) → Every (IsPadded is_instruction) firsts
    → through next_byte (with_parts stage.Instruction done register length [] [] names) (followed written_padded firsts rest) ≡ through next_byte (with_parts stage.Instruction done register length [] [] (names ++ map name_of firsts)) rest
names_go done register length names [] rest each = ap (λ (ns : List (List ℕ)). through next_byte (with_parts stage.Instruction done register length [] [] ns) rest) (sym (append-nil names))
names_go done register length names (p ∷ firsts) rest each =
    name_goes done register length names p 44 (with_parts stage.Instruction done register length [] [] (names ++ name_of p ∷ [])) (followed written_padded firsts rest) each.0 refl refl refl
    ∙ names_go done register length (names ++ name_of p ∷ []) firsts rest each.1
    ∙ ap (λ (ns : List (List ℕ)). through next_byte (with_parts stage.Instruction done register length [] [] ns) rest) (append_assoc names (name_of p ∷ []) (map name_of firsts))

entry_goes : (done : List Access) (a : AccessText) (rest : List ℕ) → IsAccessText a
    → through next_byte (with_parts stage.Entry done [] None [] [] []) (written_access a rest) ≡ through next_byte (with_parts stage.Closed (done ++ access_of a ∷ []) [] None [] [] []) rest
entry_goes done a rest is =
    opened_goes done a.register a.length (written_joined written_padded a.instructions (41 ∷ a.behind ++ rest)) is.has_register is.has_length
    ∙ names_go done (name_of a.register) (length_of a.length) [] a.instructions.firsts (written_padded a.instructions.last (41 ∷ a.behind ++ rest)) is.has_instructions.each_first
    ∙ name_goes done (name_of a.register) (length_of a.length) (map name_of a.instructions.firsts) a.instructions.last 41 (with_parts stage.Closed (done ++ access_of a ∷ []) [] None [] [] []) (a.behind ++ rest) is.has_instructions.is_last refl refl refl
    ∙ over_blanks next_byte (with_parts stage.Closed (done ++ access_of a ∷ []) [] None [] [] []) (λ byte blank. rw blank refl) a.behind rest is.blank_behind

entries_go : (done : List Access) (firsts : List AccessText) (rest : List ℕ) → Every IsAccessText firsts
    → through next_byte (with_parts stage.Entry done [] None [] [] []) (followed written_access firsts rest) ≡ through next_byte (with_parts stage.Entry (done ++ map access_of firsts) [] None [] [] []) rest
entries_go done [] rest each = ap (λ (d : List Access). through next_byte (with_parts stage.Entry d [] None [] [] []) rest) (sym (append-nil done))
entries_go done (a ∷ firsts) rest each =
    entry_goes done a (44 ∷ followed written_access firsts rest) each.0
    ∙ entries_go (done ++ access_of a ∷ []) firsts rest each.1
    ∙ ap (λ (d : List Access). through next_byte (with_parts stage.Entry d [] None [] [] []) rest) (append_assoc done (access_of a ∷ []) (map access_of firsts))

abbrev found_result : List Access → Result (List Access) ℕ
found_result f = Ok f

pub parts_are_accesses : (text : List ℕ) (tokens : List Token) (found : List Access) → SaysAccesses (content text tokens) found → accesses text tokens ≡ Ok found
parts_are_accesses text tokens found says =
    ap (λ (r : Result Entries ℕ). and_then r closed)
    (through-content next_byte text no_entries tokens ∙ ap (through next_byte no_entries) says.are ∙ entries_go [] says.entries.firsts (written_access says.entries.last []) says.forms.each_first
    ∙ entry_goes (map access_of says.entries.firsts) says.entries.last [] says.forms.is_last)
    ∙ ap found_result (sym says.says)

-- ---- what is left out of the subset

-- ---- the causes 8 and 9

-- the part that is open where cause 9 comes
abbrev Leaves : Front → Type 0
Leaves (Front.InName register length names before first more) = same_word (map capital (first ∷ more)) (codes "RUNBIST") ≡ true
Leaves (Front.InWord front word) = same_word (map capital word) (codes "CAPTURES") ≡ true
Leaves _ = ⊥

-- a refusal has cause 8, or 9 for a reason
abbrev Reason : Type 0 → ℕ → Type 0
Reason Why cause = (cause ≡ 8) ⊎ ((cause ≡ 9) × Why)

abbrev Causes : {A : Type 0} → Type 0 → Result A ℕ → Type 0
Causes Why (Ok x) = Unit {0}
Causes Why (Err cause) = Reason Why cause

either : {A : Type 0} (Why : Type 0) (test : Bool) (x y : Result A ℕ) → Causes Why x → Causes Why y → Causes Why (if test then x else y)
either Why true x y one other = one
either Why false x y one other = other

two : (Why : Type 0) (a b : Bool) (x y : Entries) → Causes Why (if a then fine_result x else (if b then fine_result y else Err 8))
two Why a b x y = either Why a (fine_result x) (if b then fine_result y else Err 8) tt (either Why b (fine_result y) (Err 8) tt (inl refl))

four : (Why : Type 0) (a b c d : Bool) (x y z w : Entries) → Causes Why (if a then fine_result x else (if b then fine_result y else (if c then fine_result z else (if d then fine_result w else Err 8))))
four Why a b c d x y z w = either Why a (fine_result x) (if b then fine_result y else (if c then fine_result z else (if d then fine_result w else Err 8))) tt
    (either Why b (fine_result y) (if c then fine_result z else (if d then fine_result w else Err 8)) tt (two Why c d z w))

abbrev whole : ℕ → Result ℕ ℕ
whole n = Ok n

number_causes : (Why : Type 0) (e : Entries) (next : AccessStage) → Causes Why (with_number e next)
number_causes Why e next = by (is_short e.number)
  where
    by : (t : Bool) → Causes Why (and_then (if t then whole (number_from 0 e.number) else Err 8) (λ value. fine_result (record e { stage = next; length = Some value; number = [] })))
    by true = tt
    by false = inl refl

word_causes : (word : List ℕ) → Reason (same_word word (codes "CAPTURES") ≡ true) (word_cause word)
word_causes word = by (same_word word (codes "CAPTURES"))
  where
    by : (t : Bool) → Reason (t ≡ true) (if t then 9 else 8)
    by true = inr (refl, refl)
    by false = inl refl

name_causes : (name : List ℕ) → Reason (same_word name (codes "RUNBIST") ≡ true) (name_cause name)
name_causes name = by (same_word name (codes "RUNBIST"))
  where
    by : (t : Bool) → Reason (t ≡ true) (if t then 9 else 8)
    by true = inr (refl, refl)
    by false = inl refl

runbist_causes : (test : Bool) (other : Result Entries ℕ) → Causes (test ≡ true) other → Causes (test ≡ true) (if test then Err 9 else other)
runbist_causes true other causes = inr (refl, refl)
runbist_causes false other causes = causes

byte_causes : (done : List Access) (front : Front) (byte : ℕ) → Causes (Leaves front) (next_byte (state_of done front) byte)
byte_causes done (Front.AtEntry before) byte = two ⊥ (is_space byte) (is_letter byte) _ _
byte_causes done (Front.InRegister before first more) byte = either ⊥ (in_word byte) _ _ tt (four ⊥ (is_space byte) (byte == 91) (byte == 40) (is_letter byte) _ _ _ _)
byte_causes done (Front.BehindRegister register) byte = four ⊥ (is_space byte) (byte == 91) (byte == 40) (is_letter byte) _ _ _ _
byte_causes done (Front.AtNumber register before) byte = two ⊥ (is_space byte) (is_digit byte) _ _
byte_causes done (Front.InNumber register before first more) byte =
    let e = with_parts stage.Number done (name_of register) None (first ∷ more) [] [] in
    either ⊥ (is_digit byte) (fine_result (with_digit e byte)) (behind_number e byte) tt
    (either ⊥ (is_space byte) (with_number e stage.Numbered) (if byte == 93 then with_number e stage.Bracketed else Err 8) (number_causes ⊥ e stage.Numbered) (either ⊥ (byte == 93) (with_number e stage.Bracketed) (Err 8) (number_causes ⊥ e stage.Bracketed) (inl refl)))
byte_causes done (Front.BehindNumber register number) byte = two ⊥ (is_space byte) (byte == 93) _ _
byte_causes done (Front.Bracketed register length) byte = two ⊥ (is_space byte) (byte == 40) _ _
byte_causes done (Front.AtName register length names before) byte = two ⊥ (is_space byte) (is_letter byte) _ _
byte_causes done (Front.InName register length names before first more) byte =
    let runbist = same_word (map capital (first ∷ more)) (codes "RUNBIST") in
    either (runbist ≡ true) (in_word byte) _ _ tt (runbist_causes runbist _ (four (runbist ≡ true) (is_space byte) (byte == 44) (byte == 41) (is_letter byte) _ _ _ _))
byte_causes done (Front.BehindName register length names last) byte = four ⊥ (is_space byte) (byte == 44) (byte == 41) (is_letter byte) _ _ _ _
byte_causes done (Front.InWord front word) byte = either (same_word (map capital word) (codes "CAPTURES") ≡ true) (in_word byte) _ _ tt (word_causes (map capital word))
byte_causes done (Front.Ended entry) byte = two ⊥ (is_space byte) (byte == 44) _ _

end_causes : (done : List Access) (front : Front) → Causes (Leaves front) (closed (state_of done front))
end_causes done (Front.AtEntry before) = inl refl
end_causes done (Front.InRegister before first more) = inl refl
end_causes done (Front.BehindRegister register) = inl refl
end_causes done (Front.AtNumber register before) = inl refl
end_causes done (Front.InNumber register before first more) = inl refl
end_causes done (Front.BehindNumber register number) = inl refl
end_causes done (Front.Bracketed register length) = inl refl
end_causes done (Front.AtName register length names before) = inl refl
end_causes done (Front.InName register length names before first more) = name_causes (map capital (first ∷ more))
end_causes done (Front.BehindName register length names last) = inl refl
end_causes done (Front.InWord front word) = word_causes (map capital word)
end_causes done (Front.Ended entry) = tt

leaves_out : (entries : List AccessText) (front : Front) (rest : List ℕ) → Every IsAccessText entries → IsFront front → Leaves front → NamesLeftOut (written_read (parts entries front) rest)
leaves_out entries (Front.AtEntry before) rest all fine why = absurd why
leaves_out entries (Front.InRegister before first more) rest all fine why = absurd why
leaves_out entries (Front.BehindRegister register) rest all fine why = absurd why
leaves_out entries (Front.AtNumber register before) rest all fine why = absurd why
leaves_out entries (Front.InNumber register before first more) rest all fine why = absurd why
leaves_out entries (Front.BehindNumber register number) rest all fine why = absurd why
leaves_out entries (Front.Bracketed register length) rest all fine why = absurd why
leaves_out entries (Front.AtName register length names before) rest all fine why = absurd why
leaves_out entries (Front.InName register length names before first more) rest all fine why =
    record { entries = entries; part = LeftOut.Instruction register length names before (first ∷ more); rest = rest; are = refl; each = all; is_left_out = why }
leaves_out entries (Front.BehindName register length names last) rest all fine why = absurd why
leaves_out entries (Front.InWord (Front.BehindRegister register) word) rest all fine why =
    record { entries = entries; part = LeftOut.BehindRegister register word; rest = rest; are = refl; each = all; is_left_out = why }
leaves_out entries (Front.InWord (Front.BehindName register length names last) word) rest all fine why =
    record { entries = entries; part = LeftOut.BehindInstruction register length names last word; rest = rest; are = refl; each = all; is_left_out = why }
leaves_out entries (Front.InWord (Front.AtEntry before) word) rest all fine why = absurd fine.1
leaves_out entries (Front.InWord (Front.InRegister before first more) word) rest all fine why = absurd fine.1
leaves_out entries (Front.InWord (Front.AtNumber register before) word) rest all fine why = absurd fine.1
leaves_out entries (Front.InWord (Front.InNumber register before first more) word) rest all fine why = absurd fine.1
leaves_out entries (Front.InWord (Front.BehindNumber register number) word) rest all fine why = absurd fine.1
leaves_out entries (Front.InWord (Front.Bracketed register length) word) rest all fine why = absurd fine.1
leaves_out entries (Front.InWord (Front.AtName register length names before) word) rest all fine why = absurd fine.1
leaves_out entries (Front.InWord (Front.InName register length names before first more) word) rest all fine why = absurd fine.1
leaves_out entries (Front.InWord (Front.InWord front inner) word) rest all fine why = absurd fine.1
leaves_out entries (Front.InWord (Front.Ended entry) word) rest all fine why = absurd fine.1
leaves_out entries (Front.Ended entry) rest all fine why = absurd why

-- the bytes lead to a refusal of this cause
abbrev Explained : List ℕ → ℕ → Type 0
Explained bytes cause = (cause ≡ 8) ⊎ ((cause ≡ 9) × NamesLeftOut bytes)

explained : {A : Type 0} (r : Read) (rest : List ℕ) (result : Result A ℕ) (cause : ℕ) → IsRead r → Causes (Leaves r.front) result → result ≡ Err cause → Explained (written_read r rest) cause
explained {A = A} r rest result cause fine causes is = by (subst (Causes {A = A} (Leaves r.front)) is causes)
  where
    by : (cause ≡ 8) ⊎ ((cause ≡ 9) × Leaves r.front) → Explained (written_read r rest) cause
    by (inl eight) = inl eight
    by (inr nine) = inr (nine.0, leaves_out r.entries r.front rest fine.are_entries fine.is_front nine.1)

pub accesses_refused : (text : List ℕ) (tokens : List Token) (cause : ℕ) → accesses text tokens ≡ Err cause → (cause ≡ 8) ⊎ ((cause ≡ 9) × NamesLeftOut (content text tokens))
accesses_refused text tokens cause is = by (through next_byte no_entries (content text tokens)) refl (sym (ap (λ (r : Result Entries ℕ). and_then r closed) (through-content next_byte text no_entries tokens)) ∙ is)
  where
    start : Read
    start = parts [] (Front.AtEntry [])

    by : (r : Result Entries ℕ) → through next_byte no_entries (content text tokens) ≡ r → and_then r closed ≡ Err cause → Explained (content text tokens) cause
    by (Ok e) runs ends =
        let o = run_over next_byte state written_read IsRead step_leads (content text tokens) start e (record { are_entries = tt; is_front = refl }) runs in
        subst (λ (bytes : List ℕ). Explained bytes cause) (sym o.3) (explained o.0 [] (closed (state o.0)) cause o.1 (end_causes (map access_of o.0.entries) o.0.front) (ap closed o.2 ∙ ends))
    by (Err other) runs ends =
        let same : other ≡ cause = cc ends in
        let o = run_stops next_byte state written_read IsRead step_leads (content text tokens) start other (record { are_entries = tt; is_front = refl }) runs in
        subst (λ (bytes : List ℕ). Explained bytes cause) (sym o.5)
        (subst (λ (n : ℕ). Explained (written_read o.0 (o.1 ∷ o.2)) n) same (explained o.0 (o.1 ∷ o.2) (next_byte (state o.0) o.1) other o.3 (byte_causes (map access_of o.0.entries) o.0.front o.1) o.4))

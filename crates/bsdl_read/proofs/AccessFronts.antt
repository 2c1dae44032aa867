-- The content of REGISTER_ACCESS: registers and names that are read at once.
use Rattle.std.proofs.Common.{◌≡◌, ℕ, suc, ◌+◌, ◌-◌, ◌<◌, ◌≤◌, ◌==◌, nat_lt, ◌&&◌, not, Bool, true, false, length, List, [], ◌∷◌, ◌++◌, get_or, map, refl, sym, ap, subst, ◌∙◌, arith}
use Rattle.std.specs.Prelude.{codes}
use Rattle.std.specs.declared.option.Option.{Option}
use Rattle.std.specs.declared.option.Option.TheVariants.{Some}
use Rattle.std.proofs.lemmas.Bool.{and_from, lt-ltb, ne_eqb}
use Rattle.bsdl_lex.specs.Tokens.{within}
use Rattle.bsdl_lex.proofs.Complete.{within_parts}
use Rattle.bsdl_read.specs.Words.{capital, same_word}
use Rattle.bsdl_read.specs.Contents.{through}
use Rattle.bsdl_read.specs.ContentGrammar.{Padded, written_padded, IsPadded, is_name, name_of, written_length, is_instruction}
use Rattle.bsdl_read.specs.Accesses.{Entries, next_byte, at_stage, with_entries, at_name, with_opened, with_named, HasLength, OpensWith, NamesOne, sign_behind}
use Rattle.bsdl_read.specs.declared.accesses.AccessStage.TheVariants as stage
use Rattle.bsdl_read.specs.Places.{between, AreBlanks, IsWord, IsNumber, HasSign}
use Rattle.bsdl_read.proofs.Betweens.{parted, begins_at, length-between}
use Rattle.bsdl_read.proofs.AccessParts.{with_parts, opened_goes, name_goes}
use Rattle.bsdl_read.proofs.AccessWords.{fine_result, same_ok}

-- ---- what the front is

-- words of other lengths are other words
other_word : (word other : List ℕ) → (length word ≡ length other → ⊥) → same_word word other ≡ false
other_word [] [] differ = absurd (differ refl)
other_word [] (y ∷ other) differ = refl
other_word (x ∷ word) [] differ = refl
other_word (x ∷ word) (y ∷ other) differ = by (capital x == capital y) (other_word word other (λ same. differ (ap suc same)))
  where
    by : (first : Bool) → same_word word other ≡ false → (first && same_word word other) ≡ false
    by true rest = rest
    by false rest = refl

pub other_length : (text : List ℕ) (start stop : ℕ) (other : List ℕ) → IsWord text start stop → (stop - start ≡ length other → ⊥) → (stop - start == length other) ≡ same_word (between text start stop) other
other_length text start stop other is differ =
    ne_eqb (stop - start) (length other) differ
    ∙ sym (other_word (between text start stop) other (λ same. differ (sym (length-between text start stop (omega (arith, is.rises)) is.ends) ∙ same)))

pub has_length : (text : List ℕ) (start digits stop close behind end value : ℕ) → end ≤ length text → HasSign text 91 start end → AreBlanks text (start + 1) digits end → IsNumber text digits stop end value
    → AreBlanks text stop close end → HasSign text 93 close end → AreBlanks text (close + 1) behind end → HasLength (between text start end) (Some value) (between text behind end)
has_length text start digits stop close behind end value ends opens before number blanks closes more = record {
  text = Some (record { number = record { before = between text (start + 1) digits; inside = between text digits stop; behind = between text stop close }; behind = between text (close + 1) behind });
  are = opens.is ∙ ap (λ (x : List ℕ). 91 ∷ x) (parted text (start + 1) digits end before.rises before.ends
      ∙ ap (λ (x : List ℕ). between text (start + 1) digits ++ x) (parted text digits stop end (omega (arith, number.rises)) number.ends
      ∙ ap (λ (x : List ℕ). between text digits stop ++ x) (parted text stop close end blanks.rises blanks.ends
      ∙ ap (λ (x : List ℕ). between text stop close ++ x) (closes.is ∙ ap (λ (x : List ℕ). 93 ∷ x) (parted text (close + 1) behind end more.rises more.ends)))));
  says = ap (λ (n : ℕ). Some n) (sym number.is);
  has_length = record { has_number = record { blank_before = before.blank; is_inside = number.short; blank_behind = blanks.blank }; blank_behind = more.blank };
}

pub opens_with : (text : List ℕ) (start first stop list opened end : ℕ) (length_is : Option ℕ) → AreBlanks text start first end → IsWord text first stop → AreBlanks text stop list end
    → HasLength (between text list end) length_is (between text opened end) → HasSign text 40 opened end → OpensWith (between text start end) (between text first stop) length_is (between text (opened + 1) end)
opens_with text start first stop list opened end length_is before word blanks has opens = record {
  register = record { before = between text start first; inside = between text first stop; behind = between text stop list };
  text = has.text;
  are = parted text start first end before.rises before.ends
      ∙ ap (λ (x : List ℕ). between text start first ++ x) (parted text first stop end (omega (arith, word.rises)) (omega (arith, blanks.rises, blanks.ends))
      ∙ ap (λ (x : List ℕ). between text first stop ++ x) (parted text stop list end blanks.rises blanks.ends
      ∙ ap (λ (x : List ℕ). between text stop list ++ x) (has.are ∙ ap (written_length has.text) opens.is)));
  is_word = refl;
  says = has.says;
  has_register = record { blank_before = before.blank; is_inside = word.has_name; blank_behind = blanks.blank };
  has_length = has.has_length;
}

-- ---- a name in capitals is the same word

capital_stays : (byte : ℕ) → nat_lt byte 97 ≡ true → capital byte ≡ byte
capital_stays byte small = rw small refl

capital_twice : (byte : ℕ) → capital (capital byte) ≡ capital byte
capital_twice byte = by (within 97 122 byte) refl
  where
    by : (test : Bool) → within 97 122 byte ≡ test → capital (capital byte) ≡ capital byte
    by false other = let same : capital byte ≡ byte = rw other refl in ap capital same
    by true small =
        let same : capital byte ≡ byte - 32 = rw small refl in
        let parts = within_parts 97 122 byte small in
        ap capital same ∙ capital_stays (byte - 32) (lt-ltb (byte - 32) 97 (omega (arith, parts.1, parts.0))) ∙ sym same

same_in_capitals : (word other : List ℕ) → same_word (map capital word) other ≡ same_word word other
same_in_capitals [] [] = refl
same_in_capitals [] (y ∷ other) = refl
same_in_capitals (x ∷ word) [] = refl
same_in_capitals (x ∷ word) (y ∷ other) = ap (λ (z : ℕ). (z == capital y) && same_word (map capital word) other) (capital_twice x) ∙ ap (λ (test : Bool). (capital x == capital y) && test) (same_in_capitals word other)

instruction_from : (word : List ℕ) → is_name word ≡ true → same_word word (codes "RUNBIST") ≡ false → is_instruction word ≡ true
instruction_from word is other = and_from (is_name word) (not (same_word (map capital word) (codes "RUNBIST"))) is (rw (same_in_capitals word (codes "RUNBIST"), other) refl)

pub names_one : (text : List ℕ) (start first stop close end : ℕ) (d : ℕ) (is_last : Bool) → end ≤ length text → AreBlanks text start first end → IsWord text first stop → AreBlanks text stop close end → close < end
    → get_or text close d ≡ sign_behind is_last → same_word (between text first stop) (codes "RUNBIST") ≡ false → NamesOne (between text start end) (between text first stop) is_last (between text (close + 1) end)
names_one text start first stop close end d is_last ends before word blanks there sign other = record {
  name = record { before = between text start first; inside = between text first stop; behind = between text stop close };
  are = parted text start first end before.rises before.ends
      ∙ ap (λ (x : List ℕ). between text start first ++ x) (parted text first stop end (omega (arith, word.rises)) (omega (arith, blanks.rises, blanks.ends))
      ∙ ap (λ (x : List ℕ). between text first stop ++ x) (parted text stop close end blanks.rises blanks.ends
      ∙ ap (λ (x : List ℕ). between text stop close ++ x) (begins_at text close end d there ends ∙ ap (λ (s : ℕ). s ∷ between text (close + 1) end) sign)));
  is_word = refl;
  has_name = record { blank_before = before.blank; is_inside = instruction_from (between text first stop) word.has_name other; blank_behind = blanks.blank };
}

-- ---- what it leads to

pub register_opens : (e after : Entries) (bytes word : List ℕ) (length : Option ℕ) (names : List ℕ) → e ≡ with_entries e.done → fine_result (with_opened e word length) ≡ fine_result after → OpensWith bytes word length names
    → through next_byte after names ≡ through next_byte e bytes
register_opens e after bytes word length names between leads opens =
    ap (λ (x : Entries). through next_byte x names) (sym (same_ok _ _ leads) ∙ ap (λ (x : Entries). with_opened x word length) between)
    ∙ ap (λ (w : List ℕ). through next_byte (with_parts stage.Instruction e.done (map capital w) length [] [] []) names) (sym opens.is_word)
    ∙ ap (λ (l : Option ℕ). through next_byte (with_parts stage.Instruction e.done (name_of opens.register) l [] [] []) names) (sym opens.says)
    ∙ sym (opened_goes e.done opens.register opens.text names opens.has_register opens.has_length)
    ∙ ap (through next_byte (with_entries e.done)) (sym opens.are)
    ∙ ap (λ (x : Entries). through next_byte x bytes) (sym between)

one_name : (e : Entries) (p : Padded) (is_last : Bool) (rest : List ℕ) → IsPadded is_instruction p
    → through next_byte (at_name e) (written_padded p (sign_behind is_last ∷ rest)) ≡ through next_byte (with_named (at_name e) p.inside is_last) rest
one_name e p true rest is = name_goes e.done e.register e.length e.instructions p 41 (with_named (at_name e) p.inside true) rest is refl refl refl
one_name e p false rest is = name_goes e.done e.register e.length e.instructions p 44 (with_named (at_name e) p.inside false) rest is refl refl refl

pub name_ends : (e after : Entries) (bytes word : List ℕ) (is_last : Bool) (behind : List ℕ) → e ≡ at_name e → fine_result (with_named e word is_last) ≡ fine_result after → NamesOne bytes word is_last behind
    → through next_byte after behind ≡ through next_byte e bytes
name_ends e after bytes word is_last behind due leads names =
    ap (λ (x : Entries). through next_byte x behind) (sym (same_ok _ _ leads) ∙ ap (λ (x : Entries). with_named x word is_last) due)
    ∙ ap (λ (w : List ℕ). through next_byte (with_named (at_name e) w is_last) behind) (sym names.is_word)
    ∙ sym (one_name e names.name is_last behind names.has_name)
    ∙ ap (through next_byte (at_name e)) (sym names.are)
    ∙ ap (λ (x : Entries). through next_byte x bytes) (sym due)

-- a register with its first instruction
pub entry_begins : (e : Entries) (bytes word name : List ℕ) (length : Option ℕ) (names : List ℕ) (is_last : Bool) (behind : List ℕ) → e ≡ with_entries e.done → OpensWith bytes word length names → NamesOne names name is_last behind
    → through next_byte (with_named (with_opened e word length) name is_last) behind ≡ through next_byte e bytes
entry_begins e bytes word name length names is_last behind between opens ends =
    let due : with_opened e word length ≡ at_name (with_opened e word length) = ap (λ (x : Entries). with_opened x word length) between ∙ ap (λ (x : Entries). at_name (with_opened x word length)) (sym between) in
    name_ends (with_opened e word length) (with_named (with_opened e word length) name is_last) names name is_last behind due refl ends
    ∙ register_opens e (with_opened e word length) bytes word length names between refl opens

is_other : (test other : Bool) → not test ≡ other → test ≡ not other
is_other test other is = by test refl
  where
    by : (b : Bool) → test ≡ b → test ≡ not other
    by true h = let none : false ≡ other = rw h at is in h ∙ ap not none
    by false h = let all : true ≡ other = rw h at is in h ∙ ap not all

pub entry_opens : (e after : Entries) (bytes word name : List ℕ) (length : Option ℕ) (names : List ℕ) (is_last last : Bool) (behind : List ℕ) → e ≡ with_entries e.done → OpensWith bytes word length names
    → fine_result (with_named (with_opened e word length) name last) ≡ fine_result after → is_last ≡ last → NamesOne names name is_last behind → through next_byte after behind ≡ through next_byte e bytes
entry_opens e after bytes word name length names is_last last behind between opens leads same ends =
    ap (λ (x : Entries). through next_byte x behind) (sym (same_ok _ _ leads)) ∙ entry_begins e bytes word name length names last behind between opens (subst (λ (sign : Bool). NamesOne names name sign behind) same ends)

-- a register with its first instruction, which is read on its own
pub first_name_ends : (e opened after : Entries) (bytes word name : List ℕ) (length : Option ℕ) (names : List ℕ) (is_last : Bool) (behind : List ℕ) → e ≡ with_entries e.done → OpensWith bytes word length names
    → fine_result (with_opened e word length) ≡ fine_result opened → fine_result (with_named opened name false) ≡ fine_result after → not is_last ≡ true → NamesOne names name is_last behind → through next_byte after behind ≡ through next_byte e bytes
first_name_ends e opened after bytes word name length names is_last behind between opens begins leads same ends =
    entry_opens e after bytes word name length names is_last false behind between opens (ap (λ (x : Entries). fine_result (with_named x name false)) (same_ok _ _ begins) ∙ leads) (is_other is_last true same) ends

-- a whole entry with one instruction, and no `,` behind it
pub entry_closes : (e after : Entries) (bytes word name : List ℕ) (length : Option ℕ) (names : List ℕ) (is_last : Bool) (behind : List ℕ) → e ≡ with_entries e.done → OpensWith bytes word length names
    → fine_result (at_stage (with_named (with_opened e word length) name true) stage.Entry) ≡ fine_result after → not is_last ≡ false → NamesOne names name is_last behind → through next_byte (at_stage after stage.Closed) behind ≡ through next_byte e bytes
entry_closes e after bytes word name length names is_last behind between opens leads same ends =
    entry_opens e (at_stage after stage.Closed) bytes word name length names is_last true behind between opens (ap (λ (x : Entries). fine_result (at_stage x stage.Closed)) (same_ok _ _ leads)) (is_other is_last false same) ends

-- and with a `,` behind it
pub entry_joins : (e after : Entries) (bytes word name : List ℕ) (length : Option ℕ) (names : List ℕ) (is_last : Bool) (behind rest : List ℕ) → e ≡ with_entries e.done → OpensWith bytes word length names
    → fine_result (at_stage (with_named (with_opened e word length) name true) stage.Entry) ≡ fine_result after → not is_last ≡ false → NamesOne names name is_last behind → behind ≡ 44 ∷ rest → through next_byte after rest ≡ through next_byte e bytes
entry_joins e after bytes word name length names is_last behind rest between opens leads same ends joins =
    ap (λ (x : Entries). through next_byte x rest) (sym (same_ok _ _ leads))
    ∙ ap (through next_byte (with_named (with_opened e word length) name true)) (sym joins)
    ∙ entry_opens e (with_named (with_opened e word length) name true) bytes word name length names is_last true behind between opens refl (is_other is_last false same) ends

-- and nothing of the next entry was read
pub still_between : (e after : Entries) (word name : List ℕ) (length : Option ℕ) → e ≡ with_entries e.done → fine_result (at_stage (with_named (with_opened e word length) name true) stage.Entry) ≡ fine_result after → after ≡ with_entries after.done
still_between e after word name length between leads =
    let is : at_stage (with_named (with_opened e word length) name true) stage.Entry ≡ after = same_ok _ _ leads in
    let begins : at_stage (with_named (with_opened e word length) name true) stage.Entry ≡ at_stage (with_named (with_opened (with_entries e.done) word length) name true) stage.Entry =
    ap (λ (x : Entries). at_stage (with_named (with_opened x word length) name true) stage.Entry) between in
    sym is ∙ begins ∙ ap (λ (x : Entries). with_entries x.done) (sym begins ∙ is)

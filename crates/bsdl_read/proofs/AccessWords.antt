-- The content of REGISTER_ACCESS: the letters of a name that are read at once.
use Rattle.std.proofs.Common.{◌≡◌, ℕ, true, List, [], ◌∷◌, ◌++◌, map, Result, Ok, sym, ap, ◌∙◌, append_assoc}
use Rattle.std.specs.List.{list_all}
use Rattle.std.proofs.lemmas.Bool.{and_parts}
use Rattle.std.proofs.lemmas.List.{append-nil}
use Rattle.bsdl_lex.specs.Tokens.{is_letter, in_word}
use Rattle.bsdl_read.specs.Words.{capital}
use Rattle.bsdl_read.specs.Contents.{and_then, through}
use Rattle.bsdl_read.specs.ContentGrammar.{is_name}
use Rattle.bsdl_read.specs.Accesses.{Entries, byte_at, next_byte, with_register_word, with_name_word, at_name}
use Rattle.bsdl_read.specs.declared.accesses.AccessStage.{AccessStage}
use Rattle.bsdl_read.specs.declared.accesses.AccessStage.TheVariants as stage
use Rattle.bsdl_read.proofs.Spans.{letter_no_blank}

abbrev in_register : Entries → List ℕ → Entries
in_register e name = record e { stage = stage.Register; register = name }

abbrev in_name : Entries → List ℕ → Entries
in_name e name = record e { stage = stage.Name; name = name }

register_letters : (e : Entries) (name more rest : List ℕ) → list_all in_word more ≡ true → through next_byte (in_register e name) (more ++ rest) ≡ through next_byte (in_register e (name ++ map capital more)) rest
register_letters e name [] rest all = ap (λ (n : List ℕ). through next_byte (in_register e n) rest) (sym (append-nil name))
register_letters e name (byte ∷ more) rest all =
    let both = and_parts (in_word byte) (list_all in_word more) all in
    rw both.0 (register_letters e (name ++ capital byte ∷ []) more rest both.1 ∙ ap (λ (n : List ℕ). through next_byte (in_register e n) rest) (append_assoc name (capital byte ∷ []) (map capital more)))

name_letters : (e : Entries) (name more rest : List ℕ) → list_all in_word more ≡ true → through next_byte (in_name e name) (more ++ rest) ≡ through next_byte (in_name e (name ++ map capital more)) rest
name_letters e name [] rest all = ap (λ (n : List ℕ). through next_byte (in_name e n) rest) (sym (append-nil name))
name_letters e name (byte ∷ more) rest all =
    let both = and_parts (in_word byte) (list_all in_word more) all in
    rw both.0 (name_letters e (name ++ capital byte ∷ []) more rest both.1 ∙ ap (λ (n : List ℕ). through next_byte (in_name e n) rest) (append_assoc name (capital byte ∷ []) (map capital more)))

-- what one byte leads to, and those behind it
abbrev further : List ℕ → Result Entries ℕ → Result Entries ℕ
further rest after = and_then after (λ e. through next_byte e rest)

register_begins : (e : Entries) (word rest : List ℕ) → e.stage ≡ stage.Entry → e.register ≡ [] → is_name word ≡ true → through next_byte e (word ++ rest) ≡ through next_byte (with_register_word e word) rest
register_begins e [] rest due none is = absurd (cc is)
register_begins e (first ∷ more) rest due none is =
    let both = and_parts (is_letter first) (list_all in_word more) is in
    ap (λ (st : AccessStage). further (more ++ rest) (byte_at st e first)) due
    ∙ rw (letter_no_blank first both.0, both.0) (ap (λ (name : List ℕ). through next_byte (in_register e (name ++ capital first ∷ [])) (more ++ rest)) none ∙ register_letters e (capital first ∷ []) more rest both.1)

name_begins : (e : Entries) (word rest : List ℕ) → e.stage ≡ stage.Instruction → e.name ≡ [] → is_name word ≡ true → through next_byte e (word ++ rest) ≡ through next_byte (with_name_word e word) rest
name_begins e [] rest due none is = absurd (cc is)
name_begins e (first ∷ more) rest due none is =
    let both = and_parts (is_letter first) (list_all in_word more) is in
    ap (λ (st : AccessStage). further (more ++ rest) (byte_at st e first)) due
    ∙ rw (letter_no_blank first both.0, both.0) (ap (λ (name : List ℕ). through next_byte (in_name e (name ++ capital first ∷ [])) (more ++ rest)) none ∙ name_letters e (capital first ∷ []) more rest both.1)

abbrev pub fine_result : Entries → Result Entries ℕ
fine_result e = Ok e

pub same_ok : (x y : Entries) → fine_result x ≡ fine_result y → x ≡ y
same_ok x y is = cc is

pub register_is_read : (e after : Entries) (bytes word behind : List ℕ) → e.stage ≡ stage.Entry → e.register ≡ [] → fine_result (with_register_word e word) ≡ fine_result after → bytes ≡ word ++ behind → is_name word ≡ true
    → through next_byte after behind ≡ through next_byte e bytes
register_is_read e after bytes word behind due none leads are is =
    ap (λ (x : Entries). through next_byte x behind) (sym (same_ok _ _ leads)) ∙ sym (register_begins e word behind due none is) ∙ ap (through next_byte e) (sym are)

pub name_is_read : (e after : Entries) (bytes word behind : List ℕ) → e ≡ at_name e → fine_result (with_name_word e word) ≡ fine_result after → bytes ≡ word ++ behind → is_name word ≡ true
    → through next_byte after behind ≡ through next_byte e bytes
name_is_read e after bytes word behind due leads are is =
    ap (λ (x : Entries). through next_byte x behind) (sym (same_ok _ _ leads)) ∙ sym (name_begins e word behind (ap (λ (x : Entries). x.stage) due) (ap (λ (x : Entries). x.name) due) is) ∙ ap (through next_byte e) (sym are)

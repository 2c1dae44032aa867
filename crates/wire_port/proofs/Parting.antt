-- Texts that are scripts, told apart from those that are none.
use Rattle.std.proofs.Common.{◌≡◌, ◌⊎◌, inl, inr, ◌+◌, ℕ, suc, Bool, true, false, List, [], ◌∷◌, ◌++◌, length, nat_lt, ap, ◌∙◌, sym, refl, arith, if◌then◌else◌, append_assoc, Result, Ok, Err}
use Rattle.std.proofs.lemmas.Bool.{ltb-true, ltb-false, lt-ltb, le-ltb}
use Rattle.std.proofs.lemmas.List.{append-nil}
use Rattle.wire_port.specs.Offers.{ScriptLine}
use Rattle.wire_port.specs.Words.{lines_of, words_of}
use Rattle.wire_port.specs.Lines.{and_then}
use Rattle.wire_port.specs.Scripts.{ScriptFault, after_words, at_line, script_from, script_of}
use Rattle.wire_port.specs.Format.{Say, IsScript, NoScript}
use Rattle.wire_port.specs.Laws.{ScriptsHaveFormat, RefusalsHaveFormat, OneOfBoth, NeverBoth, OneScript, OneRefusal}
use Rattle.wire_port.proofs.Saying.{line_read, follows_read, passed_read}
use Rattle.wire_port.proofs.Texts.{is_script, no_script}

-- what a text is read as
abbrev Read : Type 0
Read = Result (List ScriptLine) ScriptFault

abbrev accepted : List ScriptLine → Read
accepted lines = Ok lines

abbrev refused : ℕ → ℕ → Read
refused number cause = Err (record { line = number; cause = cause })

same_lines : (lines others : List ScriptLine) → accepted lines ≡ accepted others → lines ≡ others
same_lines lines others is = cc is

same_refusal : (number cause other_number other_cause : ℕ) → refused number cause ≡ refused other_number other_cause → (number ≡ other_number) × (cause ≡ other_cause)
same_refusal number cause other_number other_cause is = (ap line is, ap cause_of is)
  where
    line : Read → ℕ
    line (Ok lines) = 0
    line (Err fault) = fault.line

    cause_of : Read → ℕ
    cause_of (Ok lines) = 0
    cause_of (Err fault) = fault.cause

-- lines that say something are read up to what stands behind them
said_read : (number : ℕ) (before : List ScriptLine) (texts more : List (List ℕ)) (lines : List ScriptLine) → Say before texts lines
    → script_from number before (texts ++ more) ≡ script_from (number + length texts) (before ++ lines) more
said_read number before [] more lines say =
    let at : number ≡ number + 0 = omega arith in
    let same : before ≡ before ++ lines = sym (ap (λ (all : List ScriptLine). before ++ all) say ∙ append-nil before) in
    λ i. script_from (at i) (same i) more
said_read number before (text ∷ texts) more lines (inl over) =
    let at : suc number + length texts ≡ number + suc (length texts) = omega arith in
    ap (λ read. and_then (at_line number read) (λ after. script_from (suc number) after (texts ++ more))) (passed_read before (words_of text) over.0)
    ∙ said_read (suc number) before texts more lines over.1
    ∙ ap (λ (n : ℕ). script_from n (before ++ lines) more) at
said_read number before (text ∷ texts) more lines (inr one) =
    let at : suc number + length texts ≡ number + suc (length texts) = omega arith in
    let all : (before ++ one.0 ∷ []) ++ one.1 ≡ before ++ lines = append_assoc before (one.0 ∷ []) one.1 ∙ ap (λ (rest : List ScriptLine). before ++ rest) (sym one.2) in
    ap (λ read. and_then (at_line number read) (λ after. script_from (suc number) after (texts ++ more))) (line_read before (words_of text) one.0 one.3.says ∙ follows_read before one.0 one.3.follows)
    ∙ said_read (suc number) (before ++ one.0 ∷ []) texts more one.1 one.4
    ∙ (λ i. script_from (at i) (all i) more)

-- a line that is refused ends it
stopped : (number cause : ℕ) (before : List ScriptLine) (text : List ℕ) (texts : List (List ℕ)) → after_words before (words_of text) ≡ Err cause → script_from number before (text ∷ texts) ≡ refused number cause
stopped number cause before text texts is = ap (λ read. and_then (at_line number read) (λ after. script_from (suc number) after texts)) is

script_read : (text : List ℕ) (lines : List ScriptLine) → IsScript text lines → script_of text ≡ Ok lines
script_read text lines is =
    ap (λ (t : Bool). if t then Err (record { line = 0; cause = 8 }) else script_from 1 [] (lines_of text)) (le-ltb 1048576 (length text) is.no_more)
    ∙ ap (script_from 1 []) (sym (append-nil (lines_of text)))
    ∙ said_read 1 [] (lines_of text) [] lines is.say

refusal_read : (text : List ℕ) (number cause : ℕ) → NoScript text number cause → script_of text ≡ Err (record { line = number; cause = cause })
refusal_read text number cause (inl long) =
    ap (λ (t : Bool). if t then Err (record { line = 0; cause = 8 }) else script_from 1 [] (lines_of text)) (lt-ltb 1048576 (length text) long.0)
    ∙ (λ i. Err (record { line = sym long.1 i; cause = sym long.2 i }))
refusal_read text number cause (inr is) =
    ap (λ (t : Bool). if t then Err (record { line = 0; cause = 8 }) else script_from 1 [] (lines_of text)) (le-ltb 1048576 (length text) is.no_more)
    ∙ ap (script_from 1 []) is.are
    ∙ said_read 1 [] is.front (is.refused ∷ is.behind) is.lines is.say
    ∙ ap (λ (n : ℕ). script_from n is.lines (is.refused ∷ is.behind)) at
    ∙ stopped number cause is.lines is.refused is.behind is.wrong
  where
    at : 1 + length is.front ≡ number
    at = omega (arith, is.number_is)

read_script_is : (text : List ℕ) (lines : List ScriptLine) → script_of text ≡ Ok lines → IsScript text lines
read_script_is text lines = go (nat_lt 1048576 (length text)) refl
  where
    go : (t : Bool) → nat_lt 1048576 (length text) ≡ t → (if t then Err (record { line = 0; cause = 8 }) else script_from 1 [] (lines_of text)) ≡ Ok lines → IsScript text lines
    go true long is = absurd (cc is)
    go false fits is = is_script text lines (ltb-false 1048576 (length text) fits) is

read_refusal_is : (text : List ℕ) (number cause : ℕ) → script_of text ≡ Err (record { line = number; cause = cause }) → NoScript text number cause
read_refusal_is text number cause = go (nat_lt 1048576 (length text)) refl
  where
    go : (t : Bool) → nat_lt 1048576 (length text) ≡ t → (if t then Err (record { line = 0; cause = 8 }) else script_from 1 [] (lines_of text)) ≡ Err (record { line = number; cause = cause }) → NoScript text number cause
    go true long is =
        let same = same_refusal 0 8 number cause is in
        inl (ltb-true 1048576 (length text) long, sym same.0, sym same.1)
    go false fits is = no_script text number cause (ltb-false 1048576 (length text) fits) is

pub scripts_have_format : ScriptsHaveFormat
scripts_have_format text lines = (read_script_is text lines, script_read text lines)

pub refusals_have_format : RefusalsHaveFormat
refusals_have_format text number cause = (read_refusal_is text number cause, refusal_read text number cause)

pub one_of_both : OneOfBoth
one_of_both text = go (script_of text) refl
  where
    go : (read : Result (List ScriptLine) ScriptFault) → script_of text ≡ read → ((lines : List ScriptLine) × IsScript text lines) ⊎ ((number : ℕ) × (cause : ℕ) × NoScript text number cause)
    go (Ok lines) is = inl (lines, read_script_is text lines is)
    go (Err fault) is = inr (fault.line, fault.cause, read_refusal_is text fault.line fault.cause is)

pub never_both : NeverBoth
never_both text lines number cause script none = absurd (cc (sym (script_read text lines script) ∙ refusal_read text number cause none))

pub one_script : OneScript
one_script text lines others script other = same_lines lines others (sym (script_read text lines script) ∙ script_read text others other)

pub one_refusal : OneRefusal
one_refusal text number cause other_number other_cause none other =
    same_refusal number cause other_number other_cause (sym (refusal_read text number cause none) ∙ refusal_read text other_number other_cause other)

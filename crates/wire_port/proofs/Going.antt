-- A text that is read line by line.
use Rattle.std.proofs.Common.{◌≡◌, ◌+◌, ℕ, suc, List, ◌∷◌, ap, ◌∙◌, sym, add-one}
use Rattle.std.specs.declared.result.Result.{Result}
use Rattle.std.specs.declared.result.Result.TheVariants.{Ok, Err}
use Rattle.wire_port.specs.Offers.{ScriptLine}
use Rattle.wire_port.specs.Words.{words_of}
use Rattle.wire_port.specs.Lines.{and_then}
use Rattle.wire_port.specs.Scripts.{after_words, at_line, script_from}

pub went_on : (number : ℕ) (old new : List ScriptLine) (texts left : List (List ℕ)) (text : List ℕ) → texts ≡ text ∷ left → after_words old (words_of text) ≡ Ok new → script_from number old texts ≡ script_from (number + 1) new left
went_on number old new texts left text are said =
    ap (script_from number old) are
    ∙ ap (λ (read : Result (List ScriptLine) ℕ). and_then (at_line number read) (λ after. script_from (suc number) after left)) said
    ∙ ap (λ (next : ℕ). script_from next new left) (sym (add-one number))

pub stopped : (number cause : ℕ) (old : List ScriptLine) (texts left : List (List ℕ)) (text : List ℕ) → texts ≡ text ∷ left → after_words old (words_of text) ≡ Err cause → script_from number old texts ≡ Err (record { line = number; cause = cause })
stopped number cause old texts left text are said =
    ap (script_from number old) are
    ∙ ap (λ (read : Result (List ScriptLine) ℕ). and_then (at_line number read) (λ after. script_from (suc number) after left)) said

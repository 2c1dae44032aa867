use Rattle.std.proofs.Common.{◌≡◌, ◌∙◌, sym, ap, arith, ℕ, true, false}
use Rattle.std.specs.declared.result.Result.{Result}
use Rattle.std.specs.declared.result.Result.TheVariants.{Ok, Err}
use Rattle.std.specs.Fmt.{decimal}
use Rattle.std.proofs.lemmas.Fmt.{parse-decimal}
use Rattle.share_top.proofs.words.grant_number.Goals.{then-number-eq0-via-then-number-eq0, then-number-eq0-via-else-number-eq0+then-number-gt99}
use Rattle.share_top.proofs.words.grant_number.Goals as goal

same_number : {E : Type 0} (r : Result ℕ E) (read number : ℕ) → r ≡ Ok read → r ≡ Ok number → read ≡ number
same_number r read number is answer = let q : Ok read ≡ Ok number = sym is ∙ answer in cc

pub returns-in_default-clause-others : goal.returns-in_default-clause-others
returns-in_default-clause-others c = λ none number is same.
    let answer = parse-decimal 8 number c.args.word.now c.parse.result (omega (arith, is.1)) (omega (arith, is.1)) same c.parse.ensures.value.0 in
    absurd (let q : Err c.in_default.field-0 ≡ Ok number = sym c.in_default.is ∙ answer in cc)

pub returns-then-number-eq0-clause-others : goal.returns-then-number-eq0-clause-others
returns-then-number-eq0-clause-others c = λ none number is same.
    let answer = parse-decimal 8 number c.args.word.now c.parse.result (omega (arith, is.1)) (omega (arith, is.1)) same c.parse.ensures.value.0 in
    let equal = same_number c.parse.result c.in-Ok.number number c.in-Ok.is answer in
    elim c.then-number-eq0.branch [
      | then-number-eq0-via-then-number-eq0 w ↦ omega (arith, is.0, equal, w.if-number-eq0.true)
      | then-number-eq0-via-else-number-eq0+then-number-gt99 w ↦ omega (arith, is.1, equal, w.if-number-gt99.true)
    ]

pub returns-then-not-is_word-clause-others : goal.returns-then-not-is_word-clause-others
returns-then-not-is_word-clause-others c = λ none number is same.
    let answer = parse-decimal 8 number c.args.word.now c.parse.result (omega (arith, is.1)) (omega (arith, is.1)) same c.parse.ensures.value.0 in
    let equal = same_number c.parse.result c.in-Ok.number number c.in-Ok.is answer in
    absurd (let told : true ≡ false = sym (c.is_word.ensures.1 (same ∙ ap decimal (sym equal) ∙ sym c.format.ensures.text)) ∙ c.if-not-is_word.true in cc)

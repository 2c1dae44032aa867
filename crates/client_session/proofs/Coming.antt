-- Where steps of a grant come to, one after another.
use Rattle.std.proofs.Common.{◌+◌, ℕ, refl, ap, sym, ◌∙◌}
use Rattle.client_session.specs.Turns.{LayoutShape, Turn, advanced_turns}
use Rattle.client_session.specs.Calls.{ComesTo}
use Rattle.client_session.proofs.Quietly.{advanced_turns-add}

pub comes_none : (layout : LayoutShape) (grant : ℕ) (P : Turn → Type 0) (turn : Turn) → P turn → ComesTo layout grant P turn
comes_none layout grant P turn there = record { next = turn; steps = 0; made = refl; gone = refl; past = refl; there = there }

pub comes_more : (layout : LayoutShape) (grant : ℕ) (P Q : Turn → Type 0) (turn : Turn) → ComesTo layout grant P turn → ((next : Turn) → P next → ComesTo layout grant Q next) → ComesTo layout grant Q turn
comes_more layout grant P Q turn first more =
    let then = more first.next first.there in
    record {
      next = then.next;
      steps = first.steps + then.steps;
      made = then.made ∙ ap (advanced_turns then.steps layout grant) first.made ∙ sym (advanced_turns-add layout grant first.steps then.steps turn);
      gone = then.gone ∙ first.gone;
      past = then.past ∙ first.past;
      there = then.there;
    }

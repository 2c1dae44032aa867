-- What the calls of one grant at the desk leave of the others.
use Rattle.std.proofs.Common.{◌≡◌, ◌==◌, ℕ, Bool, true, false, not, ◌&&◌, cond, List, [], ◌∷◌, ◌++◌, refl, ap, sym, ◌∙◌, Some, None}
use Rattle.std.specs.declared.option.Option.{Option}
use Rattle.std.proofs.lemmas.Bool.{eq-eqb, eqb-true}
use Rattle.chain_token.specs.declared.token.Token.{Token}
use Rattle.chain_token.specs.declared.token.Asked.TheVariants as asked
use Rattle.chain_token.specs.Tokens.{Answers, holder, holder_of, waiting}
use Rattle.chain_token.specs.Waiting.{is_among, may_open, with_waiting, without}
use Rattle.scan_share.specs.Views.{ParkedView, OpenView}
use Rattle.tap_states.specs.States.{is_capture_dr}
use Rattle.virtual_tap.specs.Views.{TapView, at_capture}
use Rattle.client_session.specs.Turns.{is_holder}
use Rattle.client_session.specs.Desks.{IsBlocked, KeepsOthers}
use Rattle.client_session.proofs.Resting.{may_with}

never : {A : Type 0} → false ≡ true → A
never e = absurd (let q : false ≡ true = e in cc)

only : (held : Option ℕ) (grant other : ℕ) → is_holder held grant ≡ true → held ≡ Some other → other ≡ grant
only None grant other h e = never h
only (Some holder) grant other h e = let q : holder ≡ other = cc in sym q ∙ eqb-true holder grant h

none_holds : (held : Option ℕ) (other : ℕ) → held ≡ None → held ≡ Some other → false ≡ true
none_holds held other n e = absurd (let q : None ≡ Some other = sym n ∙ e in cc)

without_end : (grant : ℕ) (waits : List ℕ) → without grant (waits ++ grant ∷ []) ≡ without grant waits
without_end grant [] = rw (eq-eqb grant grant refl) refl
without_end grant (x ∷ xs) = by (not (x == grant)) (without_end grant xs)
  where
    by : (t : Bool) → without grant (xs ++ grant ∷ []) ≡ without grant xs → cond t (x ∷ without grant (xs ++ grant ∷ [])) (without grant (xs ++ grant ∷ [])) ≡ cond t (x ∷ without grant xs) (without grant xs)
    by true more = ap (λ rest. x ∷ rest) more
    by false more = more

without_joined : (grant : ℕ) (waits : List ℕ) → without grant (with_waiting grant waits) ≡ without grant waits
without_joined grant waits = by (is_among grant waits)
  where
    by : (t : Bool) → without grant (cond t waits (waits ++ grant ∷ [])) ≡ without grant waits
    by true = refl
    by false = without_end grant waits

without_twice : (grant : ℕ) (waits : List ℕ) → without grant (without grant waits) ≡ without grant waits
without_twice grant [] = refl
without_twice grant (x ∷ xs) = by (not (x == grant)) refl (without_twice grant xs)
  where
    by : (t : Bool) → not (x == grant) ≡ t → without grant (without grant xs) ≡ without grant xs → without grant (cond t (x ∷ without grant xs) (without grant xs)) ≡ cond t (x ∷ without grant xs) (without grant xs)
    by true e more = rw e (ap (λ rest. x ∷ rest) more)
    by false e more = more

-- a grant that was served waits no longer
pub not_among : (grant : ℕ) (waits : List ℕ) → is_among grant (without grant waits) ≡ false
not_among grant [] = refl
not_among grant (x ∷ xs) = by (x == grant) refl (not_among grant xs)
  where
    by : (t : Bool) → (x == grant) ≡ t → is_among grant (without grant xs) ≡ false → is_among grant (cond (not t) (x ∷ without grant xs) (without grant xs)) ≡ false
    by true e more = more
    by false e more = rw e more

module _ {C : Type 0} (grant : ℕ) where
  pub others_same : (desk : Token (ParkedView C) (OpenView C)) → KeepsOthers grant desk desk
  others_same desk = record { held = λ other h n. refl; gained = λ other h n. refl; line = refl }

  pub others_more : (desk next last : Token (ParkedView C) (OpenView C)) → KeepsOthers grant desk next → KeepsOthers grant next last → KeepsOthers grant desk last
  others_more desk next last a b = record {
    held = λ other h n. let same = a.held other h n in b.held other (ap holder_of same ∙ h) n ∙ same;
    gained = λ other h n. let same = b.gained other h n in same ∙ a.gained other (sym (ap holder_of same) ∙ h) n;
    line = b.line ∙ a.line;
  }

  -- the grant's scan is closed, and the chain is free
  pub others_freed : (desk next : Token (ParkedView C) (OpenView C)) → is_holder (holder desk) grant ≡ true → holder next ≡ None → waiting next ≡ waiting desk → KeepsOthers grant desk next
  others_freed desk next mine free line = record {
    held = λ other h n. absurd (n (only (holder desk) grant other mine h));
    gained = λ other h n. never (none_holds (holder next) other free h);
    line = ap (without grant) line;
  }

  -- the grant waits
  pub others_waited : (desk next : Token (ParkedView C) (OpenView C)) → Answers desk grant (asked.Wait next) → KeepsOthers grant desk next
  others_waited desk next answer = record {
    held = λ other h n. answer.1;
    gained = λ other h n. answer.1;
    line = ap (without grant) answer.2 ∙ without_joined grant (waiting desk);
  }

  -- the grant opens a scan on the free chain
  pub others_opened : (desk next : Token (ParkedView C) (OpenView C)) (parked : ParkedView C) (queue : List ℕ) → Answers desk grant (asked.Yours parked queue) → holder next ≡ Some grant → waiting next ≡ queue → KeepsOthers grant desk next
  others_opened desk next parked queue answer mine line = record {
    held = λ other h n. never (none_holds (holder desk) other (ap holder_of answer.1) h);
    gained = λ other h n. absurd (n (let q : Some grant ≡ Some other = sym mine ∙ h in let r : other ≡ grant = cc in r));
    line = ap (without grant) (line ∙ answer.2) ∙ without_twice grant (waiting desk);
  }

  -- it waits because it may not open a scan, which it does not hold
  pub blocked_waited : (view : TapView) (desk next : Token (ParkedView C) (OpenView C)) → at_capture view ≡ true → is_holder (holder desk) grant ≡ view.scan_open → Answers desk grant (asked.Wait next) → IsBlocked grant next
  blocked_waited view desk next capture holds answer = record {
    holds = ap (λ side. is_holder (holder_of side) grant) answer.1 ∙ holds ∙ shut (is_capture_dr view.state) view.scan_open capture;
    opens = ap (λ side. may_open (holder_of side) (waiting next) grant) answer.1 ∙ ap (λ waits. may_open (holder desk) waits grant) answer.2 ∙ may_with (holder desk) (waiting desk) grant answer.0;
  }
    where
      shut : (here scan : Bool) → (here && not scan) ≡ true → scan ≡ false
      shut here false h = refl
      shut true true h = never h
      shut false true h = never h

-- Texts that go out one after another.
use Rattle.std.proofs.Common.{◌≡◌, ℕ, ◌+◌, List, [], ◌++◌, length, take, refl, ap, sym, subst, ◌∙◌, arith, inl, inr, append_assoc, Some, None, Ok, Err}
use Rattle.std.specs.declared.option.Option.{Option}
use Rattle.std.specs.declared.result.Result.{Result}
use Rattle.std.specs.Result.{IsErr}
use Rattle.std.specs.Io.KnownBytes.{Appends}
use Rattle.std.proofs.lemmas.Bool.{cases_lt}
use Rattle.std.proofs.lemmas.List.{take-append-le, take_all, append-nil}
use Rattle.std.proofs.Math.Seq.{take-append_seam, take-append-add}
use Rattle.ports.specs.declared.PortFault.{PortFault}
use Rattle.ports.specs.Streams.{AppendsFront}
use Rattle.text_lines.specs.Printed.{Grew, Prints}

pub appends_both : (x y : List ℕ) (a b c : Option (List ℕ)) → Appends a b x → Appends b c y → Appends a c (x ++ y)
appends_both x y None b c h k = tt
appends_both x y (Some old) None c h k = absurd h
appends_both x y (Some old) (Some between) None h k = absurd k
appends_both x y (Some old) (Some between) (Some new) h k = k ∙ ap (λ l. l ++ y) h ∙ append_assoc old x y

front_first : (x y : List ℕ) (a b : Option (List ℕ)) → AppendsFront a b x → AppendsFront a b (x ++ y)
front_first x y a b front = elim (cases_lt front.0 (length x)) [
  | inl lt ↦ (front.0, subst (Appends a b) (sym (take-append-le front.0 x y (omega (arith, lt)))) front.1)
  | inr ge ↦ (length x, subst (Appends a b) (take_all front.0 x ge ∙ sym (take-append_seam x y)) front.1)
]

pub front_later : (x y : List ℕ) (a b c : Option (List ℕ)) → Appends a b x → AppendsFront b c y → AppendsFront a c (x ++ y)
front_later x y a b c h front = (length x + front.0, subst (Appends a c) (sym (take-append-add x y front.0)) (appends_both x (take front.0 y) a b c h front.1))

pub nothing : (a : Option (List ℕ)) → Appends a a []
nothing None = tt
nothing (Some bytes) = sym (append-nil bytes)

-- of all that is to go out, this is left
pub record Printing (sent now : Option (List ℕ)) (faults faults' : ℕ) (all rest : List ℕ) : Type 0 where
  pub given : List ℕ
  pub wrote : Appends sent now given
  pub left : given ++ rest ≡ all
  pub same : faults' ≡ faults

pub printing_starts : (sent : Option (List ℕ)) (faults : ℕ) (all : List ℕ) → Printing sent sent faults faults all all
printing_starts sent faults all = record { given = []; wrote = nothing sent; left = refl; same = refl }

module _ (sent now new : Option (List ℕ)) (faults faults' faults'' : ℕ) (all rest : List ℕ) (so : Printing sent now faults faults' all rest) where
  pub printing_ends : rest ≡ [] → Prints (Ok tt) sent now all faults faults'
  printing_ends empty = (subst (Appends sent now) (sym (append-nil so.given) ∙ ap (λ l. so.given ++ l) (sym empty) ∙ so.left) so.wrote, so.same)

  module _ (line more text : List ℕ) (split : rest ≡ line ++ more) (text_is : text ≡ line) where
    whole : so.given ++ (line ++ more) ≡ all
    whole = ap (λ l. so.given ++ l) (sym split) ∙ so.left

    pub printing_more : Appends now new text × (faults'' ≡ faults') → Printing sent new faults faults'' all more
    printing_more printed = record {
      given = so.given ++ line;
      wrote = appends_both so.given line sent now new so.wrote (subst (Appends now new) text_is printed.0);
      left = append_assoc so.given line more ∙ whole;
      same = printed.1 ∙ so.same;
    }

    pub printing_fails : (result : Result (Unit {0}) PortFault) → IsErr result → AppendsFront now new text × Grew faults' faults'' → Prints result sent new all faults faults''
    printing_fails (Ok done) failed printed = absurd (cc failed)
    printing_fails (Err fault) failed printed = (
      subst (AppendsFront sent new) whole (front_later so.given (line ++ more) sent now new so.wrote (front_first line more now new (subst (AppendsFront now new) text_is printed.0))),
      subst (λ n. Grew n faults'') so.same printed.1,
    )

  -- the last of all texts
  pub printing_last : (text : List ℕ) → text ≡ rest → (result : Result (Unit {0}) PortFault) → Prints result now new text faults' faults'' → Prints result sent new all faults faults''
  printing_last text text_is (Ok done) printed = (
    subst (Appends sent new) (ap (λ l. so.given ++ l) text_is ∙ so.left) (appends_both so.given text sent now new so.wrote printed.0),
    printed.1 ∙ so.same,
  )
  printing_last text text_is (Err fault) printed = (
    subst (AppendsFront sent new) (ap (λ l. so.given ++ l) text_is ∙ so.left) (front_later so.given text sent now new so.wrote printed.0),
    subst (λ n. Grew n faults'') so.same printed.1,
  )

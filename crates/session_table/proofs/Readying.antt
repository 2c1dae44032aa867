-- Which sessions are ready, where those in line went on.
use Rattle.std.proofs.Common.{◌≡◌, ◌≢◌, ◌<◌, ◌||◌, ◌==◌, ℕ, zero, suc, Bool, true, false, List, [], ◌∷◌, map, drop, length, refl, ap, sym, ◌∙◌, subst, inl, inr}
use Rattle.std.specs.List.{slice_index_or, slice_set}
use Rattle.std.proofs.lemmas.Bool.{eq-eqb}
use Rattle.std.proofs.lemmas.Bool.Decides.{eqb_tells}
use Rattle.std.proofs.lemmas.List.{get_or-set_same, get_or-set_other}
use Rattle.chain_token.specs.Waiting.{is_among}
use Rattle.client_session.specs.declared.Stand.{Stand}
use Rattle.client_session.specs.Sessions.{SessionView, is_in_line, is_taken}
use Rattle.plays.specs.Schedule.{with_ready}
use Rattle.plays.proofs.Lists.{false_true}
use Rattle.session_table.specs.declared.Ended.{Ended}
use Rattle.session_table.specs.declared.seats.Seat.{Seat as Entry}
use Rattle.session_table.specs.declared.seats.Seats.{Seats}
use Rattle.session_table.specs.AtDesk.{EachReady, LineWent, OnlyReady, OthersStay, ReadyThere, SeatsFit, SetsReady, stands_at}
use Rattle.session_table.proofs.Entries.{fresh}
use Rattle.session_table.proofs.Handing.{only_ready, ready_entry}

pub ready_none : (seats : Seats) → EachReady seats seats
ready_none seats other going = record { went = λ h. false_true (sym (ap is_in_line going) ∙ h); stayed = λ h. refl }

-- one that was in line went on, and is set ready
module _ (grant : ℕ) (old mid new : Seats) where
  pub ready_one : is_in_line (stands_at old grant) ≡ true → grant < length mid.ready.items → OthersStay grant old mid → mid.ready ≡ old.ready → SetsReady grant true mid new → EachReady old new
  ready_one waits below others same sets other going = elim (eqb_tells other grant) [
    | inl e ↦ record {
      went = λ h. subst (λ g. slice_index_or new.ready.items g false ≡ true) (sym e.1)
          (ap (λ xs. slice_index_or xs grant false) sets.ready ∙ get_or-set_same mid.ready.items grant true false below);
      stayed = λ h. false_true (sym h ∙ subst (λ g. is_in_line (stands_at old g) ≡ true) (sym e.1) waits);
    }
    | inr n ↦ record {
      went = λ h. false_true (sym (ap is_in_line (still n.1)) ∙ h);
      stayed = λ h.
          ap (λ xs. slice_index_or xs other false) sets.ready ∙ get_or-set_other mid.ready.items grant other true false n.1
          ∙ ap (λ (v : _). slice_index_or v.items other false) same;
    }
  ]
    where
      still : other ≢ grant → stands_at old other ≡ Stand.Going
      still n =
          ap (λ (v : SessionView). v.stand) (sym (others other n))
          ∙ ap (λ (x : Entry). x.session.view.stand) (sym (ready_entry mid new (only_ready grant true mid new sets) other)) ∙ going

-- and then more went on: one that was back in line is set ready again, and one that was not stays ready
module _ (old mid new : Seats) where
  pub ready_both : LineWent old mid → EachReady old mid → LineWent mid new → EachReady mid new → EachReady old new
  ready_both first before later after other going = by (is_in_line (stands_at mid other)) refl
    where
      by : (b : Bool) → is_in_line (stands_at mid other) ≡ b → ReadyThere old new other
      by true e = record {
        went = λ h. (after other going).went e;
        stayed = λ h. false_true (sym (ap (λ (v : SessionView). is_in_line v.stand) (first.others other h) ∙ h) ∙ e);
      }
      by false e =
          let was = before other (ap (λ (v : SessionView). v.stand) (sym (later.others other e)) ∙ going) in
          record {
            went = λ h. (after other going).stayed e ∙ was.went h;
            stayed = λ h. (after other going).stayed e ∙ was.stayed h;
          }

-- ---- those that ended are not ready

not_first : (first rest : Bool) → (first || rest) ≡ false → (first ≡ false) × (rest ≡ false)
not_first true rest h = false_true (sym h)
not_first false rest h = (refl, h)

not_dropped : (n : ℕ) (xs : List Ended) (g : ℕ) → is_among g (map (λ (e : Ended). e.grant) xs) ≡ false → is_among g (map (λ (e : Ended). e.grant) (drop n xs)) ≡ false
not_dropped zero xs g h = h
not_dropped (suc n) [] g h = h
not_dropped (suc n) (x ∷ xs) g h = not_dropped n xs g (not_first (x.grant == g) (is_among g (map (λ (e : Ended). e.grant) xs)) h).1

unset_other : (grants : List ℕ) (ready : List Bool) (g : ℕ) → is_among g grants ≡ false → slice_index_or (with_ready false grants ready) g false ≡ slice_index_or ready g false
unset_other [] ready g h = refl
unset_other (x ∷ grants) ready g h =
    let apart = not_first (x == g) (is_among g grants) h in
    unset_other grants (slice_set ready x false) g apart.1 ∙ get_or-set_other ready x g false false (λ e. false_true (sym apart.0 ∙ eq-eqb x g (sym e)))

module _ (old mid new : Seats) (earlier : ℕ) where
  -- and one that is going did not end
  pub ready_rested : SeatsFit mid → OnlyReady mid new → new.ready.items ≡ with_ready false (map (λ (e : Ended). e.grant) (drop earlier mid.ended.items)) mid.ready.items → EachReady old mid → EachReady old new
  ready_rested fits only ready before other going =
      let still : stands_at mid other ≡ Stand.Going = ap (λ (x : Entry). x.session.view.stand) (sym (ready_entry mid new only other)) ∙ going in
      let was = before other still in
      let same = ap (λ xs. slice_index_or xs other false) ready
      ∙ unset_other (map (λ (e : Ended). e.grant) (drop earlier mid.ended.items)) mid.ready.items other (not_dropped earlier mid.ended.items other (fresh other mid fits (ap is_taken still))) in
      record { went = λ h. same ∙ was.went h; stayed = λ h. same ∙ was.stayed h }

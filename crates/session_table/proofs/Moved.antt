-- A grant's seat changed, and all went on with the play.
use Rattle.std.proofs.Common.{◌≡◌, ◌≢◌, ◌<◌, ℕ, zero, suc, Bool, true, false, List, [], ◌∷◌, ◌++◌, map, length, drop, refl, ap, sym, ◌∙◌, subst, arith, inl, inr, ◌⊎◌, Some, None}
use Rattle.std.specs.declared.option.Option.{Option}
use Rattle.std.proofs.lemmas.Bool.Decides.{eqb_tells}
use Rattle.std.proofs.lemmas.List.{get_or-set_same, get_or-set_other, length-set}
use Rattle.chain_model.specs.Chains.{ChainState}
use Rattle.chain_token.specs.declared.token.Token.{Token}
use Rattle.chain_token.specs.Waiting.{is_among}
use Rattle.grant_table.specs.Layouts.{LayoutShape}
use Rattle.scan_share.specs.Views.{ParkedView, OpenView}
use Rattle.client_session.specs.declared.Stand.{Stand}
use Rattle.client_session.specs.Seats.{Seat, IsFinished, finished, opens_next, replies_now}
use Rattle.client_session.specs.Sessions.{IsPrefix, is_in_line}
use Rattle.client_session.proofs.Later.{finished-advanced}
use Rattle.plays.specs.Plays.{Setting, Play, SessionEnd, after_change, all_steps_left, go, handed_on, is_holder, is_waiting, no_seat, seat_at, with_seat}
use Rattle.plays.specs.Schedule.{going_on_from, with_ready}
use Rattle.plays.proofs.Lists.{false_true}
use Rattle.plays.proofs.Waiting.{keeps_at}
use Rattle.plays.proofs.Going.{calm_going}
use Rattle.plays.proofs.Moving.{go_keeps}
use Rattle.session_table.specs.declared.Ended.{Ended}
use Rattle.session_table.specs.declared.seats.Seats.{Seats}
use Rattle.session_table.specs.Tables.{IsCalm, IsUnderWay}
use Rattle.session_table.specs.Shown.{session_end}
use Rattle.session_table.specs.AtDesk.{MayServe, OnlyReady, session_at, stands_at}
use Rattle.session_table.specs.Going.{AttendsOn, Fronts, GoneOn, HandedOn, MovedOn, PassedOn}
use Rattle.session_table.proofs.Handing.{ends_both, from_calm, last_none, ready_attends}
use Rattle.session_table.proofs.Playing.{marked, opens_marked}

-- ---- handed on to the end

module _ {C : Type 0} (setting : Setting) (given : ℕ → List ℕ) (play : Play) (old mid new : Seats) (desk next : Token (ParkedView C) (OpenView C)) (told now : Option ChainState) (earlier : ℕ) where
  pub passed : AttendsOn setting old desk given told play → IsCalm play → HandedOn setting old mid next given now play (all_steps_left play.seats) → OnlyReady mid new
      → new.ready.items ≡ with_ready false (map (λ (e : Ended). e.grant) (drop earlier mid.ended.items)) mid.ready.items → PassedOn setting old new next given now play earlier
  passed att calm handed only ready = record {
    gone = record {
      attends = ready_attends mid new only next setting given now (handed_on setting play) handed.gone.attends;
      ends = record { more = handed.gone.ends.more; ended = ap (λ (v : _). map session_end v.items) only.ended ∙ handed.gone.ends.ended; ends = handed.gone.ends.ends };
    };
    ready = ready ∙ ap (λ (v : _). with_ready false (map (λ (e : Ended). e.grant) (drop earlier v.items)) mid.ready.items) (sym only.ended)
        ∙ ap (with_ready false (map (λ (e : Ended). e.grant) (drop earlier new.ended.items))) handed.ready;
    calm = handed.calm;
    none = last_none setting given play old new desk next told att calm;
  }

-- ---- what ended

map_drop : (n : ℕ) (xs : List Ended) → map session_end (drop n xs) ≡ drop n (map session_end xs)
map_drop zero xs = refl
map_drop (suc n) [] = refl
map_drop (suc n) (x ∷ xs) = map_drop n xs

grants_of : (xs : List Ended) → map (λ (e : Ended). e.grant) xs ≡ map (λ (e : SessionEnd). e.grant) (map session_end xs)
grants_of [] = refl
grants_of (x ∷ xs) = ap (λ ys. x.grant ∷ ys) (grants_of xs)

drop_more : (xs : List Ended) (more : List SessionEnd) → drop (length xs) (map session_end xs ++ more) ≡ more
drop_more [] more = refl
drop_more (x ∷ xs) more = drop_more xs more

tail_grants : (xs ys : List Ended) (more : List SessionEnd) → map session_end ys ≡ map session_end xs ++ more → map (λ (e : Ended). e.grant) (drop (length xs) ys) ≡ map (λ (e : SessionEnd). e.grant) more
tail_grants xs ys more is =
    grants_of (drop (length xs) ys)
    ∙ ap (map (λ (e : SessionEnd). e.grant)) (map_drop (length xs) ys ∙ ap (drop (length xs)) is ∙ drop_more xs more)

-- ---- calm again

module _ (setting : Setting) (grant : ℕ) (seat : Seat) (play : Play) (lt : grant < length play.seats) where
  other_now : (g : ℕ) → g ≢ grant → seat_at (with_seat grant seat play) g ≡ seat_at play g
  other_now g n = get_or-set_other play.seats grant g seat no_seat n

  own_now : seat_at (with_seat grant seat play) grant ≡ seat
  own_now = get_or-set_same play.seats grant seat no_seat lt

  pub calm_then : IsUnderWay setting play → IsCalm play → (is_waiting play grant ≡ true → opens_next seat ≡ true) → seat.chain.scan_open ≡ (seat_at play grant).chain.scan_open → IsCalm (go setting grant (with_seat grant seat play))
  calm_then way calm own scan = from_calm (go setting grant (with_seat grant seat play)) (calm_going setting grant (with_seat grant seat play) (omega (arith, lt, length-set play.seats grant seat)) (record {
    waits = λ g h. elim (eqb_tells g grant) [
      | inl e ↦ subst (λ k. opens_next (seat_at (with_seat grant seat play) k) ≡ true) (sym e.1) (ap opens_next own_now ∙ own (subst (λ k. is_waiting play k ≡ true) e.1 h))
      | inr n ↦ ap opens_next (other_now g n.1) ∙ calm.waits g h
    ];
    holds = λ g h. elim (eqb_tells g grant) [
      | inl e ↦ subst (λ k. (seat_at (with_seat grant seat play) k).chain.scan_open ≡ true) (sym e.1) (ap (λ (s : Seat). s.chain.scan_open) own_now ∙ scan ∙ sym (way.scans grant) ∙ subst (λ k. is_holder play.holder k ≡ true) e.1 h)
      | inr n ↦ ap (λ (s : Seat). s.chain.scan_open) (other_now g n.1) ∙ sym (way.scans g) ∙ h
    ];
  }) (λ g n. subst (λ s. IsFinished s ⊎ (is_among g play.waiting ≡ true)) (sym (other_now g n)) (calm.rests g)))

  -- replies that are fronts after the grant went on are so before
  pub fronts_gone : (seats : Seats) (given : ℕ → List ℕ) → Fronts seats given (go setting grant (with_seat grant seat play)) → Fronts seats given (with_seat grant seat play)
  fronts_gone seats given fronts g below = subst (λ s. IsPrefix (given g ++ (session_at seats g).reply) (replies_now s)) (same g) (fronts g below)
    where
      same : (g : ℕ) → finished (seat_at (go setting grant (with_seat grant seat play)) g) ≡ finished (seat_at (with_seat grant seat play) g)
      same g = go_keeps setting (λ p. finished (seat_at p g) ≡ finished (seat_at (with_seat grant seat play) g)) (λ g0 p h. keeps_at setting g0 finished finished-advanced p g ∙ h) grant (with_seat grant seat play) refl

-- ---- by what is told

module _ {C : Type 0} (setting : Setting) (given : ℕ → List ℕ) (play : Play) (grant : ℕ) (old : Seats) (desk : Token (ParkedView C) (OpenView C)) (trst : Bool) where
  pub there_of : (told : Option ChainState) → MayServe old desk told trst → grant < length old.list.items → AttendsOn setting old desk given told play → grant < length play.seats
  there_of None may lt att = absurd att
  there_of (Some chain) may lt att = let e = ap (λ (l : LayoutShape). length l.grants) att.layout in omega (arith, lt, may.fits.count, e, att.under_way.seats)

  way_of : (told : Option ChainState) → AttendsOn setting old desk given told play → IsUnderWay setting play
  way_of None att = absurd att
  way_of (Some chain) att = att.under_way

  out_of : (told : Option ChainState) → MayServe old desk told trst → grant < length old.list.items → stands_at old grant ≡ Stand.Going → AttendsOn setting old desk given told play → is_waiting play grant ≡ true → false ≡ true
  out_of None may lt going att waits = absurd att
  out_of (Some chain) may lt going att waits = sym (ap is_in_line going) ∙ sym (may.at_desk.each grant lt).line ∙ ap (is_among grant) att.waiting_is ∙ waits

  -- after bytes came, and after the peer was gone
  pub calm_fed : (told : Option ChainState) → MayServe old desk told trst → grant < length old.list.items → stands_at old grant ≡ Stand.Going → AttendsOn setting old desk given told play → IsCalm play
      → (event : Seat → Seat) → (event (seat_at play grant)).chain ≡ (seat_at play grant).chain → IsCalm (go setting grant (with_seat grant (event (seat_at play grant)) play))
  calm_fed told may lt going att calm event same =
      calm_then setting grant (event (seat_at play grant)) play (there_of told may lt att) (way_of told att) calm (λ waits. false_true (out_of told may lt going att waits)) (ap (λ (c : ChainState). c.scan_open) same)

  pub calm_dropped : (told : Option ChainState) → MayServe old desk told trst → grant < length old.list.items → AttendsOn setting old desk given told play → IsCalm play
      → IsCalm (go setting grant (with_seat grant (record (seat_at play grant) { gone = true }) play))
  calm_dropped told may lt att calm =
      calm_then setting grant (marked (seat_at play grant)) play (there_of told may lt att) (way_of told att) calm (λ waits. opens_marked (seat_at play grant) ∙ calm.waits grant waits) refl

module _ {C : Type 0} (setting : Setting) (given : ℕ → List ℕ) (play : Play) (grant : ℕ) (seat : Seat) (old mid new : Seats) (middle next : Token (ParkedView C) (OpenView C)) (between now : Option ChainState) where
  pub moved_on : (earlier : ℕ) → earlier ≡ length old.ended.items → mid.ready ≡ old.ready → GoneOn setting old mid middle given between play (go setting grant (with_seat grant seat play))
      → PassedOn setting mid new next given now (go setting grant (with_seat grant seat play)) earlier → MovedOn setting old new next given now play (record { grant = grant; seat = seat })
  moved_on earlier count same gone passed =
      let ends = ends_both old mid new play (go setting grant (with_seat grant seat play)) (after_change setting play (Some (record { grant = grant; seat = seat }))) gone.ends passed.gone.ends in
      record {
        attends = passed.gone.attends;
        calm = passed.calm;
        none = passed.none;
        ends = ends;
        ready = passed.ready
            ∙ ap (λ n. with_ready false (map (λ (e : Ended). e.grant) (drop n new.ended.items)) (with_ready true (going_on_from setting (go setting grant (with_seat grant seat play))) mid.ready.items)) count
            ∙ ap (λ gs. with_ready false gs (with_ready true (going_on_from setting (go setting grant (with_seat grant seat play))) mid.ready.items)) (tail_grants old.ended.items new.ended.items ends.more ends.ended)
            ∙ ap (λ (v : _). with_ready false (map (λ (e : SessionEnd). e.grant) ends.more) (with_ready true (going_on_from setting (go setting grant (with_seat grant seat play))) v.items)) same;
      }

-- Where no session is ready and all rest, nothing is left to do for the server in the play that a hub stands for.
use Rattle.std.proofs.Common.{◌≡◌, ◌≢◌, ℕ, zero, suc, ◌<◌, ◌≤◌, Bool, true, false, cond, List, [], ◌∷◌, length, refl, ap, sym, subst, ◌∙◌, arith, inl, inr, ◌⊎◌}
use Rattle.std.specs.List.{list_any, slice_index_or}
use Rattle.std.specs.declared.option.Option.TheVariants.{Some}
use Rattle.chain_model.specs.Chains.{ChainState}
use Rattle.client_session.specs.Seats.{Seat}
use Rattle.client_session.specs.declared.Stand.TheVariants as stand
use Rattle.client_session.specs.Sessions.{stand_of}
use Rattle.wire_port.specs.Wires.{WireView, Last}
use Rattle.plays.specs.Plays.{Setting, Play, seat_at, no_seat, is_waiting, played}
use Rattle.plays.specs.Stands.{HubView}
use Rattle.plays.specs.Given.{IsAtRest}
use Rattle.plays.proofs.Lists.{false_true, past_end}
use Rattle.hub.specs.Standing.{HubStands}
use Rattle.hub.specs.Resting.{Rests}

none_ready : (ready : List Bool) (grant : ℕ) → list_any (λ each. each) ready ≡ false → slice_index_or ready grant false ≡ false
none_ready [] grant none = refl
none_ready (true ∷ ready) grant none = false_true (sym none)
none_ready (false ∷ ready) zero none = refl
none_ready (false ∷ ready) (suc grant) none = none_ready ready grant none

going_stand : (waits : Bool) (seat : Seat) → seat.going ≡ true → waits ≡ false → stand_of waits seat ≡ stand.Going
going_stand waits seat going not_waits =
    ap (λ g. cond g (cond waits (cond seat.gone stand.Leaving stand.Waits) stand.Going) stand.Free) going
    ∙ ap (λ w. cond w (cond seat.gone stand.Leaving stand.Waits) stand.Going) not_waits

or_not : (a b : ℕ) → (a < b) ⊎ (b ≤ a)
or_not a b = grind arith

module _ (setting : Setting) (hub : HubView) (chain : ChainState) (wire : WireView) (h : HubStands setting hub (Some chain) (Some wire)) (rests : Rests hub wire) (none : list_any (λ ready. ready) hub.ready ≡ false) where
  abbrev play : Play
  play = played setting wire.steps

  at_grant : (grant : ℕ) → grant < length setting.layout.grants → (seat_at play grant).going ≡ true → is_waiting play grant ≡ false → wire.last (seat_at play grant).conn ≢ Last.Other
  at_grant grant less going waits =
      let shown = h.stands.table.seats grant less in
      subst (λ conn. wire.last conn ≢ Last.Other) (shown.conn going)
      (rests grant (shown.shows.stand ∙ going_stand (is_waiting play grant) (seat_at play grant) going waits) (none_ready hub.ready grant none))

  pub at_rest : IsAtRest setting wire
  at_rest grant going waits = elim (or_not grant (length setting.layout.grants)) [
    | inl less ↦ at_grant grant less going waits
    | inr past ↦ false_true (let gone : seat_at play grant ≡ no_seat = past_end play.seats grant no_seat (omega (arith, past, h.stands.table.between.under_way.seats)) in sym (ap (λ seat. seat.going) gone) ∙ going)
  ]

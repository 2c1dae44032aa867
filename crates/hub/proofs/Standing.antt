-- The sessions stand for the play also after replies were thrown away, and after a poll that found no connection opened.
use Rattle.std.proofs.Common.{◌≡◌, ◌≢◌, ℕ, suc, ◌+◌, ◌<◌, Bool, true, false, cond, List, [], ◌∷◌, ◌++◌, length, refl, ap, sym, subst, ◌∙◌, arith, inl, inr, ◌⊎◌, nat_eq, append_assoc}
use Rattle.std.specs.declared.result.Result.TheVariants.{Ok}
use Rattle.std.specs.List.{slice_index_or, slice_set}
use Rattle.std.specs.declared.option.Option.{Option}
use Rattle.std.specs.declared.option.Option.TheVariants.{None, Some}
use Rattle.std.proofs.lemmas.Bool.{eqb-true}
use Rattle.std.proofs.lemmas.List.{get_or-set_other}
use Rattle.chain_model.specs.Chains.{ChainState}
use Rattle.client_session.specs.Seats.{Seat, EndedSession, replies_now}
use Rattle.client_session.specs.declared.Stand.{Stand}
use Rattle.client_session.specs.declared.Stand.TheVariants as stand
use Rattle.client_session.specs.Sessions.{IsPrefix, stand_of, is_here, is_in_line, is_leaving, is_taken}
use Rattle.wire_port.specs.Steps.{shuts, has_gone}
use Rattle.wire_port.specs.Wires.{WireView, Last}
use Rattle.wire_port.specs.declared.wire.Found.{Found}
use Rattle.wire_port.specs.declared.wire.Found.TheVariants as found
use Rattle.wire_port.specs.Calls.{after_named, after_poll}
use Rattle.plays.specs.Plays.{Setting, Play, seat_at, no_seat, is_waiting, played}
use Rattle.plays.specs.Stands.{SeatView, HubView, GivenSo, EachEndedSo, LiveSo, SessionSo, SeatStands, SeatsStand, Stands}
use Rattle.plays.proofs.Lists.{false_true, own_or_same}
use Rattle.session_table.specs.Tables.{TableStands, TableView, SeatShown, StandsOn, no_view, stand_at, view_at, reply_at, with_given, with_reply}
use Rattle.hub.specs.Served.{AreFlagged, ConnsAreOpen, IsInUse, SameSessions, conn_at, quieted, with_seats}
use Rattle.hub.specs.Standing.{PeerGiven, IsAttended, IsPast, EachIsPast, StandsBut, StandsOnBut, HubStands, FoundNow, opens_none}
use Rattle.hub.proofs.OnTheWire.{same_or}
use Rattle.hub.proofs.SeatLists.{here_as_was, away_quiet}
use Rattle.hub.proofs.Between.{each_at}
use Rattle.hub.proofs.Polling.{polled_seats}
use Rattle.hub.proofs.AfterCalls.{reply_same, same_flagged, same_open}

-- ---- a poll

-- how the last call was answered, where there is nothing to take now, after a poll that named a connection
named_back : (conn : ℕ) (wire : WireView) (other : ℕ) → (after_named conn wire).last other ≡ Last.NotNow → wire.last other ≡ Last.NotNow
named_back conn wire other is = by (nat_eq other conn) refl (nat_eq (shuts conn wire.steps) 0) is
  where
    other_now : Last.Other ≡ Last.NotNow → wire.last other ≡ Last.NotNow
    other_now is = absurd (let q : Last.Other ≡ Last.NotNow = is in cc)

    by : (b : Bool) → nat_eq other conn ≡ b → (c : Bool) → cond b (cond c Last.Other (wire.last conn)) (wire.last other) ≡ Last.NotNow → wire.last other ≡ Last.NotNow
    by false same c is = is
    by true same true is = other_now is
    by true same false is = ap wire.last (eqb-true other conn same) ∙ is

-- that of a connection that was shut stays
named_shut : (conn : ℕ) (wire : WireView) (other : ℕ) → shuts other wire.steps ≢ 0 → (after_named conn wire).last other ≡ wire.last other
named_shut conn wire other shut = by (nat_eq other conn) refl (nat_eq (shuts conn wire.steps) 0) refl
  where
    by : (b : Bool) → nat_eq other conn ≡ b → (c : Bool) → nat_eq (shuts conn wire.steps) 0 ≡ c → cond b (cond c Last.Other (wire.last conn)) (wire.last other) ≡ wire.last other
    by false same c none = refl
    by true same true none = absurd (shut (ap (λ c. shuts c wire.steps) (eqb-true other conn same) ∙ eqb-true (shuts conn wire.steps) 0 none))
    by true same false none = sym (ap wire.last (eqb-true other conn same))

named_past : (conn : ℕ) (wire : WireView) (past : EndedSession) → IsPast wire past → IsPast (after_named conn wire) past
named_past conn wire past is = record {
  given = (is.given.0, λ here not_short. is.given.1 here (λ short. not_short (last here is.closed ∙ short)));
  closed = is.closed;
}
  where
    last : has_gone past.conn wire.steps ≡ false → (shuts past.conn wire.steps ≢ 0) ⊎ (has_gone past.conn wire.steps ≡ true) → (after_named conn wire).last past.conn ≡ wire.last past.conn
    last here (inl shut) = named_shut conn wire past.conn shut
    last here (inr gone) = false_true (sym here ∙ gone)

named_each : (conn : ℕ) (wire : WireView) (list : List EndedSession) → EachIsPast wire list → EachIsPast (after_named conn wire) list
named_each conn wire [] each = tt
named_each conn wire (past ∷ list) each = (named_past conn wire past each.0, named_each conn wire list each.1)

named : (setting : Setting) (hub : HubView) (chain : ChainState) (conn : ℕ) (wire : WireView) → StandsBut setting [] hub chain wire → StandsBut setting [] hub chain (after_named conn wire)
named setting hub chain conn wire s = record {
  once = s.once;
  given = s.given;
  table = s.table;
  peers = λ grant used. record { here = (s.peers grant used).here; gone = (s.peers grant used).gone };
  attended = λ grant taken. record {
    idle = λ now. (s.attended grant taken).idle (named_back conn wire (conn_at hub grant) now);
    unasked = λ now. (s.attended grant taken).unasked (named_back conn wire (conn_at hub grant) now);
  };
  left_is = tt;
  past = λ grant. named_each conn wire _ (s.past grant);
  elsewhere = s.elsewhere;
}

pub polled : (setting : Setting) (hub : HubView) (chain : ChainState) (found : Found) (before : WireView) → opens_none found ≡ true → StandsBut setting [] hub chain before → StandsBut setting [] hub chain (after_poll (Ok found) before)
polled setting hub chain (found.Opened conn port) before none s = false_true none
polled setting hub chain (found.Ready conn) before none s = named setting hub chain conn before s
polled setting hub chain (found.Room conn) before none s = named setting hub chain conn before s
polled setting hub chain found.Nothing before none s = s
polled setting hub chain found.End before none s = s

-- ---- a reply is thrown away

away_leaves : (now : Stand) → is_here now ≡ false → is_taken now ≡ true → is_leaving now ≡ true
away_leaves stand.Free away taken = false_true taken
away_leaves stand.Going away taken = false_true (sym away)
away_leaves stand.Waits away taken = false_true (sym away)
away_leaves stand.Leaving away taken = refl

prefix_more : (front given reply : List ℕ) → IsPrefix front given → IsPrefix front (given ++ reply)
prefix_more front given reply is = (is.0 ++ reply, sym (append_assoc front is.0 reply) ∙ ap (λ l. l ++ reply) is.1)

module _ (setting : Setting) (hub : HubView) (gone : List Bool) (chain : ChainState) (wire : WireView) (at : ℕ)
    (away : is_here (stand_at hub at) ≡ false) (flagged : AreFlagged hub gone) (conns : ConnsAreOpen hub gone [] wire) (s : StandsBut setting [] hub chain wire) where
  same : SameSessions hub (with_reply at [] hub)
  same = reply_same hub at []

  abbrev given_now : ℕ → List ℕ
  given_now = with_given at (s.given at ++ reply_at hub at) s.given

  taken_before : (grant : ℕ) → is_taken (stand_at (with_reply at [] hub) grant) ≡ true → is_taken (stand_at hub grant) ≡ true
  taken_before grant taken = sym (ap is_taken (same.stands grant)) ∙ taken

  in_use : (grant : ℕ) → IsInUse (with_reply at [] hub) [] grant → is_taken (stand_at hub grant) ≡ true
  in_use grant (inl taken) = taken_before grant taken
  in_use grant (inr among) = false_true among

  peer_gone : is_taken (stand_at hub at) ≡ true → has_gone (conn_at hub at) wire.steps ≡ true
  peer_gone taken = (conns.each at (inl taken)).gone_is ∙ sym (flagged at taken) ∙ away_leaves (stand_at hub at) away taken

  peer_now : (grant : ℕ) → is_taken (stand_at hub grant) ≡ true → PeerGiven wire (conn_at hub grant) (given_now grant)
  peer_now grant taken = by (nat_eq grant at) refl
    where
      own : is_taken (stand_at hub at) ≡ true → PeerGiven wire (conn_at hub at) (s.given at ++ reply_at hub at)
      own taken = record {
        here = λ here. false_true (sym here ∙ peer_gone taken);
        gone = λ is. prefix_more (wire.given (conn_at hub at)) (s.given at) (reply_at hub at) ((s.peers at (inl taken)).gone is);
      }

      by : (b : Bool) → nat_eq grant at ≡ b → PeerGiven wire (conn_at hub grant) (cond b (s.given at ++ reply_at hub at) (s.given grant))
      by true is = let here : grant ≡ at = eqb-true grant at is in subst (λ g. PeerGiven wire (conn_at hub g) (s.given at ++ reply_at hub at)) (sym here) (own (subst (λ g. is_taken (stand_at hub g) ≡ true) here taken))
      by false is = s.peers grant (inl taken)

  abbrev quiet_view : SeatView
  quiet_view = record (view_at hub at) { session = record (view_at hub at).session { reply = [] } }

  attended_now : (grant : ℕ) → is_taken (stand_at hub grant) ≡ true → IsAttended wire (view_at (with_reply at [] hub) grant)
  attended_now grant taken = by (same_or grant at)
    where
      own : is_taken (stand_at hub at) ≡ true → (slice_index_or (slice_set hub.seats at quiet_view) at no_view ≡ quiet_view) ⊎ (slice_index_or (slice_set hub.seats at quiet_view) at no_view ≡ view_at hub at)
          → IsAttended wire (view_at (with_reply at [] hub) at)
      own taken (inl is) = subst (IsAttended wire) (sym is) (record { idle = λ now. refl; unasked = (s.attended at taken).unasked })
      own taken (inr is) = subst (IsAttended wire) (sym is) (s.attended at taken)

      by : (grant ≡ at) ⊎ (grant ≢ at) → IsAttended wire (view_at (with_reply at [] hub) grant)
      by (inl is) = subst (λ g. IsAttended wire (view_at (with_reply at [] hub) g)) (sym is) (own (subst (λ g. is_taken (stand_at hub g) ≡ true) is taken) (own_or_same hub.seats at quiet_view no_view))
      by (inr ne) = subst (IsAttended wire) (sym (get_or-set_other hub.seats at grant quiet_view no_view ne)) (s.attended grant taken)

  thrown_away : TableStands setting (with_reply at [] hub) given_now chain (played setting wire.steps) → StandsBut setting [] (with_reply at [] hub) chain wire
  thrown_away table = record {
    once = s.once;
    given = given_now;
    table = table;
    peers = λ grant used. subst (λ conn. PeerGiven wire conn (given_now grant)) (sym (same.conns grant)) (peer_now grant (in_use grant used));
    attended = λ grant taken. attended_now grant (taken_before grant taken);
    left_is = tt;
    past = s.past;
    elsewhere = s.elsewhere;
  }

-- what is said of a table whose grant's reply was thrown away
abbrev Throws : HubView → HubView → ℕ → Type 0
Throws old new at = (setting : Setting) (given : ℕ → List ℕ) (chain : Option ChainState) (play : Play) → StandsOn setting old given chain play → StandsOn setting new (with_given at (given at ++ reply_at old at) given) chain play

on_quiet : (setting : Setting) (hub : HubView) (gone : List Bool) (wire : WireView) (at : ℕ) (chain : Option ChainState) → Throws hub (with_reply at [] hub) at
    → is_here (stand_at hub at) ≡ false → AreFlagged hub gone → ConnsAreOpen hub gone [] wire → StandsOnBut setting [] hub chain (Some wire) → StandsOnBut setting [] (with_reply at [] hub) chain (Some wire)
on_quiet setting hub gone wire at None throws away flagged conns s = s
on_quiet setting hub gone wire at (Some chain) throws away flagged conns s = thrown_away setting hub gone chain wire at away flagged conns s (throws setting s.given (Some chain) (played setting wire.steps) s.table)

pub told_quiet : {C : Type 0} (chain : C → Option ChainState) (setting : Setting) (table now : TableView C) (gone : List Bool) (wire : WireView) (at : ℕ) → now ≡ record table { hub = with_reply at [] table.hub }
    → ((setting : Setting) (given : ℕ → List ℕ) (chain : Option ChainState) (play : Play) → StandsOn setting table.hub given chain play → StandsOn setting now.hub (with_given at (given at ++ reply_at table.hub at) given) chain play)
    → is_here (stand_at table.hub at) ≡ false → AreFlagged table.hub gone → ConnsAreOpen table.hub gone [] wire
    → StandsOnBut setting [] table.hub (chain table.cable) (Some wire) → StandsOnBut setting [] now.hub (chain now.cable) (Some wire)
told_quiet chain setting table now gone wire at is throws away flagged conns s =
    subst (λ t. StandsOnBut setting [] t.hub (chain t.cable) (Some wire)) (sym is) (on_quiet setting table.hub gone wire at (chain table.cable) (subst (λ t. Throws table.hub t.hub at) is throws) away flagged conns s)

-- one seat was quieted
quiet_same : {C : Type 0} (table now : TableView C) (at : ℕ) → now ≡ with_seats (slice_set table.hub.seats at (quieted (view_at table.hub at))) table → SameSessions table.hub now.hub
quiet_same table now at is = by (is_here (stand_at table.hub at)) refl
  where
    by : (b : Bool) → is_here (stand_at table.hub at) ≡ b → SameSessions table.hub now.hub
    by true here = subst (λ t. SameSessions table.hub t.hub) (here_as_was table at here ∙ sym is) (record { stands = λ grant. refl; conns = λ grant. refl; line = refl })
    by false away = subst (λ t. SameSessions table.hub t.hub) (away_quiet table at away ∙ sym is) (reply_same table.hub at [])

-- the sessions of a table stand on this wire, with flags that say of each whether its peer is gone
abbrev pub StandsFlagged : {C : Type 0} → (C → Option ChainState) → Setting → TableView C → List Bool → WireView → Type 0
StandsFlagged chain setting table gone wire = AreFlagged table.hub gone × ConnsAreOpen table.hub gone [] wire × StandsOnBut setting [] table.hub (chain table.cable) (Some wire)

pub more_quiet : {C : Type 0} (chain : C → Option ChainState) (setting : Setting) (table now : TableView C) (gone gone_now : List Bool) (wire : WireView) (at : ℕ)
    → now ≡ with_seats (slice_set table.hub.seats at (quieted (view_at table.hub at))) table → gone_now ≡ gone
    → (AreFlagged table.hub gone_now → ConnsAreOpen table.hub gone_now [] wire → StandsOnBut setting [] table.hub (chain table.cable) (Some wire) → StandsOnBut setting [] now.hub (chain now.cable) (Some wire))
    → StandsFlagged chain setting table gone wire → StandsFlagged chain setting now gone wire
more_quiet chain setting table now gone gone_now wire at is gone_is stands before = (
  same_flagged table.hub now.hub gone (quiet_same table now at is) before.0,
  same_open table.hub now.hub gone [] (Some wire) (quiet_same table now at is) before.1,
  stands (subst (AreFlagged table.hub) (sym gone_is) before.0) (subst (λ flags. ConnsAreOpen table.hub flags [] wire) (sym gone_is) before.1) before.2,
)

-- ---- a hub that stands so stands for its play

seats_from : (wire : WireView) (play : Play) (first : ℕ) (views : List SeatView) (seats : List Seat) → length views ≡ length seats
    → ((at : ℕ) → at < length seats → SeatStands wire (slice_index_or views at no_view) (is_waiting play (first + at)) (slice_index_or seats at no_seat)) → SeatsStand wire play first views seats
seats_from wire play first [] [] same each = tt
seats_from wire play first [] (seat ∷ seats) same each = absurd (omega (arith, same))
seats_from wire play first (view ∷ views) [] same each = absurd (omega (arith, same))
seats_from wire play first (view ∷ views) (seat ∷ seats) same each = (
  subst (λ n. SeatStands wire view (is_waiting play n) seat) (plus_none first) (each 0 (omega arith)),
  seats_from wire play (suc first) views seats (omega (arith, same)) (λ at below. subst (λ n. SeatStands wire (slice_index_or views at no_view) (is_waiting play n) (slice_index_or seats at no_seat)) (next first at) (each (suc at) (omega (arith, below)))),
)
  where
    plus_none : (n : ℕ) → n + 0 ≡ n
    plus_none n = omega arith

    next : (n at : ℕ) → n + suc at ≡ suc n + at
    next n at = omega arith

each_ended : (wire : WireView) (list : List EndedSession) → EachIsPast wire list → EachEndedSo wire list
each_ended wire [] each = tt
each_ended wire (past ∷ list) each = (each.0.given, each_ended wire list each.1)

going_taken : (waits : Bool) (seat : Seat) → seat.going ≡ true → is_taken (stand_of waits seat) ≡ true
going_taken waits seat going = rw going (by waits seat.gone)
  where
    by : (waits gone : Bool) → is_taken (cond waits (cond gone stand.Leaving stand.Waits) stand.Going) ≡ true
    by false gone = refl
    by true false = refl
    by true true = refl

going_in_line : (waits : Bool) (seat : Seat) → seat.going ≡ true → waits ≡ true → is_in_line (stand_of waits seat) ≡ true
going_in_line waits seat going waits_now = rw (going, waits_now) (by seat.gone)
  where
    by : (gone : Bool) → is_in_line (cond gone stand.Leaving stand.Waits) ≡ true
    by false = refl
    by true = refl

free_away : (waits : Bool) (seat : Seat) → seat.going ≡ false → is_here (stand_of waits seat) ≡ false
free_away waits seat free = rw free refl

leaving_away : (now : Stand) → is_leaving now ≡ true → is_here now ≡ false
leaving_away stand.Free leaving = refl
leaving_away stand.Going leaving = false_true leaving
leaving_away stand.Waits leaving = false_true leaving
leaving_away stand.Leaving leaving = refl

replies_going : (seat : Seat) → seat.going ≡ true → replies_now seat ≡ seat.replies
replies_going seat going = rw going refl

module _ (setting : Setting) (hub : HubView) (chain : ChainState) (wire : WireView) (h : HubStands setting hub (Some chain) (Some wire)) where
  abbrev play : Play
  play = played setting wire.steps

  abbrev s : StandsBut setting [] hub chain wire
  s = h.stands

  module _ (grant : ℕ) (shown : SeatShown (view_at hub grant) (is_waiting play grant) (seat_at play grant) (s.given grant)) where
    abbrev seat : Seat
    seat = seat_at play grant

    module _ (going : seat.going ≡ true) where
      taken : is_taken (stand_at hub grant) ≡ true
      taken = ap is_taken shown.shows.stand ∙ going_taken (is_waiting play grant) seat going

      all : s.given grant ++ reply_at hub grant ≡ seat.replies
      all = shown.shows.replies ∙ replies_going seat going

      given_so : (b : Bool) → has_gone (conn_at hub grant) wire.steps ≡ b → GivenSo b (wire.given (conn_at hub grant)) (reply_at hub grant) seat.replies
      given_so false here = ap (λ l. l ++ reply_at hub grant) ((s.peers grant (inl taken)).here here) ∙ all
      given_so true gone = (
        subst (IsPrefix (wire.given (conn_at hub grant))) all (prefix_more (wire.given (conn_at hub grant)) (s.given grant) (reply_at hub grant) ((s.peers grant (inl taken)).gone gone)),
        h.quiet grant (leaving_away (stand_at hub grant) (sym (each_at wire hub.seats h.conns.each grant taken).gone ∙ gone)),
      )

      live : LiveSo wire (view_at hub grant) (is_waiting play grant) seat
      live = record {
        conn = shown.conn going;
        given = subst (λ conn. GivenSo (has_gone conn wire.steps) (wire.given conn) (reply_at hub grant) seat.replies) (shown.conn going) (given_so (has_gone (conn_at hub grant) wire.steps) refl);
        idle = λ now. (s.attended grant taken).idle (ap wire.last (shown.conn going) ∙ now);
        unasked = λ waits now. false_true (sym ((s.attended grant taken).unasked (ap wire.last (shown.conn going) ∙ now)) ∙ ap is_in_line shown.shows.stand ∙ going_in_line (is_waiting play grant) seat going waits);
      }

    session_so : (b : Bool) → seat.going ≡ b → SessionSo b wire (view_at hub grant) (is_waiting play grant) seat
    session_so true going = live going
    session_so false free = h.quiet grant (ap is_here shown.shows.stand ∙ free_away (is_waiting play grant) seat free)

    seat_stands : SeatStands wire (view_at hub grant) (is_waiting play grant) seat
    seat_stands = record { front = s.given grant; shows = shown.shows; session = session_so seat.going refl; ended = each_ended wire seat.past (s.past grant) }

  hub_stands : Stands setting hub chain wire play
  hub_stands = record {
    layout = s.table.layout;
    vector = s.table.vector;
    trst = s.table.trst;
    fit = s.table.fit;
    holder = s.table.holder;
    waiting = s.table.waiting;
    joins = s.table.joins;
    seats = seats_from wire play 0 hub.seats play.seats (h.seats ∙ ap (λ layout. length layout.grants) s.table.layout ∙ sym s.table.between.under_way.seats)
        (λ grant below. subst (λ n. SeatStands wire (view_at hub grant) (is_waiting play n) (seat_at play grant)) (none_plus grant) (seat_stands grant (s.table.seats grant (omega (arith, below, s.table.between.under_way.seats)))));
    holds = s.table.holds;
    whole = s.table.whole;
    over = λ grant. (s.table.between.under_way.over grant).made;
    elsewhere = s.elsewhere;
    made = s.table.made;
    scan = s.table.scan;
  }
    where
      none_plus : (n : ℕ) → n ≡ 0 + n
      none_plus n = omega arith

pub stands_for_play : (setting : Setting) (hub : HubView) (chain : ChainState) (wire : WireView) → HubStands setting hub (Some chain) (Some wire) → Stands setting hub chain wire (played setting wire.steps)
stands_for_play setting hub chain wire h = hub_stands setting hub chain wire h

pub keeps_play : (setting : Setting) (hub : HubView) (chain : Option ChainState) (before now : Option WireView) (found : Found) → opens_none found ≡ true → FoundNow found before now → HubStands setting hub chain before → HubStands setting hub chain now
keeps_play setting hub None before now found none at h = absurd h.stands
keeps_play setting hub (Some chain) None now found none at h = absurd at
keeps_play setting hub (Some chain) (Some before) None found none at h = absurd at
keeps_play setting hub (Some chain) (Some before) (Some now) found none at h = record {
  stands = subst (StandsBut setting [] hub chain) (sym at) (polled setting hub chain found before none h.stands);
  quiet = h.quiet;
  seats = h.seats;
  conns = polled_seats hub (Ok found) (Some before) (Some now) h.conns at;
}

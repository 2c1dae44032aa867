-- A connection opened: the sessions stand for the play in which it was admitted, or turned away.
use Rattle.std.proofs.Common.{◌≡◌, ◌≢◌, ℕ, zero, suc, ◌+◌, ◌<◌, Bool, true, false, not, ◌&&◌, ◌||◌, cond, List, [], ◌∷◌, ◌++◌, length, map, refl, ap, sym, subst, ◌∙◌, arith, inl, inr, ◌⊎◌, nat_eq}
use Rattle.std.specs.List.{list_any, slice_index_or, slice_set}
use Rattle.std.specs.Result.{OnOk}
use Rattle.std.specs.declared.result.Result.{Result}
use Rattle.std.specs.declared.option.Option.{Option}
use Rattle.std.specs.declared.option.Option.TheVariants.{None, Some}
use Rattle.std.specs.declared.result.Result.TheVariants.{Ok, Err}
use Rattle.std.proofs.lemmas.Bool.{eqb-true, eq-eqb}
use Rattle.std.proofs.lemmas.List.{append-nil, get_or-set_other}
use Rattle.std.proofs.lemmas.List.Folds.{list_any-append}
use Rattle.base_types.specs.Tellings.{Told, Both}
use Rattle.chain_model.specs.Chains.{ChainState}
use Rattle.grant_table.specs.Layouts.{GrantShape, LayoutShape, grant_of}
use Rattle.client_session.specs.declared.Stand.{Stand}
use Rattle.client_session.specs.Seats.{EndedSession}
use Rattle.client_session.specs.Private.{opened}
use Rattle.client_session.specs.Sessions.{is_in_line, is_taken}
use Rattle.client_session.specs.Turns.{is_holder}
use Rattle.wire_port.specs.Steps.{Step, opens, opens_once, shuts, has_gone, is_gone_step}
use Rattle.wire_port.specs.Steps.Step.{Opened, Took, Gone, Shut}
use Rattle.wire_port.specs.Wires.{WireView}
use Rattle.wire_port.specs.Calls.{IsWire, after_poll, after_shut}
use Rattle.wire_port.specs.declared.wire.Found.{Found}
use Rattle.wire_port.specs.declared.wire.Found.TheVariants as found
use Rattle.plays.specs.Plays.{Setting, Play, after_change, change_by_opening, is_among, no_seat, played, seat_at, seat_of, start, with_seat}
use Rattle.plays.specs.Alone.{conns_of}
use Rattle.plays.specs.Outcomes.{SeatsOpen}
use Rattle.plays.specs.Stands.{HubView, NoneElseGiven}
use Rattle.plays.proofs.Isolation.{played_isolated}
use Rattle.plays.proofs.Lists.{among-append, false_true}
use Rattle.plays.proofs.Replays.{played-snoc}
use Rattle.session_table.specs.Tables.{FollowsOpening, StandsOn, TableStands, TableView, no_view, reply_at, stand_at, view_at, with_given}
use Rattle.session_table.proofs.Opened.{opened_play, other_opened, own_opened}
use Rattle.hub.specs.Served.{AreCalm, AreWhole, HasBegun, IsInUse, admitted_at, conn_at, where_free}
use Rattle.hub.specs.Standing.{EachIsPast, FollowsEvent, FoundNow, HubStands, IsAttended, KeepsPlay, PeerGiven, StandsBut, StandsOnBut, opens_none}
use Rattle.hub.proofs.Giving.{attended_kept, conn_among, given_other, given_own, going, keeps_forgot, past_kept, peer_kept}
use Rattle.hub.proofs.OnTheWire.{last_other, same_or, shuts-snoc}
use Rattle.hub.proofs.Places.{granted_below}
use Rattle.hub.proofs.Polling.{free_seats}
use Rattle.hub.proofs.Standing.{polled}

or_false : (b : Bool) → (b || false) ≡ b
or_false true = refl
or_false false = refl

plus_none : (n : ℕ) → n + 0 ≡ n
plus_none n = omega arith

neither : (a b : Bool) → (a || b) ≡ false → (a ≡ false) × (b ≡ false)
neither true b h = absurd (let q : true ≡ false = h in cc)
neither false b h = (refl, h)

both : (a b : Bool) → (a && b) ≡ true → (a ≡ true) × (b ≡ true)
both true b h = (refl, h)
both false b h = false_true h

not_so : (a : Bool) → not a ≡ true → a ≡ false
not_so true h = false_true h
not_so false h = refl

-- ---- the connection is a new one

-- the last step opened it, and no step before
pub new_conn : (conn port : ℕ) (steps : List Step) → opens_once (steps ++ Opened conn port ∷ []) ≡ true → list_any (opens conn) steps ≡ false
new_conn conn port [] once = refl
new_conn conn port (Opened other at ∷ steps) once =
    let parts = both (not (list_any (opens other) (steps ++ Opened conn port ∷ []))) (opens_once (steps ++ Opened conn port ∷ [])) once in
    let none = neither (list_any (opens other) steps) (list_any (opens other) (Opened conn port ∷ []))
    (sym (list_any-append (opens other) steps (Opened conn port ∷ [])) ∙ not_so (list_any (opens other) (steps ++ Opened conn port ∷ [])) parts.0) in
    by (nat_eq conn other) refl (sym (or_false (nat_eq other conn)) ∙ none.1) (new_conn conn port steps parts.1)
  where
    by : (b : Bool) → nat_eq conn other ≡ b → nat_eq other conn ≡ false → list_any (opens conn) steps ≡ false → (b || list_any (opens conn) steps) ≡ false
    by true same apart later = false_true (sym apart ∙ eq-eqb other conn (sym (eqb-true conn other same)))
    by false same apart later = later
new_conn conn port (Took other bytes ∷ steps) once = new_conn conn port steps once
new_conn conn port (Gone other ∷ steps) once = new_conn conn port steps once
new_conn conn port (Shut other ∷ steps) once = new_conn conn port steps once

-- no grant admitted it
pub unknown : (setting : Setting) (steps : List Step) (conn : ℕ) → opens_once steps ≡ true → list_any (opens conn) steps ≡ false → (grant : ℕ) → is_among conn (conns_of (seat_at (played setting steps) grant)) ≡ false
unknown setting steps conn once fresh grant = by (is_among conn (conns_of (seat_at (played setting steps) grant))) refl
  where
    by : (b : Bool) → is_among conn (conns_of (seat_at (played setting steps) grant)) ≡ b → b ≡ false
    by true is = sym ((played_isolated setting steps once).known grant conn is) ∙ fresh
    by false is = refl

front_none : (conn : ℕ) (xs ys : List ℕ) → is_among conn (xs ++ ys) ≡ false → is_among conn xs ≡ false
front_none conn xs ys none = (neither (is_among conn xs) (is_among conn ys) (sym (among-append conn xs ys) ∙ none)).0

-- it is none of a list of sessions that ended
past_other : (conn : ℕ) (past : EndedSession) (rest : List EndedSession) → is_among conn (map (λ p. p.conn) (past ∷ rest)) ≡ false → (past.conn ≢ conn) × (is_among conn (map (λ p. p.conn) rest) ≡ false)
past_other conn past rest none = let each = neither (nat_eq past.conn conn) (is_among conn (map (λ p. p.conn) rest)) none in (λ same. false_true (sym each.0 ∙ eq-eqb past.conn conn same), each.1)

-- whose peers are gone and what each was given are the same still, how others than this connection were answered too, and what was shut is shut
pub record Beside (conn : ℕ) (before now : WireView) : Type 0 where
  pub gone : (other : ℕ) → has_gone other now.steps ≡ has_gone other before.steps
  pub given : (other : ℕ) → now.given other ≡ before.given other
  pub last : (other : ℕ) → other ≢ conn → now.last other ≡ before.last other
  pub shut : (other : ℕ) → shuts other before.steps ≢ 0 → shuts other now.steps ≢ 0

pasts_beside : (conn : ℕ) (before now : WireView) (pasts : List EndedSession) → Beside conn before now → is_among conn (map (λ p. p.conn) pasts) ≡ false → EachIsPast before pasts → EachIsPast now pasts
pasts_beside conn before now [] beside none each = tt
pasts_beside conn before now (past ∷ rest) beside none each =
    let apart = past_other conn past rest none in
    (past_kept before now past (record { gone = beside.gone past.conn; given = beside.given past.conn; last = beside.last past.conn apart.0; shut = beside.shut past.conn }) each.0, pasts_beside conn before now rest beside apart.1 each.1)

snoc_gone : (other : ℕ) (steps : List Step) (step : Step) → is_gone_step other step ≡ false → has_gone other (steps ++ step ∷ []) ≡ has_gone other steps
snoc_gone other steps step none = list_any-append (is_gone_step other) steps (step ∷ []) ∙ ap (λ b. has_gone other steps || (b || false)) none ∙ or_false (has_gone other steps)

snoc_shut : (other : ℕ) (steps : List Step) (step : Step) → shuts other steps ≢ 0 → shuts other (steps ++ step ∷ []) ≢ 0
snoc_shut other steps step shut none = shut (omega (arith, none, shuts-snoc other steps step))

found_beside : (conn port : ℕ) (before : WireView) → Beside conn before (after_poll (Ok (found.Opened conn port)) before)
found_beside conn port before = record {
  gone = λ other. snoc_gone other before.steps (Opened conn port) refl;
  given = λ other. refl;
  last = λ other ne. last_other conn _ before.last other ne;
  shut = λ other. snoc_shut other before.steps (Opened conn port);
}

shut_beside : (conn : ℕ) (before now : WireView) → Beside conn before now → Beside conn before (after_shut conn now)
shut_beside conn before now beside = record {
  gone = λ other. snoc_gone other now.steps (Shut conn) refl ∙ beside.gone other;
  given = beside.given;
  last = beside.last;
  shut = λ other was. snoc_shut other now.steps (Shut conn) (beside.shut other was);
}

-- ---- the sessions stand beside a new connection

module _ (setting : Setting) (hub : HubView) (gone : List Bool) (chain : ChainState) (before : WireView) (conn port : ℕ) (whole : AreWhole hub gone) (s : StandsBut setting [] hub chain before)
    (once : opens_once (before.steps ++ Opened conn port ∷ []) ≡ true) where
  abbrev play : Play
  play = played setting before.steps

  nobody : (grant : ℕ) → is_among conn (conns_of (seat_at play grant)) ≡ false
  nobody = unknown setting before.steps conn s.once (new_conn conn port before.steps once)

  -- no open session has it
  apart : (grant : ℕ) → is_taken (stand_at hub grant) ≡ true → conn_at hub grant ≢ conn
  apart grant taken same = false_true (sym (nobody grant) ∙ ap (λ one. is_among one (conns_of (seat_at play grant))) (sym same) ∙ conn_among setting hub s.given chain play s.table gone whole grant taken)

  peer_beside : (now : WireView) → Beside conn before now → (grant : ℕ) → is_taken (stand_at hub grant) ≡ true → PeerGiven now (conn_at hub grant) (s.given grant)
  peer_beside now beside grant taken = peer_kept before now (conn_at hub grant) (s.given grant) (beside.gone (conn_at hub grant)) (beside.given (conn_at hub grant)) (s.peers grant (inl taken))

  attended_beside : (now : WireView) → Beside conn before now → (grant : ℕ) → is_taken (stand_at hub grant) ≡ true → IsAttended now (view_at hub grant)
  attended_beside now beside grant taken = attended_kept before now (view_at hub grant) (beside.last (conn_at hub grant) (apart grant taken)) (s.attended grant taken)

  past_beside : (now : WireView) → Beside conn before now → (grant : ℕ) → EachIsPast now (seat_at play grant).past
  past_beside now beside grant = pasts_beside conn before now (seat_at play grant).past beside (front_none conn (map (λ p. p.conn) (seat_at play grant).past) _ (nobody grant)) (s.past grant)

  nothing_given : before.given conn ≡ []
  nothing_given = s.elsewhere conn nobody

  -- ---- it is turned away

  turned_to : (now : WireView) → Beside conn before now → opens_once now.steps ≡ true → played setting now.steps ≡ play → StandsBut setting [] hub chain now
  turned_to now beside once_now same = record {
    once = once_now;
    given = s.given;
    table = subst (TableStands setting hub s.given chain) (sym same) s.table;
    peers = λ grant used. peer grant used;
    attended = λ grant taken. attended_beside now beside grant taken;
    left_is = tt;
    past = λ grant. subst (λ p. EachIsPast now (seat_at p grant).past) (sym same) (past_beside now beside grant);
    elsewhere = subst (NoneElseGiven now) (sym same) (λ other none. beside.given other ∙ s.elsewhere other none);
  }
    where
      peer : (grant : ℕ) → IsInUse hub [] grant → PeerGiven now (conn_at hub grant) (s.given grant)
      peer grant (inl taken) = peer_beside now beside grant taken
      peer grant (inr among) = false_true among

  -- nobody admits it
  change_none : (o : Option ℕ) → ((grant : ℕ) → o ≡ Some grant → grant < length hub.layout.grants) → where_free hub o ≡ None → after_change setting play (change_by_opening o conn play) ≡ play
  change_none None below none = refl
  change_none (Some grant) below none = by (is_taken (stand_at hub grant)) refl none
    where
      by : (b : Bool) → is_taken (stand_at hub grant) ≡ b → cond b None (Some grant) ≡ None → after_change setting play (change_by_opening (Some grant) conn play) ≡ play
      by true taken is = ap (λ b. after_change setting play (cond b None (Some (record { grant = grant; seat = opened conn (seat_at play grant) })))) (going setting hub s.given chain play s.table gone whole grant taken)
      by false taken is = absurd (let q : Some grant ≡ None = is in cc)

  played_away : admitted_at hub port ≡ None → played setting (before.steps ++ Opened conn port ∷ []) ≡ play
  played_away none = played-snoc setting before.steps (Opened conn port)
      ∙ ap (λ layout. after_change setting play (change_by_opening (grant_of layout port) conn play)) (sym s.table.layout)
      ∙ change_none (grant_of hub.layout port) (granted_below hub.layout port) none

  pub away_play : admitted_at hub port ≡ None → (now : WireView) → now ≡ after_shut conn (after_poll (Ok (found.Opened conn port)) before) → played setting now.steps ≡ played setting before.steps
  away_play none now is = ap (λ wire. played setting wire.steps) is ∙ played-snoc setting (before.steps ++ Opened conn port ∷ []) (Shut conn) ∙ played_away none

  pub away_stands : admitted_at hub port ≡ None → (now : WireView) → now ≡ after_shut conn (after_poll (Ok (found.Opened conn port)) before) → opens_once now.steps ≡ true → StandsBut setting [] hub chain now
  away_stands none now is once_now =
      turned_to now (subst (Beside conn before) (sym is) (shut_beside conn before (after_poll (Ok (found.Opened conn port)) before) (found_beside conn port before))) once_now (away_play none now is)

  -- ---- it is admitted

  module _ (new : HubView) (grant : ℕ) (there : grant < length hub.layout.grants) (granted : grant_of hub.layout port ≡ Some grant) (begun : HasBegun grant conn hub new) (stand_is : stand_at new grant ≡ Stand.Going) (reply_is : reply_at new grant ≡ [])
      (follows : FollowsOpening setting hub new s.given (Some chain) play grant conn) where
    seat_there : grant < length play.seats
    seat_there = let same = ap (λ (l : LayoutShape). length l.grants) s.table.layout in omega (arith, there, same, s.table.between.under_way.seats)

    not_held : is_holder play.holder grant ≡ false
    not_held = s.table.between.under_way.scans grant ∙ (played_isolated setting before.steps s.once).shut grant follows.free

    abbrev next : Play
    next = with_seat grant (opened conn (seat_at play grant)) play

    changed : after_change setting play (Some (record { grant = grant; seat = opened conn (seat_at play grant) })) ≡ next
    changed = opened_play setting play grant conn seat_there not_held s.table.between.none

    played_next : played setting (before.steps ++ Opened conn port ∷ []) ≡ next
    played_next = played-snoc setting before.steps (Opened conn port)
        ∙ ap (λ layout. after_change setting play (change_by_opening (grant_of layout port) conn play)) (sym s.table.layout)
        ∙ ap (λ o. after_change setting play (change_by_opening o conn play)) granted
        ∙ ap (λ b. after_change setting play (cond b None (Some (record { grant = grant; seat = opened conn (seat_at play grant) })))) follows.free
        ∙ changed

    own_seat : seat_at next grant ≡ opened conn (seat_at play grant)
    own_seat = own_opened setting play grant conn seat_there

    other_seat : (other : ℕ) → other ≢ grant → seat_at next other ≡ seat_at play other
    other_seat = other_opened setting play grant conn seat_there

    past_same : (other : ℕ) → (seat_at next other).past ≡ (seat_at play other).past
    past_same other = by (same_or other grant)
      where
        by : (other ≡ grant) ⊎ (other ≢ grant) → (seat_at next other).past ≡ (seat_at play other).past
        by (inl is) = subst (λ g. (seat_at next g).past ≡ (seat_at play g).past) (sym is) (ap (λ seat. seat.past) own_seat)
        by (inr ne) = ap (λ seat. seat.past) (other_seat other ne)

    -- what none admits after it, none admitted before
    none_before : (one : ℕ) → ((other : ℕ) → is_among one (conns_of (seat_at next other)) ≡ false) → (other : ℕ) → is_among one (conns_of (seat_at play other)) ≡ false
    none_before one none other = by (same_or other grant)
      where
        own : is_among one (map (λ p. p.conn) (seat_at play grant).past) ≡ false
        own = front_none one (map (λ p. p.conn) (seat_at play grant).past) (conn ∷ []) (subst (λ seat. is_among one (conns_of seat) ≡ false) own_seat (none grant))

        by : (other ≡ grant) ⊎ (other ≢ grant) → is_among one (conns_of (seat_at play other)) ≡ false
        by (inl is) = subst (λ g. is_among one (conns_of (seat_at play g)) ≡ false) (sym is)
            (ap (λ b. is_among one (map (λ p. p.conn) (seat_at play grant).past ++ cond b ((seat_at play grant).conn ∷ []) [])) follows.free ∙ ap (is_among one) (append-nil (map (λ p. p.conn) (seat_at play grant).past)) ∙ own)
        by (inr ne) = subst (λ seat. is_among one (conns_of seat) ≡ false) (other_seat other ne) (none other)

    module _ (now : WireView) (is : now ≡ after_poll (Ok (found.Opened conn port)) before) where
      beside : Beside conn before now
      beside = subst (Beside conn before) (sym is) (found_beside conn port before)

      was_taken : (other : ℕ) → other ≢ grant → is_taken (stand_at new other) ≡ true → is_taken (stand_at hub other) ≡ true
      was_taken other ne taken = subst (λ view. is_taken view.session.stand ≡ true) (begun.others other ne) taken

      own_peer : PeerGiven now conn []
      own_peer = let none : now.given conn ≡ [] = beside.given conn ∙ nothing_given in record { here = λ here. none; gone = λ gone. ([], append-nil (now.given conn) ∙ none) }

      peer : (other : ℕ) → IsInUse new [] other → (other ≡ grant) ⊎ (other ≢ grant) → PeerGiven now (conn_at new other) (with_given grant [] s.given other)
      peer other (inr among) at = false_true among
      peer other (inl taken) (inl same) = subst (λ g. PeerGiven now (conn_at new g) (with_given grant [] s.given g)) (sym same)
          (subst (λ one. PeerGiven now one (with_given grant [] s.given grant)) (sym begun.conn_is) (subst (PeerGiven now conn) (sym (given_own grant [] s.given)) own_peer))
      peer other (inl taken) (inr ne) = subst (λ view. PeerGiven now view.conn (with_given grant [] s.given other)) (sym (begun.others other ne))
          (subst (PeerGiven now (conn_at hub other)) (sym (given_other grant [] s.given other ne)) (peer_beside now beside other (was_taken other ne taken)))

      attend : (other : ℕ) → is_taken (stand_at new other) ≡ true → (other ≡ grant) ⊎ (other ≢ grant) → IsAttended now (view_at new other)
      attend other taken (inl same) = subst (λ g. IsAttended now (view_at new g)) (sym same) (record { idle = λ asked. reply_is; unasked = λ asked. ap is_in_line stand_is })
      attend other taken (inr ne) = subst (IsAttended now) (sym (begun.others other ne)) (attended_beside now beside other (was_taken other ne taken))

      play_now : played setting now.steps ≡ next
      play_now = ap (λ wire. played setting wire.steps) is ∙ played_next

      pub begun_ends : (played setting now.steps).ends ≡ (played setting before.steps).ends
      begun_ends = ap (λ play. play.ends) play_now

      pub begun_stands : StandsBut setting [] new chain now
      begun_stands = record {
        once = ap (λ wire. opens_once wire.steps) is ∙ once;
        given = with_given grant [] s.given;
        table = subst (TableStands setting new (with_given grant [] s.given) chain) (sym play_now) (subst (λ p. StandsOn setting new (with_given grant [] s.given) (Some chain) p) changed follows.stands);
        peers = λ other used. peer other used (same_or other grant);
        attended = λ other taken. attend other taken (same_or other grant);
        left_is = tt;
        past = λ other. subst (λ p. EachIsPast now (seat_at p other).past) (sym play_now) (subst (EachIsPast now) (sym (past_same other)) (past_beside now beside other));
        elsewhere = subst (NoneElseGiven now) (sym play_now) (λ one none. beside.given one ∙ s.elsewhere one (none_before one none));
      }

-- ---- what is told

-- the table after a session began
pub begun_by : {C : Type 0} (table now : TableView C) (grant conn : ℕ) → (view_at now.hub grant).conn ≡ conn
    → now ≡ record table { hub = record table.hub { seats = slice_set table.hub.seats grant (view_at now.hub grant); ready = slice_set table.hub.ready grant true } } → HasBegun grant conn table.hub now.hub
begun_by table now grant conn conn_is kept = record {
  conn_is = conn_is;
  others = λ other ne. ap (λ t. view_at t.hub other) kept ∙ get_or-set_other table.hub.seats grant other (view_at now.hub grant) no_view ne;
}

pub begins_follow : {C : Type 0} (chain : C → Option ChainState) (table now : TableView C) (gone : List Bool) (grant conn port : ℕ) (wire : Option WireView) → AreWhole table.hub gone → grant < length table.hub.seats
    → (stand_at now.hub grant ≡ Stand.Going) × (reply_at now.hub grant ≡ []) × ((view_at now.hub grant).conn ≡ conn)
    → now ≡ record table { hub = record table.hub { seats = slice_set table.hub.seats grant (view_at now.hub grant); ready = slice_set table.hub.ready grant true } }
    → ((setting : Setting) (given : ℕ → List ℕ) (told : Option ChainState) (play : Play) → StandsOn setting table.hub given told play → FollowsOpening setting table.hub now.hub given told play grant conn)
    → Told wire IsWire → grant_of table.hub.layout port ≡ Some grant → FollowsEvent (FoundNow (found.Opened conn port)) table.hub now.hub (chain table.cable) (chain now.cable) wire wire
begins_follow chain table now gone grant conn port wire whole lt goes kept opens_play wires granted = λ before event setting s.
    subst (λ o. StandsOnBut setting [] now.hub o wire) (sym (ap (λ t. chain t.cable) kept)) (by (chain table.cable) wire wires before event setting s)
  where
    by : (told : Option ChainState) (a : Option WireView) → Told a IsWire → (before : Option WireView) → FoundNow (found.Opened conn port) before a → (setting : Setting) → StandsOnBut setting [] table.hub told before → StandsOnBut setting [] now.hub told a
    by None a is before event setting s = absurd s
    by (Some told) a is None event setting s = absurd s
    by (Some told) None is (Some before) event setting s = absurd event
    by (Some told) (Some after) is (Some before) event setting s =
        begun_stands setting table.hub gone told before conn port whole s (ap (λ (w : WireView). opens_once w.steps) (sym event) ∙ is.once) now.hub grant (omega (arith, lt, whole.seats)) granted (begun_by table now grant conn goes.2 kept) goes.0 goes.1
        (opens_play setting s.given (Some told) (played setting before.steps) s.table) after event

-- a connection is admitted at the grant that has its port
pub admitted_granted : (hub : HubView) (port grant : ℕ) → Some grant ≡ admitted_at hub port → grant_of hub.layout port ≡ Some grant
admitted_granted hub port grant is = by (grant_of hub.layout port) is
  where
    one : (g : ℕ) (b : Bool) → Some grant ≡ cond b None (Some g) → Some g ≡ Some grant
    one g true at = absurd (let q : Some grant ≡ None = at in cc)
    one g false at = sym at

    by : (o : Option ℕ) → Some grant ≡ where_free hub o → o ≡ Some grant
    by None at = absurd (let q : Some grant ≡ None = at in cc)
    by (Some g) at = one g (is_taken (stand_at hub g)) at

pub away_follows : (hub : HubView) (gone : List Bool) (chain : Option ChainState) (conn port : ℕ) (a b : Option WireView) → AreWhole hub gone → None ≡ admitted_at hub port → Told a IsWire → Told b IsWire → Both a b (λ old now. now ≡ after_shut conn old)
    → FollowsEvent (FoundNow (found.Opened conn port)) hub hub chain chain a b
away_follows hub gone None conn port a b whole none first second shut = λ before event setting s. absurd s
away_follows hub gone (Some chain) conn port None b whole none first second shut = λ before event setting s. absurd (by before event)
  where
    by : (before : Option WireView) → FoundNow (found.Opened conn port) before None → ⊥
    by None event = event
    by (Some before) event = event
away_follows hub gone (Some chain) conn port (Some old) None whole none first second shut = absurd shut
away_follows hub gone (Some chain) conn port (Some old) (Some now) whole none first second shut = by
  where
    by : FollowsEvent (FoundNow (found.Opened conn port)) hub hub (Some chain) (Some chain) (Some old) (Some now)
    by None event setting s = absurd s
    by (Some before) event setting s = away_stands setting hub gone chain before conn port whole s (ap (λ (w : WireView). opens_once w.steps) (sym event) ∙ first.once) (sym none) now (shut ∙ ap (after_shut conn) event) second.once

-- ---- a poll that opened nothing, and what follows

pub polled_on : (setting : Setting) (hub : HubView) (chain : Option ChainState) (find : Found) (a b : Option WireView) → opens_none find ≡ true → FoundNow find a b → StandsOnBut setting [] hub chain a → StandsOnBut setting [] hub chain b
polled_on setting hub None find a b none event s = s
polled_on setting hub (Some chain) find None b none event s = absurd s
polled_on setting hub (Some chain) find (Some before) None none event s = absurd event
polled_on setting hub (Some chain) find (Some before) (Some now) none event s = subst (StandsBut setting [] hub chain) (sym event) (polled setting hub chain find before none s)

pub found_follows : (find : Found) (hub new : HubView) (chain new_chain : Option ChainState) (a b : Option WireView) → opens_none find ≡ true → KeepsPlay hub new chain new_chain a b → FollowsEvent (FoundNow find) hub new chain new_chain a b
found_follows find hub new chain new_chain a b none keeps = λ before event setting s. keeps setting (polled_on setting hub chain find before a none event s)

pub found_follows_ok : {T E : Type 0} (find : Found) (hub new : HubView) (chain new_chain : Option ChainState) (a b : Option WireView) (result : Result T E) → opens_none find ≡ true → OnOk result (KeepsPlay hub new chain new_chain a b)
    → OnOk result (FollowsEvent (FoundNow find) hub new chain new_chain a b)
found_follows_ok find hub new chain new_chain a b (Ok x) none keeps = found_follows find hub new chain new_chain a b none keeps
found_follows_ok find hub new chain new_chain a b (Err e) none keeps = tt

-- the sessions that ended are forgotten before it
pub forgot_follows_ok : {C T E : Type 0} (chain : C → Option ChainState) (find : Found) (table mid : TableView C) (new : HubView) (new_chain : Option ChainState) (a b : Option WireView) (result : Result T E) → mid ≡ record table { hub = record table.hub { ended = [] } }
    → OnOk result (FollowsEvent (FoundNow find) mid.hub new (chain mid.cable) new_chain a b) → OnOk result (FollowsEvent (FoundNow find) table.hub new (chain table.cable) new_chain a b)
forgot_follows_ok chain find table mid new new_chain a b (Ok x) is follows = λ before event setting s. follows before event setting (keeps_forgot chain table mid before is setting s)
forgot_follows_ok chain find table mid new new_chain a b (Err e) is follows = tt

-- ---- a hub that is served

pub turn_stands : {T E : Type 0} (find : Found) (old new : HubView) (gone : List Bool) (chain new_chain : Option ChainState) (a b : Option WireView) (result : Result T E) → AreWhole new gone → OnOk result (AreCalm new gone) → OnOk result (Told b (SeatsOpen new))
    → OnOk result (FollowsEvent (FoundNow find) old new chain new_chain a b)
    → OnOk result ((setting : Setting) (before : Option WireView) → FoundNow find before a → HubStands setting old chain before → HubStands setting new new_chain b)
turn_stands find old new gone chain new_chain a b (Ok x) whole calm conns follows = λ setting before event s. record { stands = follows before event setting s.stands; quiet = calm.quiet; seats = whole.seats; conns = conns }
turn_stands find old new gone chain new_chain a b (Err e) whole calm conns follows = tt

pub rest_stands : {T E : Type 0} (old new : HubView) (gone : List Bool) (chain new_chain : Option ChainState) (a b : Option WireView) (result : Result T E) → AreWhole new gone → OnOk result (AreCalm new gone) → OnOk result (Told b (SeatsOpen new))
    → OnOk result (KeepsPlay old new chain new_chain a b)
    → OnOk result ((setting : Setting) → HubStands setting old chain a → HubStands setting new new_chain b)
rest_stands old new gone chain new_chain a b (Ok x) whole calm conns keeps = λ setting s. record { stands = keeps setting s.stands; quiet = calm.quiet; seats = whole.seats; conns = conns }
rest_stands old new gone chain new_chain a b (Err e) whole calm conns keeps = tt

-- ---- a hub begins

start_past : (setting : Setting) (grants : List GrantShape) (grant : ℕ) → (slice_index_or (map (seat_of setting) grants) grant no_seat).past ≡ []
start_past setting [] grant = refl
start_past setting (shape ∷ grants) zero = refl
start_past setting (shape ∷ grants) (suc grant) = start_past setting grants grant

pub begins : (setting : Setting) (hub : HubView) (chain : Option ChainState) (wire : WireView) → ((grant : ℕ) → (stand_at hub grant ≡ Stand.Free) × (reply_at hub grant ≡ [])) → length hub.seats ≡ length hub.layout.grants
    → StandsOn setting hub (λ grant. []) chain (start setting) → IsWire wire → wire.steps ≡ [] → HubStands setting hub chain (Some wire)
begins setting hub None wire free seats table is none = absurd table
begins setting hub (Some chain) wire free seats table is none = record {
  stands = record {
    once = is.once;
    given = λ grant. [];
    table = subst (λ steps. TableStands setting hub (λ grant. []) chain (played setting steps)) (sym none) table;
    peers = λ grant used. used_none grant used;
    attended = λ grant taken. taken_none grant taken;
    left_is = tt;
    past = λ grant. subst (λ steps. EachIsPast wire (seat_at (played setting steps) grant).past) (sym none) (subst (EachIsPast wire) (sym (start_past setting setting.layout.grants grant)) tt);
    elsewhere = λ conn among. is.opened conn (ap (list_any (opens conn)) none);
  };
  quiet = λ grant away. (free grant).1;
  seats = seats;
  conns = free_seats hub free (Some wire);
}
  where
    taken_none : {A : Type 0} (grant : ℕ) → is_taken (stand_at hub grant) ≡ true → A
    taken_none grant taken = false_true (sym (ap is_taken (free grant).0) ∙ taken)

    used_none : (grant : ℕ) → IsInUse hub [] grant → PeerGiven wire (conn_at hub grant) []
    used_none grant (inl taken) = taken_none grant taken
    used_none grant (inr among) = false_true among

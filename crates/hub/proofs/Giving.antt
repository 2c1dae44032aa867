-- One give to the peer of an open session: the sessions stand on, with more bytes given.
use Rattle.std.proofs.Common.{◌≡◌, ◌≢◌, ℕ, zero, suc, ◌<◌, ◌≤◌, Bool, true, false, cond, List, [], ◌∷◌, ◌++◌, length, take, drop, refl, ap, sym, subst, ◌∙◌, arith, inl, inr, ◌⊎◌, nat_eq}
use Rattle.std.proofs.lemmas.Bool.{eq-eqb}
use Rattle.std.proofs.lemmas.List.{append-nil, get_or-set_other}
use Rattle.std.specs.Result.{OnOk}
use Rattle.std.specs.declared.result.Result.{Result}
use Rattle.std.specs.declared.result.Result.TheVariants.{Ok, Err}
use Rattle.std.specs.declared.option.Option.{Option}
use Rattle.std.specs.declared.option.Option.TheVariants.{None, Some}
use Rattle.base_types.specs.Tellings.{Told, Both}
use Rattle.chain_model.specs.Chains.{ChainState}
use Rattle.client_session.specs.Seats.{EndedSession}
use Rattle.client_session.specs.declared.Stand.{Stand}
use Rattle.client_session.specs.Sessions.{IsPrefix, is_here, is_taken}
use Rattle.wire_port.specs.Steps.{opens_once, shuts, has_gone}
use Rattle.wire_port.specs.Offers.{Answer}
use Rattle.wire_port.specs.Wires.{WireView, Last, last_of_give}
use Rattle.wire_port.specs.Calls.{IsOpen, after_give, with_last}
use Rattle.wire_port.specs.Calls as c
use Rattle.plays.specs.Plays.{Setting, Play, is_among, played, seat_at}
use Rattle.plays.specs.Alone.{conns_of}
use Rattle.plays.specs.Stands.{SeatView, HubView, NoneElseGiven}
use Rattle.plays.proofs.Admitted.{live_among}
use Rattle.plays.proofs.Lists.{false_true, not_eq, past_end}
use Rattle.session_table.specs.Tables.{SeatShown, StandsOn, TableStands, TableView, no_view, reply_at, stand_at, view_at, with_given, with_reply}
use Rattle.hub.specs.Served.{AreWhole, AreCalm, ConnsAreOpen, IsInUse, SameSessions, conn_at, ready_as}
use Rattle.hub.specs.Standing.{EachIsPast, FollowsEvent, GoneNow, IsAttended, IsGoneNow, IsPast, KeepsPlay, PeerGiven, StandsBut, StandsOnBut}
use Rattle.hub.proofs.AfterCalls.{here_is_open, here_open, reply_here, reply_same}
use Rattle.hub.proofs.OnTheWire.{last_other, same_or}
use Rattle.hub.proofs.Tables.{stands_on_apart}

-- ---- what a step keeps of one connection

pub peer_kept : (before now : WireView) (conn : ℕ) (given : List ℕ) → has_gone conn now.steps ≡ has_gone conn before.steps → now.given conn ≡ before.given conn → PeerGiven before conn given → PeerGiven now conn given
peer_kept before now conn given gone same peer = record {
  here = λ there. same ∙ peer.here (sym gone ∙ there);
  gone = λ lost. subst (λ g. IsPrefix g given) (sym same) (peer.gone (sym gone ∙ lost));
}

pub attended_kept : (before now : WireView) (view : SeatView) → now.last view.conn ≡ before.last view.conn → IsAttended before view → IsAttended now view
attended_kept before now view same attended = record { idle = λ is. attended.idle (sym same ∙ is); unasked = λ is. attended.unasked (sym same ∙ is) }

-- what is told of a connection, and was given to it, is the same still, but that it may have been shut
pub record SamePast (conn : ℕ) (before now : WireView) : Type 0 where
  pub gone : has_gone conn now.steps ≡ has_gone conn before.steps
  pub given : now.given conn ≡ before.given conn
  pub last : now.last conn ≡ before.last conn
  pub shut : shuts conn before.steps ≢ 0 → shuts conn now.steps ≢ 0

pub past_kept : (before now : WireView) (past : EndedSession) → SamePast past.conn before now → IsPast before past → IsPast now past
past_kept before now past same is = record {
  given = (subst (λ g. IsPrefix g past.replies) (sym same.given) is.given.0, λ there whole. same.given ∙ is.given.1 (sym same.gone ∙ there) (λ short. whole (same.last ∙ short)));
  closed = closed is.closed;
}
  where
    closed : (shuts past.conn before.steps ≢ 0) ⊎ (has_gone past.conn before.steps ≡ true) → (shuts past.conn now.steps ≢ 0) ⊎ (has_gone past.conn now.steps ≡ true)
    closed (inl shut) = inl (same.shut shut)
    closed (inr lost) = inr (same.gone ∙ lost)

pub pasts_kept : (before now : WireView) (pasts : List EndedSession) → ((past : EndedSession) → IsPast before past → SamePast past.conn before now) → EachIsPast before pasts → EachIsPast now pasts
pasts_kept before now [] same each = tt
pasts_kept before now (past ∷ rest) same each = (past_kept before now past (same past each.0) each.0, pasts_kept before now rest same each.1)

-- a connection that may be given something is no past session's
past_apart : (wire : WireView) (conn : ℕ) (past : EndedSession) → IsOpen conn wire → IsPast wire past → past.conn ≢ conn
past_apart wire conn past open_now is same = by is.closed
  where
    by : (shuts past.conn wire.steps ≢ 0) ⊎ (has_gone past.conn wire.steps ≡ true) → ⊥
    by (inl shut) = shut (ap (λ one. shuts one wire.steps) same ∙ open_now.not_shut)
    by (inr lost) = false_true (sym open_now.not_gone ∙ ap (λ one. has_gone one wire.steps) (sym same) ∙ lost)

-- ---- the session of a grant in the play

taken_going : (going waits gone : Bool) → is_taken (cond going (cond waits (cond gone Stand.Leaving Stand.Waits) Stand.Going) Stand.Free) ≡ true → going ≡ true
taken_going true waits gone h = refl
taken_going false waits gone h = h

pub inside : (hub : HubView) (gone : List Bool) (grant : ℕ) → AreWhole hub gone → is_taken (stand_at hub grant) ≡ true → grant < length hub.layout.grants
inside hub gone grant whole taken = by (less_or grant (length hub.seats))
  where
    less_or : (a b : ℕ) → (a < b) ⊎ (b ≤ a)
    less_or a b = grind arith

    by : (grant < length hub.seats) ⊎ (length hub.seats ≤ grant) → grant < length hub.layout.grants
    by (inl lt) = omega (arith, lt, whole.seats)
    by (inr le) = false_true (sym (ap (λ view. is_taken view.session.stand) (past_end hub.seats grant no_view le)) ∙ taken)

module _ (setting : Setting) (hub : HubView) (given : ℕ → List ℕ) (chain : ChainState) (play : Play) (table : TableStands setting hub given chain play) (gone : List Bool) (whole : AreWhole hub gone)
    (grant : ℕ) (taken : is_taken (stand_at hub grant) ≡ true) where
  shown : SeatShown (view_at hub grant) (is_among grant play.waiting) (seat_at play grant) (given grant)
  shown = table.seats grant (subst (λ layout. grant < length layout.grants) table.layout (inside hub gone grant whole taken))

  pub going : (seat_at play grant).going ≡ true
  going = taken_going (seat_at play grant).going (is_among grant play.waiting) (seat_at play grant).gone (ap is_taken (sym shown.shows.stand) ∙ taken)

  pub conn_is : conn_at hub grant ≡ (seat_at play grant).conn
  conn_is = shown.conn going

  -- its connection is one that the grant admitted
  pub conn_among : is_among (conn_at hub grant) (conns_of (seat_at play grant)) ≡ true
  conn_among = subst (λ conn. is_among conn (conns_of (seat_at play grant)) ≡ true) (sym conn_is) (live_among (seat_at play grant).conn (seat_at play grant) (rw going (eq-eqb (seat_at play grant).conn (seat_at play grant).conn refl)))

-- ---- one give

-- so many bytes went to a grant's peer, which then was not asked for any, and else nothing changed but which sessions are ready
pub record GaveOne (grant conn : ℕ) (bytes : List ℕ) (old new : HubView) (before now : WireView) : Type 0 where
  pub steps : now.steps ≡ before.steps
  pub given : now.given conn ≡ before.given conn ++ bytes
  pub given_others : (other : ℕ) → other ≢ conn → now.given other ≡ before.given other
  pub last : now.last conn ≢ Last.NotNow
  pub last_others : (other : ℕ) → other ≢ conn → now.last other ≡ before.last other
  pub same : SameSessions old new
  pub views : (other : ℕ) → other ≢ grant → view_at new other ≡ view_at old other

pub given_own : (grant : ℕ) (bytes : List ℕ) (given : ℕ → List ℕ) → with_given grant bytes given grant ≡ bytes
given_own grant bytes given = rw (eq-eqb grant grant refl) refl

pub given_other : (grant : ℕ) (bytes : List ℕ) (given : ℕ → List ℕ) (other : ℕ) → other ≢ grant → with_given grant bytes given other ≡ given other
given_other grant bytes given other ne = rw (not_eq other grant ne) refl

module _ (setting : Setting) (old new : HubView) (gone : List Bool) (grant : ℕ) (bytes : List ℕ) (chain : ChainState) (before now : WireView) (whole : AreWhole old gone) (taken : is_taken (stand_at old grant) ≡ true)
    (open_now : IsOpen (conn_at old grant) before) (conns : ConnsAreOpen old gone [] before) (gave : GaveOne grant (conn_at old grant) bytes old new before now) (s : StandsBut setting [] old chain before)
    (follows : TableStands setting new (with_given grant (s.given grant ++ bytes) s.given) chain (played setting before.steps)) where
  used_before : (other : ℕ) → IsInUse new [] other → IsInUse old [] other
  used_before other (inl open_there) = inl (sym (ap is_taken (gave.same.stands other)) ∙ open_there)
  used_before other (inr among) = false_true among

  apart : (other : ℕ) → IsInUse old [] other → other ≢ grant → conn_at old other ≢ conn_at old grant
  apart other used ne same = ne (conns.once other grant used (inl taken) same)

  gone_same : (conn : ℕ) → has_gone conn now.steps ≡ has_gone conn before.steps
  gone_same conn = ap (has_gone conn) gave.steps

  own_peer : PeerGiven now (conn_at old grant) (s.given grant ++ bytes)
  own_peer = record {
    here = λ there. gave.given ∙ ap (λ g. g ++ bytes) ((s.peers grant (inl taken)).here open_now.not_gone);
    gone = λ lost. false_true (sym open_now.not_gone ∙ sym (gone_same (conn_at old grant)) ∙ lost);
  }

  peer : (other : ℕ) → IsInUse new [] other → (other ≡ grant) ⊎ (other ≢ grant) → PeerGiven now (conn_at new other) (with_given grant (s.given grant ++ bytes) s.given other)
  peer other used (inl is) = subst (λ g. PeerGiven now (conn_at new g) (with_given grant (s.given grant ++ bytes) s.given g)) (sym is)
      (subst (λ conn. PeerGiven now conn (with_given grant (s.given grant ++ bytes) s.given grant)) (sym (gave.same.conns grant)) (subst (PeerGiven now (conn_at old grant)) (sym (given_own grant (s.given grant ++ bytes) s.given)) own_peer))
  peer other used (inr ne) = subst (λ conn. PeerGiven now conn (with_given grant (s.given grant ++ bytes) s.given other)) (sym (gave.same.conns other)) (subst (PeerGiven now (conn_at old other)) (sym (given_other grant (s.given grant ++ bytes) s.given other ne))
      (peer_kept before now (conn_at old other) (s.given other) (gone_same (conn_at old other)) (gave.given_others (conn_at old other) (apart other (used_before other used) ne)) (s.peers other (used_before other used))))

  attend : (other : ℕ) → is_taken (stand_at new other) ≡ true → (other ≡ grant) ⊎ (other ≢ grant) → IsAttended now (view_at new other)
  attend other open_there (inl is) = record { idle = λ asked. absurd (not_asked asked); unasked = λ asked. absurd (not_asked asked) }
    where
      not_asked : now.last (conn_at new other) ≢ Last.NotNow
      not_asked asked = gave.last (ap now.last (sym (ap (conn_at new) is ∙ gave.same.conns grant)) ∙ asked)
  attend other open_there (inr ne) =
      let was : is_taken (stand_at old other) ≡ true = sym (ap is_taken (gave.same.stands other)) ∙ open_there in
      subst (IsAttended now) (sym (gave.views other ne)) (attended_kept before now (view_at old other) (gave.last_others (conn_at old other) (apart other (inl was) ne)) (s.attended other was))

  same_past : (past : EndedSession) → IsPast before past → SamePast past.conn before now
  same_past past is = let ne : past.conn ≢ conn_at old grant = past_apart before (conn_at old grant) past open_now is in record {
    gone = gone_same past.conn;
    given = gave.given_others past.conn ne;
    last = gave.last_others past.conn ne;
    shut = λ shut none. shut (ap (shuts past.conn) (sym gave.steps) ∙ none);
  }

  none_else : NoneElseGiven now (played setting before.steps)
  none_else conn none = gave.given_others conn (λ same. false_true (sym (none grant) ∙ ap (λ one. is_among one (conns_of (seat_at (played setting before.steps) grant))) same ∙ conn_among setting old s.given chain (played setting before.steps) s.table gone whole grant taken)) ∙ s.elsewhere conn none

  one_given : StandsBut setting [] new chain now
  one_given = record {
    once = ap opens_once gave.steps ∙ s.once;
    given = with_given grant (s.given grant ++ bytes) s.given;
    table = subst (λ steps. TableStands setting new (with_given grant (s.given grant ++ bytes) s.given) chain (played setting steps)) (sym gave.steps) follows;
    peers = λ other used. peer other used (same_or other grant);
    attended = λ other open_there. attend other open_there (same_or other grant);
    left_is = tt;
    past = λ other. subst (λ steps. EachIsPast now (seat_at (played setting steps) other).past) (sym gave.steps) (pasts_kept before now (seat_at (played setting before.steps) other).past same_past (s.past other));
    elsewhere = subst (λ steps. NoneElseGiven now (played setting steps)) (sym gave.steps) none_else;
  }

-- the table stands on after a give of these bytes, whatever was given before
abbrev pub StandsAfter : Setting → HubView → HubView → ℕ → List ℕ → Type 0
StandsAfter setting old new grant bytes = (given : ℕ → List ℕ) (chain : Option ChainState) (play : Play) → StandsOn setting old given chain play → StandsOn setting new (with_given grant (given grant ++ bytes) given) chain play

pub told_given : (setting : Setting) (old new : HubView) (gone : List Bool) (grant : ℕ) (bytes : List ℕ) (chain : Option ChainState) (before now : WireView) → AreWhole old gone → is_taken (stand_at old grant) ≡ true
    → IsOpen (conn_at old grant) before → ConnsAreOpen old gone [] before → GaveOne grant (conn_at old grant) bytes old new before now → StandsAfter setting old new grant bytes
    → StandsOnBut setting [] old chain (Some before) → StandsOnBut setting [] new chain (Some now)
told_given setting old new gone grant bytes None before now whole taken open_now conns gave after s = s
told_given setting old new gone grant bytes (Some chain) before now whole taken open_now conns gave after s =
    one_given setting old new gone grant bytes chain before now whole taken open_now conns gave s (after s.given (Some chain) (played setting before.steps) s.table)

-- ---- the answers of a give

pub last_own : (conn : ℕ) (now : Last) (last : ℕ → Last) → with_last conn now last conn ≡ now
last_own conn now last = rw (eq-eqb conn conn refl) refl

wire_own : (conn : ℕ) (bytes : List ℕ) (given : ℕ → List ℕ) → c.with_given conn bytes given conn ≡ given conn ++ bytes
wire_own conn bytes given = rw (eq-eqb conn conn refl) refl

wire_other : (conn : ℕ) (bytes : List ℕ) (given : ℕ → List ℕ) (other : ℕ) → other ≢ conn → c.with_given conn bytes given other ≡ given other
wire_other conn bytes given other ne = rw (not_eq other conn ne) refl

given_last : (whole : ℕ) (bytes : List ℕ) → last_of_give whole (Answer.Bytes bytes) ≢ Last.NotNow
given_last whole bytes = by (nat_eq (length bytes) whole)
  where
    by : (b : Bool) → cond b Last.Other Last.Short ≢ Last.NotNow
    by true same = absurd (let q : Last.Other ≡ Last.NotNow = same in cc)
    by false same = absurd (let q : Last.Short ≡ Last.NotNow = same in cc)

gave_bytes : (grant conn whole : ℕ) (bytes : List ℕ) (old new : HubView) (before : WireView) → SameSessions old new → ((other : ℕ) → other ≢ grant → view_at new other ≡ view_at old other)
    → GaveOne grant conn bytes old new before (after_give conn whole (Answer.Bytes bytes) before)
gave_bytes grant conn whole bytes old new before same views = record {
  steps = append-nil before.steps;
  given = wire_own conn bytes before.given;
  given_others = wire_other conn bytes before.given;
  last = λ asked. given_last whole bytes (sym (last_own conn (last_of_give whole (Answer.Bytes bytes)) before.last) ∙ asked);
  last_others = last_other conn (last_of_give whole (Answer.Bytes bytes)) before.last;
  same = same;
  views = views;
}

gave_none : (grant conn whole : ℕ) (old new : HubView) (before : WireView) → SameSessions old new → ((other : ℕ) → other ≢ grant → view_at new other ≡ view_at old other)
    → GaveOne grant conn [] old new before (after_give conn whole Answer.NotNow before)
gave_none grant conn whole old new before same views = record {
  steps = append-nil before.steps;
  given = wire_own conn [] before.given;
  given_others = wire_other conn [] before.given;
  last = λ asked. absurd (let q : Last.Short ≡ Last.NotNow = sym (last_own conn Last.Short before.last) ∙ asked in cc);
  last_others = last_other conn Last.Short before.last;
  same = same;
  views = views;
}

-- ---- plays that are kept

untold : (setting : Setting) (hub : HubView) (chain : Option ChainState) → StandsOnBut setting [] hub chain None → ⊥
untold setting hub None s = s
untold setting hub (Some chain) s = s

pub keeps_same : (hub : HubView) (chain : Option ChainState) (wire : Option WireView) → KeepsPlay hub hub chain chain wire wire
keeps_same hub chain wire = λ setting s. s

pub keeps_then : (first second third : HubView) (one two three : Option ChainState) (a b d : Option WireView) → KeepsPlay first second one two a b → KeepsPlay second third two three b d → KeepsPlay first third one three a d
keeps_then first second third one two three a b d before after = λ setting s. after setting (before setting s)

pub keeps_then_ok : {T E : Type 0} (first second third : HubView) (one two three : Option ChainState) (a b d : Option WireView) (result : Result T E) → KeepsPlay first second one two a b
    → OnOk result (KeepsPlay second third two three b d) → OnOk result (KeepsPlay first third one three a d)
keeps_then_ok first second third one two three a b d (Ok x) before after = keeps_then first second third one two three a b d before after
keeps_then_ok first second third one two three a b d (Err e) before after = tt

-- other sessions are ready: the play is the same
pub keeps_ready : {C : Type 0} (chain : C → Option ChainState) (table now : TableView C) (ready : List Bool) (wire : Option WireView) → now ≡ ready_as ready table → KeepsPlay table.hub now.hub (chain table.cable) (chain now.cable) wire wire
keeps_ready chain table now ready wire is = subst (λ t. KeepsPlay table.hub t.hub (chain table.cable) (chain t.cable) wire wire) (sym is) (λ setting s. stands_on_apart setting [] table.hub ready table.hub.ended (chain table.cable) wire s)

-- the sessions that ended are forgotten
pub keeps_forgot : {C : Type 0} (chain : C → Option ChainState) (table now : TableView C) (wire : Option WireView) → now ≡ record table { hub = record table.hub { ended = [] } } → KeepsPlay table.hub now.hub (chain table.cable) (chain now.cable) wire wire
keeps_forgot chain table now wire is = subst (λ t. KeepsPlay table.hub t.hub (chain table.cable) (chain t.cable) wire wire) (sym is) (λ setting s. stands_on_apart setting [] table.hub table.hub.ready [] (chain table.cable) wire s)

-- ---- bytes went

pub gave_keeps : {C : Type 0} (chain : C → Option ChainState) (table mid now : TableView C) (ready gone : List Bool) (grant count : ℕ) → mid ≡ record table { hub = with_reply grant (drop count (reply_at table.hub grant)) table.hub } → now ≡ ready_as ready mid
    → AreWhole table.hub gone → AreCalm table.hub gone → ((setting : Setting) → StandsAfter setting table.hub mid.hub grant (take count (reply_at table.hub grant)))
    → (before after : WireView) → after ≡ after_give (conn_at table.hub grant) (length (reply_at table.hub grant)) (Answer.Bytes (take count (reply_at table.hub grant))) before → 0 < length (reply_at table.hub grant) → ConnsAreOpen table.hub gone [] before
    → KeepsPlay table.hub now.hub (chain table.cable) (chain now.cable) (Some before) (Some after)
gave_keeps chain table mid now ready gone grant count mid_is now_is whole calm stands before after is some conns =
    keeps_then table.hub mid.hub now.hub (chain table.cable) (chain mid.cable) (chain now.cable) (Some before) (Some after) (Some after) first (keeps_ready chain mid now ready (Some after) now_is)
  where
    here : is_here (stand_at table.hub grant) ≡ true
    here = reply_here table.hub gone grant calm some

    gave : GaveOne grant (conn_at table.hub grant) (take count (reply_at table.hub grant)) table.hub mid.hub before after
    gave = subst (GaveOne grant (conn_at table.hub grant) (take count (reply_at table.hub grant)) table.hub mid.hub before) (sym is)
        (gave_bytes grant (conn_at table.hub grant) (length (reply_at table.hub grant)) (take count (reply_at table.hub grant)) table.hub mid.hub before
        (subst (λ t. SameSessions table.hub t.hub) (sym mid_is) (reply_same table.hub grant (drop count (reply_at table.hub grant))))
        (λ other ne. ap (λ t. view_at t.hub other) mid_is ∙ get_or-set_other table.hub.seats grant other _ no_view ne))

    first : KeepsPlay table.hub mid.hub (chain table.cable) (chain mid.cable) (Some before) (Some after)
    first = λ setting s. subst (λ o. StandsOnBut setting [] mid.hub o (Some after)) (sym (ap (λ t. chain t.cable) mid_is))
        (told_given setting table.hub mid.hub gone grant (take count (reply_at table.hub grant)) (chain table.cable) before after whole (here_open table.hub grant here)
        (here_is_open table.hub gone grant (conn_at table.hub grant) (Some before) calm here refl conns) conns gave (stands setting) s)

pub bytes_keep : (hub new : HubView) (gone : List Bool) (grant conn count : ℕ) (piece : List ℕ) (chain new_chain : Option ChainState) (a b : Option WireView) → conn ≡ conn_at hub grant → piece ≡ reply_at hub grant → 0 < length piece
    → Told a (ConnsAreOpen hub gone []) → Both a b (λ old now. now ≡ after_give conn (length piece) (Answer.Bytes (take count piece)) old)
    → ((before now : WireView) → now ≡ after_give (conn_at hub grant) (length (reply_at hub grant)) (Answer.Bytes (take count (reply_at hub grant))) before → 0 < length (reply_at hub grant) → ConnsAreOpen hub gone [] before
    → KeepsPlay hub new chain new_chain (Some before) (Some now))
    → KeepsPlay hub new chain new_chain a b
bytes_keep hub new gone grant conn count piece chain new_chain None b same_conn piece_is some conns gave keeps = λ setting s. absurd (untold setting hub chain s)
bytes_keep hub new gone grant conn count piece chain new_chain (Some before) None same_conn piece_is some conns gave keeps = absurd gave
bytes_keep hub new gone grant conn count piece chain new_chain (Some before) (Some now) same_conn piece_is some conns gave keeps =
    keeps before now (gave ∙ (λ i. after_give (same_conn i) (length (piece_is i)) (Answer.Bytes (take count (piece_is i))) before)) (subst (λ l. 0 < length l) piece_is some) conns

-- ---- nothing went

pub some_bytes : (count : ℕ) → false ≡ nat_eq count 0 → 0 < count
some_bytes zero none = false_true none
some_bytes (suc count) none = omega arith

regiven : (setting : Setting) (hub : HubView) (given other : ℕ → List ℕ) (chain : Option ChainState) (play : Play) → ((grant : ℕ) → other grant ≡ given grant) → StandsOn setting hub given chain play → StandsOn setting hub other chain play
regiven setting hub given other None play same s = s
regiven setting hub given other (Some chain) play same s = record {
  layout = s.layout;
  vector = s.vector;
  trst = s.trst;
  fit = s.fit;
  holder = s.holder;
  waiting = s.waiting;
  joins = s.joins;
  seats = λ grant lt. subst (SeatShown (view_at hub grant) (is_among grant play.waiting) (seat_at play grant)) (sym (same grant)) (s.seats grant lt);
  holds = s.holds;
  whole = s.whole;
  made = s.made;
  scan = s.scan;
  between = s.between;
}

given_none : (grant : ℕ) (given : ℕ → List ℕ) (other : ℕ) → with_given grant (given grant ++ []) given other ≡ given other
given_none grant given other = by (same_or other grant)
  where
    by : (other ≡ grant) ⊎ (other ≢ grant) → with_given grant (given grant ++ []) given other ≡ given other
    by (inl is) = subst (λ g. with_given grant (given grant ++ []) given g ≡ given g) (sym is) (given_own grant (given grant ++ []) given ∙ append-nil (given grant))
    by (inr ne) = given_other grant (given grant ++ []) given other ne

none_first : (hub : HubView) (gone : List Bool) (grant conn whole_length : ℕ) (chain : Option ChainState) (a b : Option WireView) → AreWhole hub gone → AreCalm hub gone → 0 < length (reply_at hub grant) → conn ≡ conn_at hub grant
    → Told a (ConnsAreOpen hub gone []) → Both a b (λ old now. now ≡ after_give conn whole_length Answer.NotNow old) → KeepsPlay hub hub chain chain a b
none_first hub gone grant conn whole_length chain None b whole calm some same_conn conns gave = λ setting s. absurd (untold setting hub chain s)
none_first hub gone grant conn whole_length chain (Some before) None whole calm some same_conn conns gave = absurd gave
none_first hub gone grant conn whole_length chain (Some before) (Some now) whole calm some same_conn conns gave = λ setting s.
    told_given setting hub hub gone grant [] chain before now whole (here_open hub grant here) (here_is_open hub gone grant (conn_at hub grant) (Some before) calm here refl conns) conns
    (subst (GaveOne grant (conn_at hub grant) [] hub hub before) (sym (gave ∙ ap (λ one. after_give one whole_length Answer.NotNow before) same_conn))
    (gave_none grant (conn_at hub grant) whole_length hub hub before (record { stands = λ other. refl; conns = λ other. refl; line = refl }) (λ other ne. refl)))
    (λ given told play t. regiven setting hub given (with_given grant (given grant ++ []) given) told play (given_none grant given) t) s
  where
    here : is_here (stand_at hub grant) ≡ true
    here = reply_here hub gone grant calm some

pub none_keeps : {C : Type 0} (chain : C → Option ChainState) (table now : TableView C) (ready gone : List Bool) (grant conn : ℕ) (piece : List ℕ) (a b : Option WireView) → now ≡ ready_as ready table → AreWhole table.hub gone → AreCalm table.hub gone
    → piece ≡ reply_at table.hub grant → 0 < length piece → conn ≡ conn_at table.hub grant → Told a (ConnsAreOpen table.hub gone []) → Both a b (λ old new. new ≡ after_give conn (length piece) Answer.NotNow old)
    → KeepsPlay table.hub now.hub (chain table.cable) (chain now.cable) a b
none_keeps chain table now ready gone grant conn piece a b is whole calm piece_is some same_conn conns gave =
    keeps_then table.hub table.hub now.hub (chain table.cable) (chain table.cable) (chain now.cable) a b b
    (none_first table.hub gone grant conn (length piece) (chain table.cable) a b whole calm (subst (λ l. 0 < length l) piece_is some) same_conn conns gave) (keeps_ready chain table now ready b is)

-- ---- the peer is gone

pub lost_one : (conn whole : ℕ) (before : WireView) → IsGoneNow conn before (after_give conn whole Answer.Gone before)
lost_one conn whole before = record { steps = refl; given = same; last = λ other. refl }
  where
    same : (other : ℕ) → c.with_given conn [] before.given other ≡ before.given other
    same other = by (nat_eq other conn)
      where
        by : (b : Bool) → cond b (before.given other ++ []) (before.given other) ≡ before.given other
        by true = append-nil (before.given other)
        by false = refl

pub lost_keeps : (hub new : HubView) (grant conn whole : ℕ) (chain new_chain : Option ChainState) (a b d : Option WireView) → conn ≡ conn_at hub grant → Both a b (λ old now. now ≡ after_give conn whole Answer.Gone old)
    → FollowsEvent (GoneNow (conn_at hub grant)) hub new chain new_chain b d → KeepsPlay hub new chain new_chain a d
lost_keeps hub new grant conn whole chain new_chain None b d same_conn gave follows = λ setting s. absurd (untold setting hub chain s)
lost_keeps hub new grant conn whole chain new_chain (Some before) None d same_conn gave follows = absurd gave
lost_keeps hub new grant conn whole chain new_chain (Some before) (Some now) d same_conn gave follows =
    follows (Some before) (subst (λ one. IsGoneNow one before now) same_conn (subst (IsGoneNow conn before) (sym gave) (lost_one conn whole before)))

-- After bytes were taken from a session's connection, or its peer was found to be gone, the sessions stand for the play of one step more, with
-- those that ended by it still to be let go.
use Rattle.std.proofs.Common.{◌≡◌, ◌≢◌, ℕ, ◌+◌, ◌-◌, ◌<◌, Bool, true, false, ◌||◌, cond, List, [], ◌∷◌, ◌++◌, length, take, drop, refl, ap, sym, subst, ◌∙◌, arith, inl, inr, ◌⊎◌}
use Rattle.std.specs.Result.{OnOk}
use Rattle.std.specs.declared.result.Result.{Result}
use Rattle.std.specs.declared.result.Result.TheVariants.{Ok, Err}
use Rattle.std.specs.declared.option.Option.{Option}
use Rattle.std.specs.declared.option.Option.TheVariants.{None, Some}
use Rattle.std.proofs.lemmas.Bool.{eq-eqb}
use Rattle.std.proofs.lemmas.List.{append-nil, get_or-set_same, get_or-set_other}
use Rattle.std.proofs.lemmas.List.Folds.{list_any-append}
use Rattle.std.proofs.Math.Seq.{drop-append_seam, take-append_seam}
use Rattle.base_types.specs.Tellings.{Told, Both}
use Rattle.chain_model.specs.Chains.{ChainState}
use Rattle.scan_share.proofs.Kept.{Each}
use Rattle.client_session.specs.declared.Stand.TheVariants as stand
use Rattle.client_session.specs.Seats.{Seat, EndedSession}
use Rattle.client_session.specs.Private.{received, is_live}
use Rattle.client_session.specs.Sessions.{IsPrefix, is_in_line, is_leaving, is_taken, is_here, stand_of}
use Rattle.wire_port.specs.Steps.{opens_once, shuts, has_gone, is_gone_step}
use Rattle.wire_port.specs.Steps.Step.{Took, Gone}
use Rattle.wire_port.specs.Offers.{Answer}
use Rattle.wire_port.specs.Wires.{WireView, Last}
use Rattle.wire_port.specs.Calls.{IsWire, after_take, with_last}
use Rattle.plays.specs.Plays.{Setting, Play, SessionEnd, seat_at, no_seat, with_seat, is_waiting, is_among, after_change, moved, played}
use Rattle.plays.specs.Alone.{conns_of}
use Rattle.plays.specs.Stands.{HubView, NoneElseGiven}
use Rattle.plays.proofs.Lists.{not_eq, false_true}
use Rattle.plays.proofs.Isolation.{Isolated, played_isolated}
use Rattle.plays.proofs.Replays.{played-snoc, gone_stays}
use Rattle.plays.proofs.Pasts.{DroppedBefore, Ending, OnlyIn, PastGrows, conns_after, ending_moved, gone_changes, one_of, only_in, past_put, past_stays, took_changes}
use Rattle.session_table.specs.Tables.{EachHasEnded, FollowsPlay, FollowsPlays, HasEndedNow, KeepsTable, SeatShown, TableStands, TableView, WentOn, reply_at, stand_at, view_at}
use Rattle.hub.proofs.AfterCalls.{ends_are, here_open, keeps_conn, went_used}
use Rattle.hub.proofs.OnTheWire.{same_or, shuts-snoc}
use Rattle.hub.proofs.Tables.{stands_on_apart}
use Rattle.hub.specs.Served.{AreFlagged, AreWhole, ConnsAreOpen, IsInUse, conn_at, grants_of, is_gone, ready_as}
use Rattle.hub.specs.Standing.{EachIsLeft, EachIsPast, FollowsEvent, GoneNow, IsAttended, IsGoneNow, IsPast, IsStillLeft, KeepsPlay, PeerGiven, StandsBut, StandsOnBut, TookNow, past_but}

-- ---- what a session's stand tells of its seat

taken_going : (waits : Bool) (seat : Seat) → is_taken (stand_of waits seat) ≡ true → seat.going ≡ true
taken_going waits seat taken = by seat.going waits seat.gone taken
  where
    by : (going waits gone : Bool) → is_taken (cond going (cond waits (cond gone stand.Leaving stand.Waits) stand.Going) stand.Free) ≡ true → going ≡ true
    by true waits gone h = refl
    by false waits gone h = false_true h

leaving_gone : (waits : Bool) (seat : Seat) → (waits ≡ false → seat.gone ≡ false) → seat.going ≡ true → seat.gone ≡ true → is_leaving (stand_of waits seat) ≡ true
leaving_gone waits seat here going gone = by seat.going waits seat.gone here going gone
  where
    by : (going waits gone : Bool) → (waits ≡ false → gone ≡ false) → going ≡ true → gone ≡ true → is_leaving (cond going (cond waits (cond gone stand.Leaving stand.Waits) stand.Going) stand.Free) ≡ true
    by false waits gone here h k = false_true h
    by true false gone here h k = false_true (sym (here refl) ∙ k)
    by true true false here h k = false_true k
    by true true true here h k = refl

going_waits : (waits : Bool) (seat : Seat) → stand_of waits seat ≡ stand.Going → waits ≡ false
going_waits waits seat is = by seat.going waits seat.gone (ap is_taken is) (ap is_in_line is)
  where
    by : (going waits gone : Bool) → is_taken (cond going (cond waits (cond gone stand.Leaving stand.Waits) stand.Going) stand.Free) ≡ true
        → is_in_line (cond going (cond waits (cond gone stand.Leaving stand.Waits) stand.Going) stand.Free) ≡ false → waits ≡ false
    by false waits gone h k = false_true h
    by true false gone h k = refl
    by true true false h k = false_true (sym k)
    by true true true h k = false_true (sym k)

other_now : {P : Type 0} (last : Last) → last ≡ Last.Other → last ≡ Last.NotNow → P
other_now last other now = absurd (let q : Last.Other ≡ Last.NotNow = sym other ∙ now in cc)

-- ---- a step of a session's connection

-- the wire tells one step more of the connection of a grant's session, and it changes the grant's seat so
pub record SeatEvent (setting : Setting) (old : HubView) (grant : ℕ) (seat : Seat) (before now : WireView) : Type 0 where
  pub given : (conn : ℕ) → now.given conn ≡ before.given conn
  pub last : (conn : ℕ) → now.last conn ≡ with_last (conn_at old grant) Last.Other before.last conn
  pub shut : (conn : ℕ) → shuts conn now.steps ≡ shuts conn before.steps
  pub gone : (conn : ℕ) → has_gone conn before.steps ≡ true → has_gone conn now.steps ≡ true
  pub play : played setting now.steps ≡ after_change setting (played setting before.steps) (Some (record { grant = grant; seat = seat }))
  pub past : seat.past ≡ (seat_at (played setting before.steps) grant).past
  pub conns : conns_of seat ≡ conns_of (seat_at (played setting before.steps) grant)
  pub lost : seat.gone ≡ true → has_gone (conn_at old grant) now.steps ≡ true

-- what was not told by now was not told before
was_not : (conn : ℕ) (before now : WireView) → (has_gone conn before.steps ≡ true → has_gone conn now.steps ≡ true) → has_gone conn now.steps ≡ false → has_gone conn before.steps ≡ false
was_not conn before now more not_now = by (has_gone conn before.steps) more
  where
    by : (b : Bool) → (b ≡ true → has_gone conn now.steps ≡ true) → b ≡ false
    by true more = false_true (sym not_now ∙ more refl)
    by false more = refl

front_taken : {A : Type 0} (xs : List A) (x : A) → take (length (xs ++ x ∷ []) - 1) (xs ++ x ∷ []) ≡ xs
front_taken xs x = ap (λ n. take n (xs ++ x ∷ [])) (last_less xs x) ∙ take-append_seam xs (x ∷ [])
  where
    last_less : {A : Type 0} (xs : List A) (x : A) → length (xs ++ x ∷ []) - 1 ≡ length xs
    last_less [] x = refl
    last_less (y ∷ xs) x = let e = last_less xs x in let more = some xs x in omega (arith, e, more)
      where
        some : {A : Type 0} (xs : List A) (x : A) → 0 < length (xs ++ x ∷ [])
        some [] x = omega arith
        some (y ∷ xs) x = omega arith

module _ (setting : Setting) (old new : HubView) (gone : List Bool) (grant : ℕ) (flag : Bool) (seat : Seat) (chain : ChainState) (before now : WireView)
    (there : grant < length old.seats) (kept : KeepsTable old new) (went : WentOn grant flag old new) (whole : AreWhole old gone) (open_now : is_taken (stand_at old grant) ≡ true)
    (flagged : (other : ℕ) → other ≢ grant → is_taken (stand_at old other) ≡ true → is_leaving (stand_at old other) ≡ is_gone gone other)
    (conns : ConnsAreOpen old gone [] now) (s : StandsBut setting [] old chain before) (event : SeatEvent setting old grant seat before now) where
  abbrev play : Play
  play = played setting before.steps

  abbrev changed : Play
  changed = with_seat grant seat (played setting before.steps)

  abbrev after : Play
  after = moved setting grant (with_seat grant seat (played setting before.steps))

  -- ---- the seats

  within : (g : ℕ) → g < length old.seats → g < length setting.layout.grants
  within g lt = subst (λ layout. g < length layout.grants) s.table.layout (subst (λ n. g < n) whole.seats lt)

  seat_there : grant < length play.seats
  seat_there = subst (λ n. grant < n) (sym s.table.between.under_way.seats) (within grant there)

  own_seat : seat_at changed grant ≡ seat
  own_seat = get_or-set_same play.seats grant seat no_seat seat_there

  other_seat : (g : ℕ) → g ≢ grant → seat_at changed g ≡ seat_at play g
  other_seat g n = get_or-set_other play.seats grant g seat no_seat n

  past_same : (g : ℕ) → (seat_at changed g).past ≡ (seat_at play g).past
  past_same g = elim (same_or g grant) [
    | inl e ↦ subst (λ k. (seat_at changed k).past ≡ (seat_at play k).past) (sym e) (ap (λ seat. seat.past) own_seat ∙ event.past)
    | inr n ↦ ap (λ seat. seat.past) (other_seat g n)
  ]

  -- ---- connections

  -- two open sessions have two connections
  apart : (g : ℕ) → g ≢ grant → is_taken (stand_at old g) ≡ true → conn_at old g ≢ conn_at old grant
  apart g n taken same = n (conns.once g grant (inl taken) (inl open_now) same)

  last_apart : (conn : ℕ) → conn ≢ conn_at old grant → now.last conn ≡ before.last conn
  last_apart conn n = event.last conn ∙ ap (λ t. cond t Last.Other (before.last conn)) (not_eq conn (conn_at old grant) n)

  last_own : now.last (conn_at old grant) ≡ Last.Other
  last_own = event.last (conn_at old grant) ∙ ap (λ t. cond t Last.Other (before.last (conn_at old grant))) (eq-eqb (conn_at old grant) (conn_at old grant) refl)

  -- ---- what the peers were given

  peer_at : (conn : ℕ) (given : List ℕ) → PeerGiven before conn given → PeerGiven now conn given
  peer_at conn given peer = record {
    here = λ h. event.given conn ∙ peer.here (was_not conn before now (event.gone conn) h);
    gone = λ h. subst (λ bytes. IsPrefix bytes given) (sym (event.given conn)) (by (has_gone conn before.steps) refl);
  }
    where
      by : (t : Bool) → has_gone conn before.steps ≡ t → IsPrefix (before.given conn) given
      by true was = peer.gone was
      by false was = ([], append-nil (before.given conn) ∙ peer.here was)

  peers : (g : ℕ) → IsInUse new went.ends g → PeerGiven now (conn_at new g) (s.given g)
  peers g used = subst (λ conn. PeerGiven now conn (s.given g)) (sym (keeps_conn old new kept g)) (peer_at (conn_at old g) (s.given g) (s.peers g (went_used grant flag old new went open_now g used)))

  -- ---- nothing is kept back

  attended_own : IsAttended now (view_at new grant)
  attended_own = record {
    idle = λ h. other_now (now.last (conn_at old grant)) last_own (ap now.last (sym (keeps_conn old new kept grant)) ∙ h);
    unasked = λ h. other_now (now.last (conn_at old grant)) last_own (ap now.last (sym (keeps_conn old new kept grant)) ∙ h);
  }

  attended_other : (g : ℕ) → g ≢ grant → is_taken (stand_at old g) ≡ true → (t : Bool) → is_in_line (stand_at old g) ≡ t → IsAttended now (view_at new g)
  attended_other g n taken true line = record {
    idle = λ h. false_true (sym (asked h) ∙ line);
    unasked = λ h. false_true (sym (asked h) ∙ line);
  }
    where
      asked : now.last (conn_at new g) ≡ Last.NotNow → is_in_line (stand_at old g) ≡ false
      asked h = (s.attended g taken).unasked (sym (last_apart (conn_at old g) (apart g n taken)) ∙ ap now.last (sym (keeps_conn old new kept g)) ∙ h)
  attended_other g n taken false line = subst (IsAttended now) (sym (went.others g n line)) (record {
    idle = λ h. (s.attended g taken).idle (sym (last_apart (conn_at old g) (apart g n taken)) ∙ h);
    unasked = λ h. (s.attended g taken).unasked (sym (last_apart (conn_at old g) (apart g n taken)) ∙ h);
  })

  attended : (g : ℕ) → is_taken (stand_at new g) ≡ true → IsAttended now (view_at new g)
  attended g taken = elim (same_or g grant) [
    | inl e ↦ subst (λ k. IsAttended now (view_at new k)) (sym e) attended_own
    | inr n ↦ attended_other g n (went.line g n taken).0 (is_in_line (stand_at old g)) refl
  ]

  -- ---- the sessions that ended before

  -- no connection of theirs is this one, while its peer is there
  past_apart : (past : EndedSession) → IsPast before past → has_gone past.conn now.steps ≡ false → past.conn ≢ conn_at old grant
  past_apart past is here same = elim is.closed [
    | inl shut ↦ shut (sym (event.shut past.conn) ∙ ap (λ conn. shuts conn now.steps) same ∙ (conns.each grant (inl open_now)).not_shut)
    | inr was ↦ false_true (sym here ∙ event.gone past.conn was)
  ]

  past_still : (past : EndedSession) → IsPast before past → IsPast now past
  past_still past is = record {
    given = (
      subst (λ bytes. IsPrefix bytes past.replies) (sym (event.given past.conn)) is.given.0,
      λ here short. event.given past.conn ∙ is.given.1 (was_not past.conn before now (event.gone past.conn) here) (λ was. short (last_apart past.conn (past_apart past is here) ∙ was)),
    );
    closed = elim is.closed [
      | inl shut ↦ inl (λ none. shut (sym (event.shut past.conn) ∙ none))
      | inr was ↦ inr (event.gone past.conn was)
    ];
  }

  each_past : (list : List EndedSession) → EachIsPast before list → EachIsPast now list
  each_past [] each = tt
  each_past (past ∷ list) each = (past_still past each.0, each_past list each.1)

  -- ---- no others were given anything

  elsewhere : NoneElseGiven now after
  elsewhere conn none = event.given conn ∙ s.elsewhere conn (λ g. ap (is_among conn) (sym (conns_after setting grant seat play event.conns g)) ∙ none g)

  -- ---- the sessions that ended now

  module _ (new_chain : Option ChainState) (follows : FollowsPlay setting old new s.given new_chain (played setting before.steps) (record { grant = grant; seat = seat })) where
    ending : Ending changed after
    ending = ending_moved setting changed grant

    ends_same : ending.more ≡ went.ends
    ends_same =
        sym (drop-append_seam play.ends ending.more) ∙ ap (drop (length play.ends)) ending.is
        ∙ sym (drop-append_seam old.ended (drop (length play.ends) after.ends)) ∙ ap (drop (length old.ended)) (sym follows.ended ∙ went.ended)
        ∙ drop-append_seam old.ended went.ends

    grows : (g : ℕ) → PastGrows g went.ends (seat_at changed g) (seat_at after g)
    grows g = subst (λ ends. PastGrows g ends (seat_at changed g) (seat_at after g)) ends_same (ending.pasts g)

    -- of a session that ended by a drop, the peer is gone
    lost_now : (ended : SessionEnd) → HasEndedNow old new ended → (seat_at changed ended.grant).gone ≡ true → has_gone ended.conn now.steps ≡ true
    lost_now ended has was = ap (λ conn. has_gone conn now.steps) has.conn ∙ by (same_or ended.grant grant)
      where
        by : (ended.grant ≡ grant) ⊎ (ended.grant ≢ grant) → has_gone (conn_at old ended.grant) now.steps ≡ true
        by (inl e) = subst (λ k. has_gone (conn_at old k) now.steps ≡ true) (sym e) (event.lost (sym (ap (λ seat. seat.gone) own_seat) ∙ subst (λ k. (seat_at changed k).gone ≡ true) e was))
        by (inr n) =
            let shown = (s.table.seats ended.grant (within ended.grant has.there)).shows in
            let going = taken_going (is_waiting play ended.grant) (seat_at play ended.grant) (sym (ap is_taken shown.stand) ∙ has.open_before) in
            (conns.each ended.grant (inl has.open_before)).gone_is ∙ sym (flagged ended.grant n has.open_before) ∙ ap is_leaving shown.stand
            ∙ leaving_gone (is_waiting play ended.grant) (seat_at play ended.grant) shown.here going (sym (ap (λ seat. seat.gone) (other_seat ended.grant n)) ∙ was)

    still_left : (ended : SessionEnd) → OnlyIn went.ends ended → DroppedBefore changed ended → HasEndedNow old new ended → IsStillLeft now after ended
    still_left ended only dropped has = record {
      last = (let put = past_put ended.grant went.ends (seat_at changed ended.grant) (seat_at after ended.grant) ended (grows ended.grant) only in
          record { front = (seat_at changed ended.grant).past; replies = put.replies; is = put.is });
      drop = λ h. lost_now ended has (dropped h);
    }

    each_left : (list : List SessionEnd) → Each (OnlyIn went.ends) list → Each (DroppedBefore changed) list → EachHasEnded old new list → EachIsLeft now after list
    each_left [] only dropped has = tt
    each_left (ended ∷ list) only dropped has = (still_left ended only.0 dropped.0 has.0, each_left list only.1 dropped.1 has.1)

    left_is : EachIsLeft now after went.ends
    left_is = each_left went.ends (only_in went.ends went.once) (subst (Each (DroppedBefore changed)) ends_same ending.drops) went.each

    -- ---- what was past before is past still

    past_rest : (g : ℕ) → past_but went.ends g (seat_at after g) ≡ (seat_at changed g).past
    past_rest g = by (is_among g (grants_of went.ends)) refl
      where
        by : (t : Bool) → is_among g (grants_of went.ends) ≡ t → cond t (take (length (seat_at after g).past - 1) (seat_at after g).past) (seat_at after g).past ≡ (seat_at changed g).past
        by false out = past_stays g went.ends (seat_at changed g) (seat_at after g) (grows g) out
        by true among =
            let one = one_of g went.ends went.once among in
            let put = past_put g went.ends (seat_at changed g) (seat_at after g) one.0 (grows g) one.1 in
            ap (λ past. take (length past - 1) past) put.is ∙ front_taken (seat_at changed g).past (record { conn = one.0.conn; replies = put.replies; end = one.0.end })

    past : (g : ℕ) → EachIsPast now (past_but went.ends g (seat_at after g))
    past g = subst (EachIsPast now) (sym (past_rest g ∙ past_same g)) (each_past (seat_at play g).past (s.past g))

    stands_after : (chain : ChainState) → TableStands setting new s.given chain after → IsWire now → StandsBut setting went.ends new chain now
    stands_after chain table wire = record {
      once = wire.once;
      given = s.given;
      table = subst (TableStands setting new s.given chain) (sym event.play) table;
      peers = peers;
      attended = attended;
      left_is = subst (λ play. EachIsLeft now play went.ends) (sym event.play) left_is;
      past = λ g. subst (λ play. EachIsPast now (past_but went.ends g (seat_at play g))) (sym event.play) (past g);
      elsewhere = subst (NoneElseGiven now) (sym event.play) elsewhere;
    }

  pub followed : (new_chain : Option ChainState) → FollowsPlay setting old new s.given new_chain (played setting before.steps) (record { grant = grant; seat = seat }) → IsWire now
      → StandsOnBut setting went.ends new new_chain (Some now)
  followed None follows wire = follows.stands
  followed (Some new_chain) follows wire = stands_after (Some new_chain) follows new_chain follows.stands wire

-- ---- bytes are taken

plus_none : (n : ℕ) → n + 0 ≡ n
plus_none n = omega arith

-- the session's connection is that of its seat
live_at : (setting : Setting) (old : HubView) (grant : ℕ) (given : List ℕ) (play : Play) → SeatShown (view_at old grant) (is_waiting play grant) (seat_at play grant) given
    → is_taken (stand_at old grant) ≡ true → is_live (conn_at old grant) (seat_at play grant) ≡ true
live_at setting old grant given play shown open_now =
    let going = taken_going (is_waiting play grant) (seat_at play grant) (sym (ap is_taken shown.shows.stand) ∙ open_now) in
    rw going (eq-eqb (seat_at play grant).conn (conn_at old grant) (sym (shown.conn going)))

took_event : (setting : Setting) (old : HubView) (grant : ℕ) (bytes : List ℕ) (before now : WireView) → Isolated setting before.steps (played setting before.steps)
    → is_live (conn_at old grant) (seat_at (played setting before.steps) grant) ≡ true → (seat_at (played setting before.steps) grant).gone ≡ false
    → now ≡ after_take (conn_at old grant) (Answer.Bytes bytes) before → SeatEvent setting old grant (received bytes (seat_at (played setting before.steps) grant)) before now
took_event setting old grant bytes before now i live here is = record {
  given = λ conn. ap (λ wire. wire.given conn) is;
  last = λ conn. ap (λ wire. wire.last conn) is;
  shut = λ conn. ap (λ wire. shuts conn wire.steps) is ∙ shuts-snoc conn before.steps (Took (conn_at old grant) bytes) ∙ plus_none (shuts conn before.steps);
  gone = λ conn h. ap (λ wire. has_gone conn wire.steps) is ∙ gone_stays conn before.steps (Took (conn_at old grant) bytes) h;
  play = ap (λ wire. played setting wire.steps) is ∙ played-snoc setting before.steps (Took (conn_at old grant) bytes)
      ∙ ap (after_change setting (played setting before.steps)) (took_changes setting before.steps (played setting before.steps) i (conn_at old grant) grant bytes live here);
  past = refl;
  conns = refl;
  lost = λ h. false_true (sym here ∙ h);
}

gone_event : (setting : Setting) (old : HubView) (grant : ℕ) (before now : WireView) → Isolated setting before.steps (played setting before.steps)
    → is_live (conn_at old grant) (seat_at (played setting before.steps) grant) ≡ true → IsGoneNow (conn_at old grant) before now
    → SeatEvent setting old grant (record (seat_at (played setting before.steps) grant) { gone = true }) before now
gone_event setting old grant before now i live is = record {
  given = is.given;
  last = is.last;
  shut = λ conn. ap (shuts conn) is.steps ∙ shuts-snoc conn before.steps (Gone (conn_at old grant)) ∙ plus_none (shuts conn before.steps);
  gone = λ conn h. ap (has_gone conn) is.steps ∙ gone_stays conn before.steps (Gone (conn_at old grant)) h;
  play = ap (played setting) is.steps ∙ played-snoc setting before.steps (Gone (conn_at old grant))
      ∙ ap (after_change setting (played setting before.steps)) (gone_changes setting before.steps (played setting before.steps) i (conn_at old grant) grant live);
  past = refl;
  conns = refl;
  lost = λ h. ap (has_gone (conn_at old grant)) is.steps ∙ list_any-append (is_gone_step (conn_at old grant)) before.steps (Gone (conn_at old grant) ∷ [])
      ∙ ap (λ t. has_gone (conn_at old grant) before.steps || (t || false)) (eq-eqb (conn_at old grant) (conn_at old grant) refl) ∙ or_true (has_gone (conn_at old grant) before.steps);
}
  where
    or_true : (t : Bool) → (t || true) ≡ true
    or_true true = refl
    or_true false = refl

-- bytes are taken from an open session that does not wait
pub took_now : (setting : Setting) (old : HubView) (gone : List Bool) (grant : ℕ) (bytes : List ℕ) (chain : ChainState) (before now : WireView) → AreWhole old gone → grant < length old.seats → stand_at old grant ≡ stand.Going
    → now ≡ after_take (conn_at old grant) (Answer.Bytes bytes) before → StandsBut setting [] old chain before → SeatEvent setting old grant (received bytes (seat_at (played setting before.steps) grant)) before now
took_now setting old gone grant bytes chain before now whole there going took s = took_event setting old grant bytes before now (played_isolated setting before.steps s.once) live here took
  where
    shown : SeatShown (view_at old grant) (is_waiting (played setting before.steps) grant) (seat_at (played setting before.steps) grant) (s.given grant)
    shown = s.table.seats grant (subst (λ layout. grant < length layout.grants) s.table.layout (subst (λ n. grant < n) whole.seats there))

    live : is_live (conn_at old grant) (seat_at (played setting before.steps) grant) ≡ true
    live = live_at setting old grant (s.given grant) (played setting before.steps) shown (ap is_taken going)

    here : (seat_at (played setting before.steps) grant).gone ≡ false
    here = shown.shows.here (going_waits (is_waiting (played setting before.steps) grant) (seat_at (played setting before.steps) grant) (sym shown.shows.stand ∙ going))

-- the peer of an open session is found to be gone
pub gone_now : (setting : Setting) (old : HubView) (gone : List Bool) (grant : ℕ) (chain : ChainState) (before now : WireView) → AreWhole old gone → grant < length old.seats → is_here (stand_at old grant) ≡ true
    → IsGoneNow (conn_at old grant) before now → StandsBut setting [] old chain before → SeatEvent setting old grant (record (seat_at (played setting before.steps) grant) { gone = true }) before now
gone_now setting old gone grant chain before now whole there here lost s = gone_event setting old grant before now (played_isolated setting before.steps s.once) live lost
  where
    shown : SeatShown (view_at old grant) (is_waiting (played setting before.steps) grant) (seat_at (played setting before.steps) grant) (s.given grant)
    shown = s.table.seats grant (subst (λ layout. grant < length layout.grants) s.table.layout (subst (λ n. grant < n) whole.seats there))

    live : is_live (conn_at old grant) (seat_at (played setting before.steps) grant) ≡ true
    live = live_at setting old grant (s.given grant) (played setting before.steps) shown (here_open old grant here)

-- what a call of the table that took bytes comes to
pub took_left : (setting : Setting) (old new : HubView) (gone : List Bool) (grant : ℕ) (bytes : List ℕ) (old_chain new_chain : Option ChainState) (before now : Option WireView)
    → AreWhole old gone → AreFlagged old gone → grant < length old.seats → stand_at old grant ≡ stand.Going → KeepsTable old new → WentOn grant false old new
    → FollowsPlays old new old_chain new_chain (λ play. record { grant = grant; seat = received bytes (seat_at play grant) })
    → Told now (ConnsAreOpen old gone []) → Told now IsWire → TookNow (conn_at old grant) bytes before now → StandsOnBut setting [] old old_chain before
    → StandsOnBut setting (drop (length old.ended) new.ended) new new_chain now
took_left setting old new gone grant bytes None new_chain before now whole flagged there going kept went follows conns wire took s = absurd s
took_left setting old new gone grant bytes (Some chain) new_chain None now whole flagged there going kept went follows conns wire took s = absurd s
took_left setting old new gone grant bytes (Some chain) new_chain (Some before) None whole flagged there going kept went follows conns wire took s = absurd took
took_left setting old new gone grant bytes (Some chain) new_chain (Some before) (Some now) whole flagged there going kept went follows conns wire took s =
    subst (λ ends. StandsOnBut setting ends new new_chain (Some now)) (sym (ends_are grant false old new went))
    (followed setting old new gone grant false (received bytes (seat_at (played setting before.steps) grant)) chain before now there kept went whole (ap is_taken going) (λ other n taken. flagged other taken) conns s
    (took_now setting old gone grant bytes chain before now whole there going took s) new_chain (follows setting s.given (played setting before.steps) s.table) wire)

-- what a call of the table comes to that was told of a drop
pub gone_left : (setting : Setting) (old new : HubView) (gone : List Bool) (grant : ℕ) (old_chain new_chain : Option ChainState) (before now : Option WireView)
    → AreWhole old gone → ((other : ℕ) → other ≢ grant → is_taken (stand_at old other) ≡ true → is_leaving (stand_at old other) ≡ is_gone gone other) → grant < length old.seats
    → is_here (stand_at old grant) ≡ true → KeepsTable old new → WentOn grant true old new
    → FollowsPlays old new old_chain new_chain (λ play. record { grant = grant; seat = record (seat_at play grant) { gone = true } })
    → Told now (ConnsAreOpen old gone []) → Told now IsWire → GoneNow (conn_at old grant) before now → StandsOnBut setting [] old old_chain before
    → StandsOnBut setting (drop (length old.ended) new.ended) new new_chain now
gone_left setting old new gone grant None new_chain before now whole flagged there here kept went follows conns wire lost s = absurd s
gone_left setting old new gone grant (Some chain) new_chain None now whole flagged there here kept went follows conns wire lost s = absurd s
gone_left setting old new gone grant (Some chain) new_chain (Some before) None whole flagged there here kept went follows conns wire lost s = absurd lost
gone_left setting old new gone grant (Some chain) new_chain (Some before) (Some now) whole flagged there here kept went follows conns wire lost s =
    subst (λ ends. StandsOnBut setting ends new new_chain (Some now)) (sym (ends_are grant true old new went))
    (followed setting old new gone grant true (record (seat_at (played setting before.steps) grant) { gone = true }) chain before now there kept went whole (here_open old grant here) flagged conns s
    (gone_now setting old gone grant chain before now whole there here lost s) new_chain (follows setting s.given (played setting before.steps) s.table) wire)

-- ---- from where the list of the ended began to where it was settled

-- as the place of the list is told
pub took_from : (setting : Setting) (old new : HubView) (gone : List Bool) (grant : ℕ) (bytes : List ℕ) (old_chain new_chain : Option ChainState) (before now : Option WireView) (earlier : ℕ) → earlier ≡ length old.ended
    → AreWhole old gone → AreFlagged old gone → grant < length old.seats → stand_at old grant ≡ stand.Going → KeepsTable old new → WentOn grant false old new
    → FollowsPlays old new old_chain new_chain (λ play. record { grant = grant; seat = received bytes (seat_at play grant) })
    → Told now (ConnsAreOpen old gone []) → Told now IsWire → TookNow (conn_at old grant) bytes before now → StandsOnBut setting [] old old_chain before
    → StandsOnBut setting (drop earlier new.ended) new new_chain now
took_from setting old new gone grant bytes old_chain new_chain before now earlier is whole flagged there going kept went follows conns wire took s =
    subst (λ n. StandsOnBut setting (drop n new.ended) new new_chain now) (sym is) (took_left setting old new gone grant bytes old_chain new_chain before now whole flagged there going kept went follows conns wire took s)

pub gone_from : (setting : Setting) (old new : HubView) (gone : List Bool) (grant : ℕ) (old_chain new_chain : Option ChainState) (before now : Option WireView) (earlier : ℕ) → earlier ≡ length old.ended
    → AreWhole old gone → ((other : ℕ) → other ≢ grant → is_taken (stand_at old other) ≡ true → is_leaving (stand_at old other) ≡ is_gone gone other) → grant < length old.seats
    → is_here (stand_at old grant) ≡ true → KeepsTable old new → WentOn grant true old new
    → FollowsPlays old new old_chain new_chain (λ play. record { grant = grant; seat = record (seat_at play grant) { gone = true } })
    → Told now (ConnsAreOpen old gone []) → Told now IsWire → GoneNow (conn_at old grant) before now → StandsOnBut setting [] old old_chain before
    → StandsOnBut setting (drop earlier new.ended) new new_chain now
gone_from setting old new gone grant old_chain new_chain before now earlier is whole flagged there here kept went follows conns wire lost s =
    subst (λ n. StandsOnBut setting (drop n new.ended) new new_chain now) (sym is) (gone_left setting old new gone grant old_chain new_chain before now whole flagged there here kept went follows conns wire lost s)

-- ---- one take

-- a wire that tells nothing stands for no play
tells_none : {P : Type 0} (setting : Setting) (hub : HubView) (chain : Option ChainState) → StandsOnBut setting [] hub chain None → P
tells_none setting hub None s = absurd s
tells_none setting hub (Some chain) s = absurd s

pub event_then_ok : {T E : Type 0} (result : Result T E) (event : Option WireView → Option WireView → Type 0) (old between new : HubView) (old_chain between_chain new_chain : Option ChainState) (old_wire between_wire new_wire : Option WireView)
    → FollowsEvent event old between old_chain between_chain old_wire between_wire → OnOk result (KeepsPlay between new between_chain new_chain between_wire new_wire) → OnOk result (FollowsEvent event old new old_chain new_chain old_wire new_wire)
event_then_ok (Ok done) event old between new old_chain between_chain new_chain old_wire between_wire new_wire first more = λ before is setting s. more setting (first before is setting s)
event_then_ok (Err fault) event old between new old_chain between_chain new_chain old_wire between_wire new_wire first more = tt

-- bytes came, and the session took them
pub took_keeps : {T E : Type 0} (result : Result T E) (conn : ℕ) (bytes : List ℕ) (old new : HubView) (old_chain new_chain : Option ChainState) (before between now : Option WireView)
    → Both before between (λ old new. new ≡ after_take conn (Answer.Bytes bytes) old) → OnOk result (FollowsEvent (TookNow conn bytes) old new old_chain new_chain between now)
    → OnOk result (KeepsPlay old new old_chain new_chain before now)
took_keeps (Err fault) conn bytes old new old_chain new_chain before between now told follows = tt
took_keeps (Ok done) conn bytes old new old_chain new_chain None between now told follows = λ setting s. tells_none setting old old_chain s
took_keeps (Ok done) conn bytes old new old_chain new_chain (Some before) None now told follows = absurd told
took_keeps (Ok done) conn bytes old new old_chain new_chain (Some before) (Some between) now told follows = follows (Some before) told

-- the peer was found to be gone, and the session knows
pub lost_keeps : {T E : Type 0} (result : Result T E) (conn : ℕ) (old new : HubView) (old_chain new_chain : Option ChainState) (before between now : Option WireView)
    → Both before between (λ old new. new ≡ after_take conn Answer.Gone old) → OnOk result (FollowsEvent (GoneNow conn) old new old_chain new_chain between now)
    → OnOk result (KeepsPlay old new old_chain new_chain before now)
lost_keeps (Err fault) conn old new old_chain new_chain before between now told follows = tt
lost_keeps (Ok done) conn old new old_chain new_chain None between now told follows = λ setting s. tells_none setting old old_chain s
lost_keeps (Ok done) conn old new old_chain new_chain (Some before) None now told follows = absurd told
lost_keeps (Ok done) conn old new old_chain new_chain (Some before) (Some between) now told follows =
    follows (Some before) (record { steps = ap (λ wire. wire.steps) told; given = λ other. ap (λ wire. wire.given other) told; last = λ other. ap (λ wire. wire.last other) told })

-- nothing came from a session whose reply was given and that does not wait
module _ (setting : Setting) (hub : HubView) (gone : List Bool) (grant : ℕ) (chain : ChainState) (before now : WireView) (going : stand_at hub grant ≡ stand.Going) (given : reply_at hub grant ≡ [])
    (conns : ConnsAreOpen hub gone [] before) (here : has_gone (conn_at hub grant) before.steps ≡ false) (is : now ≡ after_take (conn_at hub grant) Answer.NotNow before) (s : StandsBut setting [] hub chain before) where
  steps_same : now.steps ≡ before.steps
  steps_same = ap (λ wire. wire.steps) is ∙ append-nil before.steps

  given_same : (conn : ℕ) → now.given conn ≡ before.given conn
  given_same conn = ap (λ wire. wire.given conn) is

  last_same : (conn : ℕ) → conn ≢ conn_at hub grant → now.last conn ≡ before.last conn
  last_same conn n = ap (λ wire. wire.last conn) is ∙ ap (λ t. cond t Last.NotNow (before.last conn)) (not_eq conn (conn_at hub grant) n)

  open_mine : is_taken (stand_at hub grant) ≡ true
  open_mine = ap is_taken going

  none_attended : (g : ℕ) → is_taken (stand_at hub g) ≡ true → IsAttended now (view_at hub g)
  none_attended g taken = elim (same_or g grant) [
    | inl e ↦ subst (λ k. IsAttended now (view_at hub k)) (sym e) (record { idle = λ h. given; unasked = λ h. ap is_in_line going })
    | inr n ↦ (let last = last_same (conn_at hub g) (λ same. n (conns.once g grant (inl taken) (inl open_mine) same)) in record {
      idle = λ h. (s.attended g taken).idle (sym last ∙ h);
      unasked = λ h. (s.attended g taken).unasked (sym last ∙ h);
    })
  ]

  none_past : (past : EndedSession) → IsPast before past → IsPast now past
  none_past past is_past = record {
    given = (
      subst (λ bytes. IsPrefix bytes past.replies) (sym (given_same past.conn)) is_past.given.0,
      λ there short. given_same past.conn ∙ is_past.given.1 (ap (has_gone past.conn) (sym steps_same) ∙ there) (λ was. short (last_same past.conn other ∙ was)),
    );
    closed = elim is_past.closed [
      | inl shut ↦ inl (λ none. shut (ap (shuts past.conn) (sym steps_same) ∙ none))
      | inr was ↦ inr (ap (has_gone past.conn) steps_same ∙ was)
    ];
  }
    where
      other : past.conn ≢ conn_at hub grant
      other same = elim is_past.closed [
        | inl shut ↦ shut (ap (λ conn. shuts conn before.steps) same ∙ (conns.each grant (inl open_mine)).not_shut)
        | inr was ↦ false_true (sym here ∙ ap (λ conn. has_gone conn before.steps) (sym same) ∙ was)
      ]

  none_each_past : (list : List EndedSession) → EachIsPast before list → EachIsPast now list
  none_each_past [] each = tt
  none_each_past (past ∷ list) each = (none_past past each.0, none_each_past list each.1)

  pub none_came : StandsBut setting [] hub chain now
  none_came = record {
    once = ap opens_once steps_same ∙ s.once;
    given = s.given;
    table = subst (λ steps. TableStands setting hub s.given chain (played setting steps)) (sym steps_same) s.table;
    peers = λ g used. let peer = s.peers g used in record {
      here = λ h. given_same (conn_at hub g) ∙ peer.here (ap (has_gone (conn_at hub g)) (sym steps_same) ∙ h);
      gone = λ h. subst (λ bytes. IsPrefix bytes (s.given g)) (sym (given_same (conn_at hub g))) (peer.gone (ap (has_gone (conn_at hub g)) (sym steps_same) ∙ h));
    };
    attended = none_attended;
    left_is = tt;
    past = λ g. subst (λ steps. EachIsPast now (seat_at (played setting steps) g).past) (sym steps_same) (none_each_past (seat_at (played setting before.steps) g).past (s.past g));
    elsewhere = λ conn none. given_same conn ∙ s.elsewhere conn (subst (λ steps. (g : ℕ) → is_among conn (conns_of (seat_at (played setting steps) g)) ≡ false) steps_same none);
  }

-- the same where little is told; then the session is not ready
pub none_keeps : {C : Type 0} (chain_of : C → Option ChainState) (old new : TableView C) (ready gone : List Bool) (grant conn : ℕ) (before now : Option WireView)
    → AreFlagged old.hub gone → stand_at old.hub grant ≡ stand.Going → reply_at old.hub grant ≡ [] → conn ≡ conn_at old.hub grant → Told before (ConnsAreOpen old.hub gone [])
    → Both before now (λ old new. new ≡ after_take conn Answer.NotNow old) → new ≡ ready_as ready old → KeepsPlay old.hub new.hub (chain_of old.cable) (chain_of new.cable) before now
none_keeps chain_of old new ready gone grant conn before now flagged going given conn_is conns told set = λ setting s.
    subst (λ table. StandsOnBut setting [] table.hub (chain_of table.cable) now) (sym set) (stands_on_apart setting [] old.hub ready old.hub.ended (chain_of old.cable) now (by setting (chain_of old.cable) before now conns told s))
  where
    here : (wire : WireView) → ConnsAreOpen old.hub gone [] wire → has_gone (conn_at old.hub grant) wire.steps ≡ false
    here wire open_conns = (open_conns.each grant (inl (ap is_taken going))).gone_is ∙ sym (flagged grant (ap is_taken going)) ∙ ap is_leaving going

    by : (setting : Setting) (chain : Option ChainState) (a b : Option WireView) → Told a (ConnsAreOpen old.hub gone []) → Both a b (λ old new. new ≡ after_take conn Answer.NotNow old)
        → StandsOnBut setting [] old.hub chain a → StandsOnBut setting [] old.hub chain b
    by setting None a b open_conns r s = absurd s
    by setting (Some chain) None b open_conns r s = absurd s
    by setting (Some chain) (Some first) None open_conns r s = absurd r
    by setting (Some chain) (Some first) (Some last) open_conns r s =
        none_came setting old.hub gone grant chain first last going given open_conns (here first open_conns) (r ∙ ap (λ c. after_take c Answer.NotNow first) conn_is) s

-- a session is not ready, and nothing else is told
pub set_keeps : {C : Type 0} (chain_of : C → Option ChainState) (old new : TableView C) (ready : List Bool) (wire : Option WireView) → new ≡ ready_as ready old → KeepsPlay old.hub new.hub (chain_of old.cable) (chain_of new.cable) wire wire
set_keeps chain_of old new ready wire set = λ setting s. subst (λ table. StandsOnBut setting [] table.hub (chain_of table.cable) wire) (sym set) (stands_on_apart setting [] old.hub ready old.hub.ended (chain_of old.cable) wire s)

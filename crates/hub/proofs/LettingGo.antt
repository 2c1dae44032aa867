-- A session that ended is let go: the play of the wire's steps stays, and so does what the wire tells of all other connections.
use Rattle.std.proofs.Common.{◌≡◌, ◌≢◌, ℕ, zero, suc, ◌+◌, ◌-◌, ◌<◌, Bool, true, false, ◌&&◌, ◌||◌, cond, List, [], ◌∷◌, ◌++◌, length, map, take, drop, refl, ap, sym, subst, ◌∙◌, arith, inl, inr, ◌⊎◌, nat_eq, append_assoc, length-append, take-append-drop}
use Rattle.std.proofs.Math.Seq.{take-append_seam}
use Rattle.std.specs.Option.{option_map}
use Rattle.std.specs.List.{slice_index_or}
use Rattle.std.specs.declared.option.Option.{Option}
use Rattle.std.specs.declared.option.Option.TheVariants.{None, Some}
use Rattle.std.proofs.lemmas.Bool.{eqb-true, eq-eqb, cases_lt}
use Rattle.std.proofs.lemmas.List.{append-nil}
use Rattle.std.proofs.lemmas.List.Folds.{list_any-append}
use Rattle.base_types.specs.Tellings.{Told, Both}
use Rattle.base_types.proofs.TellingLaws.{both_joined}
use Rattle.grant_table.specs.Layouts.{first_place}
use Rattle.chain_model.specs.Chains.{ChainState}
use Rattle.client_session.specs.declared.Stand.TheVariants as stand
use Rattle.client_session.specs.Seats.{Seat, EndedSession, replies_now, last_replies}
use Rattle.client_session.specs.Private.{is_live, dropped}
use Rattle.client_session.specs.Sessions.{IsPrefix, stand_of, is_taken}
use Rattle.wire_port.specs.Steps.{Step, opens_once, shuts, has_gone, is_gone_step}
use Rattle.wire_port.specs.Steps.Step.{Gone, Shut}
use Rattle.wire_port.specs.declared.wire.Given.{Given}
use Rattle.wire_port.specs.declared.wire.Given.TheVariants as given
use Rattle.wire_port.specs.Wires.{WireView, Last}
use Rattle.wire_port.specs.Calls.{IsOpen, IsWire, after_give, after_shut, give_answered}
use Rattle.plays.specs.Plays.{Setting, Play, SessionEnd, seat_at, no_seat, is_among, is_waiting, live_grant, change_of_live, after_change, played}
use Rattle.plays.specs.Alone.{conns_of}
use Rattle.plays.specs.Schedule.{is_drop}
use Rattle.plays.specs.Stands.{HubView, NoneElseGiven}
use Rattle.plays.proofs.Lists.{not_eq, false_true, past_end}
use Rattle.plays.proofs.Admitted.{live_among}
use Rattle.plays.proofs.Isolation.{Isolated, played_isolated}
use Rattle.plays.proofs.Replays.{played-snoc, gone_stays}
use Rattle.session_table.specs.Tables.{TableStands, TableView, stand_at, reply_at}
use Rattle.hub.specs.Served.{AreFlagged, AreFree, AreLeft, ConnIsOpen, ConnsAreOpen, IsInUse, conn_at, grants_of, is_gone, ready_as}
use Rattle.hub.specs.Standing.{PeerGiven, IsPast, EachIsPast, EachIsLeft, LastGave, LastGaveShut, StandsBut, StandsOnBut, past_but}
use Rattle.hub.proofs.OnTheWire.{same_or, shuts-snoc}
use Rattle.hub.proofs.Tables.{stands_apart}

or_false : (b : Bool) → (b || false) ≡ b
or_false true = refl
or_false false = refl

or_true : (b : Bool) → (b || true) ≡ true
or_true true = refl
or_true false = refl

-- ---- what one give tells

take_all_of : (count : ℕ) (piece : List ℕ) → length (take count piece) ≡ length piece → take count piece ≡ piece
take_all_of zero [] same = refl
take_all_of zero (byte ∷ piece) same = absurd (omega (arith, same))
take_all_of (suc count) [] same = refl
take_all_of (suc count) (byte ∷ piece) same = ap (λ l. byte ∷ l) (take_all_of count piece (omega (arith, same)))

-- not less than all was given
not_less : (count : ℕ) (piece : List ℕ) → cond (nat_eq (length (take count piece)) (length piece)) Last.Other Last.Short ≢ Last.Short → take count piece ≡ piece
not_less count piece not_short = by (nat_eq (length (take count piece)) (length piece)) refl not_short
  where
    by : (b : Bool) → nat_eq (length (take count piece)) (length piece) ≡ b → cond b Last.Other Last.Short ≢ Last.Short → take count piece ≡ piece
    by true all not_short = take_all_of count piece (eqb-true (length (take count piece)) (length piece) all)
    by false some not_short = absurd (not_short refl)

given_last : (conn : ℕ) (piece : List ℕ) (result : Given) (old : WireView) → has_gone conn old.steps ≡ false → LastGave conn piece old (after_give conn (length piece) (give_answered result piece) old)
given_last conn piece (given.Bytes count) old here = record {
  steps = inl (append-nil old.steps);
  given_other = λ other ne. rw (not_eq other conn ne) refl;
  last_other = λ other ne. rw (not_eq other conn ne) refl;
  more = take count piece;
  given = rw (eq-eqb conn conn refl) refl;
  front = (drop count piece, take-append-drop count piece);
  whole = λ none not_short. not_less count piece (λ short. not_short (rw (eq-eqb conn conn refl) short));
  gone = λ is_gone. false_true (sym here ∙ is_gone);
}
given_last conn piece given.NotNow old here = record {
  steps = inl (append-nil old.steps);
  given_other = λ other ne. rw (not_eq other conn ne) refl;
  last_other = λ other ne. rw (not_eq other conn ne) refl;
  more = [];
  given = rw (eq-eqb conn conn refl) refl;
  front = (piece, refl);
  whole = λ none not_short. absurd (not_short (rw (eq-eqb conn conn refl) refl));
  gone = λ is_gone. false_true (sym here ∙ is_gone);
}
given_last conn piece given.Gone old here = record {
  steps = inr refl;
  given_other = λ other ne. rw (not_eq other conn ne) refl;
  last_other = λ other ne. rw (not_eq other conn ne) refl;
  more = [];
  given = rw (eq-eqb conn conn refl) refl;
  front = (piece, refl);
  whole = λ none not_short. false_true (sym none ∙ list_any-append (is_gone_step conn) old.steps (Gone conn ∷ []) ∙ rw (eq-eqb conn conn refl) (or_true (has_gone conn old.steps)));
  gone = λ is_gone. false_true (sym here ∙ is_gone);
}

pub told_last : (conn : ℕ) (piece reply : List ℕ) (result : Given) (a b : Option WireView) → piece ≡ reply → Told a (IsOpen conn) → Both a b (λ old new. new ≡ after_give conn (length piece) (give_answered result piece) old) → Both a b (LastGave conn reply)
told_last conn piece reply result None None is open_now r = tt
told_last conn piece reply result None (Some new) is open_now r = r
told_last conn piece reply result (Some old) None is open_now r = r
told_last conn piece reply result (Some old) (Some new) is open_now r = subst (λ l. LastGave conn l old new) is (subst (LastGave conn piece old) (sym r) (given_last conn piece result old open_now.not_gone))

-- nothing is given
none_given : (conn : ℕ) (reply : List ℕ) (wire : WireView) → (has_gone conn wire.steps ≡ false → [] ≡ reply) → LastGave conn reply wire wire
none_given conn reply wire all = record {
  steps = inl refl;
  given_other = λ other ne. refl;
  last_other = λ other ne. refl;
  more = [];
  given = sym (append-nil (wire.given conn));
  front = (reply, refl);
  whole = λ none not_short. all none;
  gone = λ is_gone. refl;
}

pub told_no_reply : (conn : ℕ) (reply : List ℕ) (a : Option WireView) → reply ≡ [] → Both a a (LastGave conn reply)
told_no_reply conn reply None is = tt
told_no_reply conn reply (Some wire) is = none_given conn reply wire (λ here. sym is)

pub told_no_peer : (conn : ℕ) (reply : List ℕ) (gone : Bool) (a : Option WireView) → gone ≡ true → Told a (λ wire. ConnIsOpen wire conn gone) → Both a a (LastGave conn reply)
told_no_peer conn reply gone None is open_now = tt
told_no_peer conn reply gone (Some wire) is open_now = none_given conn reply wire (λ here. false_true (sym here ∙ open_now.gone_is ∙ is))

pub told_shut : (conn : ℕ) (reply : List ℕ) (a b d : Option WireView) → Both a b (LastGave conn reply) → Both b d (λ old new. new ≡ after_shut conn old) → Both a d (LastGaveShut conn reply)
told_shut conn reply = both_joined (LastGave conn reply) (λ old new. new ≡ after_shut conn old) (LastGaveShut conn reply) (λ old between new gave shut. record { between = between; gave = gave; shut = shut })

-- ---- steps that leave the play as it is

gone_as : (conn : ℕ) (steps : List Step) (step : Step) → is_gone_step conn step ≡ false → has_gone conn (steps ++ step ∷ []) ≡ has_gone conn steps
gone_as conn steps step none = list_any-append (is_gone_step conn) steps (step ∷ []) ∙ rw none (or_false (has_gone conn steps))

shuts_before : (conn : ℕ) (steps : List Step) (step : Step) → shuts conn (steps ++ step ∷ []) ≡ 0 → shuts conn steps ≡ 0
shuts_before conn steps step none = omega (arith, none, shuts-snoc conn steps step)

first_none : (test : Seat → Bool) (seats : List Seat) → ((grant : ℕ) → test (slice_index_or seats grant no_seat) ≡ false) → first_place test seats ≡ None
first_none test [] none = refl
first_none test (seat ∷ seats) none = ap (λ b. cond b (Some 0) (option_map suc (first_place test seats))) (none zero) ∙ ap (option_map suc) (first_none test seats (λ grant. none (suc grant)))

-- of a session that ended, no open session has the connection
none_live : (setting : Setting) (steps : List Step) (grant conn : ℕ) → opens_once steps ≡ true → (seat_at (played setting steps) grant).going ≡ false
    → is_among conn (conns_of (seat_at (played setting steps) grant)) ≡ true → live_grant conn (played setting steps).seats ≡ None
none_live setting steps grant conn once free among = first_none (is_live conn) (played setting steps).seats (λ other. by other (is_live conn (seat_at (played setting steps) other)) refl)
  where
    isolated : Isolated setting steps (played setting steps)
    isolated = played_isolated setting steps once

    live_going : (seat : Seat) → is_live conn seat ≡ true → seat.going ≡ true
    live_going seat live = go seat.going (nat_eq seat.conn conn) live
      where
        go : (going same : Bool) → (going && same) ≡ true → going ≡ true
        go true same live = refl
        go false same live = live

    by : (other : ℕ) (b : Bool) → is_live conn (seat_at (played setting steps) other) ≡ b → b ≡ false
    by other true live =
        let same : other ≡ grant = isolated.apart other grant conn (live_among conn (seat_at (played setting steps) other) live) among in
        false_true (sym free ∙ ap (λ g. (seat_at (played setting steps) g).going) (sym same) ∙ live_going (seat_at (played setting steps) other) live)
    by other false live = refl

-- what a wire tells of other connections than this, and the play of its steps, stay as they are
record LetsGo (setting : Setting) (conn : ℕ) (old new : WireView) : Type 0 where
  play : played setting new.steps ≡ played setting old.steps
  given : (other : ℕ) → other ≢ conn → new.given other ≡ old.given other
  last : (other : ℕ) → other ≢ conn → new.last other ≡ old.last other
  gone : (other : ℕ) → other ≢ conn → has_gone other new.steps ≡ has_gone other old.steps
  stays : (other : ℕ) → has_gone other old.steps ≡ true → has_gone other new.steps ≡ true
  keeps : (past : EndedSession) → IsPast old past → IsPast new past

lets_same : (setting : Setting) (conn : ℕ) (wire : WireView) → LetsGo setting conn wire wire
lets_same setting conn wire = record { play = refl; given = λ other ne. refl; last = λ other ne. refl; gone = λ other ne. refl; stays = λ other h. h; keeps = λ past is. is }

lets_then : (setting : Setting) (conn : ℕ) (old between new : WireView) → LetsGo setting conn old between → LetsGo setting conn between new → LetsGo setting conn old new
lets_then setting conn old between new one two = record {
  play = two.play ∙ one.play;
  given = λ other ne. two.given other ne ∙ one.given other ne;
  last = λ other ne. two.last other ne ∙ one.last other ne;
  gone = λ other ne. two.gone other ne ∙ one.gone other ne;
  stays = λ other h. two.stays other (one.stays other h);
  keeps = λ past is. two.keeps past (one.keeps past is);
}

shut_past : (conn : ℕ) (wire : WireView) (past : EndedSession) → IsPast wire past → IsPast (after_shut conn wire) past
shut_past conn wire past is = record {
  given = (is.given.0, λ here not_short. is.given.1 (sym (gone_as past.conn wire.steps (Shut conn) refl) ∙ here) not_short);
  closed = by is.closed;
}
  where
    by : (shuts past.conn wire.steps ≢ 0) ⊎ (has_gone past.conn wire.steps ≡ true) → (shuts past.conn (wire.steps ++ Shut conn ∷ []) ≢ 0) ⊎ (has_gone past.conn (wire.steps ++ Shut conn ∷ []) ≡ true)
    by (inl shut) = inl (λ none. shut (shuts_before past.conn wire.steps (Shut conn) none))
    by (inr gone) = inr (gone_stays past.conn wire.steps (Shut conn) gone)

lets_shut : (setting : Setting) (conn : ℕ) (wire : WireView) → LetsGo setting conn wire (after_shut conn wire)
lets_shut setting conn wire = record {
  play = played-snoc setting wire.steps (Shut conn);
  given = λ other ne. refl;
  last = λ other ne. refl;
  gone = λ other ne. gone_as other wire.steps (Shut conn) refl;
  stays = λ other h. gone_stays other wire.steps (Shut conn) h;
  keeps = shut_past conn wire;
}

-- of another connection
gave_other : (conn : ℕ) (reply : List ℕ) (old new : WireView) (other : ℕ) → other ≢ conn → LastGave conn reply old new → (has_gone other new.steps ≡ has_gone other old.steps) × (shuts other new.steps ≡ 0 → shuts other old.steps ≡ 0)
gave_other conn reply old new other ne gave = by gave.steps
  where
    by : (new.steps ≡ old.steps) ⊎ (new.steps ≡ old.steps ++ Gone conn ∷ []) → (has_gone other new.steps ≡ has_gone other old.steps) × (shuts other new.steps ≡ 0 → shuts other old.steps ≡ 0)
    by (inl is) = (ap (has_gone other) is, λ none. sym (ap (shuts other) is) ∙ none)
    by (inr is) = (ap (has_gone other) is ∙ gone_as other old.steps (Gone conn) (not_eq other conn ne), λ none. shuts_before other old.steps (Gone conn) (sym (ap (shuts other) is) ∙ none))

gave_past : (conn : ℕ) (reply : List ℕ) (old new : WireView) → shuts conn old.steps ≡ 0 → LastGave conn reply old new → (past : EndedSession) → IsPast old past → IsPast new past
gave_past conn reply old new not_shut gave past is = by (same_or past.conn conn)
  where
    itself : past.conn ≡ conn → (shuts past.conn old.steps ≢ 0) ⊎ (has_gone past.conn old.steps ≡ true) → new ≡ old
    itself same (inl shut) = absurd (shut (ap (λ c. shuts c old.steps) same ∙ not_shut))
    itself same (inr gone) = gave.gone (sym (ap (λ c. has_gone c old.steps) same) ∙ gone)

    closed : past.conn ≢ conn → (shuts past.conn old.steps ≢ 0) ⊎ (has_gone past.conn old.steps ≡ true) → (shuts past.conn new.steps ≢ 0) ⊎ (has_gone past.conn new.steps ≡ true)
    closed ne (inl shut) = inl (λ none. shut ((gave_other conn reply old new past.conn ne gave).1 none))
    closed ne (inr gone) = inr ((gave_other conn reply old new past.conn ne gave).0 ∙ gone)

    by : (past.conn ≡ conn) ⊎ (past.conn ≢ conn) → IsPast new past
    by (inl same) = subst (λ wire. IsPast wire past) (sym (itself same is.closed)) is
    by (inr ne) = record {
      given = (
        subst (λ bytes. IsPrefix bytes past.replies) (sym (gave.given_other past.conn ne)) is.given.0,
        λ here not_short. gave.given_other past.conn ne ∙ is.given.1 (sym (gave_other conn reply old new past.conn ne gave).0 ∙ here) (λ short. not_short (gave.last_other past.conn ne ∙ short)),
      );
      closed = closed ne is.closed;
    }

lets_gave : (setting : Setting) (conn : ℕ) (reply : List ℕ) (old new : WireView) → live_grant conn (played setting old.steps).seats ≡ None → shuts conn old.steps ≡ 0 → LastGave conn reply old new → LetsGo setting conn old new
lets_gave setting conn reply old new none not_shut gave = record {
  play = play gave.steps;
  given = gave.given_other;
  last = gave.last_other;
  gone = λ other ne. (gave_other conn reply old new other ne gave).0;
  stays = λ other h. stays other h gave.steps;
  keeps = gave_past conn reply old new not_shut gave;
}
  where
    play : (new.steps ≡ old.steps) ⊎ (new.steps ≡ old.steps ++ Gone conn ∷ []) → played setting new.steps ≡ played setting old.steps
    play (inl is) = ap (played setting) is
    play (inr is) = ap (played setting) is ∙ played-snoc setting old.steps (Gone conn) ∙ ap (λ o. after_change setting (played setting old.steps) (change_of_live o (dropped conn) (played setting old.steps))) none

    stays : (other : ℕ) → has_gone other old.steps ≡ true → (new.steps ≡ old.steps) ⊎ (new.steps ≡ old.steps ++ Gone conn ∷ []) → has_gone other new.steps ≡ true
    stays other h (inl is) = ap (has_gone other) is ∙ h
    stays other h (inr is) = ap (has_gone other) is ∙ gone_stays other old.steps (Gone conn) h

-- ---- the session itself

prefix_more : (front given reply replies : List ℕ) → IsPrefix front given → given ++ reply ≡ replies → IsPrefix front replies
prefix_more front given reply replies is all = (is.0 ++ reply, sym (append_assoc front is.0 reply) ∙ ap (λ l. l ++ reply) is.1 ∙ all)

prefix_given : (given more reply replies : List ℕ) → IsPrefix more reply → given ++ reply ≡ replies → IsPrefix (given ++ more) replies
prefix_given given more reply replies is all = (is.0, append_assoc given more is.0 ∙ ap (λ l. given ++ l) is.1 ∙ all)

-- a session whose peer is gone
past_gone : (wire : WireView) (past : EndedSession) (given reply : List ℕ) → has_gone past.conn wire.steps ≡ true → PeerGiven wire past.conn given → given ++ reply ≡ past.replies → IsPast wire past
past_gone wire past given reply gone peer all = record {
  given = (prefix_more (wire.given past.conn) given reply past.replies (peer.gone gone) all, λ here not_short. false_true (sym here ∙ gone));
  closed = inr gone;
}

-- a session after its last give
past_shut : (old new : WireView) (past : EndedSession) (given reply : List ℕ) → PeerGiven old past.conn given → given ++ reply ≡ past.replies → LastGaveShut past.conn reply old new → IsPast new past
past_shut old new past given reply peer all last = subst (λ wire. IsPast wire past) (sym last.shut) (record {
  given = (front (has_gone past.conn old.steps) refl, λ here not_short. whole (has_gone past.conn old.steps) refl (sym (gone_as past.conn last.between.steps (Shut past.conn) refl) ∙ here) not_short);
  closed = inl (λ none. absurd (omega (arith, none, shuts-snoc past.conn last.between.steps (Shut past.conn), itself)));
})
  where
    itself : shuts past.conn (Shut past.conn ∷ []) ≡ 1
    itself = rw (eq-eqb past.conn past.conn refl) refl

    front : (b : Bool) → has_gone past.conn old.steps ≡ b → IsPrefix (last.between.given past.conn) past.replies
    front true gone = subst (λ wire. IsPrefix (wire.given past.conn) past.replies) (sym (last.gave.gone gone)) (prefix_more (old.given past.conn) given reply past.replies (peer.gone gone) all)
    front false here = subst (λ bytes. IsPrefix bytes past.replies) (sym (last.gave.given ∙ ap (λ l. l ++ last.gave.more) (peer.here here))) (prefix_given given last.gave.more reply past.replies last.gave.front all)

    whole : (b : Bool) → has_gone past.conn old.steps ≡ b → has_gone past.conn last.between.steps ≡ false → last.between.last past.conn ≢ Last.Short → last.between.given past.conn ≡ past.replies
    whole true gone none not_short = false_true (sym none ∙ ap (λ wire. has_gone past.conn wire.steps) (last.gave.gone gone) ∙ gone)
    whole false here none not_short = last.gave.given ∙ ap (λ l. l ++ last.gave.more) (peer.here here) ∙ ap (λ l. given ++ l) (last.gave.whole none not_short) ∙ all

-- ---- the sessions after one was let go

each_left : (old new : WireView) (play : Play) → ((conn : ℕ) → has_gone conn old.steps ≡ true → has_gone conn new.steps ≡ true) → (left : List SessionEnd) → EachIsLeft old play left → EachIsLeft new play left
each_left old new play stays [] each = tt
each_left old new play stays (ended ∷ left) each = (record { last = each.0.last; drop = λ is. stays ended.conn (each.0.drop is) }, each_left old new play stays left each.1)

each_past : (old new : WireView) → ((past : EndedSession) → IsPast old past → IsPast new past) → (list : List EndedSession) → EachIsPast old list → EachIsPast new list
each_past old new keeps [] each = tt
each_past old new keeps (past ∷ list) each = (keeps past each.0, each_past old new keeps list each.1)

past_snoc : (wire : WireView) (front : List EndedSession) (last : EndedSession) → EachIsPast wire front → IsPast wire last → EachIsPast wire (front ++ last ∷ [])
past_snoc wire [] last each is = (is, tt)
past_snoc wire (past ∷ front) last each is = (each.0, past_snoc wire front last each.1 is)

front_taken : (front : List EndedSession) (last : EndedSession) → take (length (front ++ last ∷ []) - 1) (front ++ last ∷ []) ≡ front
front_taken front last = ap (λ n. take n (front ++ last ∷ [])) count ∙ take-append_seam front (last ∷ [])
  where
    count : length (front ++ last ∷ []) - 1 ≡ length front
    count = omega (arith, length-append front (last ∷ []))

last_of : (past : List EndedSession) (one : EndedSession) → last_replies (past ++ one ∷ []) ≡ one.replies
last_of [] one = refl
last_of (past ∷ []) one = refl
last_of (past ∷ next ∷ more) one = last_of (next ∷ more) one

last_among : (front : List EndedSession) (last : EndedSession) (more : List ℕ) → is_among last.conn (map (λ past. past.conn) (front ++ last ∷ []) ++ more) ≡ true
last_among [] last more = rw (eq-eqb last.conn last.conn refl) refl
last_among (past ∷ front) last more = rw (last_among front last more) (or_true (nat_eq past.conn last.conn))

none_snoc : {A : Type 0} (front : List EndedSession) (last : EndedSession) → [] ≡ front ++ last ∷ [] → A
none_snoc [] last is = absurd (omega (arith, ap length is))
none_snoc (past ∷ front) last is = absurd (omega (arith, ap length is))

free_stand : (waits : Bool) (seat : Seat) → stand_of waits seat ≡ stand.Free → seat.going ≡ false
free_stand waits seat is = by seat.going waits seat.gone is
  where
    by : (going waits gone : Bool) → cond going (cond waits (cond gone stand.Leaving stand.Waits) stand.Going) stand.Free ≡ stand.Free → going ≡ false
    by false waits gone is = refl
    by true false gone is = ap is_taken is
    by true true false is = ap is_taken is
    by true true true is = ap is_taken is

replies_free : (seat : Seat) → seat.going ≡ false → replies_now seat ≡ last_replies seat.past
replies_free seat free = rw free refl

module _ (setting : Setting) (left : List SessionEnd) (hub : HubView) (gone : List Bool) (chain : ChainState) (ended : SessionEnd) (old : WireView)
    (are : AreLeft hub (ended ∷ left)) (conns : ConnsAreOpen hub gone (ended ∷ left) old) (s : StandsBut setting (ended ∷ left) hub chain old) where
  abbrev play : Play
  play = played setting old.steps

  abbrev seat : Seat
  seat = seat_at play ended.grant

  abbrev last : EndedSession
  last = record { conn = ended.conn; replies = s.left_is.0.last.replies; end = ended.end }

  there : ended.grant < length setting.layout.grants
  there = elim (cases_lt ended.grant (length setting.layout.grants)) [
    | inl below ↦ below
    | inr above ↦ none_snoc s.left_is.0.last.front last (sym (ap (λ seat. seat.past) (past_end play.seats ended.grant no_seat (omega (arith, above, s.table.between.under_way.seats)))) ∙ s.left_is.0.last.is)
  ]

  free : seat.going ≡ false
  free = free_stand (is_waiting play ended.grant) seat (sym (s.table.seats ended.grant there).shows.stand ∙ are.free.0.free)

  replies : s.given ended.grant ++ reply_at hub ended.grant ≡ last.replies
  replies = (s.table.seats ended.grant there).shows.replies ∙ replies_free seat free ∙ ap last_replies s.left_is.0.last.is ∙ last_of s.left_is.0.last.front last

  first : is_among ended.grant (grants_of (ended ∷ left)) ≡ true
  first = rw (eq-eqb ended.grant ended.grant refl) refl

  rest : (grant : ℕ) → grant ≢ ended.grant → is_among grant (grants_of (ended ∷ left)) ≡ is_among grant (grants_of left)
  rest grant ne = rw (not_eq ended.grant grant (λ same. ne (sym same))) refl

  itself : IsInUse hub (ended ∷ left) ended.grant
  itself = inr first

  peer : PeerGiven old ended.conn (s.given ended.grant)
  peer = subst (λ conn. PeerGiven old conn (s.given ended.grant)) (sym are.free.0.conn) (s.peers ended.grant itself)

  not_shut : shuts ended.conn old.steps ≡ 0
  not_shut = ap (λ conn. shuts conn old.steps) are.free.0.conn ∙ (conns.each ended.grant itself).not_shut

  among : is_among ended.conn (conns_of seat) ≡ true
  among = subst (λ list. is_among ended.conn (map (λ past. past.conn) list ++ cond seat.going (seat.conn ∷ []) []) ≡ true) (sym s.left_is.0.last.is) (last_among s.left_is.0.last.front last (cond seat.going (seat.conn ∷ []) []))

  wider : (grant : ℕ) → IsInUse hub left grant → IsInUse hub (ended ∷ left) grant
  wider grant (inl taken) = inl taken
  wider grant (inr among) = inr (rw among (or_true (nat_eq ended.grant grant)))

  another : (grant : ℕ) → IsInUse hub left grant → grant ≢ ended.grant
  another grant (inl taken) is = false_true (sym (ap is_taken (ap (stand_at hub) is ∙ are.free.0.free)) ∙ taken)
  another grant (inr among) is = false_true (sym are.once.0 ∙ ap (λ g. is_among g (grants_of left)) (sym is) ∙ among)

  apart : (grant : ℕ) → IsInUse hub left grant → conn_at hub grant ≢ ended.conn
  apart grant used same = another grant used (conns.once grant ended.grant (wider grant used) itself (same ∙ are.free.0.conn))

  past_own : (new : WireView) → LetsGo setting ended.conn old new → IsPast new last → EachIsPast new (past_but left ended.grant seat)
  past_own new lets own = subst (λ (b : Bool). EachIsPast new (cond b (take (length seat.past - 1) seat.past) seat.past)) (sym are.once.0)
      (subst (EachIsPast new) (sym s.left_is.0.last.is) (past_snoc new s.left_is.0.last.front last (each_past old new lets.keeps s.left_is.0.last.front front) own))
    where
      before : EachIsPast old (take (length seat.past - 1) seat.past)
      before = subst (λ (b : Bool). EachIsPast old (cond b (take (length seat.past - 1) seat.past) seat.past)) first (s.past ended.grant)

      front : EachIsPast old s.left_is.0.last.front
      front = subst (EachIsPast old) (ap (λ list. take (length list - 1) list) s.left_is.0.last.is ∙ front_taken s.left_is.0.last.front last) before

  past_of : (new : WireView) → LetsGo setting ended.conn old new → IsPast new last → (grant : ℕ) → (grant ≡ ended.grant) ⊎ (grant ≢ ended.grant) → EachIsPast new (past_but left grant (seat_at play grant))
  past_of new lets own grant (inl same) = subst (λ g. EachIsPast new (past_but left g (seat_at play g))) (sym same) (past_own new lets own)
  past_of new lets own grant (inr ne) = each_past old new lets.keeps (past_but left grant (seat_at play grant))
      (subst (λ (b : Bool). EachIsPast old (cond b (take (length (seat_at play grant).past - 1) (seat_at play grant).past) (seat_at play grant).past)) (rest grant ne) (s.past grant))

  lets_stand : (new : WireView) → opens_once new.steps ≡ true → LetsGo setting ended.conn old new → IsPast new last → StandsBut setting left hub chain new
  lets_stand new once lets own = record {
    once = once;
    given = s.given;
    table = subst (TableStands setting hub s.given chain) (sym lets.play) s.table;
    peers = λ grant used. record {
      here = λ here. lets.given (conn_at hub grant) (apart grant used) ∙ (s.peers grant (wider grant used)).here (sym (lets.gone (conn_at hub grant) (apart grant used)) ∙ here);
      gone = λ gone. subst (λ bytes. IsPrefix bytes (s.given grant)) (sym (lets.given (conn_at hub grant) (apart grant used))) ((s.peers grant (wider grant used)).gone (sym (lets.gone (conn_at hub grant) (apart grant used)) ∙ gone));
    };
    attended = λ grant taken. record {
      idle = λ now. (s.attended grant taken).idle (sym (lets.last (conn_at hub grant) (apart grant (inl taken))) ∙ now);
      unasked = λ now. (s.attended grant taken).unasked (sym (lets.last (conn_at hub grant) (apart grant (inl taken))) ∙ now);
    };
    left_is = subst (λ play. EachIsLeft new play left) (sym lets.play) (each_left old new play lets.stays left s.left_is.1);
    past = λ grant. subst (λ play. EachIsPast new (past_but left grant (seat_at play grant))) (sym lets.play) (past_of new lets own grant (same_or grant ended.grant));
    elsewhere = subst (NoneElseGiven new) (sym lets.play) (λ conn none. elsewhere conn none (same_or conn ended.conn));
  }
    where
      elsewhere : (conn : ℕ) → ((grant : ℕ) → is_among conn (conns_of (seat_at play grant)) ≡ false) → (conn ≡ ended.conn) ⊎ (conn ≢ ended.conn) → new.given conn ≡ []
      elsewhere conn none (inl same) = false_true (sym (none ended.grant) ∙ ap (λ c. is_among c (conns_of seat)) same ∙ among)
      elsewhere conn none (inr ne) = lets.given conn ne ∙ s.elsewhere conn none

  -- a session that ended by a drop
  drop_stands : is_drop ended.end ≡ true → StandsBut setting left hub chain old
  drop_stands is = lets_stand old s.once (lets_same setting ended.conn old) (past_gone old last (s.given ended.grant) (reply_at hub ended.grant) (s.left_is.0.drop is) peer replies)

  -- its connection is shut, after one give at most
  lets_last : (new : WireView) → LastGaveShut ended.conn (reply_at hub ended.grant) old new → LetsGo setting ended.conn old new
  lets_last new gave = subst (LetsGo setting ended.conn old) (sym gave.shut) (lets_then setting ended.conn old gave.between (after_shut ended.conn gave.between)
      (lets_gave setting ended.conn (reply_at hub ended.grant) old gave.between (none_live setting old.steps ended.grant ended.conn s.once free among) not_shut gave.gave) (lets_shut setting ended.conn gave.between))

  pub shut_play : (new : WireView) → LastGaveShut ended.conn (reply_at hub ended.grant) old new → played setting new.steps ≡ played setting old.steps
  shut_play new gave = (lets_last new gave).play

  -- a session whose connection is shut
  shut_stands : (new : WireView) → opens_once new.steps ≡ true → LastGaveShut ended.conn (reply_at hub ended.grant) old new → StandsBut setting left hub chain new
  shut_stands new once gave = lets_stand new once (lets_last new gave) (past_shut old new last (s.given ended.grant) (reply_at hub ended.grant) peer replies gave)

-- ---- where the cable and the wire may tell nothing

on_drop : (setting : Setting) (left : List SessionEnd) (hub : HubView) (gone ready : List Bool) (ended : SessionEnd) (chain : Option ChainState) (a : Option WireView) → is_drop ended.end ≡ true
    → AreLeft hub (ended ∷ left) → Told a (ConnsAreOpen hub gone (ended ∷ left)) → StandsOnBut setting (ended ∷ left) hub chain a → StandsOnBut setting left (record hub { ready = ready }) chain a
on_drop setting left hub gone ready ended None a is are conns s = s
on_drop setting left hub gone ready ended (Some chain) None is are conns s = s
on_drop setting left hub gone ready ended (Some chain) (Some old) is are conns s = stands_apart setting left hub ready hub.ended chain old (drop_stands setting left hub gone chain ended old are conns s is)

on_shut : (setting : Setting) (left : List SessionEnd) (hub : HubView) (gone ready : List Bool) (ended : SessionEnd) (chain : Option ChainState) (a b : Option WireView) → Told b IsWire → Both a b (LastGaveShut ended.conn (reply_at hub ended.grant))
    → AreLeft hub (ended ∷ left) → Told a (ConnsAreOpen hub gone (ended ∷ left)) → StandsOnBut setting (ended ∷ left) hub chain a → StandsOnBut setting left (record hub { ready = ready }) chain b
on_shut setting left hub gone ready ended None a b wire gave are conns s = s
on_shut setting left hub gone ready ended (Some chain) None b wire gave are conns s = absurd s
on_shut setting left hub gone ready ended (Some chain) (Some old) None wire gave are conns s = absurd gave
on_shut setting left hub gone ready ended (Some chain) (Some old) (Some new) wire gave are conns s = stands_apart setting left hub ready hub.ended chain new (shut_stands setting left hub gone chain ended old are conns s new wire.once gave)

-- of a table that differs in what is ready
pub told_drop : {C : Type 0} (chain : C → Option ChainState) (setting : Setting) (left : List SessionEnd) (table now : TableView C) (gone ready : List Bool) (ended : SessionEnd) (a : Option WireView)
    → now ≡ ready_as ready table → is_drop ended.end ≡ true → AreLeft table.hub (ended ∷ left) → Told a (ConnsAreOpen table.hub gone (ended ∷ left))
    → StandsOnBut setting (ended ∷ left) table.hub (chain table.cable) a → StandsOnBut setting left now.hub (chain now.cable) a
told_drop chain setting left table now gone ready ended a same is are conns s =
    subst (λ t. StandsOnBut setting left t.hub (chain t.cable) a) (sym same) (on_drop setting left table.hub gone ready ended (chain table.cable) a is are conns s)

pub told_let_go : {C : Type 0} (chain : C → Option ChainState) (setting : Setting) (left : List SessionEnd) (table now : TableView C) (gone ready : List Bool) (ended : SessionEnd) (a b : Option WireView)
    → now ≡ ready_as ready table → Told b IsWire → Both a b (LastGaveShut ended.conn (reply_at now.hub ended.grant)) → AreLeft table.hub (ended ∷ left) → Told a (ConnsAreOpen table.hub gone (ended ∷ left))
    → StandsOnBut setting (ended ∷ left) table.hub (chain table.cable) a → StandsOnBut setting left now.hub (chain now.cable) b
told_let_go chain setting left table now gone ready ended a b same wire gave are conns s =
    subst (λ t. StandsOnBut setting left t.hub (chain t.cable) b) (sym same) (on_shut setting left table.hub gone ready ended (chain table.cable) a b wire (subst (λ t. Both a b (LastGaveShut ended.conn (reply_at t.hub ended.grant))) same gave) are conns s)

-- ---- one after another

free_readied : (hub : HubView) (ready : List Bool) (left : List SessionEnd) → AreFree hub left → AreFree (record hub { ready = ready }) left
free_readied hub ready [] each = tt
free_readied hub ready (ended ∷ left) each = (record { there = each.0.there; free = each.0.free; conn = each.0.conn }, free_readied hub ready left each.1)

pub left_readied : {C : Type 0} (table now : TableView C) (ready : List Bool) (left : List SessionEnd) → now ≡ ready_as ready table → AreLeft table.hub left → AreLeft now.hub left
left_readied table now ready left same are = subst (λ t. AreLeft t.hub left) (sym same) (record { free = free_readied table.hub ready left are.free; once = are.once })

conns_readied : (hub : HubView) (gone ready : List Bool) (left : List SessionEnd) (a : Option WireView) → Told a (ConnsAreOpen hub gone left) → Told a (ConnsAreOpen (record hub { ready = ready }) gone left)
conns_readied hub gone ready left None conns = tt
conns_readied hub gone ready left (Some wire) conns = record { each = conns.each; once = conns.once }

pub open_readied : {C : Type 0} (table now : TableView C) (gone ready : List Bool) (left : List SessionEnd) (a : Option WireView) → now ≡ ready_as ready table → Told a (ConnsAreOpen table.hub gone left) → Told a (ConnsAreOpen now.hub gone left)
open_readied table now gone ready left a same conns = subst (λ t. Told a (ConnsAreOpen t.hub gone left)) (sym same) (conns_readied table.hub gone ready left a conns)

pub let_more : {C : Type 0} (chain : C → Option ChainState) (setting : Setting) (first now next : TableView C) (flags gone gone_now : List Bool) (at : ℕ) (ended : SessionEnd) (b d : Option WireView)
    → now ≡ ready_as flags first → gone_now ≡ gone → drop at first.hub.ended ≡ ended ∷ drop (at + 1) first.hub.ended → AreLeft first.hub (drop at first.hub.ended) → Told b (ConnsAreOpen first.hub gone (drop at first.hub.ended))
    → ((left : List SessionEnd) → AreLeft now.hub (ended ∷ left) → Told b (ConnsAreOpen now.hub gone_now (ended ∷ left)) → StandsOnBut setting (ended ∷ left) now.hub (chain now.cable) b → StandsOnBut setting left next.hub (chain next.cable) d)
    → StandsOnBut setting (drop at first.hub.ended) now.hub (chain now.cable) b → StandsOnBut setting (drop (at + 1) first.hub.ended) next.hub (chain next.cable) d
let_more chain setting first now next flags gone gone_now at ended b d same gone_same there are conns lets s =
    lets (drop (at + 1) first.hub.ended) (left_readied first now flags _ same (subst (AreLeft first.hub) there are))
    (subst (λ flags. Told b (ConnsAreOpen now.hub flags (ended ∷ drop (at + 1) first.hub.ended))) (sym gone_same) (open_readied first now gone flags _ b same (subst (λ list. Told b (ConnsAreOpen first.hub gone list)) there conns)))
    (subst (λ list. StandsOnBut setting list now.hub (chain now.cable) b) there s)

-- ---- and then quieted

pub untold : {A : Type 0} (setting : Setting) (left : List SessionEnd) (hub : HubView) (chain : Option ChainState) → StandsOnBut setting left hub chain None → A
untold setting left hub None s = absurd s
untold setting left hub (Some chain) s = absurd s

pub told_settle : {C : Type 0} (chain : C → Option ChainState) (setting : Setting) (table between now : TableView C) (ready gone gone_now : List Bool) (b : Option WireView)
    → between ≡ ready_as ready table → gone_now ≡ gone → AreFlagged table.hub gone → Told b (ConnsAreOpen table.hub gone [])
    → ((wire : WireView) → AreFlagged between.hub gone_now → ConnsAreOpen between.hub gone_now [] wire → StandsOnBut setting [] between.hub (chain between.cable) (Some wire) → StandsOnBut setting [] now.hub (chain now.cable) (Some wire))
    → StandsOnBut setting [] between.hub (chain between.cable) b → StandsOnBut setting [] now.hub (chain now.cable) b
told_settle chain setting table between now ready gone gone_now None same gone_same flagged conns quiets s = untold setting [] between.hub (chain between.cable) s
told_settle chain setting table between now ready gone gone_now (Some wire) same gone_same flagged conns quiets s =
    quiets wire (subst (λ t. AreFlagged t.hub gone_now) (sym same) (subst (AreFlagged table.hub) (sym gone_same) flagged))
    (subst (λ flags. ConnsAreOpen between.hub flags [] wire) (sym gone_same) (open_readied table between gone ready [] (Some wire) same conns)) s

-- What is left to a replay: the bytes on offer, and the sessions that may still be told that their peer is gone.
use Rattle.std.proofs.Common.{◌≡◌, ℕ, zero, suc, ◌+◌, ◌<◌, ◌≤◌, Bool, true, false, not, ◌&&◌, cond, List, [], ◌∷◌, ◌++◌, length, drop, refl, ap, sym, ◌∙◌, arith, length-drop, Some, None, nat_eq}
use Rattle.std.specs.declared.option.Option.{Option}
use Rattle.std.specs.List.{slice_index_or, slice_set}
use Rattle.client_session.specs.Seats.{Seat, advanced, opens_next}
use Rattle.client_session.specs.Private.{received, is_live, took, dropped}
use Rattle.client_session.proofs.Drops.{went_before, gone_before}
use Rattle.wire_port.specs.Steps.{Step}
use Rattle.wire_port.specs.Steps.Step.{Took, Gone}
use Rattle.wire_port.specs.Offers.{Peer, peer_of, changed_peer, given_piece, taken_bytes, all_offered, Answer, give_answer}
use Rattle.plays.specs.Plays.{Setting, Play, SessionEnd, seat_at, no_seat, with_seat, may_open, moved, change_of_live, change_by, after_change, after_step, live_grant}
use Rattle.plays.specs.Schedule.{Replay, went_on, with_ready, not_ready, noted, shut, is_drop, pending, with_given, last_gave, last_given, let_go_by, let_go, all_let_go, told}
use Rattle.plays.proofs.Waiting.{as_play}
use Rattle.plays.proofs.Moving.{moved_keeps}

-- one where the seat has a session whose peer is not known to be gone
abbrev pub here_of : (going gone : Bool) → ℕ
here_of true false = 1
here_of _ _ = 0

abbrev pub here : Seat → ℕ
here seat = here_of seat.going seat.gone

abbrev pub all_here : List Seat → ℕ
all_here [] = 0
all_here (seat ∷ seats) = here seat + all_here seats

abbrev pub weight : Replay → ℕ
weight replay = all_offered replay.peers + all_here replay.play.seats

-- ---- seats

no_more : (seats : List Seat) (i : ℕ) (new d : Seat) → here new ≤ here (slice_index_or seats i d) → all_here (slice_set seats i new) ≤ all_here seats
no_more [] i new d h = omega arith
no_more (seat ∷ seats) zero new d h = omega arith
no_more (seat ∷ seats) (suc i) new d h = omega (arith, no_more seats i new d h)

less : (seats : List Seat) (i : ℕ) (new d : Seat) → i < length seats → here new < here (slice_index_or seats i d) → all_here (slice_set seats i new) < all_here seats
less [] i new d lt h = absurd (omega arith)
less (seat ∷ seats) zero new d lt h = omega arith
less (seat ∷ seats) (suc i) new d lt h = let short : i < length seats = omega arith in omega (arith, less seats i new d short h)

here_advanced : (seat : Seat) → here (advanced seat) ≤ here seat
here_advanced seat = by (advanced seat).going refl
  where
    by : (t : Bool) → (advanced seat).going ≡ t → here_of t (advanced seat).gone ≤ here seat
    by true e =
        let same : here_of true (advanced seat).gone ≡ here seat = ap (here_of true) (gone_before seat e) ∙ ap (λ t. here_of t seat.gone) (sym (went_before seat e)) in
        omega (arith, same)
    by false e = omega arith

module _ (setting : Setting) where
  here_as : (o m : Bool) (g : ℕ) (play : Play) → all_here (as_play o m setting play g).seats ≤ all_here play.seats
  here_as false m g play = no_more play.seats g (advanced (seat_at play g)) no_seat (here_advanced (seat_at play g))
  here_as true true g play = no_more play.seats g (advanced (seat_at play g)) no_seat (here_advanced (seat_at play g))
  here_as true false g play = no_more play.seats g (seat_at play g) no_seat (omega arith)

  here_moved : (g : ℕ) (play : Play) → all_here (moved setting g play).seats ≤ all_here play.seats
  here_moved g play = moved_keeps setting (λ now. all_here now.seats ≤ all_here play.seats)
      (λ k now le. let one = here_as (opens_next (seat_at now k)) (may_open now.holder now.waiting k) k now in omega (arith, le, one)) g play (omega arith)

  -- bytes or a drop that a session gets
  here_live : (o : Option ℕ) (event : Seat → Seat) (play : Play) → ((seat : Seat) → here (event seat) ≤ here seat) → all_here (after_change setting play (change_of_live o event play)).seats ≤ all_here play.seats
  here_live None event play keeps = omega arith
  here_live (Some g) event play keeps =
      let one : all_here (with_seat g (event (seat_at play g)) play).seats ≤ all_here play.seats = no_more play.seats g (event (seat_at play g)) no_seat (keeps (seat_at play g)) in
      omega (arith, here_moved g (with_seat g (event (seat_at play g)) play), one)

  fewer_live : (g : ℕ) (event : Seat → Seat) (play : Play) → g < length play.seats → here (event (seat_at play g)) < here (seat_at play g) → all_here (after_change setting play (change_of_live (Some g) event play)).seats < all_here play.seats
  fewer_live g event play there lt =
      let one : all_here (with_seat g (event (seat_at play g)) play).seats < all_here play.seats = less play.seats g (event (seat_at play g)) no_seat there lt in
      omega (arith, here_moved g (with_seat g (event (seat_at play g)) play), one)

here_took : (conn : ℕ) (bytes : List ℕ) (seat : Seat) → here (took conn bytes seat) ≤ here seat
here_took conn bytes seat = by (is_live conn seat && not seat.gone)
  where
    by : (t : Bool) → here (cond t (received bytes seat) seat) ≤ here seat
    by true = omega arith
    by false = omega arith

here_dropped : (conn : ℕ) (seat : Seat) → is_live conn seat ≡ true → seat.going ≡ true → seat.gone ≡ false → here (dropped conn seat) < here seat
here_dropped conn seat live going gone = rw (live, going, gone) (omega arith)

-- ---- peers

-- a change that leaves a peer's bytes on offer
offered_same : (conn : ℕ) (change : Peer → Peer) (peers : List Peer) → ((peer : Peer) → (change peer).offered ≡ peer.offered) → all_offered (changed_peer conn change peers) ≡ all_offered peers
offered_same conn change [] same = refl
offered_same conn change (peer ∷ peers) same = by (nat_eq peer.conn conn) (offered_same conn change peers same)
  where
    by : (t : Bool) → all_offered (changed_peer conn change peers) ≡ all_offered peers → all_offered (cond t (change peer ∷ peers) (peer ∷ changed_peer conn change peers)) ≡ length peer.offered + all_offered peers
    by true rest = ap (λ bytes. length bytes + all_offered peers) (same peer)
    by false rest = ap (λ n. length peer.offered + n) rest

-- bytes that are taken are on offer no more
pub offered_less : (conn count : ℕ) (peers : List Peer) → 1 ≤ count → 1 ≤ length (peer_of peers conn).offered → all_offered (changed_peer conn (taken_bytes count) peers) < all_offered peers
offered_less conn count [] some there = absurd (omega arith)
offered_less conn count (peer ∷ peers) some there = by (nat_eq peer.conn conn) there (offered_less conn count peers some)
  where
    by : (t : Bool) → 1 ≤ length (cond t peer (peer_of peers conn)).offered → (1 ≤ length (peer_of peers conn).offered → all_offered (changed_peer conn (taken_bytes count) peers) < all_offered peers)
        → all_offered (cond t (taken_bytes count peer ∷ peers) (peer ∷ changed_peer conn (taken_bytes count) peers)) < length peer.offered + all_offered peers
    by true h rest = omega (arith, length-drop count peer.offered)
    by false h rest = omega (arith, rest h)

-- ---- closes

-- what nothing changes that is done at the end of a session
pub record Quiet {A : Type 0} (f : Replay → A) : Type 0 where
  pub unready : (g : ℕ) (replay : Replay) → f (not_ready g replay) ≡ f replay
  pub given : (conn : ℕ) (piece : List ℕ) (replay : Replay) → f (with_given conn piece replay) ≡ f replay
  pub noting : (step : Step) (replay : Replay) → f (noted step replay) ≡ f replay
  pub shutting : (conn : ℕ) (replay : Replay) → f (shut conn replay) ≡ f replay

module _ {A : Type 0} (f : Replay → A) (quiet : Quiet f) where
  quiet_last : (piece : List ℕ) (conn : ℕ) (replay : Replay) → f (last_given piece conn replay) ≡ f replay
  quiet_last [] conn replay = refl
  quiet_last (byte ∷ piece) conn replay = by (give_answer (byte ∷ piece) (peer_of replay.peers conn))
    where
      by : (answer : Answer) → f (last_gave answer (byte ∷ piece) conn replay) ≡ f replay
      by (Answer.Bytes bytes) = quiet.given conn (byte ∷ piece) replay
      by Answer.NotNow = refl
      by Answer.Gone = quiet.noting (Gone conn) replay

  quiet_closed_by : (drop : Bool) (ended : SessionEnd) (replay : Replay) → f (let_go_by drop ended replay) ≡ f replay
  quiet_closed_by true ended replay = refl
  quiet_closed_by false ended replay =
      quiet.shutting ended.conn (last_given (pending replay ended.grant ended.conn) ended.conn replay) ∙ quiet_last (pending replay ended.grant ended.conn) ended.conn replay

  pub quiet_all : (more : List SessionEnd) (replay : Replay) → f (all_let_go more replay) ≡ f replay
  quiet_all [] replay = refl
  quiet_all (ended ∷ more) replay =
      quiet_all more (let_go ended replay) ∙ quiet_closed_by (is_drop ended.end) ended (not_ready ended.grant replay) ∙ quiet.unready ended.grant replay

-- the play after a step that is told is the play's after the step
pub told_play : (setting : Setting) (step : Step) (replay : Replay) → (told setting step replay).play ≡ after_step setting replay.play step
told_play setting step replay =
    let change = change_by setting replay.play step in
    let play = after_change setting replay.play change in
    quiet_all (λ r. r.play) (record { unready = λ g r. refl; given = λ conn piece r. refl; noting = λ s r. refl; shutting = λ conn r. refl }) (drop (length replay.play.ends) play.ends)
    (record { play = play; steps = replay.steps ++ step ∷ []; peers = replay.peers; ready = with_ready true (went_on setting replay.play change) replay.ready })

given_offered : (conn : ℕ) (piece : List ℕ) (replay : Replay) → weight (with_given conn piece replay) ≡ weight replay
given_offered conn piece replay = ap (λ n. n + all_here replay.play.seats) (offered_same conn (given_piece piece) replay.peers (λ peer. refl))

pub weight_quiet : Quiet weight
weight_quiet = record {
  unready = λ g replay. refl;
  given = given_offered;
  noting = λ step replay. refl;
  shutting = λ conn replay. ap (λ n. n + all_here replay.play.seats) (offered_same conn (λ peer. record peer { is_shut = true }) replay.peers (λ peer. refl));
}

-- ---- steps that are told

module _ (setting : Setting) where
  weight_told : (step : Step) (replay : Replay) → weight (told setting step replay) ≡ all_offered replay.peers + all_here (after_step setting replay.play step).seats
  weight_told step replay =
      let change = change_by setting replay.play step in
      let play = after_change setting replay.play change in
      quiet_all weight weight_quiet (drop (length replay.play.ends) play.ends)
      (record { play = play; steps = replay.steps ++ step ∷ []; peers = replay.peers; ready = with_ready true (went_on setting replay.play change) replay.ready })

  -- bytes that a session gets leave as many sessions
  pub weight_took : (conn : ℕ) (bytes : List ℕ) (replay : Replay) → weight (told setting (Took conn bytes) replay) ≤ weight replay
  weight_took conn bytes replay = rw (weight_told (Took conn bytes) replay)
      (let le = here_live setting (live_grant conn replay.play.seats) (took conn bytes) replay.play (here_took conn bytes) in omega (arith, le))

  -- a drop that is told of a session leaves fewer
  pub weight_gone : (conn g : ℕ) (replay : Replay) → live_grant conn replay.play.seats ≡ Some g → g < length replay.play.seats → is_live conn (seat_at replay.play g) ≡ true
      → (seat_at replay.play g).going ≡ true → (seat_at replay.play g).gone ≡ false → weight (told setting (Gone conn) replay) < weight replay
  weight_gone conn g replay found there live going gone =
      let lt = fewer_live setting g (dropped conn) replay.play there (here_dropped conn (seat_at replay.play g) live going gone) in
      let same : all_here (after_step setting replay.play (Gone conn)).seats ≡ all_here (after_change setting replay.play (change_of_live (Some g) (dropped conn) replay.play)).seats
      = ap (λ o. all_here (after_change setting replay.play (change_of_live o (dropped conn) replay.play)).seats) found in
      rw (weight_told (Gone conn) replay) (omega (arith, lt, same))

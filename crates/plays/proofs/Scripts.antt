-- A script is played to rest line by line, and its play is that of the steps that it tells.
use Rattle.std.proofs.Common.{◌≡◌, ℕ, zero, suc, ◌<◌, Bool, true, false, not, ◌&&◌, ◌||◌, cond, List, [], ◌∷◌, ◌++◌, length, map, refl, ap, sym, subst, ◌∙◌, Some, None, nat_eq}
use Rattle.std.specs.declared.option.Option.{Option}
use Rattle.std.specs.List.{list_any}
use Rattle.std.proofs.lemmas.Bool.{eqb-true, eq-eqb}
use Rattle.std.proofs.lemmas.List.{get_or-set_same}
use Rattle.grant_table.specs.Layouts.{GrantShape, grant_of}
use Rattle.client_session.specs.Seats.{Seat, advanced}
use Rattle.client_session.specs.Private.{opened}
use Rattle.client_session.proofs.Drops.{opened_finished}
use Rattle.wire_port.specs.Steps.Step.{Opened, Shut}
use Rattle.wire_port.specs.Offers.{ScriptLine, Peer, new_peer, peer_of, changed_peer, opens_line, lines_open_once}
use Rattle.wire_port.specs.Offers.ScriptLine.{Open, Send, Drop, Room}
use Rattle.plays.specs.Plays.{Setting, Play, SeatChange, seat_at, no_seat, with_seat, live_grant, change_by_opening, change_by, after_change}
use Rattle.plays.specs.Schedule.{Replay, replay_start, is_ready, told, serve_at, admitted_or_shut, line_on, line_played, rested, lines_played, replayed}
use Rattle.plays.specs.Laws.{IsPlayed}
use Rattle.plays.proofs.Lists.{false_true}
use Rattle.plays.proofs.Moving.{holds_moved}
use Rattle.plays.proofs.Isolation.{start_free, first_place-within}
use Rattle.plays.proofs.Replays.{Runs, isolated, told_runs, noted_runs}
use Rattle.plays.proofs.Weights.{told_play}
use Rattle.plays.proofs.Resting.{AtRest, ready_runs, serve_runs, rested_rests}

-- ---- lines that are ahead

-- lines of which the first is played
fewer_lines : (setting : Setting) (line : ScriptLine) (lines : List ScriptLine) (replay : Replay) → Runs setting (line ∷ lines) replay → Runs setting lines replay
fewer_lines setting line lines replay runs = record {
  play_is = runs.play_is;
  once = runs.once;
  ahead = λ conn h. runs.ahead conn (or_rest (opens_line conn line) (list_any (opens_line conn) lines) h);
  count = runs.count;
  going = runs.going;
  gone = runs.gone;
}
  where
    or_rest : (a b : Bool) → b ≡ true → (a || b) ≡ true
    or_rest true b h = refl
    or_rest false b h = h

-- ---- a connection that opens

-- the seat that a step opens has its session after the step
module _ (setting : Setting) (conn : ℕ) (play : Play) (i : length play.seats ≡ length setting.layout.grants) where
  opened_goes : (g : ℕ) → g < length play.seats → (seat_at (after_change setting play (Some (record { grant = g; seat = opened conn (seat_at play g) }))) g).going ≡ true
  opened_goes g there =
      ap (λ seat. seat.going) (holds_moved setting (λ k seat. k ≡ g → seat ≡ opened conn (seat_at play g)) stays g (with_seat g (opened conn (seat_at play g)) play) first g refl)
    where
      stays : (k : ℕ) (seat : Seat) → (k ≡ g → seat ≡ opened conn (seat_at play g)) → k ≡ g → advanced seat ≡ opened conn (seat_at play g)
      stays k seat is e = ap advanced (is e) ∙ opened_finished conn (seat_at play g)

      first : (k : ℕ) → k ≡ g → seat_at (with_seat g (opened conn (seat_at play g)) play) k ≡ opened conn (seat_at play g)
      first k e = ap (seat_at (with_seat g (opened conn (seat_at play g)) play)) e ∙ get_or-set_same play.seats g (opened conn (seat_at play g)) no_seat there

  -- where the connection is admitted
  admitted_goes : (o : Option ℕ) → ((g : ℕ) → o ≡ Some g → g < length play.seats) → (change : SeatChange) → change_by_opening o conn play ≡ Some change → (seat_at (after_change setting play (change_by_opening o conn play)) change.grant).going ≡ true
  admitted_goes None there change e = absurd (let q : None ≡ Some change = e in cc)
  admitted_goes (Some g) there change e = by (seat_at play g).going refl e
    where
      by : (t : Bool) → (seat_at play g).going ≡ t → cond t None (Some (record { grant = g; seat = opened conn (seat_at play g) })) ≡ Some change
          → (seat_at (after_change setting play (cond t None (Some (record { grant = g; seat = opened conn (seat_at play g) })))) change.grant).going ≡ true
      by true h k = absurd (let q : None ≡ Some change = k in cc)
      by false h k =
          let new : SeatChange = record { grant = g; seat = opened conn (seat_at play g) } in
          let same : new ≡ change = cc in
          subst (λ n. (seat_at (after_change setting play (Some new)) n).going ≡ true) (ap (λ t. t.grant) same) (opened_goes g (there g refl))

-- ---- one line

module _ (setting : Setting) (lines : List ScriptLine) where
  admitted_runs : (conn port : ℕ) (replay : Replay) → Runs setting (Open conn port ∷ lines) replay → list_any (opens_line conn) lines ≡ false → Runs setting lines (line_played setting (Open conn port) replay)
  admitted_runs conn port replay runs later = by (change_by setting replay.play (Opened conn port)) refl
    where
      opening : Replay
      opening = record replay { peers = replay.peers ++ new_peer conn ∷ [] }

      or_itself : (rest : Bool) → (nat_eq conn conn || rest) ≡ true
      or_itself rest = rw (eq-eqb conn conn refl) refl

      apart : (c : ℕ) → list_any (opens_line c) lines ≡ true → nat_eq c conn ≡ false
      apart c h = no (nat_eq c conn) refl
        where
          no : (t : Bool) → nat_eq c conn ≡ t → t ≡ false
          no true e = false_true (sym later ∙ subst (λ k. list_any (opens_line k) lines ≡ true) (eqb-true c conn e) h)
          no false e = refl

      told_now : Runs setting lines (told setting (Opened conn port) (record replay { peers = replay.peers ++ new_peer conn ∷ [] }))
      told_now = told_runs setting lines (Opened conn port) (record replay { peers = replay.peers ++ new_peer conn ∷ [] }) (runs.ahead conn (or_itself (list_any (opens_line conn) lines))) apart
          (fewer_lines setting (Open conn port) lines replay runs)

      within : (g : ℕ) → grant_of setting.layout port ≡ Some g → g < length replay.play.seats
      within g e = subst (λ n. g < n) (sym (isolated setting replay.play replay.steps runs.play_is runs.once).count) (first_place-within (λ shape. nat_eq shape.port port) setting.layout.grants g e)

      by : (o : Option SeatChange) → change_by setting replay.play (Opened conn port) ≡ o
          → Runs setting lines (admitted_or_shut o conn (told setting (Opened conn port) (record replay { peers = replay.peers ++ new_peer conn ∷ [] })))
      by None e = noted_runs setting lines (Shut conn) (told setting (Opened conn port) (record replay { peers = replay.peers ++ new_peer conn ∷ [] })) (λ c. refl) tt refl told_now
      by (Some change) e =
          ready_runs setting lines change.grant (told setting (Opened conn port) (record replay { peers = replay.peers ++ new_peer conn ∷ [] }))
          (ap (λ play. (seat_at play change.grant).going) (told_play setting (Opened conn port) (record replay { peers = replay.peers ++ new_peer conn ∷ [] }))
          ∙ admitted_goes setting conn replay.play (isolated setting replay.play replay.steps runs.play_is runs.once).count (grant_of setting.layout port) within change e)
          told_now

  serve_at_runs : (o : Option ℕ) (replay : Replay) → Runs setting lines replay → Runs setting lines (serve_at o setting replay)
  serve_at_runs None replay runs = runs
  serve_at_runs (Some g) replay runs = serve_runs setting lines g replay runs

  named_runs : (is_shut : Bool) (conn : ℕ) (change : Peer → Peer) (replay : Replay) → Runs setting lines replay → Runs setting lines (line_on is_shut setting conn change replay)
  named_runs true conn change replay runs = runs
  named_runs false conn change replay runs = serve_at_runs (live_grant conn replay.play.seats) (record replay { peers = changed_peer conn change replay.peers }) runs

  line_runs : (line : ScriptLine) (replay : Replay) → lines_open_once (line ∷ lines) ≡ true → Runs setting (line ∷ lines) replay → Runs setting lines (line_played setting line replay)
  line_runs (Open conn port) replay once runs = admitted_runs conn port replay runs (not_so (list_any (opens_line conn) lines) (first_of (not (list_any (opens_line conn) lines)) (lines_open_once lines) once))
    where
      first_of : (a b : Bool) → (a && b) ≡ true → a ≡ true
      first_of true b h = refl
      first_of false b h = false_true h

      not_so : (a : Bool) → not a ≡ true → a ≡ false
      not_so true h = false_true h
      not_so false h = refl
  line_runs (Send conn bytes) replay once runs =
      named_runs (peer_of replay.peers conn).is_shut conn (λ peer. record peer { offered = peer.offered ++ bytes }) replay (fewer_lines setting (Send conn bytes) lines replay runs)
  line_runs (Drop conn) replay once runs = named_runs (peer_of replay.peers conn).is_shut conn (λ peer. record peer { is_dropped = true }) replay (fewer_lines setting (Drop conn) lines replay runs)
  line_runs (Room conn room) replay once runs = named_runs (peer_of replay.peers conn).is_shut conn (λ peer. record peer { room = room }) replay (fewer_lines setting (Room conn room) lines replay runs)

-- ---- all lines

rest_once : (line : ScriptLine) (lines : List ScriptLine) → lines_open_once (line ∷ lines) ≡ true → lines_open_once lines ≡ true
rest_once (Open conn port) lines h = second (not (list_any (opens_line conn) lines)) (lines_open_once lines) h
  where
    second : (a b : Bool) → (a && b) ≡ true → b ≡ true
    second true b h = h
    second false b h = false_true h
rest_once (Send conn bytes) lines h = h
rest_once (Drop conn) lines h = h
rest_once (Room conn room) lines h = h

lines_rest : (setting : Setting) (lines : List ScriptLine) (replay : Replay) → lines_open_once lines ≡ true → AtRest setting lines replay → AtRest setting [] (lines_played setting lines replay)
lines_rest setting [] replay once at = at
lines_rest setting (line ∷ lines) replay once at =
    lines_rest setting lines (rested setting (line_played setting line replay)) (rest_once line lines once) (rested_rests setting lines (line_played setting line replay) (line_runs setting lines line replay once at.runs))

none_ready : (grants : List GrantShape) → list_any (λ r. r) (map (λ shape. false) grants) ≡ false
none_ready [] = refl
none_ready (shape ∷ grants) = none_ready grants

none_is_ready : (grants : List GrantShape) (g : ℕ) → is_ready (map (λ shape. false) grants) g ≡ false
none_is_ready [] g = refl
none_is_ready (shape ∷ grants) zero = refl
none_is_ready (shape ∷ grants) (suc g) = none_is_ready grants g

as_many : (grants : List GrantShape) → length (map (λ shape. false) grants) ≡ length grants
as_many [] = refl
as_many (shape ∷ grants) = ap suc (as_many grants)

start_rests : (setting : Setting) (lines : List ScriptLine) → AtRest setting lines (replay_start setting)
start_rests setting lines = record {
  runs = record {
    play_is = refl;
    once = refl;
    ahead = λ conn h. refl;
    count = as_many setting.layout.grants;
    going = λ g h. false_true (sym (none_is_ready setting.layout.grants g) ∙ h);
    gone = λ g going gone. false_true (sym (start_free setting g).going ∙ going);
  };
  none = none_ready setting.layout.grants;
}

script_rests : (setting : Setting) (lines : List ScriptLine) → lines_open_once lines ≡ true → AtRest setting [] (replayed setting lines)
script_rests setting lines once = lines_rest setting lines (replay_start setting) once (start_rests setting lines)

pub replay_rests : (setting : Setting) (lines : List ScriptLine) → lines_open_once lines ≡ true → list_any (λ ready. ready) (replayed setting lines).ready ≡ false
replay_rests setting lines once = (script_rests setting lines once).none

pub replay_played : (setting : Setting) (lines : List ScriptLine) → lines_open_once lines ≡ true → IsPlayed setting (replayed setting lines)
replay_played setting lines once = let rests = script_rests setting lines once in record { play = rests.runs.play_is; once = rests.runs.once }

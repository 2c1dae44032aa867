-- The schedule of a script: after each line the session that it names is served once, and then the ready sessions are served, in the
-- order of grants, until none is ready. To be served once is: the pending replies are given; then bytes are taken, which the session
-- uses; then what it replies is given. The laws of isolation hold for every other schedule too.
use Rattle.std.specs.Prelude.{ℕ, zero, suc, ◌+◌, ◌*◌, min, Bool, true, false, not, ◌&&◌, ◌==◌, nat_le, List, [], ◌∷◌, ◌++◌, map, drop, length, slice_set, if◌then◌else◌}
use Rattle.std.specs.List.{list_any, slice_index_or}
use Rattle.std.specs.declared.option.Option.{Option}
use Rattle.std.specs.declared.option.Option.TheVariants.{None, Some}
use Rattle.client_session.specs.declared.End.{End}
use Rattle.client_session.specs.declared.End.TheVariants.{Gone, Cut}
use Rattle.client_session.specs.Seats.{Seat}
use Rattle.client_session.specs.Sessions.{session_wants}
use Rattle.wire_port.specs.Steps.{Step, has_gone}
use Rattle.wire_port.specs.Offers.{ScriptLine, Peer, new_peer, peer_of, changed_peer, given_piece, taken_bytes, all_offered, Answer, take_answer, give_answer}
use Rattle.wire_port.specs.Offers.ScriptLine.{Open, Send, Drop, Room}
use Rattle.plays.specs.Plays.{Setting, Play, SessionEnd, SeatChange, seat_at, with_seat, start, is_waiting, go, next_in_line, handed_on_once, all_steps_left, change_by, after_change, after_step, live_grant}
use Rattle.plays.specs.Alone.{replies_to}

-- a replay: the play so far, the steps that were told, the peers in the order in which they opened, and for each grant whether its
-- session is ready to be served
pub record Replay : Type 0 where
  pub play : Play
  pub steps : List Step
  pub peers : List Peer
  pub ready : List Bool

-- a replay before the first line
abbrev pub replay_start : Setting → Replay
replay_start setting = record { play = start setting; steps = []; peers = []; ready = map (λ shape. false) setting.layout.grants }

-- ---- a step is told: the sessions that it lets go on, and those that it ends

-- a list of one grant, or of none
abbrev pub one_or_none : Option ℕ → List ℕ
one_or_none None = []
one_or_none (Some grant) = grant ∷ []

-- the grants that the chain is handed on to, in order, so many times
abbrev pub going_on : ℕ → Setting → Play → List ℕ
going_on zero setting play = []
going_on (suc times) setting play = one_or_none (next_in_line play.holder play.waiting) ++ going_on times setting (handed_on_once setting play)

-- the grants that the chain is handed on to, until somebody holds it or nobody waits
abbrev pub going_on_from : Setting → Play → List ℕ
going_on_from setting play = going_on (all_steps_left play.seats) setting play

-- the grants that went on because of a step, beside the one whose seat it changed
abbrev pub went_on : Setting → Play → Option SeatChange → List ℕ
went_on setting play None = []
went_on setting play (Some change) = going_on_from setting (go setting change.grant (with_seat change.grant change.seat play))

-- which sessions are ready, after this was said of some grants
abbrev pub with_ready : Bool → List ℕ → List Bool → List Bool
with_ready flag [] ready = ready
with_ready flag (grant ∷ grants) ready = with_ready flag grants (slice_set ready grant flag)

-- the grant's session is ready
abbrev pub is_ready : List Bool → ℕ → Bool
is_ready ready grant = slice_index_or ready grant false

-- the grant's session is not ready
abbrev pub not_ready : ℕ → Replay → Replay
not_ready grant replay = record replay { ready = slice_set replay.ready grant false }

-- a step that changes nothing in the play is told
abbrev pub noted : Step → Replay → Replay
noted step replay = record replay { steps = replay.steps ++ step ∷ [] }

-- the server shuts a connection
abbrev pub shut : ℕ → Replay → Replay
shut conn replay = record replay { steps = replay.steps ++ Step.Shut conn ∷ []; peers = changed_peer conn (λ peer. record peer { is_shut = true }) replay.peers }

-- the session ended because its peer is gone
abbrev pub is_drop : End → Bool
is_drop (Gone at) = true
is_drop (Cut at) = true
is_drop _ = false

-- the pending replies to a connection: those that its peer was not given yet; none once the peer is known to be gone
abbrev pub pending : Replay → ℕ → ℕ → List ℕ
pending replay grant conn =
    if has_gone conn replay.steps then [] else
    drop (length (peer_of replay.peers conn).given) (replies_to (seat_at replay.play grant) conn)

-- the peer is given as much of a piece as it takes
abbrev pub with_given : ℕ → List ℕ → Replay → Replay
with_given conn piece replay = record replay { peers = changed_peer conn (given_piece piece) replay.peers }

-- one give to a session that ended, by how the peer answers
abbrev pub last_gave : Answer → List ℕ → ℕ → Replay → Replay
last_gave (Answer.Bytes bytes) piece conn replay = with_given conn piece replay
last_gave Answer.NotNow piece conn replay = replay
last_gave Answer.Gone piece conn replay = noted (Step.Gone conn) replay

-- one give to a session that ended, where a reply is pending
abbrev pub last_given : List ℕ → ℕ → Replay → Replay
last_given [] conn replay = replay
last_given (byte ∷ piece) conn replay = last_gave (give_answer (byte ∷ piece) (peer_of replay.peers conn)) (byte ∷ piece) conn replay

-- a session that ended is let go: after a drop that is all; else its pending replies are given once, what is left of them is thrown
-- away, and its connection is shut
abbrev pub let_go_by : (drop : Bool) → SessionEnd → Replay → Replay
let_go_by true ended replay = replay
let_go_by false ended replay = shut ended.conn (last_given (pending replay ended.grant ended.conn) ended.conn replay)

-- a session that ended is not ready any more, and is let go
abbrev pub let_go : SessionEnd → Replay → Replay
let_go ended replay = let_go_by (is_drop ended.end) ended (not_ready ended.grant replay)

-- each of the sessions that ended is let go, in order
abbrev pub all_let_go : List SessionEnd → Replay → Replay
all_let_go [] replay = replay
all_let_go (ended ∷ rest) replay = all_let_go rest (let_go ended replay)

-- the replay after a step: the sessions that went on because of it are ready, and those that ended are let go
abbrev pub after_told : Setting → Step → Option SeatChange → Replay → Play → Replay
after_told setting step change replay play =
    all_let_go (drop (length replay.play.ends) play.ends)
    (record { play = play; steps = replay.steps ++ step ∷ []; peers = replay.peers; ready = with_ready true (went_on setting replay.play change) replay.ready })

-- a step is told, and played
abbrev pub told : Setting → Step → Replay → Replay
told setting step replay =
    after_told setting step (change_by setting replay.play step) replay (after_change setting replay.play (change_by setting replay.play step))

-- ---- one serving of one session

-- the connection of the session that is going at a grant
abbrev pub session_of : Replay → ℕ → Option ℕ
session_of replay grant = if (seat_at replay.play grant).going then Some (seat_at replay.play grant).conn else None

-- how many bytes a take asks for: what the session wants, and at most what the hub's buffer holds
abbrev pub wanted : Seat → ℕ
wanted seat = min (session_wants seat) 4096

-- after a give: the replay, and whether all that was pending went
pub record Giving : Type 0 where
  pub replay : Replay
  pub all : Bool

-- one give of what is pending, by how the peer answers; where not all went the session is not ready, and a drop that shows is told
abbrev pub gave_as : Answer → List ℕ → Setting → ℕ → ℕ → Replay → Giving
gave_as (Answer.Bytes bytes) piece setting grant conn replay =
    if length bytes == length piece
    then record { replay = with_given conn piece replay; all = true }
    else record { replay = not_ready grant (with_given conn piece replay); all = false }
gave_as Answer.NotNow piece setting grant conn replay = record { replay = not_ready grant replay; all = false }
gave_as Answer.Gone piece setting grant conn replay = record { replay = not_ready grant (told setting (Step.Gone conn) replay); all = false }

-- one give of this, where it is something
abbrev pub gave_piece : List ℕ → Setting → ℕ → ℕ → Replay → Giving
gave_piece [] setting grant conn replay = record { replay = replay; all = true }
gave_piece (byte ∷ piece) setting grant conn replay = gave_as (give_answer (byte ∷ piece) (peer_of replay.peers conn)) (byte ∷ piece) setting grant conn replay

-- one give of what is pending to a connection
abbrev pub gave : Setting → ℕ → ℕ → Replay → Giving
gave setting grant conn replay = gave_piece (pending replay grant conn) setting grant conn replay

-- after the give that follows a take: the session is ready where all went and it does not wait
abbrev pub ready_after : ℕ → Giving → Replay
ready_after grant gave = if gave.all && not (is_waiting gave.replay.play grant) then record gave.replay { ready = slice_set gave.replay.ready grant true } else not_ready grant gave.replay

-- after bytes were taken: what the session replied is given, where it did not end
abbrev pub after_bytes : Option ℕ → Setting → ℕ → Replay → Replay
after_bytes None setting grant replay = replay
after_bytes (Some conn) setting grant replay = ready_after grant (gave setting grant conn replay)

-- bytes are taken from a connection, and the step is told
abbrev pub with_bytes : Setting → ℕ → ℕ → List ℕ → Replay → Replay
with_bytes setting grant conn bytes replay = told setting (Step.Took conn bytes) (record replay { peers = changed_peer conn (taken_bytes (length bytes)) replay.peers })

-- one take, by how the peer answers; where no bytes came the session is not ready, and a drop that shows is told
abbrev pub took_as : Answer → Setting → ℕ → ℕ → Replay → Replay
took_as (Answer.Bytes bytes) setting grant conn replay =
    after_bytes (session_of (with_bytes setting grant conn bytes replay) grant) setting grant (with_bytes setting grant conn bytes replay)
took_as Answer.NotNow setting grant conn replay = not_ready grant replay
took_as Answer.Gone setting grant conn replay = not_ready grant (told setting (Step.Gone conn) replay)

-- after the first give: nothing more where not all went; nothing more where the session waits, and it is not ready; else one take
abbrev pub took_after : (all waits : Bool) → Setting → ℕ → ℕ → Replay → Replay
took_after false waits setting grant conn replay = replay
took_after true true setting grant conn replay = not_ready grant replay
took_after true false setting grant conn replay = took_as (take_answer (wanted (seat_at replay.play grant)) (peer_of replay.peers conn)) setting grant conn replay

-- the rest of a serving, after its first give
abbrev pub served_after : Setting → ℕ → ℕ → Giving → Replay
served_after setting grant conn gave = took_after gave.all (is_waiting gave.replay.play grant) setting grant conn gave.replay

-- a session with a connection is served once
abbrev pub serve_session : Option ℕ → Setting → ℕ → Replay → Replay
serve_session None setting grant replay = replay
serve_session (Some conn) setting grant replay = served_after setting grant conn (gave setting grant conn replay)

-- a grant's session is served once, where one is going
abbrev pub serve : Setting → ℕ → Replay → Replay
serve setting grant replay = serve_session (session_of replay grant) setting grant replay

-- ---- rounds of the ready sessions, and lines

-- served once, where ready
abbrev pub serve_if : Bool → Setting → ℕ → Replay → Replay
serve_if false setting grant replay = replay
serve_if true setting grant replay = serve setting grant replay

-- each grant from one on is served once, where it is ready when its turn comes
abbrev pub round_from : List Bool → ℕ → Setting → Replay → Replay
round_from [] grant setting replay = replay
round_from (each ∷ rest) grant setting replay = round_from rest (suc grant) setting (serve_if (is_ready replay.ready grant) setting grant replay)

-- a round: every grant in turn
abbrev pub round : Setting → Replay → Replay
round setting replay = round_from replay.ready 0 setting replay

-- so many rounds; none once no session is ready
abbrev pub rounds : ℕ → Setting → Replay → Replay
rounds zero setting replay = replay
rounds (suc times) setting replay = rounds times setting (if list_any (λ ready. ready) replay.ready then round setting replay else replay)

-- as many rounds as there can be: each takes a byte, shows a drop, or leaves fewer sessions ready; rounds to spare change nothing
abbrev pub rounds_left : Replay → ℕ
rounds_left replay = suc (length replay.ready) * (all_offered replay.peers + length replay.ready + 1)

-- rounds until no session is ready
abbrev pub rested : Setting → Replay → Replay
rested setting replay = rounds (rounds_left replay) setting replay

-- a grant's session is served once, where a grant is named
abbrev pub serve_at : Option ℕ → Setting → Replay → Replay
serve_at None setting replay = replay
serve_at (Some grant) setting replay = serve setting grant replay

-- the session of a connection is served once, where one is going
abbrev pub serve_conn : Setting → ℕ → Replay → Replay
serve_conn setting conn replay = serve_at (live_grant conn replay.play.seats) setting replay

-- a connection that opened: its session is ready, or it was turned away and is shut
abbrev pub admitted_or_shut : Option SeatChange → ℕ → Replay → Replay
admitted_or_shut None conn replay = shut conn replay
admitted_or_shut (Some change) conn replay = record replay { ready = slice_set replay.ready change.grant true }

-- a line that changes the peer of a connection, whose session is then served once; nothing where the server has shut the connection
abbrev pub line_on : Bool → Setting → ℕ → (Peer → Peer) → Replay → Replay
line_on true setting conn change replay = replay
line_on false setting conn change replay = serve_conn setting conn (record replay { peers = changed_peer conn change replay.peers })

-- one line of a script
abbrev pub line_played : Setting → ScriptLine → Replay → Replay
line_played setting (Open conn port) replay =
    admitted_or_shut (change_by setting replay.play (Step.Opened conn port)) conn (told setting (Step.Opened conn port) (record replay { peers = replay.peers ++ new_peer conn ∷ [] }))
line_played setting (Send conn bytes) replay = line_on (peer_of replay.peers conn).is_shut setting conn (λ peer. record peer { offered = peer.offered ++ bytes }) replay
line_played setting (Drop conn) replay = line_on (peer_of replay.peers conn).is_shut setting conn (λ peer. record peer { is_dropped = true }) replay
line_played setting (Room conn room) replay = line_on (peer_of replay.peers conn).is_shut setting conn (λ peer. record peer { room = room }) replay

-- lines in order, each followed by rounds until no session is ready
abbrev pub lines_played : Setting → List ScriptLine → Replay → Replay
lines_played setting [] replay = replay
lines_played setting (line ∷ lines) replay = lines_played setting lines (rested setting (line_played setting line replay))

-- the replay of a script
abbrev pub replayed : Setting → List ScriptLine → Replay
replayed setting lines = lines_played setting lines (replay_start setting)

-- ---- what fits

-- bytes of a connection fit where a grant's session has it, does not wait, and wants no fewer
abbrev pub fits_at : Option ℕ → ℕ → Play → Bool
fits_at None count play = false
fits_at (Some grant) count play = not (is_waiting play grant) && nat_le count (wanted (seat_at play grant))

-- the step fits in the play before it: bytes are taken only from a session that is going and does not wait, and no more than it wants
abbrev pub fits : Setting → Play → Step → Bool
fits setting play (Step.Took conn bytes) = fits_at (live_grant conn play.seats) (length bytes) play
fits setting play _ = true

-- every step fits in the play of those before it
abbrev pub all_fit : Setting → List Step → Play → Bool
all_fit setting [] play = true
all_fit setting (step ∷ steps) play = fits setting play step && all_fit setting steps (after_step setting play step)

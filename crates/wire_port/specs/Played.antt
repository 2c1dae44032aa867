-- A script that is played: what it tells, and what the next line does.
use Rattle.std.specs.Prelude.{◌≡◌, ℕ, Bool, true, false, List, [], ◌∷◌, ◌++◌, if◌then◌else◌}
use Rattle.base_types.specs.Calls.{CallPlan, fails_at}
use Rattle.base_types.specs.Counts.{raised}
use Rattle.wire_port.specs.declared.wire.Found.{Found}
use Rattle.wire_port.specs.declared.wire.Found.TheVariants as found
use Rattle.wire_port.specs.Offers.{ScriptLine, Peer, new_peer, peer_of, changed_peer}
use Rattle.wire_port.specs.Offers.ScriptLine.{Open, Send, Drop, Room}
use Rattle.wire_port.specs.Wires.{WireView, DoorView}
use Rattle.wire_port.specs.Links.{LogView, LinkView}
use Rattle.wire_port.specs.Slots.{SlotsView, link_of, peers_of}

-- the lines to come, the connections, the steps, those that opened with their ports, the calls made and to fail, and what was told of ports
pub record PlayView : Type 0 where
  pub lines : List ScriptLine
  pub slots : SlotsView
  pub log : LogView
  pub opened : List (ℕ × ℕ)
  pub calls : CallPlan
  pub faults : ℕ
  pub ports : List ℕ
  pub up : Bool
  pub over : Bool

-- what steps and connections are as a wire
abbrev pub told_of : LogView → List LinkView → WireView
told_of log links = record { steps = log.steps; given = λ conn. (link_of links conn).peer.given; last = λ conn. (link_of links conn).last }

-- what it tells as a wire
abbrev pub wire_of : PlayView → WireView
wire_of play = told_of play.log play.slots.links

abbrev pub peers_in : PlayView → List Peer
peers_in play = peers_of play.slots.links

abbrev pub door_of : PlayView → DoorView
door_of play = record { ports = play.ports; up = play.up; over = play.over; mark = [] }

-- whether the next call fails
abbrev pub fails_next : PlayView → Bool
fails_next play = fails_at play.calls.fails (raised play.calls.made 1)

-- what a line on a connection is answered: nothing where the server shut it
abbrev pub unless_shut : List Peer → ℕ → Found → Found
unless_shut peers conn answer = if (peer_of peers conn).is_shut then found.Nothing else answer

-- what the next line is answered
abbrev pub line_found : List Peer → List ScriptLine → Found
line_found peers [] = found.End
line_found peers (Open conn port ∷ lines) = found.Opened conn port
line_found peers (Send conn bytes ∷ lines) = unless_shut peers conn (found.Ready conn)
line_found peers (Drop conn ∷ lines) = unless_shut peers conn (found.Ready conn)
line_found peers (Room conn room ∷ lines) = unless_shut peers conn (found.Room conn)

-- the peers after a line on one of them: a line on a connection that the server shut changes nothing
abbrev pub peers_unless_shut : List Peer → ℕ → (Peer → Peer) → List Peer
peers_unless_shut peers conn change = if (peer_of peers conn).is_shut then peers else changed_peer conn change peers

-- the peers after the next line
abbrev pub line_peers : List Peer → List ScriptLine → List Peer
line_peers peers [] = peers
line_peers peers (Open conn port ∷ lines) = peers ++ new_peer conn ∷ []
line_peers peers (Send conn bytes ∷ lines) = peers_unless_shut peers conn (λ peer. record peer { offered = peer.offered ++ bytes })
line_peers peers (Drop conn ∷ lines) = peers_unless_shut peers conn (λ peer. record peer { is_dropped = true })
line_peers peers (Room conn room ∷ lines) = peers_unless_shut peers conn (λ peer. record peer { room = room })

-- the lines behind the next
abbrev pub lines_behind : List ScriptLine → List ScriptLine
lines_behind [] = []
lines_behind (line ∷ lines) = lines

-- how often `listen` and `poll` failed, after one more call
abbrev pub faults_after : Bool → ℕ → ℕ
faults_after true faults = raised faults 1
faults_after false faults = faults

-- nothing of these lines was played, and nothing happened
pub record IsNew (lines : List ScriptLine) (fails : List ℕ) (play : PlayView) : Type 0 where
  pub lines_are : play.lines ≡ lines
  pub steps : play.log.steps ≡ []
  pub links : play.slots.links ≡ []
  pub calls_are : play.calls ≡ record { fails = fails; made = 0 }
  pub faults : play.faults ≡ 0
  pub ports : play.ports ≡ []
  pub down : play.up ≡ false
  pub not_over : play.over ≡ false

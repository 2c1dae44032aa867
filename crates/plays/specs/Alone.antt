-- A grant alone: what its own connections brought, what that makes of its private chain, and what the shared chain has to hold.
use Rattle.std.specs.Prelude.{ℕ, suc, ◌≡◌, ◌==◌, List, [], ◌∷◌, ◌++◌, map, if◌then◌else◌}
use Rattle.std.specs.List.{filter_map}
use Rattle.std.specs.declared.option.Option.{Option}
use Rattle.std.specs.declared.option.Option.TheVariants.{None, Some}
use Rattle.chain_model.specs.Chains.{ChainState, DeviceState, Content, Placed, powered_content}
use Rattle.client_session.specs.Seats.{Seat}
use Rattle.client_session.specs.Private.{Event, Replies, all_replies, after_events}
pub use Rattle.client_session.specs.Sessions.{IsPrefix}
use Rattle.wire_port.specs.Steps.{Step}
use Rattle.wire_port.specs.Steps.Step.{Opened, Took, Gone, Shut}
use Rattle.grant_table.specs.Layouts.{GrantShape}
use Rattle.plays.specs.Plays.{Setting, Play, seat_at, start, boards_of, is_among}

-- the connections that a seat has admitted, in order
abbrev pub conns_of : Seat → List ℕ
conns_of seat = map (λ past. past.conn) seat.past ++ (if seat.going then seat.conn ∷ [] else [])

-- what a step brings a seat that admitted these connections
abbrev pub event_of : List ℕ → Step → Option Event
event_of conns (Opened conn port) = if is_among conn conns then Some (Event.Opened conn) else None
event_of conns (Took conn bytes) = if is_among conn conns then Some (Event.Took conn bytes) else None
event_of conns (Gone conn) = if is_among conn conns then Some (Event.Gone conn) else None
event_of conns (Shut conn) = None

-- the grant's own events: what the connections that the play admitted to it brought, in order
abbrev pub events : Play → ℕ → List Step → List Event
events play grant steps = filter_map (event_of (conns_of (seat_at play grant))) steps

-- the grant alone: its seat after these events, over its private chain, with no other grant
abbrev pub private : Setting → ℕ → List Event → Seat
private setting grant events = after_events events (seat_at (start setting) grant)

-- the replies to a connection among those of a seat
abbrev pub replies_in : List Replies → ℕ → List ℕ
replies_in [] conn = []
replies_in (replies ∷ rest) conn = if replies.conn == conn then replies.bytes else replies_in rest conn

-- the replies that a seat made to a connection
abbrev pub replies_to : Seat → ℕ → List ℕ
replies_to seat conn = replies_in (all_replies seat) conn

-- what a seat's chain holds for the device at a place of the shared chain, where its group has the place
abbrev pub content_within : List ℕ → List DeviceState → ℕ → Option Content
content_within [] devices place = None
content_within (other ∷ group) [] place = None
content_within (other ∷ group) (device ∷ devices) place = if other == place then Some device.content else content_within group devices place

-- this content, or else the other
abbrev pub content_or : Option Content → Content → Content
content_or None other = other
content_or (Some content) other = content

-- what the device at a place has to hold: what the seat of its grant holds for it, or, in no grant, this
abbrev pub content_for : List GrantShape → List Seat → ℕ → Content → Content
content_for [] seats place default = default
content_for (shape ∷ grants) [] place default = default
content_for (shape ∷ grants) (seat ∷ seats) place default = content_or (content_within shape.group seat.chain.devices place) (content_for grants seats place default)

-- what the devices from a place on have to hold; those in no grant hold what they do at power-up
abbrev pub contents_from : Setting → Play → ℕ → List Placed → List Content
contents_from setting play place [] = []
contents_from setting play place (board ∷ boards) = content_for setting.layout.grants play.seats place (powered_content board) ∷ contents_from setting play (suc place) boards

-- what all devices of the shared chain have to hold after a play
abbrev pub contents : Setting → Play → List Content
contents setting play = contents_from setting play 0 (boards_of setting)

-- the shared devices hold what the private devices hold: pins, latches, and counts of captures and updates
abbrev pub Holds : Setting → ChainState → Play → Type 0
Holds setting chain play = map (λ device. device.content) chain.devices ≡ contents setting play

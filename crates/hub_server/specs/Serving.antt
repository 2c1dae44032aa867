-- A hub that is served over a polled wire: what each call does to the play, and what it tells.
use Rattle.std.specs.Prelude.{ℕ, ◌≡◌, Bool, true, false, ◌⊎◌, List, map}
use Rattle.std.specs.declared.option.Option.{Option}
use Rattle.std.specs.declared.result.Result.{Result}
use Rattle.std.specs.declared.result.Result.TheVariants.{Ok, Err}
use Rattle.std.specs.Io.KnownBytes.{Appends}
use Rattle.ports.specs.Streams.{AppendsFront}
use Rattle.base_types.specs.Tellings.{Told, Both}
use Rattle.text_lines.specs.Printed.{Grew}
use Rattle.chain_model.specs.Chains.{ChainState}
use Rattle.grant_table.specs.Layouts.{LayoutShape}
use Rattle.wire_port.specs.Wires.{WireView, DoorView}
use Rattle.wire_port.specs.Calls.{after_poll}
use Rattle.wire_port.specs.declared.wire.Found.{Found}
use Rattle.plays.specs.Plays.{Setting, SessionEnd}
use Rattle.plays.specs.Stands.{HubView}
use Rattle.plays.specs.Outcomes.{SeatsOpen}
use Rattle.hub.specs.Served.{OnlyTellsOpened}
use Rattle.hub.specs.Standing.{HubStands, EndsFollow}
use Rattle.hub.specs.Resting.{Rests}
use Rattle.hub_server.specs.declared.ServeFault.{ServeFault}
use Rattle.hub_server.specs.declared.ServeFault.TheVariants.{Poll, Cable, Write}
use Rattle.hub_server.specs.Told.{ended_lines, serving_line}

-- the ports of a layout's grants, in order
abbrev pub ports_of : LayoutShape → List ℕ
ports_of layout = map (λ grant. grant.port) layout.grants

-- a poll found this, where the wire tells what it does
abbrev pub Polled : Found → Option WireView → Option WireView → Type 0
Polled found before now = Both before now (λ old new. new ≡ after_poll (Ok found) old)

-- what a wire listens at, and whether it does, is as it was
pub record KeepsDoor (old new : DoorView) : Type 0 where
  pub ports : new.ports ≡ old.ports
  pub up : new.up ≡ old.up
  pub mark : new.mark ≡ old.mark

-- what is handed from call to call over every wire: open sessions have connections that are open, and nothing is told of a connection that did not open
pub record IsSound (hub : HubView) (wire : Option WireView) : Type 0 where
  pub fit : hub.broken ≡ false
  pub seats : Told wire (SeatsOpen hub)
  pub tells : Told wire OnlyTellsOpened

-- in every play that the hub stands for: it stands for the play of the steps after, and these sessions ended meanwhile, in order
pub record GoesOn (ends : List SessionEnd) (setting : Setting) (hub : HubView) (chain : Option ChainState) (before now : Option WireView) : Type 0 where
  pub stands : HubStands setting hub chain now
  pub ends_are : EndsFollow setting before now ends

abbrev pub GoesOnFrom : (ends : List SessionEnd) → (old new : HubView) (old_chain new_chain : Option ChainState) (old_wire new_wire : Option WireView) → Type 0
GoesOnFrom ends old new old_chain new_chain old_wire new_wire = (setting : Setting) → HubStands setting old old_chain old_wire → GoesOn ends setting new new_chain old_wire new_wire

-- where all rested before, all rest after
abbrev pub KeepsResting : (old new : HubView) (old_wire new_wire : Option WireView) → Type 0
KeepsResting old new old_wire new_wire = Both old_wire new_wire (λ before now. Rests old before → Rests new now)

-- sessions ended, and a line of each went out
pub record Goes (old new : HubView) (old_chain new_chain : Option ChainState) (old_wire new_wire : Option WireView) (sent sent' : Option (List ℕ)) : Type 0 where
  pub ends : List SessionEnd
  pub told : Appends sent sent' (ended_lines ends)
  pub goes : GoesOnFrom ends old new old_chain new_chain old_wire new_wire
  pub rests : KeepsResting old new old_wire new_wire

-- the same, of whose lines a front went out
pub record GoesFront (old new : HubView) (old_chain new_chain : Option ChainState) (old_wire new_wire : Option WireView) (sent sent' : Option (List ℕ)) : Type 0 where
  pub ends : List SessionEnd
  pub told : AppendsFront sent sent' (ended_lines ends)
  pub goes : GoesOnFrom ends old new old_chain new_chain old_wire new_wire

-- the same up to somewhere, from where on nothing was told
pub record GoesUntil (old : HubView) (old_chain : Option ChainState) (old_wire : Option WireView) (sent sent' : Option (List ℕ)) : Type 0 where
  pub hub : HubView
  pub chain : Option ChainState
  pub wire : Option WireView
  pub goes : Goes old hub old_chain chain old_wire wire sent sent'

-- by what a call answers
abbrev pub ServesSo : {A : Type 0} → Result A ServeFault → (old new : HubView) (old_chain new_chain : Option ChainState) (old_wire new_wire : Option WireView) (sent sent' : Option (List ℕ)) → Type 0
ServesSo (Ok done) old new old_chain new_chain old_wire new_wire sent sent' = Goes old new old_chain new_chain old_wire new_wire sent sent'
ServesSo (Err Poll) old new old_chain new_chain old_wire new_wire sent sent' = Goes old new old_chain new_chain old_wire new_wire sent sent'
ServesSo (Err Write) old new old_chain new_chain old_wire new_wire sent sent' = GoesFront old new old_chain new_chain old_wire new_wire sent sent'
ServesSo (Err Cable) old new old_chain new_chain old_wire new_wire sent sent' = GoesUntil old old_chain old_wire sent sent'

-- ---- a hub that was served

-- once the line that it serves went out: the same behind it
pub record BehindServing {A : Type 0} (result : Result A ServeFault) (old new : HubView) (old_chain new_chain : Option ChainState) (old_wire new_wire : Option WireView) (sent sent' : Option (List ℕ)) : Type 0 where
  pub between : Option (List ℕ)
  pub line : Appends sent between serving_line
  pub serves : ServesSo result old new old_chain new_chain old_wire new_wire between sent'

-- the hub, the cable and the wire are as they were
pub record StaysSo (old new : HubView) (old_chain new_chain : Option ChainState) (old_wire new_wire : Option WireView) : Type 0 where
  pub hub : new ≡ old
  pub chain : new_chain ≡ old_chain
  pub wire : new_wire ≡ old_wire

-- the line was not written whole, and nothing else was done
pub record NotWritten (old new : HubView) (old_chain new_chain : Option ChainState) (old_wire new_wire : Option WireView) (sent sent' : Option (List ℕ)) : Type 0 where
  pub front : AppendsFront sent sent' serving_line
  pub stays : StaysSo old new old_chain new_chain old_wire new_wire

-- the wire could not listen, and nothing was done
pub record NotListening {A : Type 0} (result : Result A ServeFault) (old new : HubView) (old_chain new_chain : Option ChainState) (old_wire new_wire : Option WireView) (sent sent' : Option (List ℕ)) : Type 0 where
  pub answer : result ≡ Err Poll
  pub sent_is : sent' ≡ sent
  pub stays : StaysSo old new old_chain new_chain old_wire new_wire

-- by what it answers, once the wire listens
abbrev pub Serves : {A : Type 0} → Result A ServeFault → (old new : HubView) (old_chain new_chain : Option ChainState) (old_wire new_wire : Option WireView) (sent sent' : Option (List ℕ)) → Type 0
Serves {A} (Err Write) old new old_chain new_chain old_wire new_wire sent sent' = BehindServing {A = A} (Err Write) old new old_chain new_chain old_wire new_wire sent sent' ⊎ NotWritten old new old_chain new_chain old_wire new_wire sent sent'
Serves result old new old_chain new_chain old_wire new_wire sent sent' = BehindServing result old new old_chain new_chain old_wire new_wire sent sent'

-- by whether it listens
abbrev pub ServedSo : {A : Type 0} → Result A ServeFault → (old new : HubView) (old_chain new_chain : Option ChainState) (old_wire new_wire : Option WireView) (sent sent' : Option (List ℕ)) → (up : Bool) → Type 0
ServedSo result old new old_chain new_chain old_wire new_wire sent sent' true = Serves result old new old_chain new_chain old_wire new_wire sent sent'
ServedSo result old new old_chain new_chain old_wire new_wire sent sent' false = NotListening result old new old_chain new_chain old_wire new_wire sent sent'

-- ---- causes

-- a fault comes only where its object's count rose, and the counts of the others stay: those of the wire, the cable and the sink
abbrev pub CausesOf : {A : Type 0} → Result A ServeFault → (wire wire' cable cable' sink sink' : ℕ) → Type 0
CausesOf (Ok done) wire wire' cable cable' sink sink' = (wire' ≡ wire) × (cable' ≡ cable) × (sink' ≡ sink)
CausesOf (Err Poll) wire wire' cable cable' sink sink' = Grew wire wire' × (cable' ≡ cable) × (sink' ≡ sink)
CausesOf (Err Cable) wire wire' cable cable' sink sink' = (wire' ≡ wire) × Grew cable cable' × (sink' ≡ sink)
CausesOf (Err Write) wire wire' cable cable' sink sink' = (wire' ≡ wire) × (cable' ≡ cable) × Grew sink sink'

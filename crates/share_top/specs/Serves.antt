-- A run of `serve`: the sessions of all grants of a setup, over a polled wire and the shared chain.
use Rattle.std.specs.Prelude.{◌≡◌, ◌⊎◌, ℕ, Bool, true, false, List, [], ◌++◌, map, codes}
use Rattle.std.specs.declared.option.Option.{Option}
use Rattle.std.specs.declared.option.Option.TheVariants.{Some}
use Rattle.std.specs.Io.KnownBytes.{Appends}
use Rattle.ports.specs.Streams.{AppendsFront}
use Rattle.ports.specs.Shelves.{NamedBytes}
use Rattle.base_types.specs.Counts.{raised}
use Rattle.chain_model.specs.Boards.{placed}
use Rattle.chain_model.specs.Chains.{ChainState, Placed}
use Rattle.scan_share.specs.Scans.{IsWithin}
use Rattle.wire_port.specs.Wires.{WireView, DoorView}
use Rattle.plays.specs.Plays.{Setting, SessionEnd, played}
use Rattle.plays.specs.Given.{SharedAsAlone, AllGivenAsAlone}
use Rattle.hub_server.specs.Serving.{ports_of}
use Rattle.hub_server.specs.Told.{ended_lines, serving_line}
use Rattle.hub_server.specs.declared.ServeFault.{ServeFault}
use Rattle.hub_server.specs.declared.ServeFault.TheVariants as fault
use Rattle.setup_read.specs.declared.setup.Setup.{Setup}
use Rattle.share_top.specs.Outcomes.{Grew, Tells}
use Rattle.share_top.specs.Pipes.{NeedsTrst, uses_trst}
use Rattle.share_top.specs.Setups.{LoadCauses, NoSetupAt, SetupAt, no_setup_line, no_setup_status}
use Rattle.share_top.specs.declared.serve_outcome.ServeOutcome.{ServeOutcome}
use Rattle.share_top.specs.declared.serve_outcome.ServeOutcome.TheVariants.{NoSetup, NoTrst, Memory, Faulted, Ended}

-- what the sessions of a setup are played under
abbrev pub setting_of : Setup → Setting
setting_of setup = record { layout = setup.layout; pins = map (λ (board : Placed). board.pins) (map placed setup.boards); vector = setup.vector; uses_trst = uses_trst setup }

-- ---- what the sessions come to

-- the sessions were served: their peers were given what they are alone, the shared devices hold what the private ones hold, no more cycles were
-- made than are due, and these sessions ended, in order
pub record ServedAlone (setup : Setup) (ends : List SessionEnd) (chain : ChainState) (wire : WireView) : Type 0 where
  pub alone : SharedAsAlone (setting_of setup) chain wire
  pub made : IsWithin chain.made (raised (played (setting_of setup) wire.steps).cost 0)
  pub ends_are : (played (setting_of setup) wire.steps).ends ≡ ends

-- the bench and the wire tell what they hold, and the sessions were served so
abbrev pub ServedOn : Setup → List SessionEnd → Option ChainState → Option WireView → Type 0
ServedOn setup ends (Some chain) (Some wire) = ServedAlone setup ends chain wire
ServedOn setup ends _ _ = ⊥

-- the wire tells its steps, and nothing is left to do for the server: each peer was given all that it is given alone, unless its grant waits, or it is
-- gone or takes no more
abbrev pub AllGivenOn : Setup → Option WireView → Type 0
AllGivenOn setup (Some wire) = AllGivenAsAlone (setting_of setup) wire
AllGivenOn setup _ = ⊥

-- this holds where the bench and the wire told what they hold
abbrev pub WhereTold : Option ChainState → Option WireView → Type 0 → Type 0
WhereTold (Some chain) (Some wire) P = P
WhereTold _ _ P = Unit {0}

-- no step was told yet
abbrev pub HasNoSteps : WireView → Type 0
HasNoSteps wire = wire.steps ≡ []

-- what a command sees of the outside: the bench's chain, the wire's steps and door, and what went out
pub record Outside : Type 0 where
  pub chain : Option ChainState
  pub wire : Option WireView
  pub door : DoorView
  pub sent : Option (List ℕ)

-- all is as it was
pub record IsUntouched (old new : Outside) : Type 0 where
  pub chain : new.chain ≡ old.chain
  pub wire : new.wire ≡ old.wire
  pub door : new.door ≡ old.door
  pub sent : new.sent ≡ old.sent

-- all but the bench, which may be assembled by now
pub record IsUnserved (old new : Outside) : Type 0 where
  pub wire : new.wire ≡ old.wire
  pub door : new.door ≡ old.door
  pub sent : new.sent ≡ old.sent

-- it listens at the ports of all grants, in order
pub record Listens (setup : Setup) (new : Outside) : Type 0 where
  pub ports : new.door.ports ≡ ports_of setup.layout
  pub up : new.door.up ≡ true

-- it listened, told that it serves, and told each session that ended
pub record WasServed (setup : Setup) (old new : Outside) : Type 0 where
  pub listens : Listens setup new
  pub ends : List SessionEnd
  pub told : Appends old.sent new.sent (serving_line ++ ended_lines ends)
  pub served : WhereTold old.chain old.wire (ServedOn setup ends new.chain new.wire)

-- the same, where a front of that went out
pub record WasCutShort (setup : Setup) (old new : Outside) : Type 0 where
  pub listens : Listens setup new
  pub ends : List SessionEnd
  pub told : AppendsFront old.sent new.sent (serving_line ++ ended_lines ends)
  pub served : WhereTold old.chain old.wire (ServedOn setup ends new.chain new.wire)

-- it could not listen, and told nothing
pub record NotListening (setup : Setup) (old new : Outside) : Type 0 where
  pub ports : new.door.ports ≡ ports_of setup.layout
  pub up : new.door.up ≡ false
  pub sent : new.sent ≡ old.sent
  pub served : WhereTold old.chain old.wire (ServedOn setup [] new.chain new.wire)

-- the cable failed: before it listened nothing was told, and else whole lines
abbrev pub ToldLines : Outside → Outside → Type 0
ToldLines old new = (new.sent ≡ old.sent) ⊎ ((ends : List SessionEnd) × Appends old.sent new.sent (serving_line ++ ended_lines ends))

-- by why it ended
abbrev pub FaultedSo : ServeFault → Setup → Outside → Outside → Type 0
FaultedSo fault.Poll setup old new = NotListening setup old new ⊎ WasServed setup old new
FaultedSo fault.Cable setup old new = ToldLines old new
FaultedSo fault.Write setup old new = WasCutShort setup old new

-- the files say this setup, which the cable can serve
pub record CanServe (files : Option (List NamedBytes)) (name : List ℕ) (trst : Bool) (setup : Setup) : Type 0 where
  pub said : SetupAt setup files name
  pub trst_is : uses_trst setup ≡ true → trst ≡ true

-- the wire came to its end, and all was done that was to be done
pub record ServedToTheEnd (setup : Setup) (old new : Outside) : Type 0 where
  pub served : WasServed setup old new
  pub all : WhereTold old.chain old.wire (AllGivenOn setup new.wire)
  pub over : new.door.over ≡ true

-- of a setup, by its outcome
abbrev pub ServesSetup : ServeOutcome → Setup → Outside → Outside → Type 0
ServesSetup Memory setup old new = IsUnserved old new
ServesSetup (Faulted why) setup old new = FaultedSo why setup old new
ServesSetup Ended setup old new = ServedToTheEnd setup old new
ServesSetup _ setup old new = ⊥

-- of the files, by its outcome
abbrev pub Serves : ServeOutcome → (files : Option (List NamedBytes)) → (name : List ℕ) → (trst : Bool) → Outside → Outside → Type 0
Serves (NoSetup none) files name trst old new = NoSetupAt none files name × IsUntouched old new
Serves NoTrst files name trst old new = NeedsTrst files name trst × IsUntouched old new
Serves outcome files name trst old new = (setup : Setup) × CanServe files name trst setup × ServesSetup outcome setup old new

-- ---- the counts of faults

pub record ServeFaults : Type 0 where
  pub shelf : ℕ
  pub poller : ℕ
  pub cable : ℕ
  pub sink : ℕ

-- a fault comes only where its object's count rose, and all others stay
abbrev pub FaultCauses : ServeFault → ServeFaults → ServeFaults → Type 0
FaultCauses fault.Poll old new = Grew old.poller new.poller × (new.cable ≡ old.cable) × (new.sink ≡ old.sink)
FaultCauses fault.Cable old new = (new.poller ≡ old.poller) × Grew old.cable new.cable × (new.sink ≡ old.sink)
FaultCauses fault.Write old new = (new.poller ≡ old.poller) × (new.cable ≡ old.cable) × Grew old.sink new.sink

abbrev pub ServeCauses : ServeOutcome → ServeFaults → ServeFaults → Type 0
ServeCauses (NoSetup none) old new = LoadCauses none old.shelf new.shelf × (new.poller ≡ old.poller) × (new.cable ≡ old.cable) × (new.sink ≡ old.sink)
ServeCauses (Faulted why) old new = (new.shelf ≡ old.shelf) × FaultCauses why old new
ServeCauses _ old new = (new.shelf ≡ old.shelf) × (new.poller ≡ old.poller) × (new.cable ≡ old.cable) × (new.sink ≡ old.sink)

-- ---- the last line

abbrev pub fault_status : ServeFault → ℕ
fault_status fault.Poll = 6
fault_status fault.Cable = 7
fault_status fault.Write = 5

abbrev pub serve_status : ServeOutcome → ℕ
serve_status (NoSetup none) = no_setup_status none
serve_status NoTrst = 3
serve_status Memory = 9
serve_status (Faulted why) = fault_status why
serve_status Ended = 0

abbrev pub fault_line : ServeFault → List ℕ
fault_line fault.Poll = codes "poll fault\n"
fault_line fault.Cable = codes "cable fault\n"
fault_line fault.Write = []

abbrev pub serve_line : ServeOutcome → List ℕ
serve_line (NoSetup none) = no_setup_line none
serve_line NoTrst = codes "trst\n"
serve_line Memory = codes "memory\n"
serve_line (Faulted why) = fault_line why
serve_line Ended = []

-- ---- a whole run of `serve`

pub record RunsServe (status : ℕ) (files : Option (List NamedBytes)) (name : List ℕ) (trst : Bool) (old new : Outside) (faults faults' : ServeFaults) : Type 0 where
  pub outcome : ServeOutcome
  pub between : Option (List ℕ)
  pub sink_between : ℕ
  pub serves : Serves outcome files name trst old (record new { sent = between })
  pub causes : ServeCauses outcome faults (record faults' { sink = sink_between })
  pub tells : Tells (serve_status outcome) (serve_line outcome) status between new.sent sink_between faults'.sink

-- the statuses of `serve`
abbrev pub IsServeStatus : ℕ → Type 0
IsServeStatus status = (status ≡ 0) ⊎ (status ≡ 3) ⊎ (status ≡ 4) ⊎ (status ≡ 5) ⊎ (status ≡ 6) ⊎ (status ≡ 7) ⊎ (status ≡ 9) ⊎ (status ≡ 12)

-- those of all words that `serve` may be asked with
abbrev pub IsServedStatus : ℕ → Type 0
IsServedStatus status = IsServeStatus status ⊎ (status ≡ 2)

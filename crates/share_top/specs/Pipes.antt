-- A run of `pipe`: a session of a grant from the input over the shared chain, and its replies to the output.
use Rattle.std.specs.Prelude.{◌≡◌, ◌⊎◌, ◌≤◌, ◌<◌, ◌-◌, ◌==◌, ℕ, Bool, true, false, List, [], ◌++◌, map, length, codes, slice_get}
use Rattle.std.specs.Fmt.{decimal}
use Rattle.std.specs.declared.option.Option.{Option}
use Rattle.std.specs.declared.option.Option.TheVariants.{None, Some}
use Rattle.std.specs.Io.KnownBytes.{Appends, Consumes}
use Rattle.base_types.specs.Tellings.{Told}
use Rattle.ports.specs.Shelves.{NamedBytes}
use Rattle.chain_model.specs.Chains.{ChainState, powered}
use Rattle.chain_model.specs.Boards.{placed}
use Rattle.grant_table.specs.Layouts.{GrantShape}
use Rattle.scan_share.specs.PrivateChains.{private_chain}
use Rattle.scan_share.specs.Scans.{contents_of, with_contents}
use Rattle.client_session.specs.declared.End.{End}
use Rattle.client_session.specs.declared.End.TheVariants.{Quit, Refused, Gone, Cut, Long}
use Rattle.client_session.specs.Private.{free_seat, opened}
use Rattle.client_session.specs.Seats.{Seat}
use Rattle.lone_session.specs.declared.Served.{Served as Serving}
use Rattle.lone_session.specs.declared.Served.TheVariants.{Ended, ReadFault, WriteFault}
use Rattle.lone_session.specs.Serving.{EndedSo, EndsAt, Gives, WasCutOff, after_input}
use Rattle.setup_read.specs.declared.setup.Setup.{Setup}
use Rattle.share_top.specs.Outcomes.{Grew, Tells}
use Rattle.share_top.specs.Setups.{LoadCauses, NoSetupAt, SetupAt, no_setup_line, no_setup_status}
use Rattle.share_top.specs.declared.outcome.Outcome.{Outcome}
use Rattle.share_top.specs.declared.outcome.Outcome.TheVariants.{NoSetup, NoTrst, NoGrant, Memory, CableFault, Served}

-- ---- the private chain of a grant

-- the letters of TRST count in setups of version 2
abbrev pub uses_trst : Setup → Bool
uses_trst setup = setup.version == 2

-- all devices of a setup at power-up
abbrev pub whole_chain : Setup → ChainState
whole_chain setup = powered (map placed setup.boards) setup.layout.nets

-- a grant's seat by itself, over its private chain at power-up
abbrev pub private_seat : Setup → GrantShape → Seat
private_seat setup grant = free_seat grant.protocol (uses_trst setup) setup.vector (private_chain (map placed setup.boards) grant.group setup.layout.nets)

-- and with a session that was just opened
unfoldable pub private_session : Setup → GrantShape → Seat
private_session setup grant = opened 0 (private_seat setup grant)

-- ---- what a session comes to

-- nothing was taken of the input, nothing went out, and the bench is as it was
pub record Untouched (left rest : Option (List ℕ)) (before after : Option ChainState) (sent sent' : Option (List ℕ)) : Type 0 where
  pub input : rest ≡ left
  pub output : sent' ≡ sent
  pub bench : after ≡ before

-- the bench tells its chain, of which this holds
abbrev pub TellsChain : Option ChainState → (ChainState → Type 0) → Type 0
TellsChain None P = ⊥
TellsChain (Some chain) P = P chain

-- bytes were taken from the input, and the private session of the grant, whose peer is gone after them unless it ended before, ended so with
-- these replies; they went out, and the grant's devices hold what the private ones hold, all others what they hold at power-up
pub record RanAlone (served : Serving) (setup : Setup) (grant : GrantShape) (left rest : Option (List ℕ)) (after : Option ChainState) (sent sent' : Option (List ℕ)) : Type 0 where
  pub taken : List ℕ
  pub given : List ℕ
  pub replies : List ℕ
  pub end : End
  pub consumed : Consumes left rest taken
  pub wrote : Appends sent sent' given
  pub ended : EndedSo end replies (private_session setup grant) (after_input taken (private_session setup grant))
  pub gives : Gives served end given replies rest
  pub holds : TellsChain after (λ chain. contents_of chain ≡ with_contents grant.group (contents_of (after_input taken (private_session setup grant)).chain) (contents_of (whole_chain setup)))

-- a session of the grant by its outcome: it came to its end, at a drop only where the input is at its end; or the cable failed, and a front of
-- the private replies to the bytes taken went out. Where the bench tells its chain, the private session says what was done
abbrev pub ServesSession : Outcome → Setup → GrantShape → (left rest : Option (List ℕ)) → (before after : Option ChainState) → (sent sent' : Option (List ℕ)) → Type 0
ServesSession CableFault setup grant left rest before after sent sent' = Told before (λ _. WasCutOff left rest sent sent' (private_session setup grant))
ServesSession (Served served) setup grant left rest before after sent sent' = EndsAt served rest × Told before (λ _. RanAlone served setup grant left rest after sent sent')
ServesSession _ setup grant left rest before after sent sent' = ⊥

-- the same, unless memory was wanting for it
abbrev pub RunsSession : Outcome → Setup → GrantShape → (left rest : Option (List ℕ)) → (before after : Option ChainState) → (sent sent' : Option (List ℕ)) → Type 0
RunsSession Memory setup grant left rest before after sent sent' = Untouched left rest before after sent sent'
RunsSession outcome setup grant left rest before after sent sent' = ServesSession outcome setup grant left rest before after sent sent'

-- ---- what `pipe` comes to

-- the files say this setup, which the cable can serve and which has this grant at a number, counted from 1
pub record Fits (files : Option (List NamedBytes)) (name : List ℕ) (number : ℕ) (trst : Bool) (setup : Setup) (grant : GrantShape) : Type 0 where
  pub said : SetupAt setup files name
  pub trst_is : uses_trst setup ≡ true → trst ≡ true
  pub there : slice_get setup.layout.grants (number - 1) ≡ Some grant

-- the files say a setup that needs TRST, and the cable has none
pub record NeedsTrst (files : Option (List NamedBytes)) (name : List ℕ) (trst : Bool) : Type 0 where
  pub setup : Setup
  pub said : SetupAt setup files name
  pub uses : uses_trst setup ≡ true
  pub none : trst ≡ false

-- the files say a setup, which the cable can serve and which has fewer grants
pub record HasFewer (files : Option (List NamedBytes)) (name : List ℕ) (number : ℕ) (trst : Bool) : Type 0 where
  pub setup : Setup
  pub said : SetupAt setup files name
  pub trst_is : uses_trst setup ≡ true → trst ≡ true
  pub fewer : length setup.layout.grants < number

-- by its outcome: there is no setup, TRST, or grant; or there is, and its session is run
abbrev pub Pipes : Outcome → (files : Option (List NamedBytes)) → (name : List ℕ) → (number : ℕ) → (trst : Bool) → (left rest : Option (List ℕ)) → (before after : Option ChainState) → (sent sent' : Option (List ℕ)) → Type 0
Pipes (NoSetup none) files name number trst left rest before after sent sent' = NoSetupAt none files name × Untouched left rest before after sent sent'
Pipes NoTrst files name number trst left rest before after sent sent' = NeedsTrst files name trst × Untouched left rest before after sent sent'
Pipes (NoGrant asked) files name number trst left rest before after sent sent' = (asked ≡ number) × HasFewer files name number trst × Untouched left rest before after sent sent'
Pipes outcome files name number trst left rest before after sent sent' = (setup : Setup) × (grant : GrantShape) × Fits files name number trst setup grant × RunsSession outcome setup grant left rest before after sent sent'

-- ---- the counts of faults

pub record Faults : Type 0 where
  pub shelf : ℕ
  pub source : ℕ
  pub cable : ℕ
  pub sink : ℕ

-- how the bytes of the input came to their end, where a fault comes only if its object's count rose, and leaves all others
abbrev pub EndCauses : Serving → Faults → Faults → Type 0
EndCauses (Ended end) old new = (new.source ≡ old.source) × (new.cable ≡ old.cable) × (new.sink ≡ old.sink)
EndCauses ReadFault old new = Grew old.source new.source × (new.cable ≡ old.cable) × (new.sink ≡ old.sink)
EndCauses WriteFault old new = (new.source ≡ old.source) × (new.cable ≡ old.cable) × Grew old.sink new.sink

-- the same of a session: a failed cable, also where a read or a write failed before it, comes only where the cable's count rose
abbrev pub SessionCauses : Outcome → Faults → Faults → Type 0
SessionCauses (Served served) old new = EndCauses served old new
SessionCauses CableFault old new = (old.source ≤ new.source) × Grew old.cable new.cable × (old.sink ≤ new.sink)
SessionCauses _ old new = (new.source ≡ old.source) × (new.cable ≡ old.cable) × (new.sink ≡ old.sink)

-- and of `pipe`
abbrev pub PipeCauses : Outcome → Faults → Faults → Type 0
PipeCauses (NoSetup none) old new = LoadCauses none old.shelf new.shelf × (new.source ≡ old.source) × (new.cable ≡ old.cable) × (new.sink ≡ old.sink)
PipeCauses outcome old new = (new.shelf ≡ old.shelf) × SessionCauses outcome old new

-- ---- the last line

abbrev pub end_status : End → ℕ
end_status (Quit at) = 0
end_status (Gone at) = 0
end_status (Refused at cause) = 1
end_status (Cut at) = 1
end_status (Long at) = 8

abbrev pub served_status : Serving → ℕ
served_status (Ended end) = end_status end
served_status ReadFault = 4
served_status WriteFault = 5

abbrev pub status_of : Outcome → ℕ
status_of (NoSetup none) = no_setup_status none
status_of NoTrst = 3
status_of (NoGrant number) = 3
status_of Memory = 9
status_of CableFault = 7
status_of (Served served) = served_status served

-- bytes that are refused at a place for a cause; an input that ends within a message is refused at its end, for cause 4
abbrev pub refused_line : ℕ → ℕ → List ℕ
refused_line at cause = codes "refused " ++ decimal at ++ codes " " ++ decimal cause ++ codes "\n"

abbrev pub end_line : End → List ℕ
end_line (Quit at) = []
end_line (Gone at) = []
end_line (Refused at cause) = refused_line at cause
end_line (Cut at) = refused_line at 4
end_line (Long at) = codes "too long\n"

abbrev pub served_line : Serving → List ℕ
served_line (Ended end) = end_line end
served_line ReadFault = codes "read fault\n"
served_line WriteFault = []

abbrev pub line_of : Outcome → List ℕ
line_of (NoSetup none) = no_setup_line none
line_of NoTrst = codes "trst\n"
line_of (NoGrant number) = codes "grant " ++ decimal number ++ codes "\n"
line_of Memory = codes "memory\n"
line_of CableFault = codes "cable fault\n"
line_of (Served served) = served_line served

-- ---- a whole run of `pipe`

pub record RunsPipe (status : ℕ) (files : Option (List NamedBytes)) (name : List ℕ) (number : ℕ) (trst : Bool) (left rest : Option (List ℕ)) (before after : Option ChainState) (sent sent' : Option (List ℕ)) (old new : Faults) : Type 0 where
  pub outcome : Outcome
  pub between : Option (List ℕ)
  pub sink_between : ℕ
  pub pipes : Pipes outcome files name number trst left rest before after sent between
  pub causes : PipeCauses outcome old (record new { sink = sink_between })
  pub tells : Tells (status_of outcome) (line_of outcome) status between sent' sink_between new.sink

-- what `pipe` comes to where no count of faults rises and memory is there: the session ends
abbrev pub IsEndStatus : ℕ → Type 0
IsEndStatus status = (status ≡ 0) ⊎ (status ≡ 1) ⊎ (status ≡ 8)

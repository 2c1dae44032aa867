-- What holds of every play: no session can tell the shared chain from its private one by any reply, except that it may wait.
-- The steps open no connection twice, as those of every wire do.
use Rattle.std.specs.Prelude.{ℕ, ◌*◌, ◌≡◌, ◌≢◌, ◌≤◌, Bool, true, false, List, [], ◌∷◌, length}
use Rattle.std.specs.List.{list_any}
use Rattle.std.specs.declared.option.Option.TheVariants.{Some}
use Rattle.part_model.specs.Parts.{DeviceType}
use Rattle.part_model.specs.Plans.{IsPart}
use Rattle.client_session.specs.Seats.{finished}
use Rattle.client_session.specs.Laws.{IsShortVector}
use Rattle.wire_port.specs.Steps.{Step, opens_once, taken_from}
use Rattle.wire_port.specs.Offers.{ScriptLine, lines_open_once}
use Rattle.plays.specs.Plays.{Setting, Play, seat_at, is_waiting, is_holder, played}
use Rattle.plays.specs.Alone.{events, private, replies_to, IsPrefix}
use Rattle.plays.specs.Schedule.{Replay, replayed}
use Rattle.plays.specs.Stands.{SeatsAreOver}

-- in a play of these steps, a grant is as alone
pub record IsAsAlone (setting : Setting) (steps : List Step) (play : Play) (grant : ℕ) : Type 0 where
  -- each session's replies are the front of those that it has alone
  pub replies : (conn : ℕ) → IsPrefix (replies_to (seat_at play grant) conn) (replies_to (private setting grant (events play grant steps)) conn)
  -- where the grant would go on by itself from where it is, all would be as alone
  pub later : finished (seat_at play grant) ≡ private setting grant (events play grant steps)
  -- and where the grant does not wait, all is as alone
  pub whole : is_waiting play grant ≡ false → seat_at play grant ≡ private setting grant (events play grant steps)

-- every grant, in every play
abbrev pub EachAsAlone : Type 0
EachAsAlone = (setting : Setting) (steps : List Step) (grant : ℕ) → opens_once steps ≡ true → IsAsAlone setting steps (played setting steps) grant

-- a grant that waits does so behind another, which holds the chain, does not wait itself, and alone has a scan open too
pub record WaitsBehind (setting : Setting) (steps : List Step) (play : Play) (grant : ℕ) : Type 0 where
  pub other : ℕ
  pub holds : play.holder ≡ Some other
  pub another : other ≢ grant
  pub not_waiting : is_waiting play other ≡ false
  pub scanning : (private setting other (events play other steps)).chain.scan_open ≡ true

-- every grant that waits, in every play
abbrev pub EachWaitsBehind : Type 0
EachWaitsBehind = (setting : Setting) (steps : List Step) (grant : ℕ) → opens_once steps ≡ true → is_waiting (played setting steps) grant ≡ true → WaitsBehind setting steps (played setting steps) grant

-- ---- seats, replays, replies

-- the device types are those of BSDL texts that are accepted, and each has a pin for each cell of its boundary register
abbrev pub PartsFit : List DeviceType → List (List Bool) → Type 0
PartsFit [] [] = Unit {0}
PartsFit (part ∷ parts) (row ∷ pins) = (IsPart part × (length row ≡ part.boundary_length)) × PartsFit parts pins
PartsFit _ _ = ⊥

-- each seat's chain is made of the devices and nets of its grant
abbrev pub EachSeatIsOver : Type 0
EachSeatIsOver = (setting : Setting) (steps : List Step) → PartsFit setting.layout.parts setting.pins → SeatsAreOver setting.layout (played setting steps)

-- a grant holds the chain exactly where its seat has a scan open
abbrev pub EachScanIsHeld : Type 0
EachScanIsHeld = (setting : Setting) (steps : List Step) (grant : ℕ) → opens_once steps ≡ true → is_holder (played setting steps).holder grant ≡ (seat_at (played setting steps) grant).chain.scan_open

-- the play of a replay is that of the steps that it tells, which open no connection twice
pub record IsPlayed (setting : Setting) (replay : Replay) : Type 0 where
  pub play : replay.play ≡ played setting replay.steps
  pub once : opens_once replay.steps ≡ true

-- every replay of a script that opens no connection twice
abbrev pub EachReplayIsPlayed : Type 0
EachReplayIsPlayed = (setting : Setting) (lines : List ScriptLine) → lines_open_once lines ≡ true → IsPlayed setting (replayed setting lines)

-- once a script is played, no session is ready any more
abbrev pub EachReplayRests : Type 0
EachReplayRests = (setting : Setting) (lines : List ScriptLine) → lines_open_once lines ≡ true → list_any (λ ready. ready) (replayed setting lines).ready ≡ false

-- a connection is replied three bytes at most for each byte that was taken from it
abbrev pub EachReplyIsShort : Type 0
EachReplyIsShort = (setting : Setting) (steps : List Step) (grant conn : ℕ) → IsShortVector setting.vector → length (replies_to (seat_at (played setting steps) grant) conn) ≤ 3 * taken_from conn steps

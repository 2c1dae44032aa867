-- What holds of a script wire at all times.
use Rattle.std.specs.Prelude.{◌≡◌, ◌≤◌, ◌<◌, ◌+◌, ◌*◌, ℕ, true, false, not, ◌==◌, List, [], ◌∷◌, ◌++◌, length, map, drop, slice_index_or, if◌then◌else◌, Vec, vec_len, vec_capacity}
use Rattle.std.specs.List.{list_any}
use Rattle.std.specs.declared.alloc.Global.{Global}
use Rattle.wire_port.specs.declared.log.Mark.{Mark}
use Rattle.wire_port.specs.declared.script.Line.{Line}
use Rattle.wire_port.specs.Steps.{Step, opens, opens_once, has_gone, shuts, taken_from}
use Rattle.wire_port.specs.Steps.Step.{Opened}
use Rattle.wire_port.specs.Offers.{ScriptLine, opens_line, lines_open_once}
use Rattle.wire_port.specs.Offers.ScriptLine.{Open, Send}
use Rattle.wire_port.specs.Links.{LinkView, LogView, bytes_of, new_link}
use Rattle.wire_port.specs.Scripts.{line_of}
use Rattle.wire_port.specs.Slots.{SlotsView, IsTable, conns, has_link, link_of}

-- the marks are about the bytes that are kept, and both lie in their room
pub record FitsLog (marks : Vec Mark Global) (bytes : Vec ℕ Global) (room byte_room : ℕ) : Type 0 where
  pub all : bytes_of marks.items ≡ length bytes.items
  pub within : vec_len marks ≤ room
  pub bytes_within : vec_len bytes ≤ byte_room
  pub memory : room ≤ vec_capacity marks
  pub byte_memory : byte_room ≤ vec_capacity bytes

-- the bytes that a peer offered so far and was given lie in their room, three and 64 more for each that it may offer
pub record FitsLink (received given : Vec ℕ Global) (taken room : ℕ) : Type 0 where
  pub taken_some : taken ≤ vec_len received
  pub within : vec_len received ≤ room
  pub memory : room ≤ vec_capacity received
  pub given_memory : 3 * room + 64 ≤ vec_capacity given

-- ---- the lines to come

-- how many bytes they offer, on all connections and on one
abbrev pub sent : List ScriptLine → ℕ
sent [] = 0
sent (Send conn bytes ∷ lines) = length bytes + sent lines
sent (line ∷ lines) = sent lines

abbrev pub sent_on : ℕ → List ScriptLine → ℕ
sent_on conn [] = 0
sent_on conn (Send other bytes ∷ lines) = if other == conn then length bytes + sent_on conn lines else sent_on conn lines
sent_on conn (line ∷ lines) = sent_on conn lines

-- the connections that they open, in order
abbrev pub opened_by : List ScriptLine → List ℕ
opened_by [] = []
opened_by (Open conn port ∷ lines) = conn ∷ opened_by lines
opened_by (line ∷ lines) = opened_by lines

-- the connections that steps opened, with their ports, in order
abbrev pub opened_in : List Step → List (ℕ × ℕ)
opened_in [] = []
opened_in (Opened conn port ∷ steps) = (conn, port) ∷ opened_in steps
opened_in (step ∷ steps) = opened_in steps

-- ---- memory

-- how many steps may still come on a connection, beside those of bytes that are not offered yet
abbrev pub spare : LinkView → ℕ
spare link = (if link.is_gone then 0 else 1) + (if link.peer.is_shut then 0 else 1) + length link.peer.offered

abbrev pub on_offer : LinkView → ℕ
on_offer link = length link.peer.offered

abbrev pub total : (LinkView → ℕ) → List LinkView → ℕ
total weight [] = 0
total weight (link ∷ links) = weight link + total weight links

-- each connection has room for what the lines offer on it
abbrev pub EachFits : List ScriptLine → List LinkView → Type 0
EachFits lines [] = Unit {0}
EachFits lines (link ∷ links) = (sent_on link.peer.conn lines ≤ link.offers_left) × EachFits lines links

-- nothing came on any of them yet
abbrev pub EachFresh : List LinkView → Type 0
EachFresh [] = Unit {0}
EachFresh (link ∷ links) = (link ≡ new_link link.peer.conn link.offers_left) × EachFresh links

-- ---- lines, steps and connections fit one another

pub record IsPlay (lines : List ScriptLine) (log : LogView) (links waiting : List LinkView) (opened : List (ℕ × ℕ)) : Type 0 where
  pub once : opens_once log.steps ≡ true
  pub lines_once : lines_open_once lines ≡ true
  pub apart : (conn : ℕ) → has_link conn links ≡ true → list_any (opens_line conn) lines ≡ false
  pub opened_are : opened ≡ opened_in log.steps
  pub linked : (conn : ℕ) → list_any (opens conn) log.steps ≡ has_link conn links
  pub gone : (conn : ℕ) → has_gone conn log.steps ≡ (link_of links conn).is_gone
  pub shut : (conn : ℕ) → (shuts conn log.steps == 0) ≡ not (link_of links conn).peer.is_shut
  pub taken : (conn : ℕ) → taken_from conn log.steps ≡ (link_of links conn).taken
  pub order : conns waiting ≡ opened_by lines
  pub fresh : EachFresh waiting
  pub fits : EachFits lines (links ++ waiting)
  pub left : sent lines + total spare links + 3 * length waiting ≤ log.left
  pub bytes_left : sent lines + total on_offer links ≤ log.bytes_left

-- the lines that were played are lines, all the rest fits, and there is memory for the connections that are to open and for the ports
pub record FitsPlay (lines : Vec Line Global) (played : ℕ) (log : LogView) (slots : SlotsView) (opened : Vec (ℕ × ℕ) Global) (ports : Vec ℕ Global) : Type 0 where
  pub some : played ≤ vec_len lines
  pub play : IsPlay (map line_of (drop played lines.items)) log slots.links slots.waiting opened.items
  pub opened_memory : vec_len opened + length slots.waiting ≤ vec_capacity opened
  pub ports_memory : 16 ≤ vec_capacity ports

-- ---- connections that are made before the first line is played

-- of all lines, those up to the ones that are left have their connections
pub record Prepared (all left : List ScriptLine) (waiting : List LinkView) (table : List ℕ) : Type 0 where
  pub once : lines_open_once left ≡ true
  pub order : conns waiting ++ opened_by left ≡ opened_by all
  pub apart : (place : ℕ) → place < length waiting → list_any (opens_line (slice_index_or (conns waiting) place 0)) left ≡ false
  pub fresh : EachFresh waiting
  pub fits : EachFits all waiting
  pub places : IsTable table (conns waiting)

-- a table has how many bytes the lines offer on each connection
pub record Offers (table : List ℕ) (lines : List ScriptLine) : Type 0 where
  pub all : length table ≡ 65536
  pub each : (conn default : ℕ) → conn < 65536 → slice_index_or table conn default ≡ sent_on conn lines

-- all connections of the lines are to open
pub record IsReady (lines : List ScriptLine) (slots : SlotsView) : Type 0 where
  pub links : slots.links ≡ []
  pub order : conns slots.waiting ≡ opened_by lines
  pub fresh : EachFresh slots.waiting
  pub fits : EachFits lines slots.waiting

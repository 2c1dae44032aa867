-- Which connections the table of a wire over sockets holds.
use Rattle.std.specs.Prelude.{ℕ, ◌≡◌, ◌≢◌, ◌==◌, Bool, true, false, Result, Ok, Option, Some, None}
use Rattle.slab.specs.Slab.{Slab, get}
use Rattle.wire_port.specs.declared.wire.Found.{Found}
use Rattle.wire_port.specs.declared.wire.Found.TheVariants as found
use Rattle.wire_port.specs.declared.wire.PollFault.{PollFault}
use Rattle.mio_wire.specs.declared.link.Link.{Link}
use Rattle.mio_wire.specs.declared.sockets.Seen.{Seen}
use Rattle.mio_wire.specs.declared.sockets.Seen.TheVariants as seen

-- a place of the table holds this connection
abbrev pub holds : ℕ → Option Link → Bool
holds conn None = false
holds conn (Some link) = link.conn == conn

-- no place of the table holds this connection
abbrev pub IsForgotten : ℕ → Slab Link → Type 0
IsForgotten conn table = (key : ℕ) → holds conn (get table key) ≡ false

-- the table holds no connection
abbrev pub IsEmpty : Slab Link → Type 0
IsEmpty table = (conn : ℕ) → IsForgotten conn table

-- every other connection is held where it was, and nowhere else
abbrev pub KeepsOthers : ℕ → Slab Link → Slab Link → Type 0
KeepsOthers conn old new = (other key : ℕ) → other ≢ conn → holds other (get new key) ≡ holds other (get old key)

-- every connection is held where it was, and nowhere else
abbrev pub KeepsAll : Slab Link → Slab Link → Type 0
KeepsAll old new = (conn key : ℕ) → holds conn (get new key) ≡ holds conn (get old key)

-- some place of the table holds this connection
abbrev pub IsHeld : ℕ → Slab Link → Type 0
IsHeld conn table = (key : ℕ) × (holds conn (get table key) ≡ true)

-- the table holds the connection at which something was seen; one that was accepted has this number
abbrev pub SeesHeld : ℕ → Slab Link → Option Seen → Type 0
SeesHeld number table (Some (seen.Accepted port)) = IsHeld number table
SeesHeld number table (Some (seen.Readable conn)) = IsHeld conn table
SeesHeld number table (Some (seen.Writable conn)) = IsHeld conn table
SeesHeld number table None = Unit {0}

-- the table holds the connection that a poll found
abbrev pub FindsHeld : Slab Link → Result Found PollFault → Type 0
FindsHeld table (Ok (found.Opened conn port)) = IsHeld conn table
FindsHeld table (Ok (found.Ready conn)) = IsHeld conn table
FindsHeld table (Ok (found.Room conn)) = IsHeld conn table
FindsHeld table _ = Unit {0}

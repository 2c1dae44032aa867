-- How the polls of a wire over sockets are limited, and how its connections are numbered.
use Rattle.std.specs.Prelude.{ℕ, zero, suc, ◌+◌, ◌≡◌, Bool, true, false, Result, Ok, Option, Some, None}
use Rattle.wire_port.specs.declared.wire.Found.{Found}
use Rattle.wire_port.specs.declared.wire.Found.TheVariants as found
use Rattle.wire_port.specs.declared.wire.PollFault.{PollFault}
use Rattle.mio_wire.specs.declared.sockets.Seen.{Seen}
use Rattle.mio_wire.specs.declared.sockets.Seen.TheVariants as seen

-- no poll is left before the end, where their number is limited
abbrev pub is_spent : Option ℕ → Bool
is_spent (Some zero) = true
is_spent _ = false

-- the polls that are left after one
abbrev pub one_fewer : Option ℕ → Option ℕ
one_fewer (Some (suc left)) = Some left
one_fewer left = left

-- a connection that opens has the next number, and the number behind it is then the next; with every other answer the next number stays
abbrev pub Numbers : ℕ → ℕ → Result Found PollFault → Type 0
Numbers next later (Ok (found.Opened conn port)) = (conn ≡ next) × (later ≡ next + 1)
Numbers next later _ = later ≡ next

-- what was seen at the sockets is what the poll found, where the next connection has this number
abbrev pub found_of : ℕ → Option Seen → Found
found_of next (Some (seen.Accepted port)) = found.Opened next port
found_of next (Some (seen.Readable conn)) = found.Ready conn
found_of next (Some (seen.Writable conn)) = found.Room conn
found_of next None = found.Nothing

-- What a wire makes of the results of the system's calls on sockets.
use Rattle.std.specs.Prelude.{ℕ, zero, suc, Bool, true, false, Result, Ok, Err, if◌then◌else◌}
use Rattle.std.specs.declared.io.Error.{Error}
use Rattle.std.specs.declared.io.ErrorKind.{ErrorKind}
use Rattle.std.specs.IoError.{error_kind}
use Rattle.wire_port.specs.declared.wire.Taken.{Taken}
use Rattle.wire_port.specs.declared.wire.Taken.TheVariants as taken
use Rattle.wire_port.specs.declared.wire.Given.{Given}
use Rattle.wire_port.specs.declared.wire.Given.TheVariants as given

-- a read or a write that failed so may go well later: it would have waited, or a signal broke in
abbrev pub is_later : ErrorKind → Bool
is_later ErrorKind.WouldBlock = true
is_later ErrorKind.Interrupted = true
is_later _ = false

-- an `accept` that failed so is no fault of the wire: nobody waits, or who waited went away
abbrev pub is_harmless : ErrorKind → Bool
is_harmless ErrorKind.WouldBlock = true
is_harmless ErrorKind.ConnectionAborted = true
is_harmless _ = false

-- the answer to a `take` whose read ended so; a read of no bytes is the end of what the peer sends
abbrev pub taken_of : Result ℕ Error → Taken
taken_of (Ok zero) = taken.Gone
taken_of (Ok (suc more)) = taken.Bytes (suc more)
taken_of (Err error) = if is_later (error_kind error) then taken.NotNow else taken.Gone

-- the answer to a `give` whose write ended so
abbrev pub given_of : Result ℕ Error → Given
given_of (Ok zero) = given.Gone
given_of (Ok (suc more)) = given.Bytes (suc more)
given_of (Err error) = if is_later (error_kind error) then given.NotNow else given.Gone

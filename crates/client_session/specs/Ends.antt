-- How the bytes of a session end it, over every cable.
use Rattle.std.specs.Prelude.{ℕ, ◌+◌, ◌≡◌, ◌⊎◌, Bool, List, [], ◌∷◌, ◌++◌}
use Rattle.std.specs.declared.option.Option.{Option}
use Rattle.std.specs.declared.option.Option.TheVariants.{None, Some}
use Rattle.bitbang_frame.specs.declared.Letter.{Letter}
use Rattle.bitbang_frame.specs.declared.Letter.TheVariants as letters
use Rattle.bitbang_frame.specs.Letters.{letter}
use Rattle.grant_table.specs.declared.Protocol.{Protocol}
use Rattle.grant_table.specs.declared.Protocol.TheVariants as protocols
use Rattle.xvc_frame.specs.Messages.{front, refused}
use Rattle.client_session.specs.declared.End.{End}
use Rattle.client_session.specs.declared.End.TheVariants as ends
use Rattle.client_session.specs.declared.Stop.{Stop}
use Rattle.client_session.specs.declared.Stop.TheVariants as stops
use Rattle.client_session.specs.declared.halt.Halt.{Halt}
use Rattle.client_session.specs.declared.halt.Halt.TheVariants.{Rests, Waits, Ends}
use Rattle.client_session.specs.Seats.{Next, next_xvc}
use Rattle.client_session.specs.Seats.Next.{RefusedAt}
use Rattle.client_session.specs.Sessions.{SessionView}
use Rattle.client_session.specs.Calls.{rest_end, stop_by}

-- in XVC 1.0 bytes that are refused end it at their place
abbrev pub next_end : ℕ → Next → Option End
next_end used (RefusedAt at cause) = Some (ends.Refused (used + at) cause)
next_end used _ = None

-- in remote_bitbang a byte ends it that is `Q` or no letter, or else one behind it may
abbrev pub letter_end : ℕ → Option Letter → (behind : Option End) → Option End
letter_end at None behind = Some (ends.Refused at 3)
letter_end at (Some letters.Quit) behind = Some (ends.Quit at)
letter_end at (Some letter) behind = behind

abbrev pub letters_end : ℕ → List ℕ → Option End
letters_end at [] = None
letters_end at (byte ∷ bytes) = letter_end at (letter byte) (letters_end (at + 1) bytes)

-- the end that bytes have behind those that are used
abbrev pub bytes_end : Protocol → (vector used : ℕ) → List ℕ → Option End
bytes_end protocols.Xvc vector used bytes = next_end used (next_xvc vector (front vector bytes) (refused vector bytes))
bytes_end protocols.Bitbang vector used bytes = letters_end used bytes

-- where a session does not wait, its bytes have brought it there
abbrev pub HaltsBy : Option End → Halt → Type 0
HaltsBy end Rests = end ≡ None
HaltsBy end Waits = Unit {0}
HaltsBy end (Ends how) = end ≡ Some how

-- how a call stops that uses all bytes: by the end that they have, at the most bytes, or where the peer is gone
abbrev pub used_stop : Option End → (gone : Bool) → (taken : ℕ) → Stop
used_stop (Some end) gone taken = stops.Ended end
used_stop None gone taken = stop_by (rest_end gone taken [])

-- a call waits, or stops as all bytes have it
abbrev pub StopsBy : Option End → (gone : Bool) → (taken : ℕ) → Stop → Type 0
StopsBy end gone taken stop = (stop ≡ stops.Waits) ⊎ (stop ≡ used_stop end gone taken)

-- the end that the bytes of a session have, with these behind them, as it shows them
abbrev pub view_end : SessionView → (piece : List ℕ) → Option End
view_end view piece = bytes_end view.protocol view.vector view.used (view.unused ++ piece)

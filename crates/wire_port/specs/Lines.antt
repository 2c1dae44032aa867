-- What a line of a script says, by its words, or the first cause for which it is refused.
use Rattle.std.specs.Prelude.{ℕ, ◌+◌, ◌*◌, ◌-◌, nat_le, Bool, true, false, not, ◌&&◌, ◌==◌, List, [], ◌∷◌, length, codes, if◌then◌else◌, Result, Ok, Err}
use Rattle.std.specs.Str.{bytes_eq, all_ascii_digits}
use Rattle.std.specs.declared.option.Option.{Option}
use Rattle.std.specs.declared.option.Option.TheVariants.{None, Some}
use Rattle.hex.specs.Hex.{decode_of}
use Rattle.hex.specs.declared.error.FromHexError.{FromHexError}
use Rattle.wire_port.specs.Offers.{ScriptLine}
use Rattle.wire_port.specs.Offers.ScriptLine.{Open, Send, Drop, Room}

-- one after the other, up to the first cause
abbrev pub and_then : {A B E : Type 0} → Result A E → (A → Result B E) → Result B E
and_then (Ok x) more = more x
and_then (Err cause) more = Err cause

-- cause 2: another number of words
abbrev pub one_word : List (List ℕ) → Result (List ℕ) ℕ
one_word (word ∷ []) = Ok word
one_word _ = Err 2

abbrev pub two_words : List (List ℕ) → Result (List ℕ × List ℕ) ℕ
two_words (first ∷ second ∷ []) = Ok (first, second)
two_words _ = Err 2

-- ---- cause 3: a number that is malformed or out of range

-- the number that digits go on to, the first of them the highest
abbrev pub value_from : ℕ → List ℕ → ℕ
value_from value [] = value
value_from value (byte ∷ bytes) = value_from (10 * value + (byte - 48)) bytes

-- at least one digit, and none is a 0 before others
abbrev pub leads_well : List ℕ → Bool
leads_well [] = false
leads_well (byte ∷ []) = true
leads_well (byte ∷ _) = not (byte == 48)

-- digits without leading zeros; no number that stands in a script has more than seven
abbrev pub is_plain : List ℕ → Bool
is_plain word = nat_le (length word) 7 && leads_well word && all_ascii_digits word

-- a number from `low` to `high` in decimal
abbrev pub number : ℕ → ℕ → List ℕ → Result ℕ ℕ
number low high word = if is_plain word && nat_le low (value_from 0 word) && nat_le (value_from 0 word) high then Ok (value_from 0 word) else Err 3

-- ---- cause 4: what is not one byte or more, each in two digits of hex

abbrev pub some_bytes : Result (List ℕ) FromHexError → Result (List ℕ) ℕ
some_bytes (Ok (byte ∷ bytes)) = Ok (byte ∷ bytes)
some_bytes _ = Err 4

abbrev pub hex : List ℕ → Result (List ℕ) ℕ
hex word = some_bytes (decode_of word)

-- ---- lines

abbrev pub connection : List ℕ → Result ℕ ℕ
connection word = number 1 65535 word

abbrev pub open_line : List (List ℕ) → Result ScriptLine ℕ
open_line words =
    and_then (two_words words) (λ pair.
    and_then (connection pair.0) (λ conn.
    and_then (number 0 65535 pair.1) (λ port.
    Ok (Open conn port))))

abbrev pub send_line : List (List ℕ) → Result ScriptLine ℕ
send_line words =
    and_then (two_words words) (λ pair.
    and_then (connection pair.0) (λ conn.
    and_then (hex pair.1) (λ bytes.
    Ok (Send conn bytes))))

abbrev pub drop_line : List (List ℕ) → Result ScriptLine ℕ
drop_line words = and_then (one_word words) (λ word. and_then (connection word) (λ conn. Ok (Drop conn)))

-- `all`, or a number
abbrev pub room : List ℕ → Result (Option ℕ) ℕ
room word = if bytes_eq word (codes "all") then Ok None else and_then (number 0 1000000 word) (λ count. Ok (Some count))

abbrev pub room_line : List (List ℕ) → Result ScriptLine ℕ
room_line words =
    and_then (two_words words) (λ pair.
    and_then (connection pair.0) (λ conn.
    and_then (room pair.1) (λ count.
    Ok (Room conn count))))

-- the line that begins with this word; cause 1: it is none of the four
abbrev pub line_said : List ℕ → List (List ℕ) → Result ScriptLine ℕ
line_said command words =
    if bytes_eq command (codes "open") then open_line words else
    if bytes_eq command (codes "send") then send_line words else
    if bytes_eq command (codes "drop") then drop_line words else
    if bytes_eq command (codes "room") then room_line words else
    Err 1

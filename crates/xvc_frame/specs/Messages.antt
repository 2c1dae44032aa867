-- The messages of Xilinx Virtual Cable 1.0 (XVC 1.0). `vector` is the vector length that the reply to `getinfo:` announces, in bytes.
use Rattle.std.specs.Prelude.{◌≡◌, ◌≤◌, ◌<◌, ◌^◌, ◌⊎◌, ℕ, suc, ◌+◌, ◌-◌, ◌*◌, max, Bool, true, false, ◌&&◌, ◌||◌, ◌==◌, nat_le, nat_lt, List, [], ◌∷◌, ◌++◌, take, drop, length, if◌then◌else◌, codes}
use Rattle.std.specs.List.{All}
use Rattle.std.specs.declared.option.Option.{Option}
use Rattle.std.specs.declared.option.Option.TheVariants.{None, Some}
use Rattle.scan_bits.specs.Words.{number_of_bytes, bytes_of, unpacked, packed, byte_count}

-- ---- the messages

-- a message; a `shift:` has one bit of TMS and one of TDI for each cycle
pub data Message : Type 0 where
  GetInfo : Message
  SetTck : (period : ℕ) → Message
  Shift : (tms tdi : List Bool) → Message

-- asks for the version and the vector length (XVC 1.0)
abbrev pub getinfo_word : List ℕ
getinfo_word = codes "getinfo:"

-- asks for a period of TCK, in nanoseconds (XVC 1.0)
abbrev pub settck_word : List ℕ
settck_word = codes "settck:"

-- asks for cycles of TCK with TMS and TDI bits (XVC 1.0)
abbrev pub shift_word : List ℕ
shift_word = codes "shift:"

-- a `shift:` of so many cycles with its two vectors, spare bits as they stand
abbrev pub encoded_shift : ℕ → List ℕ → List ℕ → List ℕ
encoded_shift count tms tdi = shift_word ++ bytes_of 4 count ++ tms ++ tdi

-- the bytes are a vector of these bits (XVC 1.0): the fewest bytes that hold them, the first bit lowest in the first byte; spare bits are free
abbrev pub IsVector : List Bool → List ℕ → Type 0
IsVector bits bytes = (length bytes ≡ byte_count (length bits)) × (take (length bits) (unpacked bytes) ≡ bits)

-- the bytes are a `shift:` of these bits (XVC 1.0): the word, the number of cycles in four bytes, the TMS vector and the TDI vector
pub record IsShift (vector : ℕ) (tms tdi : List Bool) (bytes : List ℕ) : Type 0 where
  pub tms_bytes : List ℕ
  pub tdi_bytes : List ℕ
  pub bytes_are : bytes ≡ encoded_shift (length tms) tms_bytes tdi_bytes
  pub within : length tms ≤ 8 * vector
  pub four_bytes : length tms < 2 ^ 32
  pub one_each : length tdi ≡ length tms
  pub tms_are : IsVector tms tms_bytes
  pub tdi_are : IsVector tdi tdi_bytes

-- the bytes are this message, and nothing stands behind it (XVC 1.0)
abbrev pub IsMessage : ℕ → Message → List ℕ → Type 0
IsMessage vector GetInfo bytes = bytes ≡ getinfo_word
IsMessage vector (SetTck period) bytes = (period < 2 ^ 32) × (bytes ≡ settck_word ++ bytes_of 4 period)
IsMessage vector (Shift tms tdi) bytes = IsShift vector tms tdi bytes

-- each is a byte
abbrev pub AreBytes : List ℕ → Type 0
AreBytes bytes = All (λ byte. byte < 256) bytes

-- the bytes of a message (XVC 1.0), spare bits 0
abbrev pub encoded : Message → List ℕ
encoded GetInfo = getinfo_word
encoded (SetTck period) = settck_word ++ bytes_of 4 period
encoded (Shift tms tdi) = shift_word ++ bytes_of 4 (length tms) ++ packed tms ++ packed tdi

-- the bytes of a message from its parts, the vectors of a `shift:` taken from these bytes with their spare bits
abbrev pub encoded_from : List ℕ → Message → List ℕ
encoded_from bytes GetInfo = encoded GetInfo
encoded_from bytes (SetTck period) = encoded (SetTck period)
encoded_from bytes (Shift tms tdi) = encoded_shift (length tms) (take (byte_count (length tms)) (drop 10 bytes)) (drop (10 + byte_count (length tms)) bytes)

-- the numbers of a message fit their fields, and a `shift:` fits the vector
abbrev pub Fits : ℕ → Message → Type 0
Fits vector GetInfo = Unit {0}
Fits vector (SetTck period) = period < 2 ^ 32
Fits vector (Shift tms tdi) = (length tms ≤ 8 * vector) × (length tms < 2 ^ 32) × (length tdi ≡ length tms)

-- ---- what is refused

-- one of the three words of XVC 1.0
abbrev pub IsWord : List ℕ → Type 0
IsWord word = (word ≡ getinfo_word) ⊎ ((word ≡ settck_word) ⊎ (word ≡ shift_word))

-- the bytes are the front of a word, and not the whole of it
pub record IsBegun (bytes : List ℕ) : Type 0 where
  pub word : List ℕ
  pub is_word : IsWord word
  pub rest : List ℕ
  pub goes_on : word ≡ bytes ++ rest
  pub proper : 0 < length rest

-- the byte at this place is the first that goes on with no word
pub record IsStray (bytes : List ℕ) (at : ℕ) : Type 0 where
  pub there : at < length bytes
  pub begun : IsBegun (take at bytes)
  pub stray : (word rest : List ℕ) → IsWord word → ¬ (word ≡ take (at + 1) bytes ++ rest)

-- the bytes begin with a `shift:` of more cycles than the vector has bits
pub record IsTooLong (vector : ℕ) (bytes : List ℕ) : Type 0 where
  pub number : List ℕ
  pub rest : List ℕ
  pub bytes_are : bytes ≡ shift_word ++ number ++ rest
  pub four_bytes : length number ≡ 4
  pub too_many : 8 * vector < number_of_bytes number

-- the bytes are refused at this place: for cause 1 where no word goes on, for cause 2 at the number of cycles, which begins at 6
abbrev pub IsRefused : ℕ → List ℕ → ℕ → ℕ → Type 0
IsRefused vector bytes at cause = ((cause ≡ 1) × IsStray bytes at) ⊎ ((cause ≡ 2) × (at ≡ 6) × IsTooLong vector bytes)

-- ---- reading from the front, as it is computed

-- the bytes begin with the word
abbrev pub begins : List ℕ → List ℕ → Bool
begins [] bytes = true
begins (letter ∷ word) [] = false
begins (letter ∷ word) (byte ∷ bytes) = (letter == byte) && begins word bytes

-- how many bytes from the front the word and the bytes share
abbrev pub shared : List ℕ → List ℕ → ℕ
shared [] bytes = 0
shared (letter ∷ word) [] = 0
shared (letter ∷ word) (byte ∷ bytes) = if letter == byte then suc (shared word bytes) else 0

-- the number of cycles that the length bytes behind `shift:` say, as far as they are there
abbrev pub cycle_count : List ℕ → ℕ
cycle_count bytes = number_of_bytes (take 4 (drop 6 bytes))

-- `shift:` stands at the front, with its four length bytes
abbrev pub announces : List ℕ → Bool
announces bytes = begins shift_word bytes && nat_le 10 (length bytes)

-- the length of the message at the front, where the bytes tell it
abbrev pub message_length : ℕ → List ℕ → Option ℕ
message_length vector bytes =
    if begins getinfo_word bytes then Some 8 else
    (if begins settck_word bytes then Some 11 else
    (if announces bytes && nat_le (cycle_count bytes) (8 * vector) then Some (10 + 2 * byte_count (cycle_count bytes)) else None))

-- the `shift:` of so many cycles that has these two vectors
abbrev pub shift_message : ℕ → List ℕ → Message
shift_message count vectors = Shift (take count (unpacked (take (byte_count count) vectors))) (take count (unpacked (take (byte_count count) (drop (byte_count count) vectors))))

-- the message that bytes of its length spell; spare bits are free
abbrev pub message_of : List ℕ → Message
message_of bytes =
    if begins getinfo_word bytes then GetInfo else
    (if begins settck_word bytes then SetTck (number_of_bytes (take 4 (drop 7 bytes))) else
    shift_message (cycle_count bytes) (drop 10 bytes))

-- a message and how many bytes it takes
pub record Framed : Type 0 where
  pub message : Message
  pub bytes : ℕ

-- the message of a length at the front, where it is whole
abbrev pub whole_at_front : Option ℕ → List ℕ → Option Framed
whole_at_front None bytes = None
whole_at_front (Some count) bytes = if nat_le count (length bytes) then Some (record { message = message_of (take count bytes); bytes = count }) else None

-- the message that the bytes begin with
abbrev pub front : ℕ → List ℕ → Option Framed
front vector bytes = whole_at_front (message_length vector bytes) bytes

-- the reading of the bytes finds this message, and nothing behind it
abbrev pub IsFramed : ℕ → Message → List ℕ → Type 0
IsFramed vector message bytes = front vector bytes ≡ Some (record { message = message; bytes = length bytes })

-- where bytes are refused, and why: 1 where no word goes on, 2 where the length exceeds the vector
pub record Refusal : Type 0 where
  pub at : ℕ
  pub cause : ℕ

-- one of the three words stands at the front
abbrev pub has_word : List ℕ → Bool
has_word bytes = begins getinfo_word bytes || (begins settck_word bytes || begins shift_word bytes)

-- how many bytes from the front go on with some word
abbrev pub furthest : List ℕ → ℕ
furthest bytes = max (shared getinfo_word bytes) (max (shared settck_word bytes) (shared shift_word bytes))

-- the refusal that the bytes bring
abbrev pub refused : ℕ → List ℕ → Option Refusal
refused vector bytes =
    if has_word bytes
    then (if announces bytes && nat_lt (8 * vector) (cycle_count bytes) then Some (record { at = 6; cause = 2 }) else None)
    else (if nat_lt (furthest bytes) (length bytes) then Some (record { at = furthest bytes; cause = 1 }) else None)

-- ---- how much is wanted

-- a word and the length of the shortest message that begins with it
pub record Opening : Type 0 where
  pub word : List ℕ
  pub shortest : ℕ

-- the three words, the shortest message's first: `getinfo:` alone, `shift:` with the number of cycles, `settck:` with the period
abbrev pub openings : List Opening
openings = record { word = getinfo_word; shortest = 8 } ∷ record { word = shift_word; shortest = 10 } ∷ record { word = settck_word; shortest = 11 } ∷ []

-- the bytes and the word are the same as far as both go
abbrev pub agrees : List ℕ → List ℕ → Bool
agrees bytes word = begins bytes word || begins word bytes

-- the shortest message of the first word with which the bytes agree
abbrev pub shortest_among : List Opening → List ℕ → ℕ
shortest_among [] bytes = 0
shortest_among (opening ∷ more) bytes = if agrees bytes opening.word then opening.shortest else shortest_among more bytes

-- the length of the shortest message that begins with these bytes: a number of cycles that is there in part is filled up with zeros.
-- Where that part exceeds the vector already there is none, and 10 is where the number ends
abbrev pub shortest : ℕ → List ℕ → ℕ
shortest vector bytes =
    if begins shift_word bytes
    then (if nat_le (cycle_count bytes) (8 * vector) then 10 + 2 * byte_count (cycle_count bytes) else 10)
    else shortest_among openings bytes

-- how many bytes are wanted next: the fewest that complete a message
abbrev pub want : ℕ → List ℕ → ℕ
want vector bytes = shortest vector bytes - length bytes

-- so many bytes behind these complete a message
pub record Completes (vector : ℕ) (bytes : List ℕ) (count : ℕ) : Type 0 where
  pub more : List ℕ
  pub message : Message
  pub is_message : IsMessage vector message (bytes ++ more)
  pub count_is : length more ≡ count

-- no message begins with these bytes, though they are not refused yet: the first bytes of a number of cycles exceed the vector
pub record ExceedsEarly (vector : ℕ) (bytes : List ℕ) : Type 0 where
  pub at_shift : begins shift_word bytes ≡ true
  pub in_number : length bytes < 10
  pub too_many : 8 * vector < cycle_count bytes

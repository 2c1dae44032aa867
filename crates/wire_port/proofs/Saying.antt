-- What words say is read.
use Rattle.std.proofs.Common.{◌≡◌, ◌^◌, ◌≤◌, ◌<◌, ℕ, zero, suc, Bool, true, false, not, ◌&&◌, List, [], ◌∷◌, ◌++◌, length, nat_le, get_or, ap, ◌∙◌, sym, refl, arith, if◌then◌else◌, codes, subst, Result, Ok, Err}
use Rattle.std.proofs.lemmas.Bool.{le-leb}
use Rattle.std.proofs.lemmas.Slice.Eq.{bytes_eq-Decides}
use Rattle.std.proofs.lemmas.Fmt.{digits_decimal, digits_value-decimal, first_decimal, length-decimal-le, decimal_digit}
use Rattle.std.specs.Fmt.{decimal}
use Rattle.std.specs.Str.{bytes_eq, all_ascii_digits}
use Rattle.std.specs.declared.option.Option.{Option}
use Rattle.std.specs.declared.option.Option.TheVariants.{None, Some}
use Rattle.wire_port.specs.Offers.{ScriptLine}
use Rattle.wire_port.specs.Offers.ScriptLine.{Open, Send, Drop, Room}
use Rattle.wire_port.specs.Words.{is_passed_over}
use Rattle.wire_port.specs.Lines.{and_then, value_from, leads_well, is_plain, number, some_bytes, hex, connection, room, line_said}
use Rattle.wire_port.specs.Scripts.{may_follow_at, behind, after_words}
use Rattle.wire_port.specs.Format.{IsNumber, IsHex, IsRoom, IsLine, MayFollow}
use Rattle.wire_port.proofs.Changing.{apart}
use Rattle.wire_port.proofs.Forms.{own}

-- ---- numbers

leads_nonzero : (word : List ℕ) → 48 < get_or word 0 0 → leads_well word ≡ true
leads_nonzero [] more = absurd (omega (arith, more))
leads_nonzero (byte ∷ []) more = refl
leads_nonzero (byte ∷ next ∷ word) more = ap not (apart byte 48 (λ same. absurd (omega (arith, more, same))))

decimal_leads : (n : ℕ) → n < 2 ^ 64 → leads_well (decimal n) ≡ true
decimal_leads zero fits = subst (λ (word : List ℕ). leads_well word ≡ true) (sym (decimal_digit 0 (omega arith))) refl
decimal_leads (suc n) fits = leads_nonzero (decimal (suc n)) (first_decimal (suc n) (omega arith) fits)

decimal_plain : (n : ℕ) → n ≤ 1000000 → is_plain (decimal n) ≡ true
decimal_plain n few =
    let fits : n < 2 ^ 64 = omega (arith, few) in
    let short : nat_le (length (decimal n)) 7 ≡ true = le-leb (length (decimal n)) 7 (length-decimal-le 7 n (omega arith) (omega (arith, few)) fits) in
    let digits : all_ascii_digits (decimal n) ≡ true = digits_decimal own n fits in
    let leads : leads_well (decimal n) ≡ true = decimal_leads n fits in
    λ i. short i && leads i && digits i

pub number_read : (low high : ℕ) (word : List ℕ) (n : ℕ) → high ≤ 1000000 → IsNumber low high word n → number low high word ≡ Ok n
number_read low high word n few is =
    subst (λ (w : List ℕ). number low high w ≡ Ok n) (sym is.is) (λ i. if plain i && above i && below i then Ok (value i) else Err 3)
  where
    le : n ≤ 1000000
    le = omega (arith, few, is.no_more)

    plain : is_plain (decimal n) ≡ true
    plain = decimal_plain n le

    value : value_from 0 (decimal n) ≡ n
    value = digits_value-decimal own n (omega (arith, le))

    above : nat_le low (value_from 0 (decimal n)) ≡ true
    above = ap (nat_le low) value ∙ le-leb low n is.no_less

    below : nat_le (value_from 0 (decimal n)) high ≡ true
    below = ap (λ (v : ℕ). nat_le v high) value ∙ le-leb n high is.no_more

-- ---- bytes

some_read : (bytes : List ℕ) → 1 ≤ length bytes → some_bytes (Ok bytes) ≡ Ok bytes
some_read [] some = absurd (omega (arith, some))
some_read (byte ∷ bytes) some = refl

pub hex_read : (word bytes : List ℕ) → IsHex word bytes → hex word ≡ Ok bytes
hex_read word bytes is = ap some_bytes is.is ∙ some_read bytes is.some

-- ---- rooms

not_all : (word : List ℕ) → all_ascii_digits word ≡ true → bytes_eq word (codes "all") ≡ false
not_all word digits = go (bytes_eq word (codes "all")) refl
  where
    go : (t : Bool) → bytes_eq word (codes "all") ≡ t → t ≡ false
    go true is =
        let no : all_ascii_digits (codes "all") ≡ true = subst (λ (w : List ℕ). all_ascii_digits w ≡ true) ((bytes_eq-Decides word (codes "all")).0 is) digits in
        absurd (cc no)
    go false is = refl

pub room_read : (word : List ℕ) (count : Option ℕ) → IsRoom word count → room word ≡ Ok count
room_read word None is = subst (λ (w : List ℕ). room w ≡ Ok None) (sym is) refl
room_read word (Some count) is =
    let digits : all_ascii_digits word ≡ true = subst (λ (w : List ℕ). all_ascii_digits w ≡ true) (sym is.is) (digits_decimal own count (omega (arith, is.no_more))) in
    ap (λ (t : Bool). if t then Ok None else and_then (number 0 1000000 word) (λ n. Ok (Some n))) (not_all word digits)
    ∙ ap (λ (read : Result ℕ ℕ). and_then read (λ n. Ok (Some n))) (number_read 0 1000000 word count (omega arith) is)

-- ---- lines

command_read : {V : Type 0} (read : List ℕ → Result V ℕ) (line : ℕ → V → ScriptLine) (name word : List ℕ) (conn : ℕ) (value : V) → IsNumber 1 65535 name conn → read word ≡ Ok value
    → and_then (connection name) (λ c. and_then (read word) (λ v. Ok (line c v))) ≡ Ok (line conn value)
command_read read line name word conn value is_conn is =
    ap (λ r. and_then r (λ c. and_then (read word) (λ v. Ok (line c v)))) (number_read 1 65535 name conn (omega arith) is_conn) ∙ ap (λ r. and_then r (λ v. Ok (line conn v))) is

drop_read : (name : List ℕ) (conn : ℕ) → IsNumber 1 65535 name conn → and_then (connection name) (λ c. Ok (Drop c)) ≡ Ok (Drop conn)
drop_read name conn is = ap (λ r. and_then r (λ c. Ok (Drop c))) (number_read 1 65535 name conn (omega arith) is)

pub line_read : (before : List ScriptLine) (words : List (List ℕ)) (line : ScriptLine) → IsLine words line → after_words before words ≡ behind before line
line_read before words (Open conn port) is =
    subst (λ (all : List (List ℕ)). after_words before all ≡ behind before (Open conn port)) (sym is.are)
    (ap (λ read. and_then read (behind before)) (command_read (number 0 65535) Open is.name is.value conn port is.is_name (number_read 0 65535 is.value port (omega arith) is.such)))
line_read before words (Send conn bytes) is =
    subst (λ (all : List (List ℕ)). after_words before all ≡ behind before (Send conn bytes)) (sym is.are)
    (ap (λ read. and_then read (behind before)) (command_read hex Send is.name is.value conn bytes is.is_name (hex_read is.value bytes is.such)))
line_read before words (Drop conn) is =
    subst (λ (all : List (List ℕ)). after_words before all ≡ behind before (Drop conn)) (sym is.are)
    (ap (λ read. and_then read (behind before)) (drop_read is.name conn is.is_name))
line_read before words (Room conn count) is =
    subst (λ (all : List (List ℕ)). after_words before all ≡ behind before (Room conn count)) (sym is.are)
    (ap (λ read. and_then read (behind before)) (command_read room Room is.name is.value conn count is.is_name (room_read is.value count is.such)))

pub follows_read : (before : List ScriptLine) (line : ScriptLine) → MayFollow before line → behind before line ≡ Ok (before ++ line ∷ [])
follows_read before (Open conn port) is = ap (λ stand. and_then (may_follow_at stand (Open conn port)) (λ _. Ok (before ++ Open conn port ∷ []))) is
follows_read before (Send conn bytes) is = ap (λ stand. and_then (may_follow_at stand (Send conn bytes)) (λ _. Ok (before ++ Send conn bytes ∷ []))) is
follows_read before (Drop conn) is = ap (λ stand. and_then (may_follow_at stand (Drop conn)) (λ _. Ok (before ++ Drop conn ∷ []))) is
follows_read before (Room conn count) is = ap (λ stand. and_then (may_follow_at stand (Room conn count)) (λ _. Ok (before ++ Room conn count ∷ []))) is

pub passed_read : (before : List ScriptLine) (words : List (List ℕ)) → is_passed_over words ≡ true → after_words before words ≡ Ok before
passed_read before [] is = refl
passed_read before (word ∷ words) is = ap (λ (t : Bool). if t then Ok before else and_then (line_said word words) (behind before)) is

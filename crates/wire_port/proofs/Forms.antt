-- A line is read as what its words say.
use Rattle.std.proofs.Common.{◌≡◌, ◌^◌, ◌≤◌, ◌<◌, ℕ, Bool, true, false, not, ◌&&◌, List, [], ◌∷◌, length, nat_eq, nat_le, get_or, ap, ◌∙◌, sym, refl, arith, rules, if◌then◌else◌, codes, subst, Result, Ok, Err, IfOk}
use Rattle.std.proofs.lemmas.Bool.{leb-true}
use Rattle.std.proofs.lemmas.Slice.Eq.{bytes_eq-Decides}
use Rattle.std.proofs.lemmas.Str.Parse.{IsNumeralModel, numerals_by_fold}
use Rattle.std.proofs.lemmas.Fmt.{decimal-digits_value}
use Rattle.std.specs.Str.{bytes_eq, all_ascii_digits}
use Rattle.std.specs.declared.option.Option.TheVariants.{None, Some}
use Rattle.hex.specs.Hex.{decode_of}
use Rattle.hex.specs.declared.error.FromHexError.{FromHexError}
use Rattle.wire_port.specs.Offers.{ScriptLine}
use Rattle.wire_port.specs.Offers.ScriptLine.{Open, Send, Room}
use Rattle.wire_port.specs.Lines.{and_then, one_word, two_words, value_from, leads_well, is_plain, number, some_bytes, hex, connection, open_line, send_line, drop_line, room, room_line, line_said}
use Rattle.wire_port.specs.Format.{IsNumber, IsHex, IsRoom, IsCommand, IsLine}

-- ---- one after the other

pub chained : {A B E : Type 0} (said : A → Type 0) (good : B → Type 0) (first : Result A E) (more : A → Result B E) → IfOk first said → ((x : A) → said x → IfOk (more x) good) → IfOk (and_then first more) good
chained said good (Ok x) more one each = each x one
chained said good (Err cause) more one each = tt

tested : {A E : Type 0} (good : A → Type 0) (test : Bool) (x y : Result A E) → (test ≡ true → IfOk x good) → (test ≡ false → IfOk y good) → IfOk (if test then x else y) good
tested good true x y one other = one refl
tested good false x y one other = other refl

pub said_by : {A E : Type 0} (good : A → Type 0) (read : Result A E) (x : A) → read ≡ Ok x → IfOk read good → good x
said_by good read x is means = subst (λ r. IfOk r good) is means

both : (a b : Bool) → (a && b) ≡ true → (a ≡ true) × (b ≡ true)
both true b is = (refl, is)
both false b is = absurd (cc is)

-- ---- numbers

pub own : IsNumeralModel (λ digits. all_ascii_digits digits ≡ true) (value_from 0)
own = numerals_by_fold _ (search rules) value_from (search rules)

leads_some : (word : List ℕ) → leads_well word ≡ true → 0 < length word
leads_some [] is = absurd (cc is)
leads_some (byte ∷ word) is = omega arith

leads_alone : (word : List ℕ) → leads_well word ≡ true → get_or word 0 0 ≡ 48 → length word ≡ 1
leads_alone [] is zero_first = absurd (cc is)
leads_alone (byte ∷ []) is zero_first = refl
leads_alone (byte ∷ next ∷ word) is zero_first = absurd (cc (sym is ∙ ap (λ b. not (nat_eq b 48)) zero_first))

pub number_said : (low high : ℕ) (word : List ℕ) → high < 2 ^ 32 → IfOk (number low high word) (IsNumber low high word)
number_said low high word fits =
    tested (IsNumber low high word) (is_plain word && nat_le low (value_from 0 word) && nat_le (value_from 0 word) high) (Ok (value_from 0 word)) (Err 3)
    (λ is.
    let parts = both (is_plain word && nat_le low (value_from 0 word)) (nat_le (value_from 0 word) high) is in
    let front = both (is_plain word) (nat_le low (value_from 0 word)) parts.0 in
    let plain = both (nat_le (length word) 7 && leads_well word) (all_ascii_digits word) front.0 in
    let leads = both (nat_le (length word) 7) (leads_well word) plain.0 in
    let above : low ≤ value_from 0 word = leb-true low (value_from 0 word) front.1 in
    let below : value_from 0 word ≤ high = leb-true (value_from 0 word) high parts.1 in
    record {
      is = sym (decimal-digits_value own word plain.1 (leads_some word leads.1) (leads_alone word leads.1) (omega (arith, below, fits)));
      no_less = above;
      no_more = below;
    })
    (λ _. tt)

conn_said : (word : List ℕ) → IfOk (connection word) (IsNumber 1 65535 word)
conn_said word = number_said 1 65535 word (omega arith)

-- ---- bytes

bytes_said : (word : List ℕ) (read : Result (List ℕ) FromHexError) → decode_of word ≡ read → IfOk (some_bytes read) (IsHex word)
bytes_said word (Ok []) is = tt
bytes_said word (Ok (byte ∷ bytes)) is = record { is = is; some = omega arith }
bytes_said word (Err fault) is = tt

pub hex_said : (word : List ℕ) → IfOk (hex word) (IsHex word)
hex_said word = bytes_said word (decode_of word) refl

-- ---- words

same : (word name : List ℕ) → bytes_eq word name ≡ true → word ≡ name
same word name is = (bytes_eq-Decides word name).0 is

one_said : (words : List (List ℕ)) → IfOk (one_word words) (λ word. words ≡ word ∷ [])
one_said [] = tt
one_said (word ∷ []) = refl
one_said (word ∷ next ∷ words) = tt

two_said : (words : List (List ℕ)) → IfOk (two_words words) (λ pair. words ≡ pair.0 ∷ pair.1 ∷ [])
two_said [] = tt
two_said (word ∷ []) = tt
two_said (word ∷ next ∷ []) = refl
two_said (word ∷ next ∷ third ∷ words) = tt

-- a command with a connection and a third word
command_said : {V : Type 0} (name command : List ℕ) (words : List (List ℕ)) (read : List ℕ → Result V ℕ) (is_value : List ℕ → V → Type 0) (line : ℕ → V → ScriptLine)
    → command ≡ name → ((word : List ℕ) → IfOk (read word) (is_value word))
    → ((conn : ℕ) (value : V) → IsCommand (command ∷ words) name conn (λ word. is_value word value) → IsLine (command ∷ words) (line conn value))
    → IfOk (and_then (two_words words) (λ pair. and_then (connection pair.0) (λ conn. and_then (read pair.1) (λ value. Ok (line conn value))))) (IsLine (command ∷ words))
command_said name command words read is_value line is reads made =
    chained (λ pair. words ≡ pair.0 ∷ pair.1 ∷ []) (IsLine (command ∷ words)) (two_words words) _ (two_said words) (λ pair are.
    chained (IsNumber 1 65535 pair.0) (IsLine (command ∷ words)) (connection pair.0) _ (conn_said pair.0) (λ conn is_conn.
    chained (is_value pair.1) (IsLine (command ∷ words)) (read pair.1) _ (reads pair.1) (λ value is_such.
    made conn value (record { name = pair.0; value = pair.1; are = (λ i. is i ∷ are i); is_name = is_conn; such = is_such }))))

room_said : (word : List ℕ) → IfOk (room word) (IsRoom word)
room_said word =
    tested (IsRoom word) (bytes_eq word (codes "all")) (Ok None) (and_then (number 0 1000000 word) (λ count. Ok (Some count)))
    (λ is. same word (codes "all") is)
    (λ _. chained (IsNumber 0 1000000 word) (IsRoom word) (number 0 1000000 word) _ (number_said 0 1000000 word (omega arith)) (λ count is. is))

drop_said : (command : List ℕ) (words : List (List ℕ)) → command ≡ codes "drop" → IfOk (drop_line words) (IsLine (command ∷ words))
drop_said command words is =
    chained (λ word. words ≡ word ∷ []) (IsLine (command ∷ words)) (one_word words) _ (one_said words) (λ word are.
    chained (IsNumber 1 65535 word) (IsLine (command ∷ words)) (connection word) _ (conn_said word) (λ conn is_conn.
    record { name = word; are = (λ i. is i ∷ are i); is_name = is_conn }))

-- a line that is read is what the words say
pub line_is_said : (command : List ℕ) (words : List (List ℕ)) → IfOk (line_said command words) (IsLine (command ∷ words))
line_is_said command words =
    tested (IsLine (command ∷ words)) (bytes_eq command (codes "open")) (open_line words) _
    (λ is. command_said (codes "open") command words (number 0 65535) (λ word port. IsNumber 0 65535 word port) Open (same command _ is) (λ word. number_said 0 65535 word (omega arith)) (λ conn port made. made))
    (λ _. tested (IsLine (command ∷ words)) (bytes_eq command (codes "send")) (send_line words) _
    (λ is. command_said (codes "send") command words hex (λ word bytes. IsHex word bytes) Send (same command _ is) hex_said (λ conn bytes made. made))
    (λ _. tested (IsLine (command ∷ words)) (bytes_eq command (codes "drop")) (drop_line words) _
    (λ is. drop_said command words (same command _ is))
    (λ _. tested (IsLine (command ∷ words)) (bytes_eq command (codes "room")) (room_line words) (Err 1)
    (λ is. command_said (codes "room") command words room (λ word count. IsRoom word count) Room (same command _ is) room_said (λ conn count made. made))
    (λ _. tt))))

-- Replies are short: three bytes at most for each byte of a message, and one for a letter.
use Rattle.std.proofs.Common.{◌≡◌, ℕ, zero, suc, ◌+◌, ◌*◌, ◌/◌, ◌≤◌, Bool, true, false, cond, List, [], ◌∷◌, ◌++◌, length, take, drop, refl, ap, subst, arith, length-append, length-take, length-drop, Some, None, nat_le}
use Rattle.std.specs.Prelude.{codes}
use Rattle.std.specs.Fmt.{decimal}
use Rattle.std.specs.declared.option.Option.{Option}
use Rattle.std.proofs.lemmas.Fmt.{length-decimal-le}
use Rattle.scan_bits.specs.Words.{unpacked, byte_count, bytes_of, number_of_bytes}
use Rattle.xvc_frame.specs.Messages.{Framed, begins, getinfo_word, settck_word, cycle_count, message_length, message_of, shift_message, whole_at_front, front}
use Rattle.bitbang_frame.specs.declared.Letter.{Letter}
use Rattle.bitbang_frame.specs.declared.Letter.TheVariants.{Lines, Read, Quit, Light, Reset}
use Rattle.client_session.specs.Acts.{shift_acts, message_acts, letter_acts, info}
use Rattle.client_session.specs.Laws.{reply_bytes, IsShortVector}
use Rattle.client_session.proofs.Sizes.{length-unpacked, message_long}

length-bytes_of : (count value : ℕ) → length (bytes_of count value) ≡ count
length-bytes_of zero value = refl
length-bytes_of (suc count) value = ap suc (length-bytes_of count (value / 256))

-- fifteen letters, the digits, and a newline
info_short : (vector : ℕ) → IsShortVector vector → length (info vector) ≤ 24
info_short vector short =
    let digits : length (decimal vector) ≤ 8 = length-decimal-le 8 vector (omega arith) short (omega (arith, short)) in
    omega (arith, digits, length-append (codes "xvcServer_v1.0:") (decimal vector ++ 10 ∷ []), length-append (decimal vector) (10 ∷ []))

shift_reply : (noted : ℕ) (tms tdi : List Bool) → reply_bytes noted (shift_acts tms tdi) ≤ byte_count (noted + length tms)
shift_reply noted [] tdi = omega arith
shift_reply noted (a ∷ tms) [] = omega arith
shift_reply noted (a ∷ tms) (b ∷ tdi) = omega (arith, shift_reply (suc noted) tms tdi)

-- a `shift:` replies as many bytes as one of its vectors has
vectors_reply : (vector count : ℕ) (vectors : List ℕ) → reply_bytes 0 (message_acts vector (shift_message count vectors)) ≤ length vectors
vectors_reply vector count vectors =
    let tms_bytes = take (byte_count count) vectors in
    let tms = take count (unpacked tms_bytes) in
    let tdi = take count (unpacked (take (byte_count count) (drop (byte_count count) vectors))) in
    let a : length tms ≤ length (unpacked tms_bytes) = omega (arith, length-take count (unpacked tms_bytes)) in
    let b : length tms_bytes ≤ length vectors = omega (arith, length-take (byte_count count) vectors) in
    omega (arith, shift_reply 0 tms tdi, a, b, length-unpacked tms_bytes)

message_reply : (vector count : ℕ) (bytes : List ℕ) → IsShortVector vector → 8 ≤ count → length bytes ≤ count → reply_bytes 0 (message_acts vector (message_of bytes)) ≤ 3 * count
message_reply vector count bytes short long within = go (begins getinfo_word bytes) (begins settck_word bytes) refl refl
  where
    go : (g s : Bool) → begins getinfo_word bytes ≡ g → begins settck_word bytes ≡ s → reply_bytes 0 (message_acts vector (message_of bytes)) ≤ 3 * count
    go true s h k = rw h (omega (arith, info_short vector short))
    go false true h k = rw (h, k) (omega (arith, length-bytes_of 4 (number_of_bytes (take 4 (drop 7 bytes)))))
    go false false h k = rw (h, k) (omega (arith, vectors_reply vector (cycle_count bytes) (drop 10 bytes), length-drop 10 bytes))

whole_reply : (vector : ℕ) (bytes : List ℕ) (framed : Framed) (found : Option ℕ) → IsShortVector vector → ((count : ℕ) → found ≡ Some count → 8 ≤ count) → whole_at_front found bytes ≡ Some framed
    → reply_bytes 0 (message_acts vector framed.message) ≤ 3 * framed.bytes
whole_reply vector bytes framed None short long e = absurd (let q : None ≡ Some framed = e in cc)
whole_reply vector bytes framed (Some count) short long e = go (nat_le count (length bytes)) e
  where
    go : (t : Bool) → cond t (Some (record { message = message_of (take count bytes); bytes = count })) None ≡ Some framed → reply_bytes 0 (message_acts vector framed.message) ≤ 3 * framed.bytes
    go true k =
        let this : Framed = record { message = message_of (take count bytes); bytes = count } in
        let same : this ≡ framed = cc in
        subst (λ f. reply_bytes 0 (message_acts vector f.message) ≤ 3 * f.bytes) same (message_reply vector count (take count bytes) short (long count refl) (omega (arith, length-take count bytes)))
    go false k = absurd (let q : None ≡ Some framed = k in cc)

pub messages_short : (vector : ℕ) (bytes : List ℕ) (framed : Framed) → IsShortVector vector → front vector bytes ≡ Some framed → reply_bytes 0 (message_acts vector framed.message) ≤ 3 * framed.bytes
messages_short vector bytes framed short e = whole_reply vector bytes framed (message_length vector bytes) short (message_long vector bytes) e

pub letters_short : (uses_trst : Bool) (at : ℕ) (letter : Letter) → reply_bytes 0 (letter_acts uses_trst at letter) ≤ 1
letters_short uses_trst at (Lines tck tms tdi) = omega arith
letters_short uses_trst at Read = omega arith
letters_short uses_trst at Quit = omega arith
letters_short uses_trst at (Light on) = omega arith
letters_short true at (Reset trst srst) = omega arith
letters_short false at (Reset trst srst) = omega arith

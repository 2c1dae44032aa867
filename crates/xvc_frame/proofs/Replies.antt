-- TDO bits take the place of TDI bits, and the vector is then the reply.
use Rattle.std.proofs.Common.{◌≡◌, ℕ, zero, suc, ◌+◌, ◌-◌, ◌*◌, ◌/◌, ◌%◌, ◌^◌, ◌<◌, ◌≤◌, Bool, true, false, List, [], ◌∷◌, ◌++◌, length, take, drop, replicate, set, refl, ap, sym, ◌∙◌, subst, arith, append_assoc, length-append, length-drop, length-take, take-append-drop}
use mir.Val.{bool_byte}
use Rattle.std.specs.declared.option.Option.{Option}
use Rattle.std.proofs.lemmas.List.{take-take, take_at, drop_at, drop-take, drop-drop, length-take-le, take-append-le, set_split}
use Rattle.std.proofs.lemmas.List.Elements.{All-head, All-tail, All-take, All-drop}
use Rattle.std.proofs.Math.Seq.{take-append-add}
use Rattle.scan_bits.specs.Words.{bit_value, bits_of, number_of, number_of_bytes, unpacked, packed, packed_in, byte_count}
use Rattle.xvc_frame.specs.Messages.{Message, begins, shift_word, cycle_count, shift_message, front, Framed, IsFramed, AreBytes}
use Rattle.xvc_frame.specs.Messages.Message.{Shift}
use Rattle.xvc_frame.specs.Frames.{HasRoom, is_shift, tms_of, tdi_of, message_or, tms_bits, tdi_bits, reply_bytes, replaced}
use Rattle.xvc_frame.proofs.Fronts.{begins-append}
use Rattle.xvc_frame.proofs.Steps.{begins_take, cycle_count_take}
use Rattle.xvc_frame.proofs.Numbers.{length-bits_of, length-unpacked}
use Rattle.xvc_frame.proofs.BitWords.{unpacked_drop, unpacked_take, number_of-bits_of}
use Rattle.xvc_frame.proofs.Vectors.{HeldShift, shift_held, held_is, held_ends, held_count, tdi_start, tms_is, tdi_is, tms_long, tdi_long, word_room, part_is, bits_of_shift, tdi_of_shift}

-- ---- bits replaced, seen in a part of the list

-- behind a front that stays
pub replaced_behind : (all new : List Bool) (base at : ℕ) → base ≤ length all → drop base (replaced all (base + at) new) ≡ replaced (drop base all) at new
replaced_behind all new base at le =
    let front = take base all in
    let rest = drop base all in
    let size : length front ≡ base = length-take-le base all le in
    let split : all ≡ front ++ rest = sym (take-append-drop base all) in
    let a : take (base + at) all ≡ front ++ take at rest
    = ap (take (base + at)) split ∙ ap (λ (k : ℕ). take (k + at) (front ++ rest)) (sym size) ∙ take-append-add front rest at in
    let b : drop (base + at + length new) all ≡ drop (at + length new) rest = ap (λ (k : ℕ). drop k all) (let e : base + at + length new ≡ base + (at + length new) = omega arith in e) ∙ sym (drop-drop (at + length new) base all) in
    let whole : replaced all (base + at) new ≡ front ++ replaced rest at new
    = (λ i. a i ++ new ++ b i) ∙ ap (λ (s : List Bool). s ++ drop (at + length new) rest) (append_assoc front (take at rest) new) ∙ append_assoc front (take at rest ++ new) (drop (at + length new) rest) in
    ap (drop base) whole ∙ drop_at front (replaced rest at new) base size

-- among the first bits
pub replaced_among : (all new : List Bool) (count at : ℕ) → at + length new ≤ count → count ≤ length all → take count (replaced all at new) ≡ replaced (take count all) at new
replaced_among all new count at le long =
    let m = length new in
    let front = take at all ++ new in
    let size : length front ≡ at + m = omega (arith, length-append (take at all) new, length-take-le at all (omega arith)) in
    let n : count ≡ (at + m) + (count - (at + m)) = omega arith in
    let rest = count - (at + m) in
    let left : take count (replaced all at new) ≡ front ++ take rest (drop (at + m) all)
    = ap (λ (k : ℕ). take k (front ++ drop (at + m) all)) (n ∙ ap (λ (k : ℕ). k + rest) (sym size)) ∙ take-append-add front (drop (at + m) all) rest in
    let a : take at (take count all) ≡ take at all = take-take at count all (omega arith) in
    let b : drop (at + m) (take count all) ≡ take rest (drop (at + m) all) = ap (λ (k : ℕ). drop (at + m) (take k all)) n ∙ drop-take (at + m) rest all in
    left ∙ (λ i. sym a i ++ new ++ sym b i)

-- bits before the place stay
pub replaced_before : (all new : List Bool) (count at : ℕ) → count ≤ at → at ≤ length all → take count (replaced all at new) ≡ take count all
replaced_before all new count at le within =
    ap (take count) (append_assoc (take at all) new (drop (at + length new) all))
    ∙ take-append-le count (take at all) (new ++ drop (at + length new) all) (omega (arith, length-take-le at all within))
    ∙ take-take count at all le

-- one bit replaced is one bit set
pub replaced_one : (bits : List Bool) (at : ℕ) (bit : Bool) → at < length bits → replaced bits at (bit ∷ []) ≡ set bits at bit
replaced_one bits at bit lt =
    append_assoc (take at bits) (bit ∷ []) (drop (at + 1) bits)
    ∙ ap (λ (k : ℕ). take at bits ++ bit ∷ drop k bits) (let e : at + 1 ≡ suc at = omega arith in e)
    ∙ sym (set_split bits at bit lt)

-- ---- a `shift:` whose TDI bits are written over

-- bytes whose front is that of a `shift:` that is held
module _ (vector count : ℕ) (items new : List ℕ) (room : HasRoom vector items count) (s : HeldShift vector (take count items)) (long : length new ≡ length items)
    (same : take (count / 2 + 5) new ≡ take (count / 2 + 5) items) where
  start_in : count / 2 + 5 ≤ count
  start_in = omega (arith, held_count vector count items room s)

  front_same : take (count / 2 + 5) (take count new) ≡ take (count / 2 + 5) (take count items)
  front_same = take-take (count / 2 + 5) count new start_in ∙ same ∙ sym (take-take (count / 2 + 5) count items start_in)

  ten : 10 ≤ count / 2 + 5
  ten = omega (arith, tdi_start vector count items room s)

  pub same_count : cycle_count (take count new) ≡ cycle_count (take count items)
  same_count =
      sym (cycle_count_take (take count new) (count / 2 + 5) ten) ∙ ap cycle_count front_same ∙ cycle_count_take (take count items) (count / 2 + 5) ten

  same_long : length (take count new) ≡ length (take count items)
  same_long = omega (arith, length-take count new, length-take count items)

  pub held_still : HeldShift vector (take count new)
  held_still =
      let word : begins shift_word (take (count / 2 + 5) (take count new)) ≡ true
      = subst (λ (b : List ℕ). begins shift_word b ≡ true) (sym front_same) (begins_take shift_word (take count items) (count / 2 + 5) s.word (omega (arith, ten))) in
      record {
        word = subst (λ (b : List ℕ). begins shift_word b ≡ true) (take-append-drop (count / 2 + 5) (take count new)) (begins-append shift_word (take (count / 2 + 5) (take count new)) (drop (count / 2 + 5) (take count new)) word);
        few = omega (arith, same_count, s.few);
        long = same_long ∙ s.long ∙ ap (λ (n : ℕ). 10 + 2 * byte_count n) (sym same_count);
      }

  pub room_still : HasRoom vector new count
  room_still = record {
    some = room.some;
    most = room.most;
    room = long ∙ room.room;
    fits = room.fits;
    ends = held_ends vector (take count new) held_still;
  }

  pub tms_still : tms_bits (record { vector = vector; held = take count new }) ≡ tms_bits (record { vector = vector; held = take count items })
  tms_still =
      let k = byte_count (cycle_count (take count items)) in
      let e : count / 2 + 5 ≡ 10 + k = tdi_start vector count items room s in
      let vector_of_items : (list : List ℕ) → take k (drop 10 (take count list)) ≡ drop 10 (take (count / 2 + 5) (take count list))
      = λ (list : List ℕ). sym (ap (λ (m : ℕ). drop 10 (take m (take count list))) e ∙ drop-take 10 k (take count list)) in
      let bytes : take k (drop 10 (take count new)) ≡ take k (drop 10 (take count items)) = vector_of_items new ∙ ap (drop 10) front_same ∙ sym (vector_of_items items) in
      ap (λ (f : Option Framed). tms_of (message_or f)) (held_is vector (take count new) held_still)
      ∙ (λ i. take (same_count i) (unpacked (take (byte_count (same_count i)) (drop 10 (take count new)))))
      ∙ ap (λ (b : List ℕ). take (cycle_count (take count items)) (unpacked b)) bytes
      ∙ sym (ap (λ (f : Option Framed). tms_of (message_or f)) (held_is vector (take count items) s))

  -- what is read after the writing is the same message with other TDI bits
  pub framed_anew : (tdi : List Bool) → tdi_bits (record { vector = vector; held = take count new }) ≡ tdi
      → IsFramed vector (Shift (tms_bits (record { vector = vector; held = take count items })) tdi) (take count new)
  framed_anew tdi is =
      let a = held_is vector (take count new) held_still in
      let m : shift_message (cycle_count (take count new)) (drop 10 (take count new)) ≡ Shift (tms_bits (record { vector = vector; held = take count items })) tdi
      = (λ i. Shift (sym (ap (λ (f : Option Framed). tms_of (message_or f)) a) i) (sym (ap (λ (f : Option Framed). tdi_of (message_or f)) a) i)) ∙ (λ i. Shift (tms_still i) (is i)) in
      subst (λ (x : Message). IsFramed vector x (take count new)) m a

  -- where U is the buffer's bits, those of the TDI vector are in it
  base_in : 8 * (count / 2 + 5) ≤ length (unpacked items)
  base_in = omega (arith, length-unpacked items, room.room, room.fits, start_in)

  rest_long : 8 * byte_count (cycle_count (take count items)) ≤ length (drop (8 * (count / 2 + 5)) (unpacked items))
  rest_long = omega (arith, length-drop (8 * (count / 2 + 5)) (unpacked items), length-unpacked items, room.room, room.fits, held_count vector count items room s, tdi_start vector count items room s)

  pub tdi_over : (bits : List Bool) (at : ℕ) → unpacked new ≡ replaced (unpacked items) (8 * (count / 2 + 5) + at) bits → at + length bits ≤ cycle_count (take count items)
      → tdi_bits (record { vector = vector; held = take count new }) ≡ replaced (tdi_bits (record { vector = vector; held = take count items })) at bits
  tdi_over bits at written within =
      let n = cycle_count (take count items) in
      let rest = drop (8 * (count / 2 + 5)) (unpacked items) in
      let behind : drop (8 * (count / 2 + 5)) (unpacked new) ≡ replaced rest at bits = ap (drop (8 * (count / 2 + 5))) written ∙ replaced_behind (unpacked items) bits (8 * (count / 2 + 5)) at base_in in
      tdi_is vector count new room_still held_still
      ∙ (λ i. take (same_count i) (behind i))
      ∙ replaced_among rest bits n at within (omega (arith, rest_long))
      ∙ ap (λ (b : List Bool). replaced b at bits) (sym (tdi_is vector count items room s))

  -- the spare bits written over
  module _ (spare : ℕ) (spare_is : cycle_count (take count items) + spare ≡ 8 * byte_count (cycle_count (take count items)))
      (written : unpacked new ≡ replaced (unpacked items) (8 * (count / 2 + 5) + cycle_count (take count items)) (bits_of spare 0)) where
    spare_behind : drop (8 * (count / 2 + 5)) (unpacked new) ≡ replaced (drop (8 * (count / 2 + 5)) (unpacked items)) (cycle_count (take count items)) (bits_of spare 0)
    spare_behind = ap (drop (8 * (count / 2 + 5))) written ∙ replaced_behind (unpacked items) (bits_of spare 0) (8 * (count / 2 + 5)) (cycle_count (take count items)) base_in

    pub tdi_spared : tdi_bits (record { vector = vector; held = take count new }) ≡ tdi_bits (record { vector = vector; held = take count items })
    tdi_spared =
        let n = cycle_count (take count items) in
        tdi_is vector count new room_still held_still
        ∙ (λ i. take (same_count i) (spare_behind i))
        ∙ replaced_before (drop (8 * (count / 2 + 5)) (unpacked items)) (bits_of spare 0) n n (omega arith) (omega (arith, rest_long))
        ∙ sym (tdi_is vector count items room s)

    reply_place : reply_bytes (record { vector = vector; held = take count new }) ≡ take (byte_count (cycle_count (take count items))) (drop (count / 2 + 5) new)
    reply_place =
        let k = byte_count (cycle_count (take count items)) in
        let e : 10 + k ≡ count / 2 + 5 = sym (tdi_start vector count items room s) in
        let c : count ≡ (count / 2 + 5) + k = omega (arith, held_count vector count items room s) in
        ap (λ (m : ℕ). drop (10 + byte_count m) (take count new)) (tms_long vector count new room_still held_still ∙ same_count)
        ∙ ap (λ (m : ℕ). drop m (take count new)) e
        ∙ ap (λ (m : ℕ). drop (count / 2 + 5) (take m new)) c
        ∙ drop-take (count / 2 + 5) k new

    pub reply_bits : unpacked (reply_bytes (record { vector = vector; held = take count new })) ≡ tdi_bits (record { vector = vector; held = take count items }) ++ bits_of spare 0
    reply_bits =
        let n = cycle_count (take count items) in
        let k = byte_count n in
        let rest = drop (8 * (count / 2 + 5)) (unpacked items) in
        let front = take n rest ++ bits_of spare 0 in
        let size : length front ≡ 8 * k = omega (arith, length-append (take n rest) (bits_of spare 0), length-take-le n rest (omega (arith, rest_long)), length-bits_of spare 0, spare_is) in
        ap unpacked reply_place
        ∙ sym (unpacked_take k (drop (count / 2 + 5) new))
        ∙ ap (take (8 * k)) (sym (unpacked_drop (count / 2 + 5) new) ∙ spare_behind)
        ∙ take_at front (drop (n + length (bits_of spare 0)) rest) (8 * k) size
        ∙ ap (λ (b : List Bool). b ++ bits_of spare 0) (sym (tdi_is vector count items room s))

    pub reply_long : length (reply_bytes (record { vector = vector; held = take count new })) ≡ byte_count (cycle_count (take count items))
    reply_long =
        ap length reply_place
        ∙ length-take-le (byte_count (cycle_count (take count items))) (drop (count / 2 + 5) new) (omega (arith, length-drop (count / 2 + 5) new, long, room.room, room.fits, held_count vector count items room s, tdi_start vector count items room s))

-- ---- packed bits

zeros_are : (count : ℕ) → bits_of count 0 ≡ replicate count false
zeros_are zero = refl
zeros_are (suc count) = ap (λ (s : List Bool). false ∷ s) (zeros_are count)

-- spare bits that are 0 don't count
number_padded : (count : ℕ) (bits : List Bool) (spare : ℕ) → number_of (take count (bits ++ replicate spare false)) ≡ number_of (take count bits)
number_padded zero bits spare = refl
number_padded (suc count) [] zero = refl
number_padded (suc count) [] (suc spare) = omega (arith, number_padded count [] spare, none count)
  where
    none : (n : ℕ) → number_of (take n []) ≡ 0
    none zero = refl
    none (suc n) = refl
number_padded (suc count) (b ∷ bits) spare = ap (λ (n : ℕ). bit_value b + 2 * n) (number_padded count bits spare)

drop_padded : (count : ℕ) (bits : List Bool) (spare : ℕ) → (left : ℕ) × (drop count (bits ++ replicate spare false) ≡ drop count bits ++ replicate left false)
drop_padded zero bits spare = (spare, refl)
drop_padded (suc count) [] zero = (0, refl)
drop_padded (suc count) [] (suc spare) = let d = drop_padded count [] spare in (d.0, d.1 ∙ ap (λ (s : List Bool). s ++ replicate d.0 false) (drop_none count))
  where
    drop_none : (n : ℕ) → drop {A = Bool} n [] ≡ []
    drop_none zero = refl
    drop_none (suc n) = refl
drop_padded (suc count) (b ∷ bits) spare = drop_padded count bits spare

packed_padded : (count : ℕ) (bits : List Bool) (spare : ℕ) → packed_in count (bits ++ replicate spare false) ≡ packed_in count bits
packed_padded zero bits spare = refl
packed_padded (suc count) bits spare =
    let d = drop_padded 8 bits spare in
    (λ i. number_padded 8 bits spare i ∷ packed_in count (d.1 i)) ∙ ap (λ (s : List ℕ). number_of (take 8 bits) ∷ s) (packed_padded count (drop 8 bits) d.0)

packed_unpacked : (bytes : List ℕ) → AreBytes bytes → packed_in (length bytes) (unpacked bytes) ≡ bytes
packed_unpacked [] h = refl
packed_unpacked (b ∷ bytes) h =
    let small : b < 256 = All-head (λ x. x < 256) b bytes h in
    let first : number_of (take 8 (bits_of 8 b ++ unpacked bytes)) ≡ b = number_of-bits_of 8 b ∙ (let e : b % 2 ^ 8 ≡ b = omega arith in e) in
    (λ i. first i ∷ packed_in (length bytes) (unpacked bytes)) ∙ ap (λ (s : List ℕ). b ∷ s) (packed_unpacked bytes (All-tail (λ x. x < 256) b bytes h))

pub is_packed : (bytes : List ℕ) (bits : List Bool) (spare : ℕ) → AreBytes bytes → unpacked bytes ≡ bits ++ bits_of spare 0 → length bytes ≡ byte_count (length bits) → bytes ≡ packed bits
is_packed bytes bits spare small is long =
    sym (packed_unpacked bytes small)
    ∙ (λ i. packed_in (long i) (is i))
    ∙ ap (λ (s : List Bool). packed_in (byte_count (length bits)) (bits ++ s)) (zeros_are spare)
    ∙ packed_padded (byte_count (length bits)) bits spare

-- ---- as the frame's methods have it

module _ (vector count : ℕ) (items : List ℕ) (room : HasRoom vector items count) where
  tms_held : 1 ≤ length (tms_bits (record { vector = vector; held = take count items })) → HeldShift vector (take count items)
  tms_held some = shift_held vector (take count items) room.ends (bits_of_shift (message_or (front vector (take count items))) some)

  tdi_held : 1 ≤ length (tdi_bits (record { vector = vector; held = take count items })) → HeldShift vector (take count items)
  tdi_held some = shift_held vector (take count items) room.ends (tdi_of_shift (message_or (front vector (take count items))) some)

  pub read_tms : (at width : ℕ) → 1 ≤ width → at + width ≤ length (tms_bits (record { vector = vector; held = take count items }))
      → number_of (take width (drop (80 + at) (unpacked items))) ≡ number_of (take width (drop at (tms_bits (record { vector = vector; held = take count items }))))
  read_tms at width some within =
      let s = tms_held (omega arith) in
      let bits = tms_bits (record { vector = vector; held = take count items }) in
      ap number_of (sym (part_is bits (unpacked items) 80 (cycle_count (take count items)) at width (tms_is vector count items room s) within))

  pub read_tdi : (at width : ℕ) → 1 ≤ width → at + width ≤ length (tdi_bits (record { vector = vector; held = take count items }))
      → number_of (take width (drop (8 * (count / 2 + 5) + at) (unpacked items))) ≡ number_of (take width (drop at (tdi_bits (record { vector = vector; held = take count items }))))
  read_tdi at width some within =
      let s = tdi_held (omega arith) in
      let bits = tdi_bits (record { vector = vector; held = take count items }) in
      ap number_of (sym (part_is bits (unpacked items) (8 * (count / 2 + 5)) (cycle_count (take count items)) at width (tdi_is vector count items room s) within))

  pub reply_is : HeldShift vector (take count items) → take (count - (count / 2 + 5)) (drop (count / 2 + 5) items) ≡ reply_bytes (record { vector = vector; held = take count items })
  reply_is s =
      let e : 10 + byte_count (cycle_count (take count items)) ≡ count / 2 + 5 = sym (tdi_start vector count items room s) in
      let c : count ≡ (count / 2 + 5) + (count - (count / 2 + 5)) = omega (arith, held_count vector count items room s) in
      sym (
      ap (λ (m : ℕ). drop (10 + byte_count m) (take count items)) (tms_long vector count items room s)
      ∙ ap (λ (m : ℕ). drop m (take count items)) e
      ∙ ap (λ (m : ℕ). drop (count / 2 + 5) (take m items)) c
      ∙ drop-take (count / 2 + 5) (count - (count / 2 + 5)) items)

  -- where a word of TDI bits lies
  pub tdi_room : (at width : ℕ) → 1 ≤ width → at + width ≤ length (tdi_bits (record { vector = vector; held = take count items })) → (8 * (count / 2 + 5) + at) / 8 + 16 ≤ length items
  tdi_room at width some within =
      let s = tdi_held (omega arith) in
      (word_room vector count items room s at (omega (arith, tdi_long vector count items room s))).1

  pub tms_room : (at width : ℕ) → 1 ≤ width → at + width ≤ length (tms_bits (record { vector = vector; held = take count items })) → (80 + at) / 8 + 16 ≤ length items
  tms_room at width some within =
      let s = tms_held (omega arith) in
      (word_room vector count items room s at (omega (arith, tms_long vector count items room s))).0

  module _ (new : List ℕ) (at width value : ℕ) (some : 1 ≤ width) (within : at + width ≤ length (tdi_bits (record { vector = vector; held = take count items }))) (long : length new ≡ length items)
      (written : unpacked new ≡ replaced (unpacked items) (8 * (count / 2 + 5) + at) (bits_of width value)) (before : take ((8 * (count / 2 + 5) + at) / 8) new ≡ take ((8 * (count / 2 + 5) + at) / 8) items) where
    put_held : HeldShift vector (take count items)
    put_held = tdi_held (omega arith)

    put_same : take (count / 2 + 5) new ≡ take (count / 2 + 5) items
    put_same =
        let le : count / 2 + 5 ≤ (8 * (count / 2 + 5) + at) / 8 = omega arith in
        sym (take-take (count / 2 + 5) ((8 * (count / 2 + 5) + at) / 8) new le) ∙ ap (take (count / 2 + 5)) before ∙ take-take (count / 2 + 5) ((8 * (count / 2 + 5) + at) / 8) items le

    pub put_room : HasRoom vector new count
    put_room = room_still vector count items new room put_held long put_same

    pub put_framed : IsFramed vector (Shift (tms_bits (record { vector = vector; held = take count items })) (replaced (tdi_bits (record { vector = vector; held = take count items })) at (bits_of width value))) (take count new)
    put_framed =
        let fits : at + length (bits_of width value) ≤ cycle_count (take count items) = omega (arith, length-bits_of width value, tdi_long vector count items room put_held) in
        framed_anew vector count items new room put_held long put_same (replaced (tdi_bits (record { vector = vector; held = take count items })) at (bits_of width value))
        (tdi_over vector count items new room put_held long put_same (bits_of width value) at written fits)

  -- the spare bits
  module _ (shift : is_shift (message_or (front vector (take count items))) ≡ true) where
    spare_held : HeldShift vector (take count items)
    spare_held = shift_held vector (take count items) room.ends shift

    -- the number of cycles is read in the buffer
    pub cycles_are : number_of_bytes (take 4 (drop 6 items)) ≡ cycle_count (take count items)
    cycles_are = sym (cycle_count_take items count (omega (arith, held_count vector count items room spare_held)))

    module _ (new : List ℕ) (cycles : ℕ) (cycles_is : cycles ≡ number_of_bytes (take 4 (drop 6 items))) (long : length new ≡ length items)
        (written : unpacked new ≡ replaced (unpacked items) (8 * (count / 2 + 5) + cycles) (bits_of (8 * (count - (count / 2 + 5)) - cycles) 0))
        (before : take ((8 * (count / 2 + 5) + cycles) / 8) new ≡ take ((8 * (count / 2 + 5) + cycles) / 8) items) where
      spare_same : take (count / 2 + 5) new ≡ take (count / 2 + 5) items
      spare_same =
          let le : count / 2 + 5 ≤ (8 * (count / 2 + 5) + cycles) / 8 = omega arith in
          sym (take-take (count / 2 + 5) ((8 * (count / 2 + 5) + cycles) / 8) new le) ∙ ap (take (count / 2 + 5)) before ∙ take-take (count / 2 + 5) ((8 * (count / 2 + 5) + cycles) / 8) items le

      spare_cycles : cycles ≡ cycle_count (take count items)
      spare_cycles = cycles_is ∙ cycles_are

      spare_is : cycle_count (take count items) + (8 * (count - (count / 2 + 5)) - cycles) ≡ 8 * byte_count (cycle_count (take count items))
      spare_is = omega (arith, held_count vector count items room spare_held, spare_cycles)

      spare_written : unpacked new ≡ replaced (unpacked items) (8 * (count / 2 + 5) + cycle_count (take count items)) (bits_of (8 * (count - (count / 2 + 5)) - cycles) 0)
      spare_written = written ∙ ap (λ (n : ℕ). replaced (unpacked items) (8 * (count / 2 + 5) + n) (bits_of (8 * (count - (count / 2 + 5)) - cycles) 0)) spare_cycles

      pub spare_room : HasRoom vector new count
      spare_room = room_still vector count items new room spare_held long spare_same

      pub spare_framed : IsFramed vector (Shift (tms_bits (record { vector = vector; held = take count items })) (tdi_bits (record { vector = vector; held = take count items }))) (take count new)
      spare_framed =
          framed_anew vector count items new room spare_held long spare_same (tdi_bits (record { vector = vector; held = take count items }))
          (tdi_spared vector count items new room spare_held long spare_same (8 * (count - (count / 2 + 5)) - cycles) spare_is spare_written)

      pub spare_reply : AreBytes new → reply_bytes (record { vector = vector; held = take count new }) ≡ packed (tdi_bits (record { vector = vector; held = take count items }))
      spare_reply small =
          let spare = 8 * (count - (count / 2 + 5)) - cycles in
          let reply = reply_bytes (record { vector = vector; held = take count new }) in
          let bits = tdi_bits (record { vector = vector; held = take count items }) in
          let bytes : AreBytes reply = All-drop (λ x. x < 256) (10 + byte_count (length (tms_bits (record { vector = vector; held = take count new })))) (take count new) (All-take (λ x. x < 256) count new small) in
          is_packed reply bits spare bytes (reply_bits vector count items new room spare_held long spare_same spare spare_is spare_written)
          (reply_long vector count items new room spare_held long spare_same spare spare_is spare_written ∙ ap byte_count (sym (tdi_long vector count items room spare_held)))

-- one bit of a word
pub one_bit : (bit : Bool) (value : ℕ) → value ≡ bool_byte bit → bits_of 1 value ≡ bit ∷ []
one_bit true value is = rw is refl
one_bit false value is = rw is refl

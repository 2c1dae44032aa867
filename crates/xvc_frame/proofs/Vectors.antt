-- The bits of a `shift:` in the bytes of a frame's buffer.
use Rattle.std.proofs.Common.{◌≡◌, ℕ, ◌+◌, ◌-◌, ◌*◌, ◌/◌, ◌≤◌, Bool, true, false, ◌&&◌, cond, List, ◌++◌, length, length-append, take, drop, refl, ap, sym, ◌∙◌, subst, arith, nat_le, Some, None, length-drop, length-take}
use Rattle.std.specs.declared.option.Option.{Option}
use Rattle.std.proofs.lemmas.Bool.{leb-true}
use Rattle.std.proofs.lemmas.List.{take_all, take-take, drop-take, drop-drop, length-take-le}
use Rattle.scan_bits.specs.Words.{number_of_bytes, unpacked, byte_count}
use Rattle.xvc_frame.specs.declared.Msg.{Msg}
use Rattle.xvc_frame.specs.declared.Msg.TheVariants as told
use Rattle.xvc_frame.specs.Messages.{Message, IsMessage, begins, getinfo_word, settck_word, shift_word, announces, cycle_count, message_of, shift_message, front, Framed, IsFramed}
use Rattle.xvc_frame.specs.Messages.Message.{GetInfo, SetTck, Shift}
use Rattle.xvc_frame.specs.Frames.{replaced, FrameState, IsWhole, told_of, HasRoom, EndsAtFront, is_shift, tms_of, tdi_of, message_or, holds_shift, tms_bits, tdi_bits}
use Rattle.xvc_frame.proofs.Fronts.{both}
use Rattle.xvc_frame.proofs.Cases.{at_front, AllOf, shift_framed, shift_of, some_same, vector_of}
use Rattle.xvc_frame.proofs.BitWords.{unpacked_drop, unpacked_take}

-- ---- a `shift:` is held whole

pub record HeldShift (vector : ℕ) (held : List ℕ) : Type 0 where
  pub word : begins shift_word held ≡ true
  pub few : cycle_count held ≤ 8 * vector
  pub long : length held ≡ 10 + 2 * byte_count (cycle_count held)

-- the chain of tests of `message_length`
abbrev by_tests : Bool → Bool → Bool → ℕ → Option ℕ
by_tests g s h n = cond g (Some 8) (cond s (Some 11) (cond h (Some (10 + 2 * byte_count n)) None))

module _ (vector : ℕ) (held : List ℕ) (message : Message) (all : AllOf vector message held) (shift : is_shift message ≡ true) where
  not_this : (other : Message) → message_of held ≡ other → is_shift other ≡ true
  not_this other e = subst (λ (m : Message). is_shift m ≡ true) (sym all.message_is ∙ e) shift

  by_word : (g s h : Bool) → begins getinfo_word held ≡ g → begins settck_word held ≡ s → (announces held && nat_le (cycle_count held) (8 * vector)) ≡ h
      → by_tests g s h (cycle_count held) ≡ Some (length held) → HeldShift vector held
  by_word true s h a b c e = absurd (let q : false ≡ true = not_this GetInfo (rw a refl) in cc)
  by_word false true h a b c e = absurd (let q : false ≡ true = not_this (SetTck (number_of_bytes (take 4 (drop 7 held)))) (rw (a, b) refl) in cc)
  by_word false false true a b c e =
      let k = both (announces held) (nat_le (cycle_count held) (8 * vector)) c in
      let w = both (begins shift_word held) (nat_le 10 (length held)) k.0 in
      record { word = w.0; few = leb-true (cycle_count held) (8 * vector) k.1; long = sym (some_same (10 + 2 * byte_count (cycle_count held)) (length held) e) }
  by_word false false false a b c e = absurd (let q : None ≡ Some (length held) = e in cc)

pub shift_held : (vector : ℕ) (held : List ℕ) → EndsAtFront vector held → is_shift (message_or (front vector held)) ≡ true → HeldShift vector held
shift_held vector held end shift = go (front vector held) refl shift
  where
    go : (f : Option Framed) → front vector held ≡ f → is_shift (message_or f) ≡ true → HeldShift vector held
    go None e h = absurd (let q : false ≡ true = h in cc)
    go (Some f) e h =
        let found = at_front vector held f e in
        let size : f.bytes ≡ length held = end f e in
        let whole : take f.bytes held ≡ held = take_all f.bytes held (omega (arith, size)) in
        let all : AllOf vector f.message held = record { length_is = found.length_is ∙ ap Some size; message_is = ap message_of (sym whole) ∙ found.message_is } in
        by_word vector held f.message all h (begins getinfo_word held) (begins settck_word held) (announces held && nat_le (cycle_count held) (8 * vector)) refl refl refl all.length_is

module _ (vector : ℕ) (held : List ℕ) (s : HeldShift vector held) where
  pub held_is : IsFramed vector (shift_message (cycle_count held) (drop 10 held)) held
  held_is = subst (λ (m : Message). IsFramed vector m held) (shift_of held s.word) (shift_framed vector held s.word s.few s.long)

  pub held_ends : EndsAtFront vector held
  held_ends framed e =
      let found : Framed = record { message = shift_message (cycle_count held) (drop 10 held); bytes = length held } in
      let same : found ≡ framed = let q : Some found ≡ Some framed = sym held_is ∙ e in cc in
      ap (λ (f : Framed). f.bytes) (sym same)

-- a message with bits is a `shift:`
pub bits_of_shift : (message : Message) → 1 ≤ length (tms_of message) → is_shift message ≡ true
bits_of_shift GetInfo h = absurd (omega arith)
bits_of_shift (SetTck period) h = absurd (omega arith)
bits_of_shift (Shift tms tdi) h = refl

pub tdi_of_shift : (message : Message) → 1 ≤ length (tdi_of message) → is_shift message ≡ true
tdi_of_shift GetInfo h = absurd (omega arith)
tdi_of_shift (SetTck period) h = absurd (omega arith)
tdi_of_shift (Shift tms tdi) h = refl

-- ---- its bits in the buffer

-- a part of the first bits from a place on
pub part_is : (bits all : List Bool) (base count at width : ℕ) → bits ≡ take count (drop base all) → at + width ≤ length bits → take width (drop at bits) ≡ take width (drop (base + at) all)
part_is bits all base count at width is le =
    let long : length bits ≤ count = omega (arith, ap length is, length-take count (drop base all)) in
    let n : count ≡ at + (count - at) = omega arith in
    let rest : drop at bits ≡ take (count - at) (drop (base + at) all)
    = ap (drop at) is ∙ ap (λ (k : ℕ). drop at (take k (drop base all))) n ∙ drop-take at (count - at) (drop base all) ∙ ap (take (count - at)) (drop-drop at base all) in
    ap (take width) rest ∙ take-take width (count - at) (drop (base + at) all) (omega arith)

-- the bits of a vector that stands in some bytes
vector_bits : (items : List ℕ) (from count : ℕ) → take count (unpacked (take (byte_count count) (drop from items))) ≡ take count (drop (8 * from) (unpacked items))
vector_bits items from count =
    ap (take count) (sym (unpacked_take (byte_count count) (drop from items)))
    ∙ take-take count (8 * byte_count count) (unpacked (drop from items)) (omega arith)
    ∙ ap (take count) (sym (unpacked_drop from items))

module _ (vector count : ℕ) (items : List ℕ) (room : HasRoom vector items count) (s : HeldShift vector (take count items)) where
  pub held_count : count ≡ 10 + 2 * byte_count (cycle_count (take count items))
  held_count = sym (length-take-le count items (omega (arith, room.room, room.fits))) ∙ s.long

  pub tdi_start : count / 2 + 5 ≡ 10 + byte_count (cycle_count (take count items))
  tdi_start = omega (arith, held_count)

  pub tms_is : tms_bits (record { vector = vector; held = take count items }) ≡ take (cycle_count (take count items)) (drop 80 (unpacked items))
  tms_is =
      let n = cycle_count (take count items) in
      let k = byte_count n in
      let c : count ≡ 10 + 2 * k = held_count in
      let part : take k (drop 10 (take count items)) ≡ take k (drop 10 items)
      = ap (λ (m : ℕ). take k (drop 10 (take m items))) c ∙ ap (take k) (drop-take 10 (2 * k) items) ∙ take-take k (2 * k) (drop 10 items) (omega arith) in
      ap (λ (f : Option Framed). tms_of (message_or f)) (held_is vector (take count items) s)
      ∙ ap (λ (b : List ℕ). take n (unpacked b)) part
      ∙ vector_bits items 10 n

  pub tdi_is : tdi_bits (record { vector = vector; held = take count items }) ≡ take (cycle_count (take count items)) (drop (8 * (count / 2 + 5)) (unpacked items))
  tdi_is =
      let n = cycle_count (take count items) in
      let k = byte_count n in
      let c : count ≡ (10 + k) + k = omega (arith, held_count) in
      let part : take k (drop k (drop 10 (take count items))) ≡ take k (drop (10 + k) items)
      = ap (take k) (drop-drop k 10 (take count items) ∙ ap (λ (m : ℕ). drop (10 + k) (take m items)) c ∙ drop-take (10 + k) k items) ∙ take-take k k (drop (10 + k) items) (omega arith) in
      ap (λ (f : Option Framed). tdi_of (message_or f)) (held_is vector (take count items) s)
      ∙ ap (λ (b : List ℕ). take n (unpacked b)) part
      ∙ vector_bits items (10 + k) n
      ∙ ap (λ (m : ℕ). take n (drop (8 * m) (unpacked items))) (sym tdi_start)

  bits_room : 8 * cycle_count (take count items) ≤ 64 * vector
  bits_room = omega (arith, s.few)

  pub tms_long : length (tms_bits (record { vector = vector; held = take count items })) ≡ cycle_count (take count items)
  tms_long =
      let n = cycle_count (take count items) in
      ap (λ (f : Option Framed). length (tms_of (message_or f))) (held_is vector (take count items) s)
      ∙ (vector_of n (take (byte_count n) (drop 10 (take count items))) (length-take-le (byte_count n) (drop 10 (take count items)) (omega (arith, length-drop 10 (take count items), s.long)))).0

  pub tdi_long : length (tdi_bits (record { vector = vector; held = take count items })) ≡ cycle_count (take count items)
  tdi_long =
      let n = cycle_count (take count items) in
      let k = byte_count n in
      let rest = drop k (drop 10 (take count items)) in
      ap (λ (f : Option Framed). length (tdi_of (message_or f))) (held_is vector (take count items) s)
      ∙ (vector_of n (take k rest) (length-take-le k rest (omega (arith, length-drop k (drop 10 (take count items)), length-drop 10 (take count items), s.long)))).0

  -- a word of TMS or TDI lies in the buffer
  pub word_room : (at : ℕ) → at ≤ cycle_count (take count items) → ((80 + at) / 8 + 16 ≤ length items) × ((8 * (count / 2 + 5) + at) / 8 + 16 ≤ length items)
  word_room at le = (omega (arith, room.room, s.few), omega (arith, room.room, s.few, held_count))

-- ---- what a whole `shift:` says of its bits

-- a `shift:` is held whole, with so many bits
pub record ShiftBits (state : FrameState) (count : ℕ) : Type 0 where
  pub shift : holds_shift state ≡ true
  pub tms : length (tms_bits state) ≡ count
  pub tdi : length (tdi_bits state) ≡ count

count_of : Msg → ℕ
count_of told.GetInfo = 0
count_of (told.SetTck period) = 0
count_of (told.Shift count) = count

pub framed_bits : (state : FrameState) (tms tdi : List Bool) → IsFramed state.vector (Shift tms tdi) state.held → length tdi ≡ length tms → ShiftBits state (length tms)
framed_bits state tms tdi is same = record {
  shift = ap (λ (f : Option Framed). is_shift (message_or f)) is;
  tms = ap (λ (f : Option Framed). length (tms_of (message_or f))) is;
  tdi = ap (λ (f : Option Framed). length (tdi_of (message_or f))) is ∙ same;
}

whole_as : (state : FrameState) (message : Message) (count : ℕ) → IsMessage state.vector message state.held → IsFramed state.vector message state.held → told_of message ≡ told.Shift count → ShiftBits state count
unfolding count_of
whole_as state GetInfo count is framed said = absurd (let q : told.GetInfo ≡ told.Shift count = said in cc)
whole_as state (SetTck period) count is framed said = absurd (let q : told.SetTck period ≡ told.Shift count = said in cc)
whole_as state (Shift tms tdi) count is framed said = subst (ShiftBits state) (ap count_of said) (framed_bits state tms tdi framed is.one_each)

pub whole_shift : (state : FrameState) (count : ℕ) → IsWhole state.vector state.held (told.Shift count) → ShiftBits state count
whole_shift state count w = whole_as state w.message count w.is_message w.is_framed w.said_is

pub length-replaced : (bits new : List Bool) (at : ℕ) → at + length new ≤ length bits → length (replaced bits at new) ≡ length bits
length-replaced bits new at le =
    let front : length (take at bits) ≡ at = length-take-le at bits (omega arith) in
    omega (arith, front, length-append (take at bits) new, length-append (take at bits ++ new) (drop (at + length new) bits), length-drop (at + length new) bits)

-- what stays and what changes where bits are put in the place of TDI bits
pub record BitsPut (old new : FrameState) (at : ℕ) (bits : List Bool) : Type 0 where
  pub tms : tms_bits new ≡ tms_bits old
  pub tdi : tdi_bits new ≡ replaced (tdi_bits old) at bits
  pub holds : ShiftBits new (length (tms_bits old))

pub bits_put : (old new : FrameState) (at : ℕ) (bits : List Bool) → ShiftBits old (length (tms_bits old)) → at + length bits ≤ length (tdi_bits old) → new.vector ≡ old.vector
    → IsFramed old.vector (Shift (tms_bits old) (replaced (tdi_bits old) at bits)) new.held → BitsPut old new at bits
bits_put old new at bits held le vector is =
    let framed : IsFramed new.vector (Shift (tms_bits old) (replaced (tdi_bits old) at bits)) new.held
    = subst (λ (v : ℕ). IsFramed v (Shift (tms_bits old) (replaced (tdi_bits old) at bits)) new.held) (sym vector) is in
    record {
      tms = ap (λ (f : Option Framed). tms_of (message_or f)) framed;
      tdi = ap (λ (f : Option Framed). tdi_of (message_or f)) framed;
      holds = framed_bits new (tms_bits old) (replaced (tdi_bits old) at bits) framed (length-replaced (tdi_bits old) bits at le ∙ held.tdi);
    }

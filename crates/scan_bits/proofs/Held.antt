-- The bits that a register holds in its words.
use Rattle.std.proofs.Common.{◌≡◌, ◌<◌, ◌≤◌, ◌+◌, ◌*◌, refl, take, drop, sym, ℕ, zero, suc, Bool, true, false, List, set, [], ◌∷◌, ◌++◌, length, ap, ◌∙◌, arith, append_assoc, replicate}
use Rattle.std.proofs.lemmas.List.{set_split, take-replicate, replicate-append-replicate}
use Rattle.scan_bits.proofs.RowLaws.{length-row}
use Rattle.scan_bits.proofs.RowWords.{length-window}
use Rattle.scan_bits.proofs.WordLaws.{bits_of-zero, length-bits_of}
use Rattle.scan_bits.proofs.Windows.{window-window, window-written, window-front, window-back}
use Rattle.scan_bits.proofs.Queue.{stream_out, stream_rest}
use Rattle.scan_bits.specs.Registers.{shifted_out, shifted_all}
use Rattle.scan_bits.specs.Words.{bits_of, bit_value}
use Rattle.scan_bits.specs.Rows.{bits_of_row, written, window}
use Rattle.scan_bits.specs.BitLists.{BitList}
use Rattle.scan_bits.specs.Storage.{FitsWords}

pub length-held : (items : List ℕ) (len start count room : ℕ) → len ≡ length items → FitsWords len start count room → length (window (bits_of_row 64 items) start count) ≡ count
length-held items len start count room is fits = length-window (bits_of_row 64 items) start count (omega (arith, length-row 64 items, is, fits))

-- words that are 0 are bits that are 0
row-zero : (width n : ℕ) → bits_of_row width (replicate n 0) ≡ replicate (width * n) false
row-zero width zero = let e : 0 ≡ width * 0 = omega arith in ap (λ k. replicate k false) e
row-zero width (suc n) =
    let e : width + width * n ≡ width * suc n = omega arith in
    (λ i. bits_of-zero width i ++ row-zero width n i) ∙ replicate-append-replicate width (width * n) false ∙ ap (λ k. replicate k false) e

pub zeros-held : (items : List ℕ) (words count : ℕ) → items ≡ replicate words 0 → count ≤ 64 * words → window (bits_of_row 64 items) 0 count ≡ replicate count false
zeros-held items words count is le = ap (take count) (ap (bits_of_row 64) is ∙ row-zero 64 words) ∙ take-replicate count (64 * words) false le

-- what the fields say of the value
pub held_is : (items : List ℕ) (len start count room : ℕ) (now : BitList) → len ≡ length items → FitsWords len start count room
    → record { bits = window (bits_of_row 64 items) start count; room = room } ≡ now → (length now.bits ≡ count) × (now.room ≡ room)
held_is items len start count room now is fits view_is =
    (ap (λ (b : BitList). length b.bits) (sym view_is) ∙ length-held items len start count room is fits, ap (λ (b : BitList). b.room) (sym view_is))

-- a word of the bits that are held
pub word_held : (items : List ℕ) (start count room at n : ℕ) (now : BitList) → record { bits = window (bits_of_row 64 items) start count; room = room } ≡ now → at + n ≤ count
    → window (bits_of_row 64 items) (start + at) n ≡ take n (drop at now.bits)
word_held items start count room at n now view_is le =
    sym (window-window (bits_of_row 64 items) start count at n le) ∙ ap (λ (b : BitList). window b.bits at n) view_is

-- a word is put in place of the bits that are held
pub put_held : (old new : List ℕ) (start count room at n value : ℕ) (now : BitList) → record { bits = window (bits_of_row 64 old) start count; room = room } ≡ now
    → bits_of_row 64 new ≡ written (bits_of_row 64 old) (start + at) (bits_of n value) → at + n ≤ count → start + count ≤ 64 * length old
    → window (bits_of_row 64 new) start count ≡ take at now.bits ++ bits_of n value ++ drop (at + n) now.bits
put_held old new start count room at n value now view_is new_is le within =
    let size : length (bits_of n value) ≡ n = length-bits_of n value in
    ap (λ q. window q start count) new_is
    ∙ window-written (bits_of_row 64 old) start count at (bits_of n value) (omega (arith, size, le)) (omega (arith, length-row 64 old, within))
    ∙ ap (λ (b : BitList). written b.bits at (bits_of n value)) view_is
    ∙ ap (λ k. take at now.bits ++ bits_of n value ++ drop (at + k) now.bits) size

-- a bit as a word
pub one_bit : (b : Bool) (value : ℕ) → value ≡ bit_value b → bits_of 1 value ≡ b ∷ []
one_bit true value is = rw is refl
one_bit false value is = rw is refl

pub set_held : (bits : List Bool) (at : ℕ) (b : Bool) → at < length bits → take at bits ++ (b ∷ []) ++ drop (at + 1) bits ≡ set bits at b
set_held bits at b lt =
    let e : at + 1 ≡ suc at = omega arith in
    append_assoc (take at bits) (b ∷ []) (drop (at + 1) bits) ∙ ap (λ k. take at bits ++ b ∷ drop k bits) e ∙ sym (set_split bits at b lt)

-- what leaves, and what stays, where bits came in behind
pub turned_out : (row : List Bool) (start count n : ℕ) (register bits : List Bool) → window row start (count + n) ≡ register ++ bits → length bits ≡ n → window row start n ≡ shifted_out register bits
turned_out row start count n register bits is size =
    window-front row start count n ∙ (λ i. take (sym size i) (is i)) ∙ sym (stream_out register bits)

pub turned_rest : (row : List Bool) (start count n : ℕ) (register bits : List Bool) → window row start (count + n) ≡ register ++ bits → length bits ≡ n → window row (start + n) count ≡ shifted_all register bits
turned_rest row start count n register bits is size =
    window-back row start count n ∙ (λ i. drop (sym size i) (is i)) ∙ sym (stream_rest register bits)

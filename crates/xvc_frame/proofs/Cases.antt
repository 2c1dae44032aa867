-- A message in three cases is what the reading from the front finds.
use Rattle.std.proofs.Common.{◌≡◌, ℕ, ◌+◌, ◌-◌, ◌*◌, ◌^◌, ◌<◌, ◌≤◌, Bool, true, false, ◌&&◌, cond, List, [], ◌∷◌, ◌++◌, length, take, drop, refl, ap, sym, ◌∙◌, subst, arith, nat_eq, nat_le, Some, None, length-append, length-drop, take-append-drop}
use Rattle.std.specs.declared.option.Option.{Option}
use Rattle.std.proofs.lemmas.Bool.{eqb-true, eq-eqb, leb-true, le-leb}
use Rattle.std.proofs.lemmas.List.{take_all, take_at, drop_at, drop-drop, length-take-le, nil_from_length}
use Rattle.std.proofs.lemmas.List.Elements.{All-take, All-drop}
use Rattle.scan_bits.specs.Words.{number_of_bytes, bytes_of, unpacked, byte_count}
use Rattle.xvc_frame.specs.Messages.{Message, begins, getinfo_word, settck_word, shift_word, announces, cycle_count, message_length, shift_message, message_of, whole_at_front, front, Framed, IsFramed, IsVector, IsShift, IsMessage, AreBytes, encoded_shift}
use Rattle.xvc_frame.specs.Messages.Message.{GetInfo, SetTck, Shift}
use Rattle.xvc_frame.proofs.Fronts.{both, both_so, to_false, one_begins, begins-append}
use Rattle.xvc_frame.proofs.Numbers.{number_of_bytes-bytes_of, bytes_of-number_of_bytes, number_of_bytes-lt, length-unpacked}

pub begins_split : (word bytes : List ℕ) → begins word bytes ≡ true → bytes ≡ word ++ drop (length word) bytes
begins_split [] bytes h = refl
begins_split (a ∷ word) [] h = absurd (let e : false ≡ true = h in cc)
begins_split (a ∷ word) (byte ∷ bytes) h =
    let k = both (nat_eq a byte) (begins word bytes) h in
    let same : a ≡ byte = eqb-true a byte k.0 in
    let rest : bytes ≡ word ++ drop (length word) bytes = begins_split word bytes k.1 in
    cc

pub begins_front : (word rest : List ℕ) → begins word (word ++ rest) ≡ true
begins_front [] rest = refl
begins_front (a ∷ word) rest = both_so (nat_eq a a) (begins word (word ++ rest)) (eq-eqb a a refl) (begins_front word rest)

-- ---- from the three cases to the front

pub shift_length : (vector : ℕ) (bytes : List ℕ) → begins shift_word bytes ≡ true → 10 ≤ length bytes → cycle_count bytes ≤ 8 * vector → message_length vector bytes ≡ Some (10 + 2 * byte_count (cycle_count bytes))
shift_length vector bytes h long few =
    let g : begins getinfo_word bytes ≡ false = to_false (begins getinfo_word bytes) (λ q. one_begins shift_word getinfo_word bytes [] h (begins-append getinfo_word bytes [] q)) in
    let s : begins settck_word bytes ≡ false = to_false (begins settck_word bytes) (λ q. one_begins shift_word settck_word bytes [] h (begins-append settck_word bytes [] q)) in
    rw (g, s, h, le-leb 10 (length bytes) long, le-leb (cycle_count bytes) (8 * vector) few) refl

pub shift_of : (bytes : List ℕ) → begins shift_word bytes ≡ true → message_of bytes ≡ shift_message (cycle_count bytes) (drop 10 bytes)
shift_of bytes h =
    let g : begins getinfo_word bytes ≡ false = to_false (begins getinfo_word bytes) (λ q. one_begins shift_word getinfo_word bytes [] h (begins-append getinfo_word bytes [] q)) in
    let s : begins settck_word bytes ≡ false = to_false (begins settck_word bytes) (λ q. one_begins shift_word settck_word bytes [] h (begins-append settck_word bytes [] q)) in
    rw (g, s) refl

pub framed_by_length : (vector : ℕ) (bytes : List ℕ) → message_length vector bytes ≡ Some (length bytes) → IsFramed vector (message_of bytes) bytes
framed_by_length vector bytes e =
    ap (λ (f : Option ℕ). whole_at_front f bytes) e
    ∙ rw (le-leb (length bytes) (length bytes) (omega arith), take_all (length bytes) bytes (omega arith)) refl

pub shift_framed : (vector : ℕ) (bytes : List ℕ) → begins shift_word bytes ≡ true → cycle_count bytes ≤ 8 * vector → length bytes ≡ 10 + 2 * byte_count (cycle_count bytes) → IsFramed vector (message_of bytes) bytes
shift_framed vector bytes h few long =
    framed_by_length vector bytes (shift_length vector bytes h (omega arith) few ∙ ap Some (sym long))

pub encoded_shift_drop : (count : ℕ) (tms tdi : List ℕ) → drop 10 (encoded_shift count tms tdi) ≡ tms ++ tdi
encoded_shift_drop count tms tdi = refl

pub encoded_shift_long : (count : ℕ) (tms tdi : List ℕ) → length (encoded_shift count tms tdi) ≡ 10 + (length tms + length tdi)
encoded_shift_long count tms tdi = omega (arith, length-append tms tdi)

pub encoded_shift_count : (count : ℕ) (tms tdi : List ℕ) → count < 2 ^ 32 → cycle_count (encoded_shift count tms tdi) ≡ count
encoded_shift_count count tms tdi small = number_of_bytes-bytes_of 4 count small

module _ (vector : ℕ) (tms tdi : List Bool) (bytes : List ℕ) where
  shift_bits : (a b : List ℕ) → length tdi ≡ length tms → IsVector tms a → IsVector tdi b → shift_message (length tms) (a ++ b) ≡ Shift tms tdi
  shift_bits a b same va vb =
      let n = length tms in
      let front : take (byte_count n) (a ++ b) ≡ a = take_at a b (byte_count n) va.0 in
      let back : drop (byte_count n) (a ++ b) ≡ b = drop_at a b (byte_count n) va.0 in
      let all : take (byte_count n) b ≡ b = take_all (byte_count n) b (omega (arith, vb.0, ap byte_count same)) in
      (λ i. Shift (take n (unpacked (front i))) (take n (unpacked (take (byte_count n) (back i)))))
      ∙ (λ i. Shift (va.1 i) (take n (unpacked (all i))))
      ∙ ap (λ (s : List Bool). Shift tms s) (ap (λ (k : ℕ). take k (unpacked b)) (sym same) ∙ vb.1)

  pub shift_is_framed : IsShift vector tms tdi bytes → IsFramed vector (Shift tms tdi) bytes
  shift_is_framed s =
      let n = length tms in
      let count : cycle_count bytes ≡ n = ap cycle_count s.bytes_are ∙ encoded_shift_count n s.tms_bytes s.tdi_bytes s.four_bytes in
      let word : begins shift_word bytes ≡ true = ap (begins shift_word) s.bytes_are in
      let few : cycle_count bytes ≤ 8 * vector = omega (arith, count, s.within) in
      let long : length bytes ≡ 10 + 2 * byte_count (cycle_count bytes)
      = ap length s.bytes_are ∙ encoded_shift_long n s.tms_bytes s.tdi_bytes ∙ rw count (omega (arith, s.tms_are.0, s.tdi_are.0, ap byte_count s.one_each)) in
      let message : message_of bytes ≡ Shift tms tdi
      = shift_of bytes word ∙ (λ i. shift_message (count i) (drop 10 (s.bytes_are i))) ∙ shift_bits s.tms_bytes s.tdi_bytes s.one_each s.tms_are s.tdi_are in
      subst (λ (m : Message). IsFramed vector m bytes) message (shift_framed vector bytes word few long)

pub framed : (vector : ℕ) (message : Message) (bytes : List ℕ) → IsMessage vector message bytes → IsFramed vector message bytes
framed vector GetInfo bytes e = subst (λ (b : List ℕ). IsFramed vector GetInfo b) (sym e) refl
framed vector (SetTck period) bytes h =
    let number : number_of_bytes (bytes_of 4 period) ≡ period = number_of_bytes-bytes_of 4 period h.0 in
    subst (λ (b : List ℕ). IsFramed vector (SetTck period) b) (sym h.1) (ap (λ (n : ℕ). Some (record { message = SetTck n; bytes = 11 })) number)
framed vector (Shift tms tdi) bytes s = shift_is_framed vector tms tdi bytes s

-- ---- from the front to the three cases

-- what is known of a message at the front
pub record AtFront (vector : ℕ) (bytes : List ℕ) (framed : Framed) : Type 0 where
  pub length_is : message_length vector bytes ≡ Some framed.bytes
  pub there : framed.bytes ≤ length bytes
  pub message_is : message_of (take framed.bytes bytes) ≡ framed.message

module _ (vector : ℕ) (bytes : List ℕ) (framed : Framed) where
  at_front_found : (found : Option ℕ) → message_length vector bytes ≡ found → whole_at_front found bytes ≡ Some framed → AtFront vector bytes framed
  at_front_found None e h = absurd (let q : None ≡ Some framed = h in cc)
  at_front_found (Some count) e h = go (nat_le count (length bytes)) refl h
    where
      go : (b : Bool) → nat_le count (length bytes) ≡ b → cond b (Some (record { message = message_of (take count bytes); bytes = count })) None ≡ Some framed → AtFront vector bytes framed
      go false le k = absurd (let q : None ≡ Some framed = k in cc)
      go true le k =
          let this : Framed = record { message = message_of (take count bytes); bytes = count } in
          let same : this ≡ framed = cc in
          let long : count ≡ framed.bytes = ap (λ (f : Framed). f.bytes) same in
          record {
            length_is = e ∙ ap Some long;
            there = omega (arith, long, leb-true count (length bytes) le);
            message_is = (λ i. message_of (take (sym long i) bytes)) ∙ ap (λ (f : Framed). f.message) same;
          }

  pub at_front : front vector bytes ≡ Some framed → AtFront vector bytes framed
  at_front h = at_front_found (message_length vector bytes) refl h

-- what a reading that uses all bytes found
pub record AllOf (vector : ℕ) (message : Message) (bytes : List ℕ) : Type 0 where
  pub length_is : message_length vector bytes ≡ Some (length bytes)
  pub message_is : message_of bytes ≡ message

pub all_of : (vector : ℕ) (message : Message) (bytes : List ℕ) → IsFramed vector message bytes → AllOf vector message bytes
all_of vector message bytes h =
    let f = at_front vector bytes (record { message = message; bytes = length bytes }) h in
    record { length_is = f.length_is; message_is = ap message_of (sym (take_all (length bytes) bytes (omega arith))) ∙ f.message_is }

-- the chain of tests of `message_length`
abbrev by_tests : Bool → Bool → Bool → ℕ → Option ℕ
by_tests g s h n = cond g (Some 8) (cond s (Some 11) (cond h (Some (10 + 2 * byte_count n)) None))

number_in : Option ℕ → ℕ
number_in None = 0
number_in (Some n) = n

pub some_same : (a b : ℕ) → Some a ≡ Some b → a ≡ b
unfolding number_in
some_same a b e = ap number_in e

-- a word with so many bytes behind it
pub word_and_rest : (word bytes : List ℕ) (count : ℕ) → begins word bytes ≡ true → length bytes ≡ length word + count → (bytes ≡ word ++ drop (length word) bytes) × (length (drop (length word) bytes) ≡ count)
word_and_rest word bytes count h long = (begins_split word bytes h, omega (arith, length-drop (length word) bytes))

-- four bytes are those of their number
pub four_bytes : (bytes : List ℕ) → length bytes ≡ 4 → AreBytes bytes → (bytes_of 4 (number_of_bytes bytes) ≡ bytes) × (number_of_bytes bytes < 2 ^ 32)
four_bytes bytes long small = (
  ap (λ (n : ℕ). bytes_of n (number_of_bytes bytes)) (sym long) ∙ bytes_of-number_of_bytes bytes small,
  subst (λ (n : ℕ). number_of_bytes bytes < 256 ^ n) long (number_of_bytes-lt bytes small),
)

settck_case : (vector : ℕ) (bytes : List ℕ) → AreBytes bytes → begins settck_word bytes ≡ true → length bytes ≡ 11 → IsMessage vector (SetTck (number_of_bytes (take 4 (drop 7 bytes)))) bytes
settck_case vector bytes small h long =
    let parts = word_and_rest settck_word bytes 4 h long in
    let all : take 4 (drop 7 bytes) ≡ drop 7 bytes = take_all 4 (drop 7 bytes) (omega (arith, parts.1)) in
    let f = four_bytes (take 4 (drop 7 bytes)) (ap length all ∙ parts.1) (All-take (λ b. b < 256) 4 (drop 7 bytes) (All-drop (λ b. b < 256) 7 bytes small)) in
    (f.1, parts.0 ∙ ap (λ (s : List ℕ). settck_word ++ s) (sym all ∙ sym f.0))

-- the first bits of a vector
pub vector_of : (count : ℕ) (bytes : List ℕ) → length bytes ≡ byte_count count → (length (take count (unpacked bytes)) ≡ count) × IsVector (take count (unpacked bytes)) bytes
vector_of count bytes long =
    let n : length (take count (unpacked bytes)) ≡ count = length-take-le count (unpacked bytes) (omega (arith, length-unpacked bytes)) in
    (n, (rw n long, ap (λ (k : ℕ). take k (unpacked bytes)) n))

module _ (vector : ℕ) (bytes : List ℕ) where
  shift_case : AreBytes bytes → begins shift_word bytes ≡ true → 10 ≤ length bytes → cycle_count bytes ≤ 8 * vector → 10 + 2 * byte_count (cycle_count bytes) ≡ length bytes
      → IsMessage vector (shift_message (cycle_count bytes) (drop 10 bytes)) bytes
  shift_case small h ten few long =
      let n = cycle_count bytes in
      let k = byte_count n in
      let v = drop 10 bytes in
      let a = take k v in
      let b = take k (drop k v) in
      let v_long : length v ≡ k + k = omega (arith, length-drop 10 bytes) in
      let rest : take k (drop k v) ≡ drop k v = take_all k (drop k v) (omega (arith, length-drop k v)) in
      let a_long : length a ≡ k = length-take-le k v (omega arith) in
      let b_long : length b ≡ k = ap length rest ∙ omega (arith, length-drop k v) in
      let va = vector_of n a a_long in
      let vb = vector_of n b b_long in
      let parts = begins_split shift_word bytes h in
      let behind : length (drop 6 bytes) ≡ 4 + (length bytes - 10) = omega (arith, length-drop 6 bytes) in
      let four = four_bytes (take 4 (drop 6 bytes)) (length-take-le 4 (drop 6 bytes) (omega arith)) (All-take (λ x. x < 256) 4 (drop 6 bytes) (All-drop (λ x. x < 256) 6 bytes small)) in
      let tail : drop 6 bytes ≡ bytes_of 4 n ++ (a ++ b)
      = sym (take-append-drop 4 (drop 6 bytes))
      ∙ (λ i. sym four.0 i ++ drop-drop 4 6 bytes i)
      ∙ ap (λ (s : List ℕ). bytes_of 4 n ++ s) (sym (take-append-drop k v) ∙ ap (λ (s : List ℕ). a ++ s) (sym rest)) in
      record {
        tms_bytes = a;
        tdi_bytes = b;
        bytes_are = parts ∙ ap (λ (s : List ℕ). shift_word ++ s) tail ∙ ap (λ (m : ℕ). encoded_shift m a b) (sym va.0);
        within = omega (arith, va.0);
        four_bytes = omega (arith, va.0, four.1);
        one_each = vb.0 ∙ sym va.0;
        tms_are = va.1;
        tdi_are = vb.1;
      }

  by_cases : (message : Message) → AreBytes bytes → AllOf vector message bytes → (g s h : Bool) → begins getinfo_word bytes ≡ g → begins settck_word bytes ≡ s
      → (announces bytes && nat_le (cycle_count bytes) (8 * vector)) ≡ h → by_tests g s h (cycle_count bytes) ≡ Some (length bytes) → IsMessage vector message bytes
  by_cases message small all true s h a b c e =
      let parts = word_and_rest getinfo_word bytes 0 a (sym (some_same 8 (length bytes) e)) in
      let none : drop 8 bytes ≡ [] = nil_from_length (drop 8 bytes) parts.1 in
      let is : IsMessage vector GetInfo bytes = parts.0 ∙ ap (λ (x : List ℕ). getinfo_word ++ x) none in
      let m : message_of bytes ≡ GetInfo = rw a refl in
      subst (λ (x : Message). IsMessage vector x bytes) (sym m ∙ all.message_is) is
  by_cases message small all false true h a b c e =
      let m : message_of bytes ≡ SetTck (number_of_bytes (take 4 (drop 7 bytes))) = rw (a, b) refl in
      subst (λ (x : Message). IsMessage vector x bytes) (sym m ∙ all.message_is) (settck_case vector bytes small b (sym (some_same 11 (length bytes) e)))
  by_cases message small all false false true a b c e =
      let k = both (announces bytes) (nat_le (cycle_count bytes) (8 * vector)) c in
      let w = both (begins shift_word bytes) (nat_le 10 (length bytes)) k.0 in
      subst (λ (x : Message). IsMessage vector x bytes) (sym (shift_of bytes w.0) ∙ all.message_is)
      (shift_case small w.0 (leb-true 10 (length bytes) w.1) (leb-true (cycle_count bytes) (8 * vector) k.1) (some_same (10 + 2 * byte_count (cycle_count bytes)) (length bytes) e))
  by_cases message small all false false false a b c e = absurd (let q : None ≡ Some (length bytes) = e in cc)

pub unframed : (vector : ℕ) (message : Message) (bytes : List ℕ) → AreBytes bytes → IsFramed vector message bytes → IsMessage vector message bytes
unframed vector message bytes small h =
    let all = all_of vector message bytes h in
    by_cases vector bytes message small all (begins getinfo_word bytes) (begins settck_word bytes) (announces bytes && nat_le (cycle_count bytes) (8 * vector)) refl refl refl all.length_is

-- What is encoded is read as that message, and an accepted message is encoded from its parts.
use Rattle.std.proofs.Common.{◌≡◌, ℕ, ◌+◌, ◌*◌, ◌^◌, ◌<◌, ◌≤◌, List, [], ◌++◌, length, take, drop, refl, ap, sym, ◌∙◌, arith, append_assoc, Some, None}
use Rattle.std.proofs.lemmas.List.{take_at, drop_at, drop-drop}
use Rattle.scan_bits.specs.Words.{unpacked, packed, byte_count}
use Rattle.xvc_frame.specs.Messages.{Message, Framed, refused, IsMessage, Fits, encoded, encoded_shift, encoded_from}
use Rattle.xvc_frame.specs.Messages.Message.{GetInfo, SetTck, Shift}
use Rattle.xvc_frame.proofs.Fronts.{prefix_free, front-append, front_not_refused}
use Rattle.xvc_frame.proofs.Numbers.{packed_is_vector}
use Rattle.xvc_frame.proofs.Cases.{framed, vector_of, encoded_shift_drop}

pub encoded_is_message : (vector : ℕ) (message : Message) → Fits vector message → IsMessage vector message (encoded message)
encoded_is_message vector GetInfo h = refl
encoded_is_message vector (SetTck period) h = (h, refl)
encoded_is_message vector (Shift tms tdi) h = record {
  tms_bytes = packed tms;
  tdi_bytes = packed tdi;
  bytes_are = refl;
  within = h.0;
  four_bytes = h.1;
  one_each = h.2;
  tms_are = packed_is_vector tms;
  tdi_are = packed_is_vector tdi;
}

module _ (vector count : ℕ) (tms tdi : List ℕ) where
  pub encoded_shift_is : count ≤ 8 * vector → count < 2 ^ 32 → length tms ≡ byte_count count → length tdi ≡ byte_count count
      → IsMessage vector (Shift (take count (unpacked tms)) (take count (unpacked tdi))) (encoded_shift count tms tdi)
  encoded_shift_is within small a b =
      let m = vector_of count tms a in
      let d = vector_of count tdi b in
      record {
        tms_bytes = tms;
        tdi_bytes = tdi;
        bytes_are = ap (λ (n : ℕ). encoded_shift n tms tdi) (sym m.0);
        within = omega (arith, m.0);
        four_bytes = omega (arith, m.0);
        one_each = d.0 ∙ sym m.0;
        tms_are = m.1;
        tdi_are = d.1;
      }

pub message_is_encoded : (vector : ℕ) (message : Message) (bytes : List ℕ) → IsMessage vector message bytes → bytes ≡ encoded_from bytes message
message_is_encoded vector GetInfo bytes e = e
message_is_encoded vector (SetTck period) bytes h = h.1
message_is_encoded vector (Shift tms tdi) bytes s =
    let k = byte_count (length tms) in
    let tail : drop 10 bytes ≡ s.tms_bytes ++ s.tdi_bytes = ap (drop 10) s.bytes_are ∙ encoded_shift_drop (length tms) s.tms_bytes s.tdi_bytes in
    let a : take k (drop 10 bytes) ≡ s.tms_bytes = ap (take k) tail ∙ take_at s.tms_bytes s.tdi_bytes k s.tms_are.0 in
    let b : drop (10 + k) bytes ≡ s.tdi_bytes = sym (drop-drop k 10 bytes) ∙ ap (drop k) tail ∙ drop_at s.tms_bytes s.tdi_bytes k s.tms_are.0 in
    s.bytes_are ∙ (λ i. encoded_shift (length tms) (sym a i) (sym b i))

-- bytes are at most one message
pub one_message : (vector : ℕ) (first second : Message) (bytes : List ℕ) → IsMessage vector first bytes → IsMessage vector second bytes → first ≡ second
one_message vector first second bytes h k =
    let a : Framed = record { message = first; bytes = length bytes } in
    let b : Framed = record { message = second; bytes = length bytes } in
    let same : a ≡ b = let q : Some a ≡ Some b = sym (framed vector first bytes h) ∙ framed vector second bytes k in cc in
    ap (λ (f : Framed). f.message) same

-- no message goes on to another
pub apart : (vector : ℕ) (first second : Message) (bytes more : List ℕ) → IsMessage vector first bytes → IsMessage vector second (bytes ++ more) → more ≡ []
apart vector first second bytes more h k = prefix_free vector first second bytes more (framed vector first bytes h) (framed vector second (bytes ++ more) k)

pub not_refused : (vector : ℕ) (message : Message) (bytes more : List ℕ) → IsMessage vector message bytes → refused vector (bytes ++ more) ≡ None
not_refused vector message bytes more h =
    let f : Framed = record { message = message; bytes = length bytes } in
    front_not_refused vector (bytes ++ more) f (front-append vector bytes more f (framed vector message bytes h))

-- bytes appended in two steps
pub appended : (old kept mid new first second last : List ℕ) → new ≡ mid ++ second → mid ≡ kept ++ first → kept ≡ old → second ≡ last → new ≡ old ++ (first ++ last)
appended old kept mid new first second last new_is mid_is kept_is last_is =
    new_is ∙ (λ i. mid_is i ++ last_is i) ∙ append_assoc kept first last ∙ ap (λ (s : List ℕ). s ++ (first ++ last)) kept_is

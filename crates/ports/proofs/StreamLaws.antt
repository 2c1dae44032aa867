-- Bytes that are taken or sent in several calls.
use Rattle.std.proofs.Common.{◌≡◌, ◌+◌, ◌-◌, ◌≤◌, ◌<◌, ℕ, List, [], ◌++◌, length, take, drop, min, sym, ◌∙◌, ap, arith, length-append, length-drop, take-append-drop, subst}
use Rattle.std.proofs.lemmas.List.{length-take-le, length-take, take-append-le, take_all, drop-drop, nil_from_length}
use Rattle.std.proofs.Math.Seq.{take-append-add, take-length}
use borrow.Rule.Slice.PartMut.{put_mid}
use Rattle.std.specs.declared.option.Option.{Option}
use Rattle.std.specs.Io.KnownBytes.{Appends}
use Rattle.ports.specs.Streams.{AppendsFront}

-- what a read into the rest of a buffer leaves in its front
pub taken_part : (a k m : ℕ) (xs ys : List ℕ) → a ≤ length xs → m ≤ length ys → take (a + m) (put_mid a k xs ys) ≡ take a xs ++ take m ys
taken_part a k m xs ys le le' =
    let size : length (take a xs) ≡ a = length-take-le a xs le in
    let front : take (length (take a xs) + m) (put_mid a k xs ys) ≡ take a xs ++ take m (ys ++ drop k (drop a xs)) = take-append-add (take a xs) (ys ++ drop k (drop a xs)) m in
    ap (λ (n : ℕ). take (n + m) (put_mid a k xs ys)) (sym size) ∙ front ∙ ap (λ (l : List ℕ). take a xs ++ l) (take-append-le m ys (drop k (drop a xs)) le')

pub part_bound : (a k m : ℕ) (xs ys : List ℕ) → a ≤ length xs → m ≤ length ys → a + m ≤ length (put_mid a k xs ys)
part_bound a k m xs ys le le' =
    omega (arith, length-take-le a xs le, length-append (take a xs) (ys ++ drop k (drop a xs)), length-append ys (drop k (drop a xs)))

-- a slice from an index on is the rest of the list
pub rest_taken : (n m : ℕ) (xs : List ℕ) → take m (take (length xs - n) (drop n xs)) ≡ take m (drop n xs)
rest_taken n m xs = ap (λ (l : List ℕ). take m l) (take_all (length xs - n) (drop n xs) (omega (arith, length-drop n xs)))

pub rest_bound : (n m : ℕ) (xs : List ℕ) → m ≤ length (take (length xs - n) (drop n xs)) → n ≤ length xs → n + m ≤ length xs
rest_bound n m xs le le' = omega (arith, length-drop n xs, length-take (length xs - n) (drop n xs))

-- the whole is a front
pub whole_front : (old new : Option (List ℕ)) (text shown : List ℕ) → Appends old new text → text ≡ shown → AppendsFront old new shown
whole_front old new text shown whole is = (length shown, subst (λ (l : List ℕ). Appends old new l) (is ∙ sym (take-length shown)) whole)

-- what a copy of the front of the bytes that are left puts into the front of a buffer
pub front_copied : (left old new : List ℕ) (n : ℕ) → n ≤ length left → new ≡ take n left ++ drop n old → take n new ≡ take n left
front_copied left old new n le is =
    let size : length (take n left) ≡ n = length-take-le n left le in
    ap (λ (l : List ℕ). take n l) is ∙ take-append-le n (take n left) (drop n old) (omega (arith, size)) ∙ take_all n (take n left) (omega (arith, size))

pub front_taken : (bytes left old new : List ℕ) (at n : ℕ) → left ≡ drop at bytes → n ≤ length left → new ≡ take n left ++ drop n old → left ≡ take n new ++ drop (at + n) bytes
front_taken bytes left old new at n rest le is =
    sym (take-append-drop n left) ∙ (λ i. sym (front_copied left old new n le is) i ++ (ap (λ (l : List ℕ). drop n l) rest ∙ drop-drop n at bytes) i)

-- nothing is copied only where nothing is left
pub none_left : (bytes left old : List ℕ) (at n most : ℕ) → left ≡ drop at bytes → n ≡ min (length left) (min (length old) most) → 0 < most → 0 < length old → n ≡ 0 → drop (at + n) bytes ≡ []
none_left bytes left old at n most rest is some room none =
    nil_from_length (drop (at + n) bytes) (omega (arith, length-drop (at + n) bytes, length-drop at bytes, ap (λ (l : List ℕ). length l) rest, is, some, room, none))

-- The refusal that is computed is the one of the two causes.
use Rattle.std.proofs.Common.{◌≡◌, ◌⊎◌, inl, inr, ℕ, zero, suc, ◌+◌, ◌*◌, ◌<◌, ◌≤◌, max, Bool, true, false, ◌||◌, cond, List, [], ◌∷◌, ◌++◌, length, take, drop, refl, ap, sym, ◌∙◌, subst, arith, nat_eq, nat_le, nat_lt, Some, length-append, length-drop, length-take, take-append-drop}
use Rattle.std.proofs.lemmas.Bool.{eqb-true, eq-eqb, le-leb, ltb-true, lt-ltb, cases_lt}
use Rattle.std.proofs.lemmas.List.{take_at, take-take, take-append-le, length-take-le, drop_all, append-nil}
use Rattle.scan_bits.specs.Words.{number_of_bytes}
use Rattle.xvc_frame.specs.Messages.{begins, shared, getinfo_word, settck_word, shift_word, announces, cycle_count, refused, Refusal, has_word, furthest, IsWord, IsStray, IsTooLong, IsRefused}
use Rattle.xvc_frame.proofs.Fronts.{both, both_so, to_false, begins-append, either, neither, right_so, at_word, off_word, word_long, word_off, too_long, announces_long}
use Rattle.xvc_frame.proofs.Cases.{begins_split, begins_front}

-- ---- how much of a word stands at the front

pub shared_le : (word bytes : List ℕ) → shared word bytes ≤ length bytes
shared_le [] bytes = omega arith
shared_le (a ∷ word) [] = omega arith
shared_le (a ∷ word) (b ∷ bytes) = go (nat_eq a b) (shared_le word bytes)
  where
    go : (c : Bool) → shared word bytes ≤ length bytes → cond c (suc (shared word bytes)) 0 ≤ suc (length bytes)
    go true h = omega arith
    go false h = omega arith

pub shared_front : (word bytes : List ℕ) → word ≡ take (shared word bytes) bytes ++ drop (shared word bytes) word
shared_front [] bytes = refl
shared_front (a ∷ word) [] = refl
shared_front (a ∷ word) (b ∷ bytes) = go (nat_eq a b) refl (shared_front word bytes)
  where
    go : (c : Bool) → nat_eq a b ≡ c → word ≡ take (shared word bytes) bytes ++ drop (shared word bytes) word
        → a ∷ word ≡ take (cond c (suc (shared word bytes)) 0) (b ∷ bytes) ++ drop (cond c (suc (shared word bytes)) 0) (a ∷ word)
    go true e h = let same : a ≡ b = eqb-true a b e in cc
    go false e h = refl

pub shared_most : (word bytes rest : List ℕ) (count : ℕ) → count ≤ length bytes → word ≡ take count bytes ++ rest → count ≤ shared word bytes
shared_most word bytes rest zero le e = omega arith
shared_most word [] rest (suc count) le e = absurd (omega arith)
shared_most [] (b ∷ bytes) rest (suc count) le e = absurd (let q : [] ≡ b ∷ (take count bytes ++ rest) = e in cc)
shared_most (a ∷ word) (b ∷ bytes) rest (suc count) le e =
    let q : a ∷ word ≡ b ∷ (take count bytes ++ rest) = e in
    let same : a ≡ b = cc in
    let tail : word ≡ take count bytes ++ rest = cc in
    let more : count ≤ shared word bytes = shared_most word bytes rest count (omega arith) tail in
    rw (eq-eqb a b same) (omega arith)

-- a part of what is shared
pub shared_part : (word bytes : List ℕ) (count : ℕ) → count ≤ shared word bytes → word ≡ take count bytes ++ drop count word
shared_part word bytes count le =
    let k = shared word bytes in
    let long : count ≤ length (take k bytes) = omega (arith, length-take k bytes, shared_le word bytes) in
    let part : take count word ≡ take count bytes
    = ap (take count) (shared_front word bytes) ∙ take-append-le count (take k bytes) (drop k word) long ∙ take-take count k bytes le in
    sym (take-append-drop count word) ∙ ap (λ (s : List ℕ). s ++ drop count word) part

pub shared_whole : (word bytes : List ℕ) → length word ≤ shared word bytes → begins word bytes ≡ true
shared_whole word bytes le =
    let part : word ≡ take (length word) bytes ++ drop (length word) word = shared_part word bytes (length word) le in
    let none : drop (length word) word ≡ [] = drop_all (length word) word (omega arith) in
    let is : word ≡ take (length word) bytes = part ∙ ap (λ (s : List ℕ). take (length word) bytes ++ s) none ∙ append-nil (take (length word) bytes) in
    let whole : bytes ≡ word ++ drop (length word) bytes = sym (take-append-drop (length word) bytes) ∙ ap (λ (s : List ℕ). s ++ drop (length word) bytes) (sym is) in
    subst (λ (s : List ℕ). begins word s ≡ true) (sym whole) (begins_front word (drop (length word) bytes))

-- a front of the bytes that a word reaches
pub word_part : (word bytes : List ℕ) (count : ℕ) → begins word bytes ≡ true → count ≤ length word → word ≡ take count bytes ++ drop count word
word_part word bytes count h le =
    let front : take count bytes ≡ take count word = ap (take count) (begins_split word bytes h) ∙ take-append-le count word (drop (length word) bytes) le in
    sym (take-append-drop count word) ∙ ap (λ (s : List ℕ). s ++ drop count word) (sym front)

-- ---- the three words

pub absent : (bytes word : List ℕ) → has_word bytes ≡ false → IsWord word → begins word bytes ≡ false
absent bytes word h w =
    let a = neither (begins getinfo_word bytes) (begins settck_word bytes || begins shift_word bytes) h in
    let b = neither (begins settck_word bytes) (begins shift_word bytes) a.1 in
    elim w [
      | inl e ↦ rw e a.0
      | inr f ↦ elim f [
        | inl e ↦ rw e b.0
        | inr e ↦ rw e b.1
      ]
    ]

pub present : (bytes : List ℕ) → has_word bytes ≡ true → (word : List ℕ) × (IsWord word × (begins word bytes ≡ true))
present bytes h = elim (either (begins getinfo_word bytes) (begins settck_word bytes || begins shift_word bytes) h) [
  | inl g ↦ (getinfo_word, (inl refl, g))
  | inr k ↦ elim (either (begins settck_word bytes) (begins shift_word bytes) k) [
    | inl s ↦ (settck_word, (inr (inl refl), s))
    | inr w ↦ (shift_word, (inr (inr refl), w))
  ]
]

pub furthest_most : (bytes word : List ℕ) → IsWord word → shared word bytes ≤ furthest bytes
furthest_most bytes word w = elim w [
  | inl e ↦ rw e (omega arith)
  | inr f ↦ elim f [
    | inl e ↦ rw e (omega arith)
    | inr e ↦ rw e (omega arith)
  ]
]

max_is : (a b : ℕ) → (max a b ≡ a) ⊎ (max a b ≡ b)
max_is a b = elim (cases_lt a b) [
  | inl lt ↦ inr (omega arith)
  | inr ge ↦ inl (omega arith)
]

pub furthest_is : (bytes : List ℕ) → (word : List ℕ) × (IsWord word × (shared word bytes ≡ furthest bytes))
furthest_is bytes = elim (max_is (shared getinfo_word bytes) (max (shared settck_word bytes) (shared shift_word bytes))) [
  | inl e ↦ (getinfo_word, (inl refl, sym e))
  | inr f ↦ elim (max_is (shared settck_word bytes) (shared shift_word bytes)) [
    | inl e ↦ (settck_word, (inr (inl refl), sym (f ∙ e)))
    | inr e ↦ (shift_word, (inr (inr refl), sym (f ∙ e)))
  ]
]

getinfo_apart : (long : List ℕ) → IsWord long → begins getinfo_word long ≡ true → length long ≤ 8
getinfo_apart long w h = elim w [
  | inl e ↦ rw e (omega arith)
  | inr f ↦ elim f [
    | inl e ↦ absurd (let q : false ≡ true = subst (λ (s : List ℕ). begins getinfo_word s ≡ true) e h in cc)
    | inr e ↦ absurd (let q : false ≡ true = subst (λ (s : List ℕ). begins getinfo_word s ≡ true) e h in cc)
  ]
]

settck_apart : (long : List ℕ) → IsWord long → begins settck_word long ≡ true → length long ≤ 7
settck_apart long w h = elim w [
  | inl e ↦ absurd (let q : false ≡ true = subst (λ (s : List ℕ). begins settck_word s ≡ true) e h in cc)
  | inr f ↦ elim f [
    | inl e ↦ rw e (omega arith)
    | inr e ↦ absurd (let q : false ≡ true = subst (λ (s : List ℕ). begins settck_word s ≡ true) e h in cc)
  ]
]

shift_apart : (long : List ℕ) → IsWord long → begins shift_word long ≡ true → length long ≤ 6
shift_apart long w h = elim w [
  | inl e ↦ absurd (let q : false ≡ true = subst (λ (s : List ℕ). begins shift_word s ≡ true) e h in cc)
  | inr f ↦ elim f [
    | inl e ↦ absurd (let q : false ≡ true = subst (λ (s : List ℕ). begins shift_word s ≡ true) e h in cc)
    | inr e ↦ rw e (omega arith)
  ]
]

-- no word is a proper front of another
pub words_apart : (short long : List ℕ) → IsWord short → IsWord long → begins short long ≡ true → length long ≤ length short
words_apart short long v w h = elim v [
  | inl e ↦ rw e (getinfo_apart long w (subst (λ (s : List ℕ). begins s long ≡ true) e h))
  | inr f ↦ elim f [
    | inl e ↦ rw e (settck_apart long w (subst (λ (s : List ℕ). begins s long ≡ true) e h))
    | inr e ↦ rw e (shift_apart long w (subst (λ (s : List ℕ). begins s long ≡ true) e h))
  ]
]

-- ---- from what is computed to the two causes

pub too_long_is : (vector : ℕ) (bytes : List ℕ) → too_long vector bytes ≡ true → IsTooLong vector bytes
too_long_is vector bytes h =
    let k = both (announces bytes) (nat_lt (8 * vector) (cycle_count bytes)) h in
    let word = (both (begins shift_word bytes) (nat_le 10 (length bytes)) k.0).0 in
    let long = announces_long bytes k.0 in
    record {
      number = take 4 (drop 6 bytes);
      rest = drop 4 (drop 6 bytes);
      bytes_are = begins_split shift_word bytes word ∙ ap (λ (s : List ℕ). shift_word ++ s) (sym (take-append-drop 4 (drop 6 bytes)));
      four_bytes = length-take-le 4 (drop 6 bytes) (omega (arith, length-drop 6 bytes));
      too_many = ltb-true (8 * vector) (cycle_count bytes) k.1;
    }

pub stray_is : (bytes : List ℕ) → has_word bytes ≡ false → furthest bytes < length bytes → IsStray bytes (furthest bytes)
stray_is bytes h lt =
    let f = furthest_is bytes in
    let word : List ℕ = f.0 in
    let same : shared word bytes ≡ furthest bytes = f.1.1 in
    let off : begins word bytes ≡ false = absent bytes word h f.1.0 in
    record {
      there = lt;
      begun = record {
        word = word;
        is_word = f.1.0;
        rest = drop (furthest bytes) word;
        goes_on = shared_part word bytes (furthest bytes) (omega (arith, same));
        proper = shorter word off same (cases_lt (shared word bytes) (length word));
      };
      stray = λ other rest w e. absurd (omega (arith, shared_most other bytes rest (furthest bytes + 1) (omega arith) e, furthest_most bytes other w));
    }
  where
    shorter : (word : List ℕ) → begins word bytes ≡ false → shared word bytes ≡ furthest bytes → (shared word bytes < length word) ⊎ (length word ≤ shared word bytes) → 0 < length (drop (furthest bytes) word)
    shorter word off same (inl less) = omega (arith, length-drop (furthest bytes) word)
    shorter word off same (inr ge) = absurd (let q : true ≡ false = sym (shared_whole word bytes ge) ∙ off in cc)

same_refusal : (x y : Refusal) → Some x ≡ Some y → x ≡ y
same_refusal x y e = cc

module _ (vector : ℕ) (bytes : List ℕ) (at cause : ℕ) where
  pub refused_is : refused vector bytes ≡ Some (record { at = at; cause = cause }) → IsRefused vector bytes at cause
  refused_is e = go (has_word bytes) refl
    where
      go : (w : Bool) → has_word bytes ≡ w → IsRefused vector bytes at cause
      go true h =
          let long : too_long vector bytes ≡ true = at_word (has_word bytes) (too_long vector bytes) (furthest bytes) (length bytes) (record { at = at; cause = cause }) h e in
          let found : Refusal = record { at = 6; cause = 2 } in
          let given : Refusal = record { at = at; cause = cause } in
          let same : found ≡ given = same_refusal found given (sym (word_long (has_word bytes) (too_long vector bytes) (furthest bytes) (length bytes) h long) ∙ e) in
          inr (ap (λ (r : Refusal). r.cause) (sym same), ap (λ (r : Refusal). r.at) (sym same), too_long_is vector bytes long)
      go false h =
          let lt : furthest bytes < length bytes = off_word (has_word bytes) (too_long vector bytes) (furthest bytes) (length bytes) (record { at = at; cause = cause }) h e in
          let found : Refusal = record { at = furthest bytes; cause = 1 } in
          let given : Refusal = record { at = at; cause = cause } in
          let same : found ≡ given = same_refusal found given (sym (word_off (has_word bytes) (too_long vector bytes) (furthest bytes) (length bytes) h lt) ∙ e) in
          inl (ap (λ (r : Refusal). r.cause) (sym same), subst (IsStray bytes) (ap (λ (r : Refusal). r.at) same) (stray_is bytes h lt))

-- ---- from the two causes to what is computed

pub long_so : (vector : ℕ) (bytes : List ℕ) → IsTooLong vector bytes → (has_word bytes ≡ true) × (too_long vector bytes ≡ true)
long_so vector bytes l =
    let whole : List ℕ = shift_word ++ l.number ++ l.rest in
    let word : begins shift_word bytes ≡ true = ap (begins shift_word) l.bytes_are in
    let ten : 10 ≤ length bytes = omega (arith, ap length l.bytes_are, length-append l.number l.rest, l.four_bytes) in
    let count : cycle_count bytes ≡ number_of_bytes l.number = ap cycle_count l.bytes_are ∙ ap number_of_bytes (take_at l.number l.rest 4 l.four_bytes) in (
      right_so (begins getinfo_word bytes) (begins settck_word bytes || begins shift_word bytes) (right_so (begins settck_word bytes) (begins shift_word bytes) word),
      both_so (announces bytes) (nat_lt (8 * vector) (cycle_count bytes)) (both_so (begins shift_word bytes) (nat_le 10 (length bytes)) word (le-leb 10 (length bytes) ten))
          (rw count (lt-ltb (8 * vector) (number_of_bytes l.number) l.too_many)),
    )

-- where a byte is stray no word is whole
module _ (bytes : List ℕ) (at : ℕ) (s : IsStray bytes at) where
  no_word : (word : List ℕ) → IsWord word → begins word bytes ≡ true → false ≡ true
  no_word word w h = elim (cases_lt at (length word)) [
    | inl lt ↦ absurd (s.stray word (drop (at + 1) word) w (word_part word bytes (at + 1) h (omega arith)))
    | inr ge ↦ absurd (too_short ge)
  ]
    where
      too_short : length word ≤ at → ⊥
      too_short ge =
          let front : word ≡ take (length word) bytes ++ drop (length word) word = word_part word bytes (length word) h (omega arith) in
          let is : word ≡ take (length word) bytes = front ∙ ap (λ (x : List ℕ). take (length word) bytes ++ x) (drop_all (length word) word (omega arith)) ∙ append-nil (take (length word) bytes) in
          let in' : begins word (take at bytes) ≡ true
          = subst (λ (x : List ℕ). begins word x ≡ true) (ap (λ (x : List ℕ). x ++ drop (length word) (take at bytes)) (is ∙ sym (take-take (length word) at bytes ge)) ∙ take-append-drop (length word) (take at bytes)) (begins_front word (drop (length word) (take at bytes))) in
          let other = s.begun.word in
          let inside : begins word other ≡ true = subst (λ (x : List ℕ). begins word x ≡ true) (sym s.begun.goes_on) (begins-append word (take at bytes) s.begun.rest in') in
          let le : length other ≤ length word = words_apart word other w s.begun.is_word inside in
          let there : at ≤ length bytes = omega (arith, s.there) in
          omega (arith, ap length s.begun.goes_on, length-append (take at bytes) s.begun.rest, length-take-le at bytes there, s.begun.proper)

  pub stray_no_word : has_word bytes ≡ false
  stray_no_word = to_false (has_word bytes) (λ h. let p = present bytes h in no_word p.0 p.1.0 p.1.1)

  pub stray_furthest : furthest bytes ≡ at
  stray_furthest =
      let f = furthest_is bytes in
      let low : at ≤ furthest bytes = omega (arith, shared_most s.begun.word bytes s.begun.rest at (omega (arith, s.there)) s.begun.goes_on, furthest_most bytes s.begun.word s.begun.is_word) in
      let high : furthest bytes ≤ at = elim (cases_lt at (furthest bytes)) [
        | inl lt ↦ absurd (s.stray f.0 (drop (at + 1) f.0) f.1.0 (shared_part f.0 bytes (at + 1) (omega (arith, lt, f.1.1))))
        | inr ge ↦ ge
      ] in
      omega arith

module _ (vector : ℕ) (bytes : List ℕ) (at cause : ℕ) where
  pub refused_so : IsRefused vector bytes at cause → refused vector bytes ≡ Some (record { at = at; cause = cause })
  refused_so (inl (is, s)) =
      let lt : furthest bytes < length bytes = omega (arith, stray_furthest bytes at s, s.there) in
      word_off (has_word bytes) (too_long vector bytes) (furthest bytes) (length bytes) (stray_no_word bytes at s) lt
      ∙ (λ i. Some (record { at = stray_furthest bytes at s i; cause = sym is i }))
  refused_so (inr (is, place, l)) =
      let k = long_so vector bytes l in
      word_long (has_word bytes) (too_long vector bytes) (furthest bytes) (length bytes) k.0 k.1
      ∙ (λ i. Some (record { at = sym place i; cause = sym is i }))

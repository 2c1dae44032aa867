-- What stands behind a message or a refusal doesn't change it.
use Rattle.std.proofs.Common.{◌≡◌, ℕ, suc, ◌+◌, ◌*◌, ◌<◌, ◌≤◌, max, Bool, true, false, ◌&&◌, ◌||◌, cond, List, [], ◌∷◌, ◌++◌, length, take, drop, refl, ap, sym, ◌∙◌, arith, length-append, nat_eq, nat_le, nat_lt, Some, None, subst, length-drop, inl, inr, ◌⊎◌}
use Rattle.std.specs.declared.option.Option.{Option}
use Rattle.std.proofs.lemmas.Bool.{eqb-true, leb-true, le-leb, eq-eqb, ltb-true, lt-ltb}
use Rattle.std.proofs.lemmas.List.{take-append-le, drop-append-le}
use Rattle.std.proofs.Common.{rules}
use Rattle.scan_bits.specs.Words.{byte_count, number_of_bytes}
use Rattle.xvc_frame.specs.Messages.{begins, shared, getinfo_word, settck_word, shift_word, announces, cycle_count, message_length, message_of, whole_at_front, front, refused, Framed, Refusal, IsFramed, Message, has_word, furthest}

pub both : (a b : Bool) → (a && b) ≡ true → (a ≡ true) × (b ≡ true)
both true b h = (refl, h)
both false b h = absurd (let e : false ≡ true = h in cc)

pub both_so : (a b : Bool) → a ≡ true → b ≡ true → (a && b) ≡ true
both_so a b h k = rw (h, k) refl

pub either_true : (a : Bool) → (a || true) ≡ true
either_true true = refl
either_true false = refl

-- a word at the front stays there
pub begins-append : (word bytes more : List ℕ) → begins word bytes ≡ true → begins word (bytes ++ more) ≡ true
begins-append [] bytes more h = refl
begins-append (letter ∷ word) [] more h = absurd (let e : false ≡ true = h in cc)
begins-append (letter ∷ word) (byte ∷ bytes) more h =
    let k = both (nat_eq letter byte) (begins word bytes) h in
    both_so (nat_eq letter byte) (begins word (bytes ++ more)) k.0 (begins-append word bytes more k.1)

-- of two words at one front, one begins the other
pub one_begins : (v w bytes more : List ℕ) → begins v bytes ≡ true → begins w (bytes ++ more) ≡ true → (begins v w || begins w v) ≡ true
one_begins [] w bytes more h k = refl
one_begins (a ∷ v) [] bytes more h k = either_true (begins (a ∷ v) [])
one_begins (a ∷ v) (c ∷ w) [] more h k = absurd (let e : false ≡ true = h in cc)
one_begins (a ∷ v) (c ∷ w) (byte ∷ bytes) more h k =
    let i = both (nat_eq a byte) (begins v bytes) h in
    let j = both (nat_eq c byte) (begins w (bytes ++ more)) k in
    let same : a ≡ c = eqb-true a byte i.0 ∙ sym (eqb-true c byte j.0) in
    rw (eq-eqb a c same, eq-eqb c a (sym same)) (one_begins v w bytes more i.1 j.1)

pub to_false : (a : Bool) → (a ≡ true → false ≡ true) → a ≡ false
to_false true h = absurd (let e : false ≡ true = h refl in cc)
to_false false h = refl

-- the length bytes that are there stay
pub announces_long : (bytes : List ℕ) → announces bytes ≡ true → 10 ≤ length bytes
announces_long bytes h = leb-true 10 (length bytes) (both (begins shift_word bytes) (nat_le 10 (length bytes)) h).1

pub cycle_count-append : (bytes more : List ℕ) → 10 ≤ length bytes → cycle_count (bytes ++ more) ≡ cycle_count bytes
cycle_count-append bytes more long =
    let here : 6 ≤ length bytes = omega arith in
    let four : 4 ≤ length (drop 6 bytes) = omega (arith, length-drop 6 bytes) in
    ap (λ s. number_of_bytes (take 4 s)) (drop-append-le 6 bytes more here) ∙ ap number_of_bytes (take-append-le 4 (drop 6 bytes) more four)

pub announces-append : (bytes more : List ℕ) → announces bytes ≡ true → announces (bytes ++ more) ≡ true
announces-append bytes more h =
    let long : 10 ≤ length bytes = announces_long bytes h in
    both_so (begins shift_word (bytes ++ more)) (nat_le 10 (length (bytes ++ more)))
    (begins-append shift_word bytes more (both (begins shift_word bytes) (nat_le 10 (length bytes)) h).0)
    (le-leb 10 (length (bytes ++ more)) (omega (arith, length-append bytes more)))

-- the chain of tests of `message_length`
abbrev by_tests : Bool → Bool → Bool → ℕ → Option ℕ
by_tests g s h n = cond g (Some 8) (cond s (Some 11) (cond h (Some (10 + 2 * byte_count n)) None))

tests_are : (g g' s s' h h' : Bool) (n n' : ℕ) → g ≡ g' → s ≡ s' → h ≡ h' → n ≡ n' → by_tests g s h n ≡ by_tests g' s' h' n'
tests_are g g' s s' h h' n n' a b c d = rw (a, b, c, d) refl

module _ (vector : ℕ) (bytes more : List ℕ) (count : ℕ) where
  length_goes_on : (g s h : Bool) → begins getinfo_word bytes ≡ g → begins settck_word bytes ≡ s → (announces bytes && nat_le (cycle_count bytes) (8 * vector)) ≡ h
      → by_tests g s h (cycle_count bytes) ≡ Some count → message_length vector (bytes ++ more) ≡ Some count
  length_goes_on true s h a b c e = rw (begins-append getinfo_word bytes more a) e
  length_goes_on false true h a b c e =
      rw (to_false (begins getinfo_word (bytes ++ more)) (λ k. one_begins settck_word getinfo_word bytes more b k), begins-append settck_word bytes more b) e
  length_goes_on false false true a b c e =
      let k = both (announces bytes) (nat_le (cycle_count bytes) (8 * vector)) c in
      let w : begins shift_word bytes ≡ true = (both (begins shift_word bytes) (nat_le 10 (length bytes)) k.0).0 in
      let n : cycle_count (bytes ++ more) ≡ cycle_count bytes = cycle_count-append bytes more (announces_long bytes k.0) in
      tests_are (begins getinfo_word (bytes ++ more)) false (begins settck_word (bytes ++ more)) false
      (announces (bytes ++ more) && nat_le (cycle_count (bytes ++ more)) (8 * vector)) true (cycle_count (bytes ++ more)) (cycle_count bytes)
      (to_false (begins getinfo_word (bytes ++ more)) (λ q. one_begins shift_word getinfo_word bytes more w q))
      (to_false (begins settck_word (bytes ++ more)) (λ q. one_begins shift_word settck_word bytes more w q))
      (both_so (announces (bytes ++ more)) (nat_le (cycle_count (bytes ++ more)) (8 * vector)) (announces-append bytes more k.0) (rw n k.1))
      n
      ∙ e
  length_goes_on false false false a b c e = absurd (let q : None ≡ Some count = e in cc)

pub message_length-append : (vector : ℕ) (bytes more : List ℕ) (count : ℕ) → message_length vector bytes ≡ Some count → message_length vector (bytes ++ more) ≡ Some count
message_length-append vector bytes more count e =
    length_goes_on vector bytes more count (begins getinfo_word bytes) (begins settck_word bytes) (announces bytes && nat_le (cycle_count bytes) (8 * vector)) refl refl refl e

module _ (bytes more : List ℕ) (framed : Framed) where
  whole_goes_on : (found found' : Option ℕ) → ((count : ℕ) → found ≡ Some count → found' ≡ Some count) → whole_at_front found bytes ≡ Some framed → whole_at_front found' (bytes ++ more) ≡ Some framed
  whole_goes_on None found' stays e = absurd (let q : None ≡ Some framed = e in cc)
  whole_goes_on (Some count) found' stays e = rw (stays count refl) (fits (nat_le count (length bytes)) refl e)
    where
      fits : (b : Bool) → nat_le count (length bytes) ≡ b → cond b (Some (record { message = message_of (take count bytes); bytes = count })) None ≡ Some framed
          → whole_at_front (Some count) (bytes ++ more) ≡ Some framed
      fits true h k =
          let le : count ≤ length bytes = leb-true count (length bytes) h in
          rw (le-leb count (length (bytes ++ more)) (omega (arith, length-append bytes more)), take-append-le count bytes more le) k
      fits false h k = absurd (let q : None ≡ Some framed = k in cc)

pub front-append : (vector : ℕ) (bytes more : List ℕ) (framed : Framed) → front vector bytes ≡ Some framed → front vector (bytes ++ more) ≡ Some framed
front-append vector bytes more framed e =
    whole_goes_on bytes more framed (message_length vector bytes) (message_length vector (bytes ++ more)) (message_length-append vector bytes more) e

pub no_more : (bytes more : List ℕ) → length (bytes ++ more) ≡ length bytes → more ≡ []
no_more bytes [] e = refl
no_more bytes (x ∷ more) e = absurd (omega (arith, length-append bytes (x ∷ more)))

-- how many bytes a message takes
bytes_in : Option Framed → ℕ
bytes_in None = 0
bytes_in (Some framed) = framed.bytes

pub prefix_free : (vector : ℕ) (first second : Message) (bytes more : List ℕ) → IsFramed vector first bytes → IsFramed vector second (bytes ++ more) → more ≡ []
unfolding bytes_in
prefix_free vector first second bytes more h k =
    let framed : Framed = record { message = first; bytes = length bytes } in
    let same : length bytes ≡ length (bytes ++ more) = ap bytes_in (sym (front-append vector bytes more framed h) ∙ k) in
    no_more bytes more (sym same)

-- a word that the bytes have departed from
pub departed : (word bytes more : List ℕ) → begins word bytes ≡ false → shared word bytes < length bytes → (begins word (bytes ++ more) ≡ false) × (shared word (bytes ++ more) ≡ shared word bytes)
departed [] bytes more h lt = absurd (let e : true ≡ false = h in cc)
departed (letter ∷ word) [] more h lt = absurd (omega arith)
departed (letter ∷ word) (byte ∷ bytes) more h lt = go (nat_eq letter byte) refl h lt (λ k l. departed word bytes more k l)
  where
    go : (b : Bool) → nat_eq letter byte ≡ b → (b && begins word bytes) ≡ false → cond b (suc (shared word bytes)) 0 < suc (length bytes)
        → (begins word bytes ≡ false → shared word bytes < length bytes → (begins word (bytes ++ more) ≡ false) × (shared word (bytes ++ more) ≡ shared word bytes))
        → ((nat_eq letter byte && begins word (bytes ++ more)) ≡ false) × (cond (nat_eq letter byte) (suc (shared word (bytes ++ more))) 0 ≡ cond (nat_eq letter byte) (suc (shared word bytes)) 0)
    go true e k l rest =
        let short : shared word bytes < length bytes = omega arith in
        let r = rest k short in
        rw e (r.0, ap suc r.1)
    go false e k l rest = rw e (refl, refl)

pub neither : (a b : Bool) → (a || b) ≡ false → (a ≡ false) × (b ≡ false)
neither true b h = absurd (let e : true ≡ false = h in cc)
neither false b h = (refl, h)

pub neither_so : (a b c : Bool) → a ≡ false → b ≡ false → c ≡ false → (a || (b || c)) ≡ false
neither_so a b c h k l = rw (h, k, l) refl

pub either : (a b : Bool) → (a || b) ≡ true → (a ≡ true) ⊎ (b ≡ true)
either true b h = inl refl
either false b h = inr h

pub left_so : (a b : Bool) → a ≡ true → (a || b) ≡ true
left_so a b h = rw h refl

pub right_so : (a b : Bool) → b ≡ true → (a || b) ≡ true
right_so true b h = refl
right_so false b h = h

pub has_word-append : (bytes more : List ℕ) → has_word bytes ≡ true → has_word (bytes ++ more) ≡ true
has_word-append bytes more h =
    elim (either (begins getinfo_word bytes) (begins settck_word bytes || begins shift_word bytes) h) [
      | inl g ↦ left_so (begins getinfo_word (bytes ++ more)) (begins settck_word (bytes ++ more) || begins shift_word (bytes ++ more)) (begins-append getinfo_word bytes more g)
      | inr k ↦ right_so (begins getinfo_word (bytes ++ more)) (begins settck_word (bytes ++ more) || begins shift_word (bytes ++ more))
          (elim (either (begins settck_word bytes) (begins shift_word bytes) k) [
            | inl s ↦ left_so (begins settck_word (bytes ++ more)) (begins shift_word (bytes ++ more)) (begins-append settck_word bytes more s)
            | inr w ↦ right_so (begins settck_word (bytes ++ more)) (begins shift_word (bytes ++ more)) (begins-append shift_word bytes more w)
          ])
    ]

-- the tests of `refused`
abbrev pub by_word : Bool → Bool → ℕ → ℕ → Option Refusal
by_word word long at count = cond word (cond long (Some (record { at = 6; cause = 2 })) None) (cond (nat_lt at count) (Some (record { at = at; cause = 1 })) None)

-- at a word, only the length can be refused
pub at_word : (w l : Bool) (a n : ℕ) (refusal : Refusal) → w ≡ true → by_word w l a n ≡ Some refusal → l ≡ true
at_word true true a n refusal e h = refl
at_word true false a n refusal e h = absurd (let q : None ≡ Some refusal = h in cc)
at_word false l a n refusal e h = absurd (let q : false ≡ true = e in cc)

-- elsewhere, the bytes go beyond
pub off_word : (w l : Bool) (a n : ℕ) (refusal : Refusal) → w ≡ false → by_word w l a n ≡ Some refusal → a < n
off_word true l a n refusal e h = absurd (let q : true ≡ false = e in cc)
off_word false l a n refusal e h = go (nat_lt a n) refl h
  where
    go : (b : Bool) → nat_lt a n ≡ b → cond b (Some (record { at = a; cause = 1 })) None ≡ Some refusal → a < n
    go true k q = ltb-true a n k
    go false k q = absurd (let p : None ≡ Some refusal = q in cc)

abbrev pub too_long : ℕ → List ℕ → Bool
too_long vector bytes = announces bytes && nat_lt (8 * vector) (cycle_count bytes)

too_long-append : (vector : ℕ) (bytes more : List ℕ) → too_long vector bytes ≡ true → too_long vector (bytes ++ more) ≡ true
too_long-append vector bytes more h =
    let k = both (announces bytes) (nat_lt (8 * vector) (cycle_count bytes)) h in
    both_so (announces (bytes ++ more)) (nat_lt (8 * vector) (cycle_count (bytes ++ more))) (announces-append bytes more k.0) (rw (cycle_count-append bytes more (announces_long bytes k.0)) k.1)

three_max : (a b c a' b' c' : ℕ) → a ≡ a' → b ≡ b' → c ≡ c' → max a (max b c) ≡ max a' (max b' c')
three_max a b c a' b' c' h k l = rw (h, k, l) refl

pub word_long : (w l : Bool) (a n : ℕ) → w ≡ true → l ≡ true → by_word w l a n ≡ Some (record { at = 6; cause = 2 })
word_long w l a n h k = rw (h, k) refl

pub word_off : (w l : Bool) (a n : ℕ) → w ≡ false → a < n → by_word w l a n ≡ Some (record { at = a; cause = 1 })
word_off w l a n h k = rw (h, lt-ltb a n k) refl

below_max : (a b c n : ℕ) → max a (max b c) < n → (a < n) × (b < n) × (c < n)
below_max a b c n h = (omega arith, omega arith, omega arith)

refused_as : (vector : ℕ) (bytes : List ℕ) → refused vector bytes ≡ by_word (has_word bytes) (too_long vector bytes) (furthest bytes) (length bytes)
refused_as vector bytes = refl

pub refused-append : (vector : ℕ) (bytes more : List ℕ) (refusal : Refusal) → refused vector bytes ≡ Some refusal → refused vector (bytes ++ more) ≡ Some refusal
refused-append vector bytes more refusal e = go (has_word bytes) refl
  where
    go : (w : Bool) → has_word bytes ≡ w → refused vector (bytes ++ more) ≡ Some refusal
    go true h =
        let long : too_long vector bytes ≡ true = at_word (has_word bytes) (too_long vector bytes) (furthest bytes) (length bytes) refusal h e in
        word_long (has_word (bytes ++ more)) (too_long vector (bytes ++ more)) (furthest (bytes ++ more)) (length (bytes ++ more)) (has_word-append bytes more h) (too_long-append vector bytes more long)
        ∙ sym (word_long (has_word bytes) (too_long vector bytes) (furthest bytes) (length bytes) h long) ∙ e
    go false h =
        let lt : furthest bytes < length bytes = off_word (has_word bytes) (too_long vector bytes) (furthest bytes) (length bytes) refusal h e in
        let below = below_max (shared getinfo_word bytes) (shared settck_word bytes) (shared shift_word bytes) (length bytes) lt in
        let a = neither (begins getinfo_word bytes) (begins settck_word bytes || begins shift_word bytes) h in
        let b = neither (begins settck_word bytes) (begins shift_word bytes) a.1 in
        let g = departed getinfo_word bytes more a.0 below.0 in
        let s = departed settck_word bytes more b.0 below.1 in
        let w = departed shift_word bytes more b.1 below.2 in
        let same : furthest (bytes ++ more) ≡ furthest bytes = three_max (shared getinfo_word (bytes ++ more)) (shared settck_word (bytes ++ more)) (shared shift_word (bytes ++ more)) (shared getinfo_word bytes) (shared settck_word bytes) (shared shift_word bytes) g.1 s.1 w.1 in
        let longer : length bytes ≤ length (bytes ++ more) = omega (arith, length-append bytes more) in
        let lt' : furthest (bytes ++ more) < length (bytes ++ more) = subst (λ (n : ℕ). n < length (bytes ++ more)) (sym same) (omega (arith, lt, longer)) in
        word_off (has_word (bytes ++ more)) (too_long vector (bytes ++ more)) (furthest (bytes ++ more)) (length (bytes ++ more))
        (neither_so (begins getinfo_word (bytes ++ more)) (begins settck_word (bytes ++ more)) (begins shift_word (bytes ++ more)) g.0 s.0 w.0) lt'
        ∙ ap (λ (n : ℕ). Some (record { at = n; cause = 1 })) same
        ∙ sym (word_off (has_word bytes) (too_long vector bytes) (furthest bytes) (length bytes) h lt) ∙ e

pub front_not_refused : (vector : ℕ) (bytes : List ℕ) (framed : Framed) → front vector bytes ≡ Some framed → refused vector bytes ≡ None
front_not_refused vector bytes framed e = search rules

pub refused_has_no_front : (vector : ℕ) (bytes : List ℕ) (refusal : Refusal) → refused vector bytes ≡ Some refusal → front vector bytes ≡ None
refused_has_no_front vector bytes refusal e = go (front vector bytes) refl
  where
    go : (f : Option Framed) → front vector bytes ≡ f → f ≡ None
    go None h = refl
    go (Some framed) h = absurd (let q : None ≡ Some refusal = sym (front_not_refused vector bytes framed h) ∙ e in cc)

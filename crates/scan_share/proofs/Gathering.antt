-- The group's bits among those of a word, run by run.
use Rattle.std.proofs.Common.{◌≡◌, ◌≤◌, ◌<◌, ◌+◌, ◌-◌, ◌*◌, ◌/◌, ◌%◌, ◌^◌, bit_or, ℕ, Bool, true, false, List, [], ◌∷◌, ◌++◌, length, replicate, refl, ap, sym, subst, ◌∙◌, arith, length-append}
use Rattle.std.proofs.lemmas.List.{append-nil, length-replicate}
use Rattle.scan_bits.specs.Words.{bits_of}
use Rattle.scan_bits.proofs.WordLaws.{bits_of-mod}
use Rattle.scan_share.specs.Rows.{TakesOwn, chosen, woven}
use Rattle.scan_share.proofs.Taking.{Taken, taken_more}
use Rattle.scan_share.proofs.Weaving.{own_taken, other_taken, own_room, own_left, other_left, word_split}

-- ---- pieces joined

pub joined_piece : (word done bits count low : ℕ) → done + count ≤ 64 → 1 ≤ count → word < 2 ^ done → low ≡ bits % 2 ^ count → low < 2 ^ count
    → Taken (bit_or word (low * 2 ^ done % 2 ^ 64)) (done + count) [] (bits_of done word ++ bits_of count bits)
joined_piece word done bits count low few some small low_is bound =
    taken_more word done low count (done + count) 64 (bits_of count bits) [] (bits_of done word ++ bits_of count bits) (omega arith) (omega (arith, few, some)) (omega (arith, few)) refl bound
    (append-nil (bits_of count low) ∙ ap (bits_of count) low_is ∙ bits_of-mod count bits) (record { small = small; is = refl })

-- ---- the bits of a word so far

pub record Gathered (n word done count bits : ℕ) (before after : List Bool) : Type 0 where
  pub within : done ≤ n
  pub few : count ≤ done
  pub bound : bits < 2 ^ count
  pub left : n - done ≤ length after
  pub taken : (more : List Bool) → bits_of count bits ++ chosen after (bits_of (n - done) (word / 2 ^ done) ++ more) ≡ chosen before (bits_of n word ++ more)
  pub room : (m : ℕ) → n ≤ length (woven before (replicate m false)) → (count ≤ m) × (length (woven after (replicate (m - count) false)) + done ≡ length (woven before (replicate m false)))

pub none_gathered : (n word : ℕ) (places : List Bool) → n ≤ length places → Gathered n word 0 0 0 places places
none_gathered n word places left = record {
  within = omega arith;
  few = omega arith;
  bound = omega arith;
  left = omega (arith, left);
  taken = λ more. λ i. chosen places (bits_of (same n i) (over word i) ++ more);
  room = λ m fits. (omega arith, (λ i. length (woven places (replicate (same m i) false)) + 0) ∙ none (length (woven places (replicate m false))));
}
  where
    same : (k : ℕ) → k - 0 ≡ k
    same k = omega arith

    none : (k : ℕ) → k + 0 ≡ k
    none k = omega arith

    over : (k : ℕ) → k / 2 ^ 0 ≡ k
    over k = omega arith

run_long : (k : ℕ) (own : Bool) (rest places : List Bool) → replicate k own ++ rest ≡ places → k + length rest ≡ length places
run_long k own rest places is = omega (arith, ap length is, length-append (replicate k own) rest, length-replicate k own)

pub own_gathered : (n word done count bits k next total : ℕ) (own : Bool) (before places rest : List Bool) → Gathered n word done count bits before places → done ≤ n → k ≤ n - done → own ≡ true
    → replicate k own ++ rest ≡ places → total ≡ count + k → bits_of total next ≡ bits_of count bits ++ bits_of k (word / 2 ^ done) → next < 2 ^ total
    → Gathered n word (done + k) total next before rest
own_gathered n word done count bits k next total own before places rest was lt le own_is is total_is next_is bound = record {
  within = omega (arith, le, lt);
  few = omega (arith, was.few, total_is);
  bound = bound;
  left = omega (arith, was.left, run_long k own rest places is, le);
  taken = λ more.
      own_taken k (word / 2 ^ done) own rest places (bits_of count bits) (bits_of total next) own_is next_is is (bits_of (n - (done + k)) (word / 2 ^ (done + k)) ++ more)
      ∙ ap (λ q. bits_of count bits ++ chosen places q) (sym (word_split n done k word more le lt)) ∙ was.taken more;
  room = λ m fits.
      let now = was.room m fits in
      let same = now.1 in
      let enough : n - done ≤ length (woven places (replicate (m - count) false)) = omega (arith, same, fits) in
      let free : k ≤ m - count = own_room k (n - done) (m - count) own rest places own_is le enough is in
      let some = now.0 in (
        omega (arith, free, some, total_is),
        omega (arith, same, own_left k (m - count) (m - total) own rest places own_is free (omega (arith, total_is)) is),
      );
}

pub other_gathered : (n word done count bits k : ℕ) (own : Bool) (before places rest : List Bool) → Gathered n word done count bits before places → done ≤ n → k ≤ n - done → own ≡ false
    → replicate k own ++ rest ≡ places → Gathered n word (done + k) count bits before rest
other_gathered n word done count bits k own before places rest was lt le own_is is = record {
  within = omega (arith, le, lt);
  few = omega (arith, was.few);
  bound = was.bound;
  left = omega (arith, was.left, run_long k own rest places is, le);
  taken = λ more.
      other_taken k (word / 2 ^ done) own rest places (bits_of count bits) own_is is (bits_of (n - (done + k)) (word / 2 ^ (done + k)) ++ more)
      ∙ ap (λ q. bits_of count bits ++ chosen places q) (sym (word_split n done k word more le lt)) ∙ was.taken more;
  room = λ m fits.
      let now = was.room m fits in
      let same = now.1 in
      (now.0, omega (arith, same, other_left k (m - count) own rest places own_is is));
}

-- a run of others, and then of the group's own
pub run_gathered : (n word done count bits others own next total : ℕ) (before places rest : List Bool) → Gathered n word done count bits before places → others + own ≤ n - done
    → replicate others false ++ (replicate own true ++ rest) ≡ places → total ≡ count + own → bits_of total next ≡ bits_of count bits ++ bits_of own (word / 2 ^ (done + others)) → next < 2 ^ total
    → Gathered n word (done + (others + own)) total next before rest
run_gathered n word done count bits others own next total before places rest was le is total_is next_is bound =
    let passed = other_gathered n word done count bits others false before places (replicate own true ++ rest) was was.within (omega (arith, le)) refl is in
    let sum : done + others + own ≡ done + (others + own) = omega arith in
    subst (λ m. Gathered n word m total next before rest) sum
    (own_gathered n word (done + others) count bits own next total true before (replicate own true ++ rest) rest passed (omega (arith, le, was.within)) (omega (arith, le)) refl refl total_is next_is bound)

-- the first run
pub first_gathered : (n word others own next total : ℕ) (before rest : List Bool) → n ≤ length before → others + own ≤ n → replicate others false ++ (replicate own true ++ rest) ≡ before → total ≡ 0 + own
    → bits_of total next ≡ bits_of own (word / 2 ^ (0 + others)) → next < 2 ^ total → Gathered n word (others + own) total next before rest
first_gathered n word others own next total before rest left le is total_is next_is bound =
    let none : 0 + (others + own) ≡ others + own = omega arith in
    subst (λ m. Gathered n word m total next before rest) none
    (run_gathered n word 0 0 0 others own next total before before rest (none_gathered n word before left) (omega (arith, le)) is total_is next_is bound)

pub all_gathered : (n word done count bits : ℕ) (before after : List Bool) → Gathered n word done count bits before after → n ≤ done → TakesOwn n word count bits before after
all_gathered n word done count bits before after was le =
    let e : done ≡ n = omega (arith, le, was.within) in
    let none : n - done ≡ 0 = omega (arith, le) in
    record {
      bound = was.bound;
      few = omega (arith, was.few, was.within);
      taken = λ more. ap (λ k. bits_of count bits ++ chosen after (bits_of k (word / 2 ^ done) ++ more)) (sym none) ∙ was.taken more;
      room = λ m fits. let now = was.room m fits in let same = now.1 in (now.0, omega (arith, same, e));
    }

-- a run of the group's own that is all of the word
pub whole_run : (n word others own : ℕ) (before rest : List Bool) → n ≤ length before → others + own ≤ n → own ≡ n → replicate others false ++ (replicate own true ++ rest) ≡ before → word < 2 ^ n → TakesOwn n word n word before rest
whole_run n word others own before rest left le whole is bound =
    let none : others ≡ 0 = omega (arith, le, whole) in
    let size : n ≡ 0 + own = omega (arith, whole) in
    let same : word ≡ word / 2 ^ (0 + others) = let e : word ≡ word / 2 ^ 0 = omega arith in e ∙ ap (λ k. word / 2 ^ k) {x = 0} {y = 0 + others} (omega (arith, none)) in
    all_gathered n word (others + own) n word before rest
    (first_gathered n word others own word n before rest left le is size (ap (λ k. bits_of k word) (sym whole) ∙ ap (bits_of own) same) bound) (omega (arith, whole))

-- ---- a sink

-- there are as many places as there is room
pub woven_short : (places bits : List Bool) → length (woven places bits) ≤ length places
woven_short [] bits = omega arith
woven_short (false ∷ places) bits = omega (arith, woven_short places bits)
woven_short (true ∷ places) [] = omega arith
woven_short (true ∷ places) (bit ∷ bits) = omega (arith, woven_short places bits)

pub put_room : (n word count bits room left : ℕ) (before after : List Bool) → TakesOwn n word count bits before after → n ≤ length (woven before (replicate room false)) → left ≡ room - count
    → length (woven after (replicate left false)) + n ≡ length (woven before (replicate room false))
put_room n word count bits room left before after t fits left_is = ap (λ k. length (woven after (replicate k false)) + n) left_is ∙ (t.room room fits).1

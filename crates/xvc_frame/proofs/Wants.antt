-- The bytes that are wanted are the fewest that complete a message.
use Rattle.std.proofs.Common.{◌≡◌, ◌⊎◌, inl, inr, ℕ, zero, suc, ◌+◌, ◌-◌, ◌*◌, ◌<◌, ◌≤◌, Bool, true, false, ◌||◌, cond, List, [], ◌∷◌, ◌++◌, length, take, drop, replicate, refl, ap, sym, ◌∙◌, subst, arith, nat_le, nat_lt, append_assoc, Some, None, length-append}
use Rattle.std.specs.declared.option.Option.{Option}
use Rattle.std.proofs.lemmas.Bool.{leb-true, le-leb, lt-ltb, cases_lt}
use Rattle.std.proofs.lemmas.List.{take_all, drop-append-le, append-nil, length-replicate}
use Rattle.std.proofs.lemmas.List.Elements.{All-append, All-replicate}
use Rattle.scan_bits.specs.Words.{number_of_bytes, bytes_of, byte_count}
use Rattle.xvc_frame.specs.Messages.{Message, begins, getinfo_word, settck_word, shift_word, announces, cycle_count, message_length, message_of, whole_at_front, front, refused, Framed, Refusal, IsFramed, has_word, furthest, agrees, openings, shortest_among, shortest, want, IsMessage, AreBytes, IsWord, Completes, ExceedsEarly}
use Rattle.xvc_frame.specs.Messages.Message.{GetInfo, SetTck, Shift}
use Rattle.xvc_frame.proofs.Fronts.{both_so, to_false, begins-append, one_begins, left_so, right_so, neither_so, word_long, word_off, too_long, front-append, refused-append, front_not_refused, no_more}
use Rattle.xvc_frame.proofs.Cases.{begins_split, begins_front, framed, unframed, at_front, shift_framed, framed_by_length, shift_length, encoded_shift_long, encoded_shift_count}
use Rattle.xvc_frame.proofs.Refusals.{absent, furthest_is, shared_part}

pub begins_itself : (bytes : List ℕ) → begins bytes bytes ≡ true
begins_itself bytes = subst (λ (s : List ℕ). begins bytes s ≡ true) (append-nil bytes) (begins_front bytes [])

-- bytes that go on to a word agree with it
pub agrees_with : (word bytes more : List ℕ) → begins word (bytes ++ more) ≡ true → agrees bytes word ≡ true
agrees_with word bytes more h = one_begins bytes word bytes more (begins_itself bytes) h

-- ---- no fewer

-- a number of which more bytes are there is no smaller
pub number_grows : (count : ℕ) (bytes more : List ℕ) → number_of_bytes (take count bytes) ≤ number_of_bytes (take count (bytes ++ more))
number_grows zero bytes more = omega arith
number_grows (suc count) [] more = omega arith
number_grows (suc count) (b ∷ bytes) more = omega (arith, number_grows count bytes more)

pub count_grows : (bytes more : List ℕ) → 6 ≤ length bytes → cycle_count bytes ≤ cycle_count (bytes ++ more)
count_grows bytes more le = rw (drop-append-le 6 bytes more le) (number_grows 4 (drop 6 bytes) more)

pub begins_long : (word bytes : List ℕ) → begins word bytes ≡ true → length word ≤ length bytes
begins_long word bytes h = omega (arith, ap length (begins_split word bytes h), length-append word (drop (length word) bytes))

-- the first word that agrees has no longer a shortest message than this one
least : (a b c : Bool) (n : ℕ) → (a ≡ true) × (8 ≤ n) ⊎ ((b ≡ true) × (10 ≤ n) ⊎ ((c ≡ true) × (11 ≤ n))) → cond a 8 (cond b 10 (cond c 11 0)) ≤ n
least true b c n h = elim h [ inl x ↦ x.1 | inr y ↦ elim y [ inl x ↦ omega (arith, x.1) | inr x ↦ omega (arith, x.1) ] ]
least false true c n h = elim h [ inl x ↦ absurd (let q : false ≡ true = x.0 in cc) | inr y ↦ elim y [ inl x ↦ x.1 | inr x ↦ omega (arith, x.1) ] ]
least false false true n h = elim h [ inl x ↦ absurd (let q : false ≡ true = x.0 in cc) | inr y ↦ elim y [ inl x ↦ absurd (let q : false ≡ true = x.0 in cc) | inr x ↦ x.1 ] ]
least false false false n h = omega arith

-- the tests of `shortest`
abbrev pub by_shift : Bool → Bool → ℕ → ℕ → ℕ
by_shift w few n other = cond w (cond few (10 + 2 * byte_count n) 10) other

no_fewer_by : (w few : Bool) (n other total : ℕ) → (w ≡ true → few ≡ true × (10 + 2 * byte_count n ≤ total)) → other ≤ total → by_shift w few n other ≤ total
no_fewer_by true true n other total h k = (h refl).1
no_fewer_by true false n other total h k = absurd (let q : false ≡ true = (h refl).0 in cc)
no_fewer_by false few n other total h k = k

module _ (vector : ℕ) (bytes more : List ℕ) where
  -- of a word that is not `shift:`
  other_word : (word : List ℕ) (rest : List ℕ) → bytes ++ more ≡ word ++ rest → begins shift_word (word ++ rest) ≡ false → begins shift_word bytes ≡ true → false ≡ true
  other_word word rest e h k = sym h ∙ subst (λ (s : List ℕ). begins shift_word s ≡ true) e (begins-append shift_word bytes more k)

  pub no_fewer : (message : Message) → IsMessage vector message (bytes ++ more) → shortest vector bytes ≤ length (bytes ++ more)
  no_fewer GetInfo e =
      let g : agrees bytes getinfo_word ≡ true = agrees_with getinfo_word bytes more (rw e refl) in
      no_fewer_by (begins shift_word bytes) (nat_le (cycle_count bytes) (8 * vector)) (cycle_count bytes) (shortest_among openings bytes) (length (bytes ++ more))
      (λ k. absurd (let q : false ≡ true = other_word getinfo_word [] e refl k in cc))
      (least (agrees bytes getinfo_word) (agrees bytes shift_word) (agrees bytes settck_word) (length (bytes ++ more)) (inl (g, omega (arith, ap length e))))
  no_fewer (SetTck period) h =
      let g : agrees bytes settck_word ≡ true = agrees_with settck_word bytes more (rw h.1 refl) in
      let long : length (bytes ++ more) ≡ 11 = ap length h.1 in
      no_fewer_by (begins shift_word bytes) (nat_le (cycle_count bytes) (8 * vector)) (cycle_count bytes) (shortest_among openings bytes) (length (bytes ++ more))
      (λ k. absurd (let q : false ≡ true = other_word settck_word (bytes_of 4 period) h.1 refl k in cc))
      (least (agrees bytes getinfo_word) (agrees bytes shift_word) (agrees bytes settck_word) (length (bytes ++ more)) (inr (inr (g, omega (arith, long)))))
  no_fewer (Shift tms tdi) s =
      let n = length tms in
      let count : cycle_count (bytes ++ more) ≡ n = ap cycle_count s.bytes_are ∙ encoded_shift_count n s.tms_bytes s.tdi_bytes s.four_bytes in
      let long : length (bytes ++ more) ≡ 10 + 2 * byte_count n
      = ap length s.bytes_are ∙ encoded_shift_long n s.tms_bytes s.tdi_bytes ∙ omega (arith, s.tms_are.0, s.tdi_are.0, ap byte_count s.one_each) in
      let g : agrees bytes shift_word ≡ true = agrees_with shift_word bytes more (rw s.bytes_are refl) in
      let grows : begins shift_word bytes ≡ true → cycle_count bytes ≤ n = λ k. omega (arith, count_grows bytes more (begins_long shift_word bytes k), count) in
      no_fewer_by (begins shift_word bytes) (nat_le (cycle_count bytes) (8 * vector)) (cycle_count bytes) (shortest_among openings bytes) (length (bytes ++ more))
      (λ k. (le-leb (cycle_count bytes) (8 * vector) (omega (arith, grows k, s.within)), omega (arith, grows k, long)))
      (least (agrees bytes getinfo_word) (agrees bytes shift_word) (agrees bytes settck_word) (length (bytes ++ more)) (inr (inl (g, omega (arith, long)))))

  pub fewest : (message : Message) → IsMessage vector message (bytes ++ more) → want vector bytes ≤ length more
  fewest message h = omega (arith, no_fewer message h, length-append bytes more)

-- ---- no more

no_number : (count : ℕ) → number_of_bytes (take count []) ≡ 0
no_number zero = refl
no_number (suc count) = refl

pub number_filled : (count : ℕ) (bytes : List ℕ) (fill : ℕ) → number_of_bytes (take count (bytes ++ replicate fill 0)) ≡ number_of_bytes (take count bytes)
number_filled zero bytes fill = refl
number_filled (suc count) [] zero = refl
number_filled (suc count) [] (suc fill) = omega (arith, number_filled count [] fill, no_number count)
number_filled (suc count) (b ∷ bytes) fill = ap (λ (n : ℕ). b + 256 * n) (number_filled count bytes fill)

pub front_there : (vector : ℕ) (bytes : List ℕ) (count : ℕ) → message_length vector bytes ≡ Some count → count ≤ length bytes → front vector bytes ≡ Some (record { message = message_of (take count bytes); bytes = count })
front_there vector bytes count e le =
    ap (λ (f : Option ℕ). whole_at_front f bytes) e ∙ rw (le-leb count (length bytes) le) refl

not_there : (vector : ℕ) (bytes : List ℕ) (count : ℕ) → message_length vector bytes ≡ Some count → front vector bytes ≡ None → length bytes < count
not_there vector bytes count e h = elim (cases_lt (length bytes) count) [
  | inl lt ↦ lt
  | inr ge ↦
      let found : Framed = record { message = message_of (take count bytes); bytes = count } in
      absurd (let q : Some found ≡ None = sym (front_there vector bytes count e ge) ∙ h in cc)
]

module _ (vector : ℕ) (bytes : List ℕ) where
  -- filled up with zeros
  filled : (message : Message) (fill : ℕ) → AreBytes bytes → IsFramed vector message (bytes ++ replicate fill 0) → Completes vector bytes fill
  filled message fill small h = record {
    more = replicate fill 0;
    message = message;
    is_message = unframed vector message (bytes ++ replicate fill 0) (All-append (λ b. b < 256) bytes (replicate fill 0) small (All-replicate (λ b. b < 256) fill 0 (omega arith))) h;
    count_is = length-replicate {A = ℕ} fill 0;
  }

  -- a `shift:` that isn't whole
  shift_completes : AreBytes bytes → front vector bytes ≡ None → begins shift_word bytes ≡ true → cycle_count bytes ≤ 8 * vector → Completes vector bytes (10 + 2 * byte_count (cycle_count bytes) - length bytes)
  shift_completes small h w few =
      let total = 10 + 2 * byte_count (cycle_count bytes) in
      let six : 6 ≤ length bytes = begins_long shift_word bytes w in
      let short : length bytes ≤ total = elim (cases_lt (length bytes) 10) [
        | inl lt ↦ omega arith
        | inr ge ↦ omega (arith, not_there vector bytes total (shift_length vector bytes w ge few) h)
      ] in
      let fill = total - length bytes in
      let longer = bytes ++ replicate fill 0 in
      let count : cycle_count longer ≡ cycle_count bytes
      = ap (λ (s : List ℕ). number_of_bytes (take 4 s)) (drop-append-le 6 bytes (replicate fill 0) six) ∙ number_filled 4 (drop 6 bytes) fill in
      let long : length longer ≡ 10 + 2 * byte_count (cycle_count longer) = rw count (omega (arith, length-append bytes (replicate fill 0), length-replicate {A = ℕ} fill 0)) in
      filled (message_of longer) fill small (shift_framed vector longer (begins-append shift_word bytes (replicate fill 0) w) (omega (arith, count, few)) long)

  -- a `settck:` that isn't whole
  pub settck_length : begins settck_word bytes ≡ true → message_length vector bytes ≡ Some 11
  settck_length w =
      let g : begins getinfo_word bytes ≡ false = to_false (begins getinfo_word bytes) (λ q. one_begins settck_word getinfo_word bytes [] w (begins-append getinfo_word bytes [] q)) in
      rw (g, w) refl

  pub getinfo_length : begins getinfo_word bytes ≡ true → message_length vector bytes ≡ Some 8
  getinfo_length w = rw w refl

  -- a word that isn't whole
  word_completes : (word : List ℕ) (total : ℕ) (message : Message) → begins bytes word ≡ true → length word ≤ total → IsMessage vector message (word ++ replicate (total - length word) 0) → Completes vector bytes (total - length bytes)
  word_completes word total message w le is =
      let rest = drop (length bytes) word in
      let fill = replicate (total - length word) 0 in
      let split : word ≡ bytes ++ rest = begins_split bytes word w in
      let joined : word ++ fill ≡ bytes ++ (rest ++ fill) = ap (λ (s : List ℕ). s ++ fill) split ∙ append_assoc bytes rest fill in
      record {
        more = rest ++ fill;
        message = message;
        is_message = subst (λ (s : List ℕ). IsMessage vector message s) joined is;
        count_is = omega (arith, length-append rest fill, length-replicate {A = ℕ} (total - length word) 0, length-append bytes rest, ap length split);
      }

settck_completes : (vector : ℕ) (bytes : List ℕ) → AreBytes bytes → front vector bytes ≡ None → begins settck_word bytes ≡ true → Completes vector bytes (11 - length bytes)
settck_completes vector bytes small h w =
    let short : length bytes < 11 = not_there vector bytes 11 (settck_length vector bytes w) h in
    let fill = 11 - length bytes in
    let longer = bytes ++ replicate fill 0 in
    let long : 11 ≡ length longer = omega (arith, length-append bytes (replicate fill 0), length-replicate {A = ℕ} fill 0) in
    filled vector bytes (message_of longer) fill small (framed_by_length vector longer (settck_length vector longer (begins-append settck_word bytes (replicate fill 0) w) ∙ ap Some long))

-- behind a whole `settck:` no other word agrees
settck_shortest : (bytes : List ℕ) → begins settck_word bytes ≡ true → shortest_among openings bytes ≡ 11
settck_shortest bytes w =
    let rest = drop 7 bytes in
    let so : shortest_among openings (settck_word ++ rest) ≡ 11 = rw (right_so (begins (settck_word ++ rest) settck_word) (begins settck_word (settck_word ++ rest)) (begins_front settck_word rest)) refl in
    subst (λ (s : List ℕ). shortest_among openings s ≡ 11) (sym (begins_split settck_word bytes w)) so

either_is : (a b : Bool) → (a || b) ≡ true → b ≡ false → a ≡ true
either_is true b h k = refl
either_is false b h k = sym (sym h ∙ k)

no_shift_yet : (vector : ℕ) → IsMessage vector (Shift [] []) (shift_word ++ replicate 4 0)
no_shift_yet vector = record {
  tms_bytes = [];
  tdi_bytes = [];
  bytes_are = refl;
  within = omega arith;
  four_bytes = omega arith;
  one_each = refl;
  tms_are = (refl, refl);
  tdi_are = (refl, refl);
}

module _ (vector : ℕ) (bytes : List ℕ) where
  -- by the first word that agrees
  first_completes : (a b c : Bool) → agrees bytes getinfo_word ≡ a → agrees bytes shift_word ≡ b → agrees bytes settck_word ≡ c → has_word bytes ≡ false → (a || (b || c)) ≡ true
      → Completes vector bytes (cond a 8 (cond b 10 (cond c 11 0)) - length bytes)
  first_completes true b c g s t h k =
      word_completes vector bytes getinfo_word 8 GetInfo (either_is (begins bytes getinfo_word) (begins getinfo_word bytes) g (absent bytes getinfo_word h (inl refl))) (omega arith) refl
  first_completes false true c g s t h k =
      word_completes vector bytes shift_word 10 (Shift [] []) (either_is (begins bytes shift_word) (begins shift_word bytes) s (absent bytes shift_word h (inr (inr refl)))) (omega arith) (no_shift_yet vector)
  first_completes false false true g s t h k =
      word_completes vector bytes settck_word 11 (SetTck 0) (either_is (begins bytes settck_word) (begins settck_word bytes) t (absent bytes settck_word h (inr (inl refl)))) (omega arith) (omega arith, refl)
  first_completes false false false g s t h k = absurd (let q : false ≡ true = k in cc)

  -- where no word is whole, and the bytes aren't refused, some word agrees
  some_agrees : has_word bytes ≡ false → refused vector bytes ≡ None → (agrees bytes getinfo_word || (agrees bytes shift_word || agrees bytes settck_word)) ≡ true
  some_agrees h r =
      let f = furthest_is bytes in
      let word : List ℕ = f.0 in
      let far : length bytes ≤ furthest bytes = elim (cases_lt (furthest bytes) (length bytes)) [
        | inl lt ↦
            let refusal : Refusal = record { at = furthest bytes; cause = 1 } in
            absurd (let q : Some refusal ≡ None = sym (word_off (has_word bytes) (too_long vector bytes) (furthest bytes) (length bytes) h lt) ∙ r in cc)
        | inr ge ↦ ge
      ] in
      let part : word ≡ take (length bytes) bytes ++ drop (length bytes) word = shared_part word bytes (length bytes) (omega (arith, far, f.1.1)) in
      let split : word ≡ bytes ++ drop (length bytes) word = part ∙ ap (λ (s : List ℕ). s ++ drop (length bytes) word) (take_all (length bytes) bytes (omega arith)) in
      let w : agrees bytes word ≡ true = left_so (begins bytes word) (begins word bytes) (subst (λ (s : List ℕ). begins bytes s ≡ true) (sym split) (begins_front bytes (drop (length bytes) word))) in
      by_word_of word f.1.0 w
    where
      by_word_of : (word : List ℕ) → IsWord word → agrees bytes word ≡ true → (agrees bytes getinfo_word || (agrees bytes shift_word || agrees bytes settck_word)) ≡ true
      by_word_of word w h = elim w [
        | inl e ↦ left_so (agrees bytes getinfo_word) (agrees bytes shift_word || agrees bytes settck_word) (subst (λ (s : List ℕ). agrees bytes s ≡ true) e h)
        | inr f ↦ right_so (agrees bytes getinfo_word) (agrees bytes shift_word || agrees bytes settck_word) (elim f [
          | inl e ↦ right_so (agrees bytes shift_word) (agrees bytes settck_word) (subst (λ (s : List ℕ). agrees bytes s ≡ true) e h)
          | inr e ↦ left_so (agrees bytes shift_word) (agrees bytes settck_word) (subst (λ (s : List ℕ). agrees bytes s ≡ true) e h)
        ])
      ]

  by_words : AreBytes bytes → front vector bytes ≡ None → refused vector bytes ≡ None → (g s : Bool) → begins getinfo_word bytes ≡ g → begins settck_word bytes ≡ s → begins shift_word bytes ≡ false
      → Completes vector bytes (shortest_among openings bytes - length bytes)
  by_words small h r true s a b c =
      absurd (omega (arith, not_there vector bytes 8 (getinfo_length vector bytes a) h, begins_long getinfo_word bytes a))
  by_words small h r false true a b c = rw (settck_shortest bytes b) (settck_completes vector bytes small h b)
  by_words small h r false false a b c =
      let none : has_word bytes ≡ false = neither_so (begins getinfo_word bytes) (begins settck_word bytes) (begins shift_word bytes) a b c in
      first_completes (agrees bytes getinfo_word) (agrees bytes shift_word) (agrees bytes settck_word) refl refl refl none (some_agrees none r)

  exceeds : begins shift_word bytes ≡ true → nat_le (cycle_count bytes) (8 * vector) ≡ false → refused vector bytes ≡ None → ExceedsEarly vector bytes
  exceeds w few r = record { at_shift = w; in_number = early; too_many = many }
    where
      many : 8 * vector < cycle_count bytes
      many = elim (cases_lt (8 * vector) (cycle_count bytes)) [
        | inl lt ↦ lt
        | inr ge ↦ absurd (let q : true ≡ false = sym (le-leb (cycle_count bytes) (8 * vector) ge) ∙ few in cc)
      ]

      word : has_word bytes ≡ true
      word = right_so (begins getinfo_word bytes) (begins settck_word bytes || begins shift_word bytes) (right_so (begins settck_word bytes) (begins shift_word bytes) w)

      early : length bytes < 10
      early = elim (cases_lt (length bytes) 10) [
        | inl lt ↦ lt
        | inr ge ↦
            let refusal : Refusal = record { at = 6; cause = 2 } in
            let long : too_long vector bytes ≡ true = both_so (announces bytes) (nat_lt (8 * vector) (cycle_count bytes)) (both_so (begins shift_word bytes) (nat_le 10 (length bytes)) w (le-leb 10 (length bytes) ge)) (lt-ltb (8 * vector) (cycle_count bytes) many) in
            absurd (let q : Some refusal ≡ None = sym (word_long (has_word bytes) (too_long vector bytes) (furthest bytes) (length bytes) word long) ∙ r in cc)
      ]

  pub enough : AreBytes bytes → front vector bytes ≡ None → refused vector bytes ≡ None → Completes vector bytes (want vector bytes) ⊎ ExceedsEarly vector bytes
  enough small h r = go (begins shift_word bytes) (nat_le (cycle_count bytes) (8 * vector)) refl refl
    where
      go : (w few : Bool) → begins shift_word bytes ≡ w → nat_le (cycle_count bytes) (8 * vector) ≡ few
          → Completes vector bytes (by_shift w few (cycle_count bytes) (shortest_among openings bytes) - length bytes) ⊎ ExceedsEarly vector bytes
      go true true a b = inl (shift_completes vector bytes small h a (leb-true (cycle_count bytes) (8 * vector) b))
      go true false a b = inr (exceeds a b r)
      go false few a b = inl (by_words small h r (begins getinfo_word bytes) (begins settck_word bytes) refl refl a)

-- ---- where there is none

module _ (vector : ℕ) (bytes more : List ℕ) where
  pub none_begins : ExceedsEarly vector bytes → (message : Message) → ¬ IsMessage vector message (bytes ++ more)
  none_begins x GetInfo e = absurd (let q : false ≡ true = other_word vector bytes more getinfo_word [] e refl x.at_shift in cc)
  none_begins x (SetTck period) h = absurd (let q : false ≡ true = other_word vector bytes more settck_word (bytes_of 4 period) h.1 refl x.at_shift in cc)
  none_begins x (Shift tms tdi) s =
      let count : cycle_count (bytes ++ more) ≡ length tms = ap cycle_count s.bytes_are ∙ encoded_shift_count (length tms) s.tms_bytes s.tdi_bytes s.four_bytes in
      omega (arith, count_grows bytes more (begins_long shift_word bytes x.at_shift), count, s.within, x.too_many)

  -- where some message begins with the bytes
  pub enough_where : (message : Message) → AreBytes bytes → IsMessage vector message (bytes ++ more) → Completes vector bytes (want vector bytes)
  enough_where message small is = go (front vector bytes) refl (refused vector bytes) refl
    where
      whole : IsFramed vector message (bytes ++ more)
      whole = framed vector message (bytes ++ more) is

      last : (f : Framed) → front vector bytes ≡ Some f → more ≡ []
      last f e =
          let other : Framed = record { message = message; bytes = length (bytes ++ more) } in
          let same : f ≡ other = let q : Some f ≡ Some other = sym (front-append vector bytes more f e) ∙ whole in cc in
          let there = at_front vector bytes f e in
          no_more bytes more (omega (arith, there.there, ap (λ (x : Framed). x.bytes) same, length-append bytes more))

      go : (f : Option Framed) → front vector bytes ≡ f → (r : Option Refusal) → refused vector bytes ≡ r → Completes vector bytes (want vector bytes)
      go (Some f) e r k =
          let none : more ≡ [] = last f e in
          record { more = more; message = message; is_message = is; count_is = omega (arith, ap length none, fewest vector bytes more message is, ap (λ (s : List ℕ). length (bytes ++ s)) none) }
      go None e (Some r) k = absurd (let q : None ≡ Some r = sym (front_not_refused vector (bytes ++ more) (record { message = message; bytes = length (bytes ++ more) }) whole) ∙ refused-append vector bytes more r k in cc)
      go None e None k = elim (enough vector bytes small e k) [
        | inl c ↦ c
        | inr x ↦ absurd (none_begins x message is)
      ]

pub missing : (vector : ℕ) (bytes : List ℕ) → ExceedsEarly vector bytes → want vector bytes ≡ 10 - length bytes
missing vector bytes x = go (nat_le (cycle_count bytes) (8 * vector)) refl
  where
    go : (few : Bool) → nat_le (cycle_count bytes) (8 * vector) ≡ few → want vector bytes ≡ 10 - length bytes
    go true e = absurd (omega (arith, leb-true (cycle_count bytes) (8 * vector) e, x.too_many))
    go false e = rw (x.at_shift, e) refl

-- What is told of the bytes that are held.
use Rattle.std.proofs.Common.{◌≡◌, inl, inr, ℕ, ◌+◌, ◌-◌, ◌*◌, ◌<◌, ◌≤◌, Bool, true, false, ◌&&◌, cond, List, [], ◌++◌, length, take, drop, refl, ap, sym, ◌∙◌, subst, arith, nat_le, nat_lt, Some, None, length-append, length-drop, length-take, take-append-drop}
use Rattle.std.specs.declared.option.Option.{Option}
use Rattle.std.proofs.lemmas.Bool.{leb-true, le-leb, ltb-true, lt-ltb, cases_lt}
use Rattle.std.proofs.lemmas.List.{take-take, drop-take, length-take-le, take-append-le}
use Rattle.std.proofs.lemmas.List.Elements.{All-take}
use Rattle.std.proofs.Math.Seq.{take-append-add}
use Rattle.scan_bits.specs.Words.{number_of_bytes, byte_count, unpacked}
use Rattle.xvc_frame.specs.declared.FrameStep.TheVariants.{More, Whole, Refused}
use Rattle.xvc_frame.specs.declared.Msg.TheVariants as told
use Rattle.xvc_frame.specs.Messages.{Message, begins, getinfo_word, settck_word, shift_word, announces, cycle_count, message_length, message_of, whole_at_front, front, refused, Framed, IsFramed, IsMessage, AreBytes, has_word, furthest, want}
use Rattle.xvc_frame.specs.Messages.Message.{GetInfo, SetTck}
use Rattle.xvc_frame.specs.Frames.{Tells, EndsAtFront, told_of}
use Rattle.xvc_frame.proofs.Fronts.{both, to_false, one_begins, begins-append, neither_so, word_off, too_long, front-append}
use Rattle.xvc_frame.proofs.Cases.{begins_split, begins_front, unframed, framed_by_length, at_front, shift_length, shift_of, vector_of, some_same}
use Rattle.xvc_frame.proofs.Wants.{begins_long, front_there, fewest, getinfo_length, settck_length}

-- ---- the message at the front is its bytes alone

pub begins_take : (word bytes : List ℕ) (count : ℕ) → begins word bytes ≡ true → length word ≤ count → begins word (take count bytes) ≡ true
begins_take word bytes count h le =
    let rest = drop (length word) bytes in
    let n : count ≡ length word + (count - length word) = omega arith in
    let part : take count bytes ≡ word ++ take (count - length word) rest
    = ap (take count) (begins_split word bytes h) ∙ ap (λ (k : ℕ). take k (word ++ rest)) n ∙ take-append-add word rest (count - length word) in
    subst (λ (s : List ℕ). begins word s ≡ true) (sym part) (begins_front word (take (count - length word) rest))

pub cycle_count_take : (bytes : List ℕ) (count : ℕ) → 10 ≤ count → cycle_count (take count bytes) ≡ cycle_count bytes
cycle_count_take bytes count le =
    let n : count ≡ 6 + (count - 6) = omega arith in
    let part : drop 6 (take count bytes) ≡ take (count - 6) (drop 6 bytes) = ap (λ (k : ℕ). drop 6 (take k bytes)) n ∙ drop-take 6 (count - 6) bytes in
    ap (λ (s : List ℕ). number_of_bytes (take 4 s)) part ∙ ap number_of_bytes (take-take 4 (count - 6) (drop 6 bytes) (omega arith))

-- the chain of tests of `message_length`
abbrev by_tests : Bool → Bool → Bool → ℕ → Option ℕ
by_tests g s h n = cond g (Some 8) (cond s (Some 11) (cond h (Some (10 + 2 * byte_count n)) None))

module _ (vector : ℕ) (bytes : List ℕ) (count : ℕ) where
  length_of_part : (g s h : Bool) → begins getinfo_word bytes ≡ g → begins settck_word bytes ≡ s → (announces bytes && nat_le (cycle_count bytes) (8 * vector)) ≡ h
      → by_tests g s h (cycle_count bytes) ≡ Some count → message_length vector (take count bytes) ≡ Some count
  length_of_part true s h a b c e = rw (begins_take getinfo_word bytes count a (omega (arith, some_same 8 count e))) e
  length_of_part false true h a b c e =
      settck_length vector (take count bytes) (begins_take settck_word bytes count b (omega (arith, some_same 11 count e))) ∙ e
  length_of_part false false true a b c e =
      let k = both (announces bytes) (nat_le (cycle_count bytes) (8 * vector)) c in
      let w = both (begins shift_word bytes) (nat_le 10 (length bytes)) k.0 in
      let total : 10 + 2 * byte_count (cycle_count bytes) ≡ count = some_same (10 + 2 * byte_count (cycle_count bytes)) count e in
      let same : cycle_count (take count bytes) ≡ cycle_count bytes = cycle_count_take bytes count (omega (arith, total)) in
      let long : 10 ≤ length (take count bytes) = omega (arith, length-take count bytes, total, leb-true 10 (length bytes) w.1) in
      shift_length vector (take count bytes) (begins_take shift_word bytes count w.0 (omega (arith, total))) long (omega (arith, same, leb-true (cycle_count bytes) (8 * vector) k.1))
      ∙ ap (λ (n : ℕ). Some (10 + 2 * byte_count n)) same ∙ e
  length_of_part false false false a b c e = absurd (let q : None ≡ Some count = e in cc)

pub front_part : (vector : ℕ) (bytes : List ℕ) (framed : Framed) → front vector bytes ≡ Some framed → IsFramed vector framed.message (take framed.bytes bytes)
front_part vector bytes framed h =
    let f = at_front vector bytes framed h in
    let count = framed.bytes in
    let size : length (take count bytes) ≡ count = length-take-le count bytes f.there in
    let is : message_length vector (take count bytes) ≡ Some count
    = length_of_part vector bytes count (begins getinfo_word bytes) (begins settck_word bytes) (announces bytes && nat_le (cycle_count bytes) (8 * vector)) refl refl refl f.length_is in
    subst (λ (m : Message). IsFramed vector m (take count bytes)) f.message_is (framed_by_length vector (take count bytes) (is ∙ ap Some (sym size)))

pub front_is_message : (vector : ℕ) (bytes : List ℕ) (framed : Framed) → AreBytes bytes → front vector bytes ≡ Some framed → (framed.bytes ≤ length bytes) × IsMessage vector framed.message (take framed.bytes bytes)
front_is_message vector bytes framed small h =
    ((at_front vector bytes framed h).there, unframed vector framed.message (take framed.bytes bytes) (All-take (λ b. b < 256) framed.bytes bytes small) (front_part vector bytes framed h))

-- what is taken at most as wanted ends where a message ends
pub ends : (vector : ℕ) (bytes piece : List ℕ) → AreBytes (bytes ++ piece) → front vector bytes ≡ None → length piece ≤ want vector bytes → EndsAtFront vector (bytes ++ piece)
ends vector bytes piece small none le framed h = elim (cases_lt (length bytes) framed.bytes) [
  | inl more ↦ after more
  | inr ge ↦ absurd (before ge)
]
  where
    all : List ℕ
    all = bytes ++ piece

    is : (framed.bytes ≤ length (bytes ++ piece)) × IsMessage vector framed.message (take framed.bytes (bytes ++ piece))
    is = front_is_message vector (bytes ++ piece) framed small h

    after : length bytes < framed.bytes → framed.bytes ≡ length (bytes ++ piece)
    after more =
        let k = framed.bytes - length bytes in
        let n : framed.bytes ≡ length bytes + k = omega arith in
        let part : take framed.bytes (bytes ++ piece) ≡ bytes ++ take k piece = ap (λ (m : ℕ). take m (bytes ++ piece)) n ∙ take-append-add bytes piece k in
        let message : IsMessage vector framed.message (bytes ++ take k piece) = subst (λ (s : List ℕ). IsMessage vector framed.message s) part is.1 in
        omega (arith, fewest vector bytes (take k piece) framed.message message, length-take k piece, is.0, length-append bytes piece)

    before : framed.bytes ≤ length bytes → ⊥
    before ge =
        let whole = front_part vector (bytes ++ piece) framed h in
        let part : take framed.bytes (bytes ++ piece) ≡ take framed.bytes bytes = take-append-le framed.bytes bytes piece ge in
        let there : front vector (take framed.bytes bytes ++ drop framed.bytes bytes) ≡ Some (record { message = framed.message; bytes = length (take framed.bytes (bytes ++ piece)) })
        = subst (λ (s : List ℕ). front vector (s ++ drop framed.bytes bytes) ≡ Some (record { message = framed.message; bytes = length (take framed.bytes (bytes ++ piece)) })) part
        (front-append vector (take framed.bytes (bytes ++ piece)) (drop framed.bytes bytes) (record { message = framed.message; bytes = length (take framed.bytes (bytes ++ piece)) }) whole) in
        let found : Framed = record { message = framed.message; bytes = length (take framed.bytes (bytes ++ piece)) } in
        let same : front vector bytes ≡ Some found = ap (front vector) (sym (take-append-drop framed.bytes bytes)) ∙ there in
        absurd (let q : None ≡ Some found = sym none ∙ same in cc)

-- ---- what is told

module _ (vector : ℕ) (held : List ℕ) where
  -- a message that is whole and ends with the bytes
  whole_at : (count : ℕ) → AreBytes held → EndsAtFront vector held → message_length vector held ≡ Some count → count ≤ length held → IsMessage vector (message_of held) held × IsFramed vector (message_of held) held
  whole_at count small end e le =
      let found : Framed = record { message = message_of (take count held); bytes = count } in
      let all : count ≡ length held = end found (front_there vector held count e le) in
      let is : IsFramed vector (message_of held) held = framed_by_length vector held (e ∙ ap Some all) in
      (unframed vector (message_of held) held small is, is)

  pub not_whole : (count : ℕ) → message_length vector held ≡ Some count → length held < count → front vector held ≡ None
  not_whole count e lt = ap (λ (f : Option ℕ). whole_at_front f held) e ∙ if_not (nat_le count (length held)) refl
    where
      if_not : (b : Bool) → nat_le count (length held) ≡ b → whole_at_front (Some count) held ≡ None
      if_not true is = absurd (omega (arith, leb-true count (length held) is))
      if_not false is = rw is refl

  pub no_length : message_length vector held ≡ None → front vector held ≡ None
  no_length e = ap (λ (f : Option ℕ). whole_at_front f held) e

  pub tells_getinfo : AreBytes held → EndsAtFront vector held → begins getinfo_word held ≡ true → Tells vector held (Whole told.GetInfo)
  tells_getinfo small end h =
      let w = whole_at 8 small end (getinfo_length vector held h) (begins_long getinfo_word held h) in
      let m : message_of held ≡ GetInfo = rw h refl in
      record { message = message_of held; is_message = w.0; is_framed = w.1; said_is = ap told_of m }

  pub tells_settck : AreBytes held → EndsAtFront vector held → begins settck_word held ≡ true → 11 ≤ length held → Tells vector held (Whole (told.SetTck (number_of_bytes (take 4 (drop 7 held)))))
  tells_settck small end h le =
      let w = whole_at 11 small end (settck_length vector held h) le in
      let g : begins getinfo_word held ≡ false = to_false (begins getinfo_word held) (λ q. one_begins settck_word getinfo_word held [] h (begins-append getinfo_word held [] q)) in
      let m : message_of held ≡ SetTck (number_of_bytes (take 4 (drop 7 held))) = rw (g, h) refl in
      record { message = message_of held; is_message = w.0; is_framed = w.1; said_is = ap told_of m }

  -- at `settck:` nothing is refused
  settck_fits : begins settck_word held ≡ true → refused vector held ≡ None
  settck_fits h =
      let s : begins shift_word held ≡ false = to_false (begins shift_word held) (λ q. one_begins settck_word shift_word held [] h (begins-append shift_word held [] q)) in
      let g : begins getinfo_word held ≡ false = to_false (begins getinfo_word held) (λ q. one_begins settck_word getinfo_word held [] h (begins-append getinfo_word held [] q)) in
      rw (g, h, s) refl

  pub tells_more_settck : begins settck_word held ≡ true → length held < 11 → Tells vector held More
  tells_more_settck h lt = (not_whole 11 (settck_length vector held h) lt, settck_fits h)

  -- the words that `shift:` is not
  not_getinfo : begins shift_word held ≡ true → begins getinfo_word held ≡ false
  not_getinfo h = to_false (begins getinfo_word held) (λ q. one_begins shift_word getinfo_word held [] h (begins-append getinfo_word held [] q))

  not_settck : begins shift_word held ≡ true → begins settck_word held ≡ false
  not_settck h = to_false (begins settck_word held) (λ q. one_begins shift_word settck_word held [] h (begins-append settck_word held [] q))

  le_false : (m n : ℕ) → n < m → nat_le m n ≡ false
  le_false m n lt = to_false (nat_le m n) (λ q. absurd (omega (arith, leb-true m n q)))

  lt_false : (m n : ℕ) → n ≤ m → nat_lt m n ≡ false
  lt_false m n le = to_false (nat_lt m n) (λ q. absurd (omega (arith, ltb-true m n q)))

  pub tells_more_count : begins shift_word held ≡ true → length held < 10 → Tells vector held More
  tells_more_count h lt = (
    no_length (rw (not_getinfo h, not_settck h, h, le_false 10 (length held) lt) refl),
    rw (not_getinfo h, not_settck h, h, le_false 10 (length held) lt) refl,
  )

  pub tells_too_long : begins shift_word held ≡ true → 10 ≤ length held → 8 * vector < cycle_count held → Tells vector held (Refused 6 2)
  tells_too_long h le many = rw (not_getinfo h, not_settck h, h, le-leb 10 (length held) le, lt-ltb (8 * vector) (cycle_count held) many) refl

  pub tells_more_shift : begins shift_word held ≡ true → 10 ≤ length held → cycle_count held ≤ 8 * vector → length held < 10 + 2 * byte_count (cycle_count held) → Tells vector held More
  tells_more_shift h le few lt = (
    not_whole (10 + 2 * byte_count (cycle_count held)) (shift_length vector held h le few) lt,
    rw (not_getinfo h, not_settck h, h, le-leb 10 (length held) le, lt_false (8 * vector) (cycle_count held) few) refl,
  )

  pub tells_shift : AreBytes held → EndsAtFront vector held → begins shift_word held ≡ true → 10 ≤ length held → cycle_count held ≤ 8 * vector → 10 + 2 * byte_count (cycle_count held) ≤ length held
      → Tells vector held (Whole (told.Shift (cycle_count held)))
  tells_shift small end h le few long =
      let w = whole_at (10 + 2 * byte_count (cycle_count held)) small end (shift_length vector held h le few) long in
      let n = cycle_count held in
      let a : length (take n (unpacked (take (byte_count n) (drop 10 held)))) ≡ n
      = (vector_of n (take (byte_count n) (drop 10 held)) (length-take-le (byte_count n) (drop 10 held) (omega (arith, length-drop 10 held)))).0 in
      record { message = message_of held; is_message = w.0; is_framed = w.1; said_is = ap told_of (shift_of held h) ∙ ap (λ (k : ℕ). told.Shift k) a }

  -- where no word is whole
  no_word : begins getinfo_word held ≡ false → begins settck_word held ≡ false → begins shift_word held ≡ false → front vector held ≡ None
  no_word a b c = no_length (rw (a, b, c) refl)

  pub tells_stray : begins getinfo_word held ≡ false → begins settck_word held ≡ false → begins shift_word held ≡ false → furthest held < length held → Tells vector held (Refused (furthest held) 1)
  tells_stray a b c lt = word_off (has_word held) (too_long vector held) (furthest held) (length held) (neither_so (begins getinfo_word held) (begins settck_word held) (begins shift_word held) a b c) lt

  pub tells_more_word : begins getinfo_word held ≡ false → begins settck_word held ≡ false → begins shift_word held ≡ false → length held ≤ furthest held → Tells vector held More
  tells_more_word a b c le = (no_word a b c, none)
    where
      none : refused vector held ≡ None
      none = rw (neither_so (begins getinfo_word held) (begins settck_word held) (begins shift_word held) a b c, lt_false (furthest held) (length held) le) refl

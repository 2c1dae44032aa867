-- A frame's buffer has room for what is wanted, and no message ends before the last byte held.
use Rattle.std.proofs.Common.{◌≡◌, inl, inr, ℕ, ◌+◌, ◌*◌, ◌<◌, ◌≤◌, Bool, true, false, cond, List, [], ◌++◌, length, take, drop, refl, ap, sym, ◌∙◌, subst, arith, nat_le, Some, None}
use Rattle.std.proofs.lemmas.Bool.{leb-true, cases_lt}
use Rattle.std.proofs.lemmas.List.{take_all, drop_all, append-nil, length-take-le, nil_from_length}
use Rattle.std.proofs.lemmas.List.Elements.{All-take}
use Rattle.xvc_frame.specs.Messages.{begins, shift_word, cycle_count, agrees, getinfo_word, settck_word, shortest, shortest_among, openings, want, front, refused, Framed, IsMessage, AreBytes, Completes}
use Rattle.xvc_frame.specs.Frames.{HasRoom, EndsAtFront}
use Rattle.xvc_frame.proofs.Cases.{framed}
use Rattle.xvc_frame.proofs.Wants.{enough, missing, by_shift}
use Rattle.xvc_frame.proofs.Steps.{ends}

first_short : (a b c : Bool) → cond a 8 (cond b 10 (cond c 11 0)) ≤ 11
first_short true b c = omega arith
first_short false true c = omega arith
first_short false false true = omega arith
first_short false false false = omega arith

short_by : (w few : Bool) (vector n other : ℕ) → 1 ≤ vector → (few ≡ true → n ≤ 8 * vector) → other ≤ 11 → by_shift w few n other ≤ 2 * vector + 10
short_by true true vector n other some few le = omega (arith, few refl)
short_by true false vector n other some few le = omega arith
short_by false few vector n other some h le = omega arith

pub shortest_bound : (vector : ℕ) (bytes : List ℕ) → 1 ≤ vector → shortest vector bytes ≤ 2 * vector + 10
shortest_bound vector bytes some =
    short_by (begins shift_word bytes) (nat_le (cycle_count bytes) (8 * vector)) vector (cycle_count bytes) (shortest_among openings bytes) some
    (λ h. leb-true (cycle_count bytes) (8 * vector) h) (first_short (agrees bytes getinfo_word) (agrees bytes shift_word) (agrees bytes settck_word))

-- where no message is whole and nothing is refused, some byte is wanted
pub some_wanted : (vector : ℕ) (bytes : List ℕ) → AreBytes bytes → front vector bytes ≡ None → refused vector bytes ≡ None → length bytes < shortest vector bytes
some_wanted vector bytes small h r = elim (enough vector bytes small h r) [
  | inl c ↦ elim (cases_lt (length bytes) (shortest vector bytes)) [
    | inl lt ↦ lt
    | inr ge ↦ absurd (whole c ge)
  ]
  | inr x ↦ omega (arith, missing vector bytes x, x.in_number)
]
  where
    whole : Completes vector bytes (want vector bytes) → shortest vector bytes ≤ length bytes → ⊥
    whole c ge =
        let none : c.more ≡ [] = nil_from_length c.more (omega (arith, c.count_is)) in
        let message : IsMessage vector c.message bytes = subst (λ (s : List ℕ). IsMessage vector c.message s) (ap (λ (s : List ℕ). bytes ++ s) none ∙ append-nil bytes) c.is_message in
        let found : Framed = record { message = c.message; bytes = length bytes } in
        absurd (let q : None ≡ Some found = sym h ∙ framed vector c.message bytes message in cc)

-- the bytes of a buffer after a loan of all of it
pub restored : (new old lent : List ℕ) (count : ℕ) → length new ≡ length lent → lent ≡ old → length lent ≡ count → take count (new ++ drop (length new) old) ≡ new
restored new old lent count a b c =
    let none : drop (length new) old ≡ [] = drop_all (length new) old (omega (arith, ap length b)) in
    ap (λ (s : List ℕ). take count (new ++ s)) none ∙ ap (take count) (append-nil new) ∙ take_all count new (omega arith)

module _ (vector count : ℕ) (items piece : List ℕ) (room : HasRoom vector items count) where
  pub held_long : length (take count items) ≡ count
  held_long = length-take-le count items (omega (arith, room.room, room.fits))

  pub taken_fits : length piece ≤ want vector (take count items) → count + length piece ≤ 2 * vector + 10
  taken_fits le = omega (arith, held_long, shortest_bound vector (take count items) room.some, room.fits)

  pub taken_ends : front vector (take count items) ≡ None → length piece ≤ want vector (take count items) → (new : List ℕ) → AreBytes new → take (count + length piece) new ≡ take count items ++ piece
      → EndsAtFront vector (take (count + length piece) new)
  taken_ends none le new small is =
      let all : AreBytes (take count items ++ piece) = subst (λ (s : List ℕ). AreBytes s) is (All-take (λ b. b < 256) (count + length piece) new small) in
      subst (λ (s : List ℕ). EndsAtFront vector s) (sym is) (ends vector (take count items) piece all none le)

  pub taken_room : front vector (take count items) ≡ None → length piece ≤ want vector (take count items) → (new : List ℕ) → AreBytes new → take (count + length piece) new ≡ take count items ++ piece
      → length new ≡ length items → HasRoom vector new (count + length piece)
  taken_room none le new small is long = record {
    some = room.some;
    most = room.most;
    room = long ∙ room.room;
    fits = taken_fits le;
    ends = taken_ends none le new small is;
  }

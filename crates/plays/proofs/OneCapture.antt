-- From where a grant joins to its next capture, no grant captures twice: the list of those that wait changes by the marks alone.
use Rattle.std.proofs.Common.{◌≡◌, ◌≢◌, ℕ, zero, suc, ◌≤◌, Bool, true, false, not, cond, List, [], ◌∷◌, ◌++◌, refl, ap, sym, ◌∙◌, arith, inl, inr, nat_eq, subst, Some, None, append_assoc}
use Rattle.std.specs.declared.option.Option.{Option}
use Rattle.std.proofs.lemmas.Bool.{eqb-true, eq-eqb}
use Rattle.std.proofs.lemmas.Bool.Decides.{eqb_tells}
use Rattle.std.proofs.lemmas.List.Elements.{filter-append}
use Rattle.base_types.specs.Counts.{raised}
use Rattle.client_session.specs.Seats.{steps_left, opens_next}
use Rattle.client_session.specs.Turns.{Turn, LayoutShape, may_open, is_among, without, advanced_as}
use Rattle.wire_port.specs.Steps.{Step}
use Rattle.plays.specs.Plays.{Setting, Play, SeatChange, seat_at, with_seat, turn_at, advanced_at, advanced_times, go, next_in_line, go_if, handed_on_once, handed_on_times, all_steps_left, change_by, after_change, after_step, after_steps, start, played}
use Rattle.plays.proofs.Lists.{not_eq, false_true, among-without_same, among-without_other}
use Rattle.plays.specs.Marks.{Mark, mark_as, mark_of, marks_times, marks_going, marks_if, marks_handed_on, marks_moved, marks_after_change, marks_after, marks, captures_of, joins_after, NoneTwice}
use Rattle.plays.specs.Marks.Mark.{Joined, Captured}

-- the grant is the first of a list, or the list is empty
abbrev IsFirst : ℕ → List ℕ → Type 0
IsFirst g [] = Unit {0}
IsFirst g (x ∷ w) = x ≡ g

-- the list after marks
abbrev queued : List ℕ → List Mark → List ℕ
queued w [] = w
queued w (Joined g ∷ ms) = queued (w ++ g ∷ []) ms
queued w (Captured g ∷ ms) = queued (without g w) ms

-- who joins is not in the list, who captures is its first
abbrev Orderly : List ℕ → List Mark → Type 0
Orderly w [] = Unit {0}
Orderly w (Joined g ∷ ms) = (is_among g w ≡ false) × Orderly (w ++ g ∷ []) ms
Orderly w (Captured g ∷ ms) = IsFirst g w × Orderly (without g w) ms

-- ---- lists

orderly_front : (w : List ℕ) (a b : List Mark) → Orderly w (a ++ b) → Orderly w a
orderly_front w [] b h = _
orderly_front w (Joined g ∷ a) b h = (h.0, orderly_front (w ++ g ∷ []) a b h.1)
orderly_front w (Captured g ∷ a) b h = (h.0, orderly_front (without g w) a b h.1)

orderly_back : (w : List ℕ) (a b : List Mark) → Orderly w (a ++ b) → Orderly (queued w a) b
orderly_back w [] b h = h
orderly_back w (Joined g ∷ a) b h = orderly_back (w ++ g ∷ []) a b h.1
orderly_back w (Captured g ∷ a) b h = orderly_back (without g w) a b h.1

orderly_both : (w : List ℕ) (a b : List Mark) → Orderly w a → Orderly (queued w a) b → Orderly w (a ++ b)
orderly_both w [] b h k = k
orderly_both w (Joined g ∷ a) b h k = (h.0, orderly_both (w ++ g ∷ []) a b h.1 k)
orderly_both w (Captured g ∷ a) b h k = (h.0, orderly_both (without g w) a b h.1 k)

queued-append : (w : List ℕ) (a b : List Mark) → queued w (a ++ b) ≡ queued (queued w a) b
queued-append w [] b = refl
queued-append w (Joined g ∷ a) b = queued-append (w ++ g ∷ []) a b
queued-append w (Captured g ∷ a) b = queued-append (without g w) a b

none_left : (t : Bool) (n : ℕ) → t ≡ true → cond t (suc n) n ≡ 0 → ⊥
none_left true n e q = let r : suc n ≡ 0 = q in omega arith
none_left false n e q = false_true e

zero_left : (t : Bool) (n : ℕ) → t ≡ false → cond t (suc n) n ≡ 0 → n ≡ 0
zero_left true n e q = false_true (sym e)
zero_left false n e q = q

joins_after-append : (j : ℕ) (a b : List Mark) → joins_after j (a ++ b) ≡ joins_after (joins_after j a) b
joins_after-append j [] b = refl
joins_after-append j (Joined g ∷ a) b = joins_after-append (raised j 1) a b
joins_after-append j (Captured g ∷ a) b = joins_after-append j a b

-- one where a grant stands in a list
abbrev one_among : ℕ → List ℕ → ℕ
one_among h w = cond (is_among h w) 1 0

at_most_one : (h : ℕ) (w : List ℕ) → one_among h w ≤ 1
at_most_one h w = by (is_among h w)
  where
    by : (t : Bool) → cond t 1 0 ≤ 1
    by true = omega arith
    by false = omega arith

without-append : (x : ℕ) (a b : List ℕ) → without x (a ++ b) ≡ without x a ++ without x b
without-append x a b = filter-append (λ other. not (nat_eq other x)) a b

-- the list after its first captured, around a grant that isn't it
without_first : (x g : ℕ) (b behind : List ℕ) → x ≢ g → without x (x ∷ b ++ g ∷ behind) ≡ without x b ++ g ∷ without x behind
without_first x g b behind n = rw (eq-eqb x x refl) (without-append x b (g ∷ behind) ∙ kept)
  where
    kept : without x b ++ without x (g ∷ behind) ≡ without x b ++ g ∷ without x behind
    kept = rw (not_eq g x (λ e. n (sym e))) refl

-- the first of the list captured: it counts once, and is no more in the list
first_captures : (h x : ℕ) (b : List ℕ) (ms : List Mark) → captures_of h ms ≤ one_among h (without x b) → captures_of h (Captured x ∷ ms) ≤ one_among h (x ∷ b)
first_captures h x b ms few = elim (eqb_tells x h) [
  | inl e ↦ (let z : captures_of h ms ≤ 0 = subst (λ t. captures_of h ms ≤ cond t 1 0) (among-without_same h b) (subst (λ k. captures_of h ms ≤ one_among h (without k b)) e.1 few) in
      rw e.0 (omega (arith, z)))
  | inr n ↦ rw n.0 (subst (λ t. captures_of h ms ≤ cond t 1 0) (among-without_other h x b (λ e. n.1 (sym e))) few)
]

-- who stands before a grant captures once at most, and who stands behind it doesn't
once_before : (g h : ℕ) (before behind : List ℕ) (ms : List Mark) → Orderly (before ++ g ∷ behind) ms → captures_of g ms ≡ 0 → captures_of h ms ≤ one_among h before
once_before g h before behind [] o none = omega arith
once_before g h before behind (Joined x ∷ ms) o none = once_before g h before (behind ++ x ∷ []) ms (subst (λ w. Orderly w ms) (append_assoc before (g ∷ behind) (x ∷ [])) o.1) none
once_before g h [] behind (Captured x ∷ ms) o none = absurd (none_left (nat_eq x g) (captures_of g ms) (eq-eqb x g (sym o.0)) none)
once_before g h (y ∷ b) behind (Captured x ∷ ms) o none = elim (eqb_tells x g) [
  | inl e ↦ absurd (none_left (nat_eq x g) (captures_of g ms) e.0 none)
  | inr n ↦ subst (λ k. captures_of h (Captured x ∷ ms) ≤ one_among h (k ∷ b)) (sym o.0)
      (first_captures h x b ms (once_before g h (without x b) (without x behind) ms
      (subst (λ w. Orderly w ms) (subst (λ k. without x (k ∷ b ++ g ∷ behind) ≡ without x b ++ g ∷ without x behind) (sym o.0) (without_first x g b behind n.1)) o.1)
      (zero_left (nat_eq x g) (captures_of g ms) n.0 none)))
]

-- no grant captures twice between a joining and the next capture
orderly_none_twice : (w : List ℕ) (ms : List Mark) → Orderly w ms → NoneTwice ms
orderly_none_twice w ms o front middle back g h e none =
    let whole : Orderly w (front ++ Joined g ∷ (middle ++ back)) = subst (Orderly w) e o in
    let from = orderly_back w front (Joined g ∷ (middle ++ back)) whole in
    let within = orderly_front (queued w front ++ g ∷ []) middle back from.1 in
    let few = once_before g h (queued w front) [] middle within none in
    let one = at_most_one h (queued w front) in
    omega (arith, few, one)

-- ---- plays

-- a list becomes another by marks, and so do the joins
record Tells (w : List ℕ) (j : ℕ) (ms : List Mark) (after : List ℕ) (k : ℕ) : Type 0 where
  orderly : Orderly w ms
  list : queued w ms ≡ after
  joins : joins_after j ms ≡ k

tells_both : (w v u : List ℕ) (i j l : ℕ) (a b : List Mark) → Tells w i a v j → Tells v j b u l → Tells w i (a ++ b) u l
tells_both w v u i j l a b h k = record {
  orderly = orderly_both w a b h.orderly (subst (λ l. Orderly l b) (sym h.list) k.orderly);
  list = queued-append w a b ∙ ap (λ l. queued l b) h.list ∙ k.list;
  joins = joins_after-append i a b ∙ ap (λ n. joins_after n b) h.joins ∙ k.joins;
}

first_by : (holder : Option ℕ) (w : List ℕ) (g : ℕ) → may_open holder w g ≡ true → IsFirst g w
first_by (Some h) w g e = false_true e
first_by None [] g e = _
first_by None (x ∷ w) g e = eqb-true x g e

step_tells : (layout : LayoutShape) (turn : Turn) (g : ℕ) (o m t : Bool) → may_open turn.holder turn.waiting g ≡ m → is_among g turn.waiting ≡ t
    → Tells turn.waiting turn.joins (mark_as o m t g) (advanced_as o m layout g turn).waiting (advanced_as o m layout g turn).joins
step_tells layout turn g false m t e k = record { orderly = _; list = refl; joins = refl }
step_tells layout turn g true true t e k = record { orderly = (first_by turn.holder turn.waiting g e, _); list = refl; joins = refl }
step_tells layout turn g true false true e k = record { orderly = _; list = rw k refl; joins = rw k refl }
step_tells layout turn g true false false e k = record { orderly = (k, _); list = rw k refl; joins = rw k refl }

times_tell : (n : ℕ) (setting : Setting) (g : ℕ) (play : Play) → Tells play.waiting play.joins (marks_times n setting g play) (advanced_times n setting g play).waiting (advanced_times n setting g play).joins
times_tell zero setting g play = record { orderly = _; list = refl; joins = refl }
times_tell (suc n) setting g play =
    tells_both play.waiting (advanced_at setting g play).waiting (advanced_times n setting g (advanced_at setting g play)).waiting play.joins (advanced_at setting g play).joins (advanced_times n setting g (advanced_at setting g play)).joins
    (mark_of g (turn_at play g)) (marks_times n setting g (advanced_at setting g play))
    (step_tells setting.layout (turn_at play g) g (opens_next (seat_at play g)) (may_open play.holder play.waiting g) (is_among g play.waiting) refl refl)
    (times_tell n setting g (advanced_at setting g play))

if_tells : (o : Option ℕ) (setting : Setting) (play : Play) → Tells play.waiting play.joins (marks_if o setting play) (go_if o setting play).waiting (go_if o setting play).joins
if_tells None setting play = record { orderly = _; list = refl; joins = refl }
if_tells (Some g) setting play = times_tell (steps_left (seat_at play g)) setting g play

served_tell : (n : ℕ) (setting : Setting) (play : Play) → Tells play.waiting play.joins (marks_handed_on n setting play) (handed_on_times n setting play).waiting (handed_on_times n setting play).joins
served_tell zero setting play = record { orderly = _; list = refl; joins = refl }
served_tell (suc n) setting play =
    tells_both play.waiting (handed_on_once setting play).waiting (handed_on_times n setting (handed_on_once setting play)).waiting play.joins (handed_on_once setting play).joins (handed_on_times n setting (handed_on_once setting play)).joins
    (marks_if (next_in_line play.holder play.waiting) setting play) (marks_handed_on n setting (handed_on_once setting play))
    (if_tells (next_in_line play.holder play.waiting) setting play) (served_tell n setting (handed_on_once setting play))

touch_tells : (setting : Setting) (play : Play) (o : Option SeatChange) → Tells play.waiting play.joins (marks_after_change setting play o) (after_change setting play o).waiting (after_change setting play o).joins
touch_tells setting play None = record { orderly = _; list = refl; joins = refl }
touch_tells setting play (Some change) = by (with_seat change.grant change.seat play)
  where
    by : (q : Play) → Tells q.waiting q.joins (marks_moved setting change.grant q) (handed_on_times (all_steps_left (go setting change.grant q).seats) setting (go setting change.grant q)).waiting (handed_on_times (all_steps_left (go setting change.grant q).seats) setting (go setting change.grant q)).joins
    by q =
        tells_both q.waiting (go setting change.grant q).waiting (handed_on_times (all_steps_left (go setting change.grant q).seats) setting (go setting change.grant q)).waiting q.joins (go setting change.grant q).joins (handed_on_times (all_steps_left (go setting change.grant q).seats) setting (go setting change.grant q)).joins
        (marks_going setting change.grant q) (marks_handed_on (all_steps_left (go setting change.grant q).seats) setting (go setting change.grant q))
        (times_tell (steps_left (seat_at q change.grant)) setting change.grant q)
        (served_tell (all_steps_left (go setting change.grant q).seats) setting (go setting change.grant q))

steps_tell : (setting : Setting) (steps : List Step) (play : Play) → Tells play.waiting play.joins (marks_after setting steps play) (after_steps setting steps play).waiting (after_steps setting steps play).joins
steps_tell setting [] play = record { orderly = _; list = refl; joins = refl }
steps_tell setting (step ∷ steps) play =
    tells_both play.waiting (after_step setting play step).waiting (after_steps setting steps (after_step setting play step)).waiting play.joins (after_step setting play step).joins (after_steps setting steps (after_step setting play step)).joins
    (marks_after_change setting play (change_by setting play step)) (marks_after setting steps (after_step setting play step))
    (touch_tells setting play (change_by setting play step)) (steps_tell setting steps (after_step setting play step))

pub none_twice : (setting : Setting) (steps : List Step) → NoneTwice (marks setting steps)
none_twice setting steps = orderly_none_twice [] (marks setting steps) (steps_tell setting steps (start setting)).orderly

pub joins_marked : (setting : Setting) (steps : List Step) → (played setting steps).joins ≡ joins_after 0 (marks setting steps)
joins_marked setting steps = sym (steps_tell setting steps (start setting)).joins

-- A grant that goes on in a play does what its seat's turn does.
use Rattle.std.proofs.Common.{◌≡◌, ℕ, zero, suc, ◌<◌, Bool, true, false, List, [], ◌∷◌, ◌++◌, length, drop, refl, ap, sym, ◌∙◌, inl, inr, append_assoc, subst}
use Rattle.std.specs.List.{slice_set}
use Rattle.std.proofs.lemmas.List.{get_or-set_same, set-get_or, append-nil, length-set}
use Rattle.std.proofs.Math.Seq.{drop-length, drop-append_seam}
use Rattle.client_session.specs.Seats.{Seat, EndedSession, advanced, steps_left, opens_next}
use Rattle.client_session.specs.Turns.{LayoutShape, Turn, advanced_as, advanced_turn, advanced_turns, gone_on, may_open}
use Rattle.client_session.proofs.Growth.{Kind, advanced_kind}
use Rattle.plays.specs.Plays.{Setting, Play, seat_at, no_seat, new_ends, turn_at, after_turn, advanced_times, go}

-- a seat's past goes on
pub record Longer (old new : List EndedSession) : Type 0 where
  pub more : List EndedSession
  pub is : old ++ more ≡ new

longer_refl : (past : List EndedSession) → Longer past past
longer_refl past = record { more = []; is = append-nil past }

kind_longer : (new old : Seat) → Kind new old → Longer old.past new.past
kind_longer new old (inl on) = record { more = []; is = append-nil old.past ∙ sym on.past }
kind_longer new old (inr ends) = record { more = record { conn = old.conn; replies = old.replies; end = ends.how } ∷ []; is = sym (ap (λ s. s.past) ends.new_is) }

as_longer : (o m : Bool) (a : LayoutShape) (g : ℕ) (turn : Turn) → Longer turn.seat.past (advanced_as o m a g turn).seat.past
as_longer false m a g turn = kind_longer (advanced turn.seat) turn.seat (advanced_kind turn.seat)
as_longer true true a g turn = kind_longer (advanced turn.seat) turn.seat (advanced_kind turn.seat)
as_longer true false a g turn = longer_refl turn.seat.past

longer_trans : (a b c : List EndedSession) → Longer a b → Longer b c → Longer a c
longer_trans a b c h k = record { more = h.more ++ k.more; is = sym (append_assoc a h.more k.more) ∙ ap (λ q. q ++ k.more) h.is ∙ k.is }

turn_longer : (a : LayoutShape) (g : ℕ) (turn : Turn) → Longer turn.seat.past (advanced_turn a g turn).seat.past
turn_longer a g turn = as_longer (opens_next turn.seat) (may_open turn.holder turn.waiting g) a g turn

turns_longer : (n : ℕ) (a : LayoutShape) (g : ℕ) (turn : Turn) → Longer turn.seat.past (advanced_turns n a g turn).seat.past
turns_longer zero a g turn = longer_refl turn.seat.past
turns_longer (suc n) a g turn = longer_trans turn.seat.past (advanced_turn a g turn).seat.past (advanced_turns n a g (advanced_turn a g turn)).seat.past (turn_longer a g turn) (turns_longer n a g (advanced_turn a g turn))

drop_longer : (old new : List EndedSession) (l : Longer old new) → drop (length old) new ≡ l.more
drop_longer old new l = ap (drop (length old)) (sym l.is) ∙ drop-append_seam old l.more

-- the ends of two turns in a row
ends_two : (g : ℕ) (a b c : List EndedSession) → Longer a b → Longer b c → new_ends g (drop (length a) b) ++ new_ends g (drop (length b) c) ≡ new_ends g (drop (length a) c)
unfolding longer_trans
ends_two g a b c h k =
    ap (λ q. new_ends g q ++ new_ends g (drop (length b) c)) (drop_longer a b h)
    ∙ ap (λ q. new_ends g h.more ++ new_ends g q) (drop_longer b c k)
    ∙ sym (map_append h.more k.more)
    ∙ ap (new_ends g) (sym (drop_longer a c (longer_trans a b c h k)))
  where
    map_append : (xs ys : List EndedSession) → new_ends g (xs ++ ys) ≡ new_ends g xs ++ new_ends g ys
    map_append [] ys = refl
    map_append (x ∷ xs) ys = ap (λ rest. record { grant = g; conn = x.conn; end = x.end } ∷ rest) (map_append xs ys)

set-set : (seats : List Seat) (g : ℕ) (a b : Seat) → slice_set (slice_set seats g a) g b ≡ slice_set seats g b
set-set [] g a b = refl
set-set (seat ∷ seats) zero a b = refl
set-set (seat ∷ seats) (suc g) a b = ap (λ rest. seat ∷ rest) (set-set seats g a b)

-- a play after a turn that did nothing
turn_none : (g : ℕ) (play : Play) → after_turn g play (turn_at play g) ≡ play
turn_none g play =
    ap (λ seats. record play { seats = seats; ends = play.ends ++ new_ends g (drop (length (seat_at play g).past) (seat_at play g).past) }) (set-get_or play.seats g no_seat)
    ∙ ap (λ past. record play { ends = play.ends ++ new_ends g past }) (drop-length (seat_at play g).past)
    ∙ ap (λ ends. record play { ends = ends }) (append-nil play.ends)

-- two turns in a row are one
turn_two : (g : ℕ) (play : Play) (first second : Turn) → g < length play.seats → Longer (seat_at play g).past first.seat.past → Longer first.seat.past second.seat.past → after_turn g (after_turn g play first) second ≡ after_turn g play second
turn_two g play first second lt h k =
    ap (λ seat. record {
      seats = slice_set (slice_set play.seats g first.seat) g second.seat;
      holder = second.holder;
      waiting = second.waiting;
      ends = (play.ends ++ new_ends g (drop (length (seat_at play g).past) first.seat.past)) ++ new_ends g (drop (length seat.past) second.seat.past);
      joins = second.joins;
      cost = second.cost;
    }) (get_or-set_same play.seats g first.seat no_seat lt)
    ∙ ap (λ seats. record {
      seats = seats;
      holder = second.holder;
      waiting = second.waiting;
      ends = (play.ends ++ new_ends g (drop (length (seat_at play g).past) first.seat.past)) ++ new_ends g (drop (length first.seat.past) second.seat.past);
      joins = second.joins;
      cost = second.cost;
    }) (set-set play.seats g first.seat second.seat)
    ∙ ap (λ ends. record {
      seats = slice_set play.seats g second.seat;
      holder = second.holder;
      waiting = second.waiting;
      ends = ends;
      joins = second.joins;
      cost = second.cost;
    }) (append_assoc play.ends (new_ends g (drop (length (seat_at play g).past) first.seat.past)) (new_ends g (drop (length first.seat.past) second.seat.past))
    ∙ ap (λ q. play.ends ++ q) (ends_two g (seat_at play g).past first.seat.past second.seat.past h k))

module _ (setting : Setting) (g : ℕ) where
  turn_of : (play : Play) (turn : Turn) → g < length play.seats → turn_at (after_turn g play turn) g ≡ turn
  turn_of play turn lt = ap (λ seat. record { seat = seat; holder = turn.holder; waiting = turn.waiting; joins = turn.joins; cost = turn.cost }) (get_or-set_same play.seats g turn.seat no_seat lt)

  pub times_turns : (n : ℕ) (play : Play) → g < length play.seats → advanced_times n setting g play ≡ after_turn g play (advanced_turns n setting.layout g (turn_at play g))
  times_turns zero play lt = sym (turn_none g play)
  times_turns (suc n) play lt =
      let first = advanced_turn setting.layout g (turn_at play g) in
      times_turns n (after_turn g play first) (subst (λ k. g < k) (sym (length-set play.seats g first.seat)) lt)
      ∙ ap (λ turn. after_turn g (after_turn g play first) (advanced_turns n setting.layout g turn)) (turn_of play first lt)
      ∙ turn_two g play first (advanced_turns n setting.layout g first) lt (turn_longer setting.layout g (turn_at play g)) (turns_longer n setting.layout g first)

  pub go_turn : (play : Play) → g < length play.seats → go setting g play ≡ after_turn g play (gone_on setting.layout g (turn_at play g))
  go_turn play lt = times_turns (steps_left (seat_at play g)) play lt

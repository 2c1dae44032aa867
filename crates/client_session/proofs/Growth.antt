-- What a step does to a session: it goes on, with more replies or the same, or it ends.
use Rattle.std.proofs.Common.{◌≡◌, ℕ, zero, suc, ◌+◌, Bool, true, false, cond, List, [], ◌∷◌, ◌++◌, refl, ap, sym, ◌∙◌, append_assoc, inl, inr, ◌⊎◌, nat_le, subst}
use Rattle.std.proofs.lemmas.List.{append-nil}
use Rattle.scan_bits.specs.Words.{packed}
use Rattle.client_session.specs.declared.End.{End}
use Rattle.client_session.specs.Acts.{Act}
use Rattle.client_session.specs.Acts.Act.{Say, SayTdo, Sample, Rise, Fall, Pack, SetLines, SetTrst, EndAt}
use Rattle.client_session.specs.Seats.{Seat, EndedSession, Next, next_in, load_next, without_message, acted, step_of, advanced, advanced_by, ended, taken, most_bytes, gone_end, tdo_digit}
use Rattle.client_session.specs.Seats.Next.{Whole, RefusedAt, Nothing}
use Rattle.client_session.specs.Private.{Replies, all_replies, past_replies}

-- the session goes on
pub record GoesOn (new old : Seat) : Type 0 where
  pub going : new.going ≡ old.going
  pub conn : new.conn ≡ old.conn
  pub gone : new.gone ≡ old.gone
  pub past : new.past ≡ old.past
  pub more : List ℕ
  pub replies : old.replies ++ more ≡ new.replies

-- the session ends
pub record Ends (new old : Seat) : Type 0 where
  pub how : End
  pub went : old.going ≡ true
  pub new_is : new ≡ ended how old

abbrev pub Kind : Seat → Seat → Type 0
Kind new old = GoesOn new old ⊎ Ends new old

same_kind : (seat : Seat) → GoesOn seat seat
same_kind seat = record { going = refl; conn = refl; gone = refl; past = refl; more = []; replies = append-nil seat.replies }

act_kind : (act : Act) (acts : List Act) (seat : Seat) → seat.going ≡ true → Kind (acted act (record seat { acts = acts })) seat
act_kind (Say x) acts seat g = inl (record { going = refl; conn = refl; gone = refl; past = refl; more = x; replies = refl })
act_kind SayTdo acts seat g = inl (record { going = refl; conn = refl; gone = refl; past = refl; more = tdo_digit seat.chain.tdo ∷ []; replies = refl })
act_kind Sample acts seat g = inl (record { going = refl; conn = refl; gone = refl; past = refl; more = []; replies = append-nil seat.replies })
act_kind (Rise tms tdi) acts seat g = inl (record { going = refl; conn = refl; gone = refl; past = refl; more = []; replies = append-nil seat.replies })
act_kind Fall acts seat g = inl (record { going = refl; conn = refl; gone = refl; past = refl; more = []; replies = append-nil seat.replies })
act_kind Pack acts seat g = inl (record { going = refl; conn = refl; gone = refl; past = refl; more = packed seat.sampled; replies = refl })
act_kind (SetLines tck tms tdi) acts seat g = inl (record { going = refl; conn = refl; gone = refl; past = refl; more = []; replies = append-nil seat.replies })
act_kind (SetTrst level) acts seat g = inl (record { going = refl; conn = refl; gone = refl; past = refl; more = []; replies = append-nil seat.replies })
act_kind (EndAt at) acts seat g = inr (record { how = End.Quit at; went = g; new_is = refl })

quiet_kind : (seat : Seat) → seat.going ≡ true → Kind (without_message seat) seat
quiet_kind seat g = by (nat_le most_bytes (taken seat)) seat.gone
  where
    by : (b c : Bool) → Kind (cond b (ended (End.Long most_bytes) seat) (cond c (ended (gone_end seat.used seat.unused) seat) seat)) seat
    by true c = inr (record { how = End.Long most_bytes; went = g; new_is = refl })
    by false true = inr (record { how = gone_end seat.used seat.unused; went = g; new_is = refl })
    by false false = inl (same_kind seat)

load_kind : (n : Next) (seat : Seat) → seat.going ≡ true → Kind (load_next n seat) seat
load_kind (Whole acts count) seat g = inl (record { going = refl; conn = refl; gone = refl; past = refl; more = []; replies = append-nil seat.replies })
load_kind (RefusedAt at cause) seat g = inr (record { how = End.Refused (seat.used + at) cause; went = g; new_is = refl })
load_kind Nothing seat g = quiet_kind seat g

step_kind : (acts : List Act) (seat : Seat) → seat.going ≡ true → Kind (step_of acts seat) seat
step_kind [] seat g = load_kind (next_in seat.protocol seat) seat g
step_kind (act ∷ acts) seat g = act_kind act acts seat g

pub advanced_kind : (seat : Seat) → Kind (advanced seat) seat
advanced_kind seat = by seat.going refl
  where
    by : (t : Bool) → seat.going ≡ t → Kind (cond t (step_of seat.acts seat) seat) seat
    by true g = step_kind seat.acts seat g
    by false g = inl (same_kind seat)

-- ---- replies only grow

abbrev pub Grow : List Replies → List Replies → Type 0
Grow [] new = new ≡ []
Grow (x ∷ old) [] = ⊥
Grow (x ∷ old) (y ∷ new) = (x.conn ≡ y.conn) × ((rest : List ℕ) × (x.bytes ++ rest ≡ y.bytes)) × Grow old new

pub Grow-refl : (xs : List Replies) → Grow xs xs
Grow-refl [] = refl
Grow-refl (x ∷ xs) = (refl, ([], append-nil x.bytes), Grow-refl xs)

pub Grow-trans : (xs ys zs : List Replies) → Grow xs ys → Grow ys zs → Grow xs zs
Grow-trans [] ys zs h k = let e : zs ≡ [] = subst (λ q. Grow q zs) h k in e
Grow-trans (x ∷ xs) [] zs h k = absurd h
Grow-trans (x ∷ xs) (y ∷ ys) [] h k = absurd k
Grow-trans (x ∷ xs) (y ∷ ys) (z ∷ zs) h k =
    (h.0 ∙ k.0, (h.1.0 ++ k.1.0, sym (append_assoc x.bytes h.1.0 k.1.0) ∙ ap (λ q. q ++ k.1.0) h.1.1 ∙ k.1.1), Grow-trans xs ys zs h.2 k.2)

grow_last : (past : List Replies) (c d : ℕ) (a b more : List ℕ) → c ≡ d → a ++ more ≡ b → Grow (past ++ record { conn = c; bytes = a } ∷ []) (past ++ record { conn = d; bytes = b } ∷ [])
grow_last [] c d a b more e h = (e, (more, h), refl)
grow_last (x ∷ past) c d a b more e h = (refl, ([], append-nil x.bytes), grow_last past c d a b more e h)

ended_replies : (past : List EndedSession) (last : EndedSession) → past_replies (past ++ last ∷ []) ≡ past_replies past ++ record { conn = last.conn; bytes = last.replies } ∷ []
ended_replies [] last = refl
ended_replies (x ∷ past) last = ap (λ rest. record { conn = x.conn; bytes = x.replies } ∷ rest) (ended_replies past last)

live_replies : (new old : Seat) (t : Bool) → GoesOn new old → Grow (past_replies old.past ++ cond t (record { conn = old.conn; bytes = old.replies } ∷ []) []) (past_replies old.past ++ cond t (record { conn = new.conn; bytes = new.replies } ∷ []) [])
live_replies new old true on = grow_last (past_replies old.past) old.conn new.conn old.replies new.replies on.more (sym on.conn) on.replies
live_replies new old false on = Grow-refl (past_replies old.past ++ [])

kind_grows : (new old : Seat) → Kind new old → Grow (all_replies old) (all_replies new)
kind_grows new old (inl on) = rw (on.past, on.going) (live_replies new old old.going on)
kind_grows new old (inr ends) =
    let last : EndedSession = record { conn = old.conn; replies = old.replies; end = ends.how } in
    rw (ends.new_is, ends.went, ended_replies old.past last, append-nil (past_replies old.past ++ record { conn = old.conn; bytes = old.replies } ∷ []))
    (Grow-refl (past_replies old.past ++ record { conn = old.conn; bytes = old.replies } ∷ []))

pub replies_grow : (steps : ℕ) (seat : Seat) → Grow (all_replies seat) (all_replies (advanced_by steps seat))
replies_grow zero seat = Grow-refl (all_replies seat)
replies_grow (suc steps) seat =
    Grow-trans (all_replies seat) (all_replies (advanced seat)) (all_replies (advanced_by steps (advanced seat))) (kind_grows (advanced seat) seat (advanced_kind seat)) (replies_grow steps (advanced seat))

-- ---- an ended session's scan is closed

abbrev pub IsShut : Seat → Type 0
IsShut seat = seat.going ≡ false → seat.chain.scan_open ≡ false

pub shut_advanced : (seat : Seat) → IsShut seat → IsShut (advanced seat)
shut_advanced seat shut = by seat.going refl
  where
    by_kind : seat.going ≡ true → Kind (advanced seat) seat → IsShut (advanced seat)
    by_kind g (inl on) = λ h. absurd (let q : false ≡ true = sym h ∙ on.going ∙ g in cc)
    by_kind g (inr ends) = rw ends.new_is (λ h. refl)

    by : (t : Bool) → seat.going ≡ t → IsShut (advanced seat)
    by true g = by_kind g (advanced_kind seat)
    by false g = subst IsShut (sym (rest g)) shut
      where
        rest : seat.going ≡ false → advanced seat ≡ seat
        rest e = rw e refl

-- Bytes that come in two pieces do what they do in one.
use Rattle.std.proofs.Common.{◌≡◌, ℕ, zero, suc, ◌-◌, Bool, true, false, not, ◌&&◌, cond, List, [], ◌∷◌, ◌++◌, length, take, refl, ap, sym, ◌∙◌, arith, length-append, append_assoc}
use Rattle.client_session.specs.Seats.{Seat, finished, taken, most_bytes}
use Rattle.client_session.specs.Private.{Event, is_live, received, took, after_event, after_events}
use Rattle.client_session.specs.Private.Event.{Took}
use Rattle.client_session.proofs.Later.{took_early}

-- the first of two lists joined, as far as there is room
take-two : (n m : ℕ) (a b : List ℕ) → m ≡ n - length (take n a) → take n a ++ take m b ≡ take n (a ++ b)
take-two zero m a b h = let none : m ≡ 0 = omega arith in ap (λ k. take k b) none
take-two (suc n) m [] b h = let all : m ≡ suc n = omega arith in ap (λ k. take k b) all
take-two (suc n) m (x ∷ a) b h = let less : m ≡ n - length (take n a) = omega arith in ap (λ rest. x ∷ rest) (take-two n m a b less)

pub received-received : (a b : List ℕ) (seat : Seat) → received b (received a seat) ≡ received (a ++ b) seat
received-received a b seat =
    let n = most_bytes - taken seat in
    let m = most_bytes - taken (received a seat) in
    let rest : m ≡ n - length (take n a) = omega (arith, length-append seat.unused (take n a)) in
    ap (λ u. record seat { unused = u }) (append_assoc seat.unused (take n a) (take m b) ∙ ap (λ q. seat.unused ++ q) (take-two n m a b rest))

pub took-took : (c : ℕ) (a b : List ℕ) (seat : Seat) → took c b (took c a seat) ≡ took c (a ++ b) seat
took-took c a b seat = go (is_live c seat && not seat.gone) refl
  where
    go : (t : Bool) → (is_live c seat && not seat.gone) ≡ t → took c b (cond t (received a seat) seat) ≡ cond t (received (a ++ b) seat) seat
    go true h = rw h (received-received a b seat)
    go false h = rw h refl

pub after_events-append : (first second : List Event) (seat : Seat) → after_events (first ++ second) seat ≡ after_events second (after_events first seat)
after_events-append [] second seat = refl
after_events-append (event ∷ first) second seat = after_events-append first second (finished (after_event event seat))

pub joined_took : (c : ℕ) (a b : List ℕ) (seat : Seat) → finished (took c b (finished (took c a seat))) ≡ finished (took c (a ++ b) seat)
joined_took c a b seat = took_early c b (took c a seat) ∙ ap finished (took-took c a b seat)

pub pieces_join : (seat : Seat) (c : ℕ) (a b : List ℕ) (before after : List Event) → after_events (before ++ Took c a ∷ Took c b ∷ after) seat ≡ after_events (before ++ Took c (a ++ b) ∷ after) seat
pieces_join seat c a b before after =
    after_events-append before (Took c a ∷ Took c b ∷ after) seat
    ∙ ap (after_events after) (joined_took c a b (after_events before seat))
    ∙ sym (after_events-append before (Took c (a ++ b) ∷ after) seat)

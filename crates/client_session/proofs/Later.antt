-- Bytes and drops that come before a seat has finished might as well come after it.
use Rattle.std.proofs.Common.{◌≡◌, ℕ, zero, suc, ◌+◌, ◌-◌, ◌≤◌, Bool, true, false, not, ◌&&◌, cond, List, [], ◌∷◌, ◌++◌, length, take, drop, refl, ap, sym, ◌∙◌, arith, length-drop, Some, None, inl, inr, ◌⊎◌, nat_le}
use Rattle.std.proofs.lemmas.Bool.{leb-true}
use Rattle.std.proofs.lemmas.List.{drop-append-le, append-nil}
use Rattle.std.specs.declared.option.Option.{Option}
use Rattle.grant_table.specs.declared.Protocol.{Protocol}
use Rattle.grant_table.specs.declared.Protocol.TheVariants.{Xvc, Bitbang}
use Rattle.xvc_frame.specs.Messages.{Framed, Refusal, front, refused}
use Rattle.xvc_frame.proofs.Fronts.{front-append, refused-append, refused_has_no_front}
use Rattle.client_session.specs.declared.End.{End}
use Rattle.client_session.specs.Acts.{Act}
use Rattle.client_session.specs.Acts.Act.{Say, SayTdo, Sample, Rise, Fall, Pack, SetLines, SetTrst, EndAt}
use Rattle.client_session.specs.Seats.{Seat, Next, next_xvc, next_bitbang, next_in, load_next, loaded, without_message, acted, step_of, advanced, advanced_by, steps_left, finished, IsFinished, ended, taken, most_bytes, gone_end}
use Rattle.client_session.specs.Seats.Next.{Whole, RefusedAt, Nothing}
use Rattle.client_session.specs.Private.{is_live, received, took, dropped}
use Rattle.client_session.proofs.Steps.{NextFits, next_fits, stays, finished_finished}

-- two counts of steps that both finish lead to one seat
pub one_end : (m n : ℕ) (seat : Seat) → IsFinished (advanced_by m seat) → IsFinished (advanced_by n seat) → advanced_by m seat ≡ advanced_by n seat
one_end zero n seat h k = sym (stays n seat h)
one_end (suc m) zero seat h k = stays (suc m) seat k
one_end (suc m) (suc n) seat h k = one_end m n (advanced seat) h k

pub finished-advanced : (seat : Seat) → finished (advanced seat) ≡ finished seat
finished-advanced seat = one_end (suc (steps_left (advanced seat))) (steps_left seat) seat (finished_finished (advanced seat)) (finished_finished seat)

pub finished_stays : (seat : Seat) → IsFinished seat → finished seat ≡ seat
finished_stays seat h = stays (steps_left seat) seat h

-- a change that a step lets through
lets_through : (F G : Seat → Seat) (seat : Seat) → F (G seat) ≡ G (F seat) → (t : Bool) → F (cond t (G seat) seat) ≡ cond t (G (F seat)) (F seat)
lets_through F G seat h true = h
lets_through F G seat h false = refl

-- a change that a step wipes out
wipes : (F G : Seat → Seat) (seat : Seat) → F (G seat) ≡ F seat → (t : Bool) → F (cond t (G seat) seat) ≡ F seat
wipes F G seat h true = h
wipes F G seat h false = refl

abbrev act_then : Act → List Act → Seat → Seat
act_then act acts seat = acted act (record seat { acts = acts })

act_took : (act : Act) (acts : List Act) (c : ℕ) (b : List ℕ) (seat : Seat) → act_then act acts (took c b seat) ≡ took c b (act_then act acts seat)
act_took (Say x) acts c b seat = lets_through (act_then (Say x) acts) (received b) seat refl (is_live c seat && not seat.gone)
act_took SayTdo acts c b seat = lets_through (act_then SayTdo acts) (received b) seat refl (is_live c seat && not seat.gone)
act_took Sample acts c b seat = lets_through (act_then Sample acts) (received b) seat refl (is_live c seat && not seat.gone)
act_took (Rise tms tdi) acts c b seat = lets_through (act_then (Rise tms tdi) acts) (received b) seat refl (is_live c seat && not seat.gone)
act_took Fall acts c b seat = lets_through (act_then Fall acts) (received b) seat refl (is_live c seat && not seat.gone)
act_took Pack acts c b seat = lets_through (act_then Pack acts) (received b) seat refl (is_live c seat && not seat.gone)
act_took (SetLines tck tms tdi) acts c b seat = lets_through (act_then (SetLines tck tms tdi) acts) (received b) seat refl (is_live c seat && not seat.gone)
act_took (SetTrst level) acts c b seat = lets_through (act_then (SetTrst level) acts) (received b) seat refl (is_live c seat && not seat.gone)
act_took (EndAt at) acts c b seat = wipes (act_then (EndAt at) acts) (received b) seat refl (is_live c seat && not seat.gone)

abbrev marked : Seat → Seat
marked seat = record seat { gone = true }

act_dropped : (act : Act) (acts : List Act) (c : ℕ) (seat : Seat) → act_then act acts (dropped c seat) ≡ dropped c (act_then act acts seat)
act_dropped (Say x) acts c seat = lets_through (act_then (Say x) acts) marked seat refl (is_live c seat)
act_dropped SayTdo acts c seat = lets_through (act_then SayTdo acts) marked seat refl (is_live c seat)
act_dropped Sample acts c seat = lets_through (act_then Sample acts) marked seat refl (is_live c seat)
act_dropped (Rise tms tdi) acts c seat = lets_through (act_then (Rise tms tdi) acts) marked seat refl (is_live c seat)
act_dropped Fall acts c seat = lets_through (act_then Fall acts) marked seat refl (is_live c seat)
act_dropped Pack acts c seat = lets_through (act_then Pack acts) marked seat refl (is_live c seat)
act_dropped (SetLines tck tms tdi) acts c seat = lets_through (act_then (SetLines tck tms tdi) acts) marked seat refl (is_live c seat)
act_dropped (SetTrst level) acts c seat = lets_through (act_then (SetTrst level) acts) marked seat refl (is_live c seat)
act_dropped (EndAt at) acts c seat = wipes (act_then (EndAt at) acts) marked seat refl (is_live c seat)

-- something comes next
abbrev pub IsSomething : Next → Type 0
IsSomething (Whole acts count) = Unit {0}
IsSomething (RefusedAt at cause) = Unit {0}
IsSomething Nothing = ⊥

xvc_stays : (vector : ℕ) (bytes more : List ℕ) (f : Option Framed) (r : Option Refusal) → front vector bytes ≡ f → refused vector bytes ≡ r → IsSomething (next_xvc vector f r)
    → next_xvc vector (front vector (bytes ++ more)) (refused vector (bytes ++ more)) ≡ next_xvc vector f r
xvc_stays vector bytes more (Some framed) r e k h = rw (front-append vector bytes more framed e) refl
xvc_stays vector bytes more None (Some refusal) e k h =
    let there : refused vector (bytes ++ more) ≡ Some refusal = refused-append vector bytes more refusal k in
    rw (refused_has_no_front vector (bytes ++ more) refusal there, there) refl
xvc_stays vector bytes more None None e k h = absurd h

bitbang_stays : (uses_trst : Bool) (at : ℕ) (bytes more : List ℕ) → IsSomething (next_bitbang uses_trst at bytes) → next_bitbang uses_trst at (bytes ++ more) ≡ next_bitbang uses_trst at bytes
bitbang_stays uses_trst at [] more h = absurd h
bitbang_stays uses_trst at (byte ∷ bytes) more h = refl

-- what comes next stays when more bytes come
pub next_stays : (p : Protocol) (seat : Seat) (more : List ℕ) → IsSomething (next_in p seat) → next_in p (record seat { unused = seat.unused ++ more }) ≡ next_in p seat
next_stays Xvc seat more h = xvc_stays seat.vector seat.unused more (front seat.vector seat.unused) (refused seat.vector seat.unused) refl refl h
next_stays Bitbang seat more h = bitbang_stays seat.uses_trst seat.used seat.unused more h

-- with the most bytes taken, none are added
given_none : (b : List ℕ) (seat : Seat) → most_bytes ≤ taken seat → received b seat ≡ seat
given_none b seat h =
    let full : most_bytes - taken seat ≡ 0 = omega arith in
    let none : seat.unused ++ take (most_bytes - taken seat) b ≡ seat.unused = rw full (append-nil seat.unused) in
    ap (λ u. record seat { unused = u }) none

-- whether a change is made or not
if_same : (t : Bool) (x y : Seat) → x ≡ y → cond t x y ≡ y
if_same true x y h = h
if_same false x y h = refl

-- a message that bytes stand behind
message_given : (b : List ℕ) (seat : Seat) (acts : List Act) (count : ℕ) → count ≤ length seat.unused → load_next (Whole acts count) (received b seat) ≡ received b (load_next (Whole acts count) seat)
message_given b seat acts count le =
    let more = take (most_bytes - taken seat) b in
    let room : (seat.used + count) + length (drop count seat.unused) ≡ seat.used + length seat.unused = omega (arith, length-drop count seat.unused) in
    ap (λ u. record seat { acts = acts; unused = u; used = seat.used + count }) (drop-append-le count seat.unused more le ∙ ap (λ n. drop count seat.unused ++ take (most_bytes - n) b) (sym room))

-- a step of a seat that has something to do lets an event through; else the seat is finished
abbrev pub Lets : (Seat → Seat) → Seat → Type 0
Lets event seat = IsFinished seat ⊎ (advanced (event seat) ≡ event (advanced seat))

took_going : (c : ℕ) (b : List ℕ) (seat : Seat) → (took c b seat).going ≡ seat.going
took_going c b seat = go (is_live c seat && not seat.gone)
  where
    go : (t : Bool) → (cond t (received b seat) seat).going ≡ seat.going
    go true = refl
    go false = refl

took_acts : (c : ℕ) (b : List ℕ) (seat : Seat) → (took c b seat).acts ≡ seat.acts
took_acts c b seat = go (is_live c seat && not seat.gone)
  where
    go : (t : Bool) → (cond t (received b seat) seat).acts ≡ seat.acts
    go true = refl
    go false = refl

took_next : (c : ℕ) (b : List ℕ) (seat : Seat) → IsSomething (next_in seat.protocol seat) → next_in (took c b seat).protocol (took c b seat) ≡ next_in seat.protocol seat
took_next c b seat h = go (is_live c seat && not seat.gone)
  where
    go : (t : Bool) → next_in (cond t (received b seat) seat).protocol (cond t (received b seat) seat) ≡ next_in seat.protocol seat
    go true = next_stays seat.protocol seat (take (most_bytes - taken seat) b) h
    go false = refl

load_took : (c : ℕ) (b : List ℕ) (seat : Seat) (n : Next) → NextFits seat.unused n → IsSomething n → load_next n (took c b seat) ≡ took c b (load_next n seat)
load_took c b seat (Whole acts count) fits h = lets_through (load_next (Whole acts count)) (received b) seat (message_given b seat acts count fits.0) (is_live c seat && not seat.gone)
load_took c b seat (RefusedAt at cause) fits h = wipes (load_next (RefusedAt at cause)) (received b) seat refl (is_live c seat && not seat.gone)
load_took c b seat Nothing fits h = absurd h

-- bytes change nothing where the session is at its most bytes, or its peer is gone
took_full : (c : ℕ) (b : List ℕ) (seat : Seat) → most_bytes ≤ taken seat → took c b seat ≡ seat
took_full c b seat h = if_same (is_live c seat && not seat.gone) (received b seat) seat (given_none b seat h)

took_gone : (c : ℕ) (b : List ℕ) (seat : Seat) → seat.gone ≡ true → took c b seat ≡ seat
took_gone c b seat h = go (is_live c seat)
  where
    go : (l : Bool) → cond (l && not seat.gone) (received b seat) seat ≡ seat
    go true = rw h refl
    go false = refl

-- a drop changes nothing where the peer is gone already
dropped_gone : (c : ℕ) (seat : Seat) → seat.gone ≡ true → dropped c seat ≡ seat
dropped_gone c seat h = if_same (is_live c seat) (marked seat) seat (ap (λ g. record seat { gone = g }) (sym h))

long_end : (seat : Seat) → nat_le most_bytes (taken seat) ≡ true → without_message seat ≡ ended (End.Long most_bytes) seat
long_end seat h = rw h refl

gone_ends : (seat : Seat) → nat_le most_bytes (taken seat) ≡ false → seat.gone ≡ true → without_message seat ≡ ended (gone_end seat.used seat.unused) seat
gone_ends seat h k = rw (h, k) refl

loaded_nothing : (seat : Seat) → next_in seat.protocol seat ≡ Nothing → loaded seat ≡ without_message seat
loaded_nothing seat h = ap (λ n. load_next n seat) h

-- a seat with nothing left to load stays, or ends in the same way
quiet : (seat : Seat) (event : Seat → Seat) → ((e : End) → event (ended e seat) ≡ ended e seat)
    → (nat_le most_bytes (taken seat) ≡ true → loaded (event seat) ≡ ended (End.Long most_bytes) seat)
    → (nat_le most_bytes (taken seat) ≡ false → seat.gone ≡ true → loaded (event seat) ≡ ended (gone_end seat.used seat.unused) seat)
    → (without_message seat ≡ seat) ⊎ (loaded (event seat) ≡ event (without_message seat))
quiet seat event wiped full gone = go (nat_le most_bytes (taken seat)) seat.gone refl refl
  where
    go : (b g : Bool) → nat_le most_bytes (taken seat) ≡ b → seat.gone ≡ g → (without_message seat ≡ seat) ⊎ (loaded (event seat) ≡ event (without_message seat))
    go true g h k = inr (full h ∙ sym (wiped (End.Long most_bytes)) ∙ ap event (sym (long_end seat h)))
    go false true h k = inr (gone h k ∙ sym (wiped (gone_end seat.used seat.unused)) ∙ ap event (sym (gone_ends seat h k)))
    go false false h k = inl (rw (h, k) refl)

-- an event changes neither whether a session is going nor its acts, and a message or a refusal that is there stays
pub record Brings (event : Seat → Seat) (seat : Seat) : Type 0 where
  pub going : (event seat).going ≡ seat.going
  pub acts : (event seat).acts ≡ seat.acts
  pub act : (act : Act) (acts : List Act) → act_then act acts (event seat) ≡ event (act_then act acts seat)
  pub next : IsSomething (next_in seat.protocol seat) → next_in (event seat).protocol (event seat) ≡ next_in seat.protocol seat
  pub load : (n : Next) → NextFits seat.unused n → IsSomething n → load_next n (event seat) ≡ event (load_next n seat)
  pub nothing : next_in seat.protocol seat ≡ Nothing → (without_message seat ≡ seat) ⊎ (loaded (event seat) ≡ event (without_message seat))

took_brings : (c : ℕ) (b : List ℕ) (seat : Seat) → Brings (took c b) seat
took_brings c b seat = record {
  going = took_going c b seat;
  acts = took_acts c b seat;
  act = λ act acts. act_took act acts c b seat;
  next = took_next c b seat;
  load = load_took c b seat;
  nothing = λ h. quiet seat (took c b) (λ e. refl)
      (λ k. ap loaded (took_full c b seat (leb-true most_bytes (taken seat) k)) ∙ loaded_nothing seat h ∙ long_end seat k)
      (λ k l. ap loaded (took_gone c b seat l) ∙ loaded_nothing seat h ∙ gone_ends seat k l);
}

dropped_going : (c : ℕ) (seat : Seat) → (dropped c seat).going ≡ seat.going
dropped_going c seat = go (is_live c seat)
  where
    go : (t : Bool) → (cond t (marked seat) seat).going ≡ seat.going
    go true = refl
    go false = refl

dropped_acts : (c : ℕ) (seat : Seat) → (dropped c seat).acts ≡ seat.acts
dropped_acts c seat = go (is_live c seat)
  where
    go : (t : Bool) → (cond t (marked seat) seat).acts ≡ seat.acts
    go true = refl
    go false = refl

marked_next : (p : Protocol) (seat : Seat) → next_in p (marked seat) ≡ next_in p seat
marked_next Xvc seat = refl
marked_next Bitbang seat = refl

dropped_next : (c : ℕ) (seat : Seat) → next_in (dropped c seat).protocol (dropped c seat) ≡ next_in seat.protocol seat
dropped_next c seat = go (is_live c seat)
  where
    go : (t : Bool) → next_in (cond t (marked seat) seat).protocol (cond t (marked seat) seat) ≡ next_in seat.protocol seat
    go true = marked_next seat.protocol seat
    go false = refl

load_dropped : (c : ℕ) (seat : Seat) (n : Next) → IsSomething n → load_next n (dropped c seat) ≡ dropped c (load_next n seat)
load_dropped c seat (Whole acts count) h = lets_through (load_next (Whole acts count)) marked seat refl (is_live c seat)
load_dropped c seat (RefusedAt at cause) h = wipes (load_next (RefusedAt at cause)) marked seat refl (is_live c seat)
load_dropped c seat Nothing h = absurd h

dropped_long : (c : ℕ) (seat : Seat) → nat_le most_bytes (taken seat) ≡ true → without_message (dropped c seat) ≡ ended (End.Long most_bytes) seat
dropped_long c seat h = go (is_live c seat)
  where
    go : (t : Bool) → without_message (cond t (marked seat) seat) ≡ ended (End.Long most_bytes) seat
    go true = rw h refl
    go false = rw h refl

dropped_brings : (c : ℕ) (seat : Seat) → Brings (dropped c) seat
dropped_brings c seat = record {
  going = dropped_going c seat;
  acts = dropped_acts c seat;
  act = λ act acts. act_dropped act acts c seat;
  next = λ h. dropped_next c seat;
  load = λ n fits h. load_dropped c seat n h;
  nothing = λ h. quiet seat (dropped c) (λ e. refl)
      (λ k. loaded_nothing (dropped c seat) (dropped_next c seat ∙ h) ∙ dropped_long c seat k)
      (λ k l. ap loaded (dropped_gone c seat l) ∙ loaded_nothing seat h ∙ gone_ends seat k l);
}

-- a step of a seat that has something to do lets the event through
something : (n : Next) → (n ≡ Nothing) ⊎ IsSomething n
something (Whole acts count) = inr tt
something (RefusedAt at cause) = inr tt
something Nothing = inl refl

going_advanced : (seat : Seat) (acts : List Act) → seat.going ≡ true → seat.acts ≡ acts → advanced seat ≡ step_of acts seat
going_advanced seat acts g a = rw (g, a) refl

pub lets : (event : Seat → Seat) (seat : Seat) → Brings event seat → Lets event seat
lets event seat brings = go seat.going seat.acts refl refl
  where
    empty : seat.going ≡ true → seat.acts ≡ [] → (next_in seat.protocol seat ≡ Nothing) ⊎ IsSomething (next_in seat.protocol seat) → Lets event seat
    empty g a (inl none) = elim (brings.nothing none) [
      | inl e ↦ inl (going_advanced seat [] g a ∙ loaded_nothing seat none ∙ e)
      | inr e ↦ inr (going_advanced (event seat) [] (brings.going ∙ g) (brings.acts ∙ a) ∙ e ∙ ap event (sym (going_advanced seat [] g a ∙ loaded_nothing seat none)))
    ]
    empty g a (inr some) =
        inr (going_advanced (event seat) [] (brings.going ∙ g) (brings.acts ∙ a)
        ∙ ap (λ n. load_next n (event seat)) (brings.next some)
        ∙ brings.load (next_in seat.protocol seat) (next_fits seat.protocol seat) some
        ∙ ap event (sym (going_advanced seat [] g a)))

    go : (g : Bool) (acts : List Act) → seat.going ≡ g → seat.acts ≡ acts → Lets event seat
    go false acts g a = inl (rw g refl)
    go true [] g a = empty g a (something (next_in seat.protocol seat))
    go true (act ∷ acts) g a =
        inr (going_advanced (event seat) (act ∷ acts) (brings.going ∙ g) (brings.acts ∙ a) ∙ brings.act act acts ∙ ap event (sym (going_advanced seat (act ∷ acts) g a)))

-- an event before a step leads where it leads after it
one_step : (event : Seat → Seat) (seat : Seat) → Lets event seat → finished (event (advanced seat)) ≡ finished (event seat)
one_step event seat (inl e) = ap (λ s. finished (event s)) e
one_step event seat (inr e) = ap finished (sym e) ∙ finished-advanced (event seat)

pub many_steps : (event : Seat → Seat) → ((seat : Seat) → Brings event seat) → (steps : ℕ) (seat : Seat) → finished (event (advanced_by steps seat)) ≡ finished (event seat)
many_steps event brings zero seat = refl
many_steps event brings (suc steps) seat = many_steps event brings steps (advanced seat) ∙ one_step event seat (lets event seat (brings seat))

-- bytes, or a drop, may come before the seat has finished
pub took_early : (c : ℕ) (b : List ℕ) (seat : Seat) → finished (took c b (finished seat)) ≡ finished (took c b seat)
took_early c b seat = many_steps (took c b) (took_brings c b) (steps_left seat) seat

pub dropped_early : (c : ℕ) (seat : Seat) → finished (dropped c (finished seat)) ≡ finished (dropped c seat)
dropped_early c seat = many_steps (dropped c) (dropped_brings c) (steps_left seat) seat

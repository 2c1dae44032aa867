-- The steps of a seat come to an end.
use Rattle.std.proofs.Common.{◌≡◌, ℕ, zero, suc, ◌+◌, ◌*◌, ◌<◌, ◌≤◌, Bool, true, false, cond, List, [], ◌∷◌, length, refl, ap, sym, ◌∙◌, arith, length-drop, Some, None, inl, inr, ◌⊎◌, nat_le}
use Rattle.std.specs.declared.option.Option.{Option}
use Rattle.grant_table.specs.declared.Protocol.{Protocol}
use Rattle.grant_table.specs.declared.Protocol.TheVariants.{Xvc, Bitbang}
use Rattle.xvc_frame.specs.Messages.{Framed, Refusal, front, refused}
use Rattle.bitbang_frame.specs.declared.Letter.{Letter}
use Rattle.bitbang_frame.specs.declared.Letter.TheVariants.{Lines, Read, Quit, Light, Reset}
use Rattle.bitbang_frame.specs.Letters.{letter}
use Rattle.client_session.specs.declared.End.{End}
use Rattle.client_session.specs.Acts.{Act, letter_acts}
use Rattle.client_session.specs.Acts.Act.{Say, SayTdo, Sample, Rise, Fall, Pack, SetLines, SetTrst, EndAt}
use Rattle.client_session.specs.Seats.{Seat, Next, next_xvc, next_letter, next_bitbang, next_in, next_refusal, load_next, without_message, acted, step_of, advanced, advanced_by, steps_left, finished, IsFinished, ended, taken, most_bytes, gone_end}
use Rattle.client_session.specs.Seats.Next.{Whole, RefusedAt, Nothing}
use Rattle.client_session.proofs.Sizes.{FitsFront, front_fits}

abbrev pub one_if : Bool → ℕ
one_if true = 1
one_if false = 0

-- how many steps are left at most
abbrev pub work : Seat → ℕ
work seat = length seat.acts + 32 * length seat.unused + one_if seat.going

pub work-acted : (act : Act) (seat : Seat) → work (acted act seat) ≤ work seat
work-acted (Say bytes) seat = omega arith
work-acted SayTdo seat = omega arith
work-acted Sample seat = omega arith
work-acted (Rise tms tdi) seat = omega arith
work-acted Fall seat = omega arith
work-acted Pack seat = omega arith
work-acted (SetLines tck tms tdi) seat = omega arith
work-acted (SetTrst level) seat = omega arith
work-acted (EndAt at) seat = omega arith

-- what is known of what comes next in some bytes
abbrev pub NextFits : List ℕ → Next → Type 0
NextFits bytes (Whole acts count) = (count ≤ length bytes) × (length acts < 32 * count)
NextFits bytes (RefusedAt at cause) = Unit {0}
NextFits bytes Nothing = Unit {0}

letter_acts_few : (uses_trst : Bool) (at : ℕ) (l : Letter) → length (letter_acts uses_trst at l) ≤ 1
letter_acts_few uses_trst at (Lines tck tms tdi) = omega arith
letter_acts_few uses_trst at Read = omega arith
letter_acts_few uses_trst at Quit = omega arith
letter_acts_few uses_trst at (Light on) = omega arith
letter_acts_few true at (Reset trst srst) = omega arith
letter_acts_few false at (Reset trst srst) = omega arith

refusal_fits : (bytes : List ℕ) (r : Option Refusal) → NextFits bytes (next_refusal r)
refusal_fits bytes None = tt
refusal_fits bytes (Some r) = tt

xvc_fits : (vector : ℕ) (bytes : List ℕ) (f : Option Framed) (r : Option Refusal) → ((framed : Framed) → f ≡ Some framed → FitsFront vector bytes framed) → NextFits bytes (next_xvc vector f r)
xvc_fits vector bytes None r h = refusal_fits bytes r
xvc_fits vector bytes (Some framed) r h = let k = h framed refl in (k.there, k.few)

letter_fits : (uses_trst : Bool) (at byte : ℕ) (bytes : List ℕ) (l : Option Letter) → NextFits (byte ∷ bytes) (next_letter uses_trst at l)
letter_fits uses_trst at byte bytes None = tt
letter_fits uses_trst at byte bytes (Some l) = (omega arith, omega (arith, letter_acts_few uses_trst at l))

bitbang_fits : (uses_trst : Bool) (at : ℕ) (bytes : List ℕ) → NextFits bytes (next_bitbang uses_trst at bytes)
bitbang_fits uses_trst at [] = tt
bitbang_fits uses_trst at (byte ∷ bytes) = letter_fits uses_trst at byte bytes (letter byte)

pub next_fits : (p : Protocol) (seat : Seat) → NextFits seat.unused (next_in p seat)
next_fits Xvc seat = xvc_fits seat.vector seat.unused (front seat.vector seat.unused) (refused seat.vector seat.unused) (front_fits seat.vector seat.unused)
next_fits Bitbang seat = bitbang_fits seat.uses_trst seat.used seat.unused

-- a seat stays, or has less to do
abbrev pub Moves : Seat → Seat → Type 0
Moves new seat = (new ≡ seat) ⊎ (work new < work seat)

quiet_moves : (seat : Seat) → seat.acts ≡ [] → seat.going ≡ true → Moves (without_message seat) seat
quiet_moves seat a g = go (nat_le most_bytes (taken seat)) seat.gone
  where
    small : (end : End) → work (ended end seat) < work seat
    small end = rw (a, g) (omega arith)

    go : (b c : Bool) → Moves (cond b (ended (End.Long most_bytes) seat) (cond c (ended (gone_end seat.used seat.unused) seat) seat)) seat
    go true c = inr (small (End.Long most_bytes))
    go false true = inr (small (gone_end seat.used seat.unused))
    go false false = inl refl

load_moves : (seat : Seat) (n : Next) → NextFits seat.unused n → seat.acts ≡ [] → seat.going ≡ true → Moves (load_next n seat) seat
load_moves seat (Whole acts count) fits a g = inr (rw (a, g) (omega (arith, fits, length-drop count seat.unused)))
load_moves seat (RefusedAt at cause) fits a g = inr (rw (a, g) (omega arith))
load_moves seat Nothing fits a g = quiet_moves seat a g

step_moves : (seat : Seat) (acts : List Act) → seat.acts ≡ acts → seat.going ≡ true → Moves (step_of acts seat) seat
step_moves seat [] a g = load_moves seat (next_in seat.protocol seat) (next_fits seat.protocol seat) a g
step_moves seat (act ∷ acts) a g = inr (let le = work-acted act (record seat { acts = acts }) in rw a (omega (arith, le)))

pub advanced_moves : (seat : Seat) → Moves (advanced seat) seat
advanced_moves seat = go seat.going refl
  where
    go : (g : Bool) → seat.going ≡ g → Moves (cond g (step_of seat.acts seat) seat) seat
    go true h = step_moves seat seat.acts refl h
    go false h = inl refl

pub stays : (steps : ℕ) (seat : Seat) → IsFinished seat → advanced_by steps seat ≡ seat
stays zero seat h = refl
stays (suc steps) seat h = ap (advanced_by steps) h ∙ stays steps seat h

-- enough steps finish
pub enough : (steps : ℕ) (seat : Seat) → work seat ≤ steps → IsFinished (advanced_by steps seat)
enough zero seat le = elim (advanced_moves seat) [ inl e ↦ e | inr lt ↦ absurd (omega arith) ]
enough (suc steps) seat le = elim (advanced_moves seat) [
  | inl e ↦ ap (λ s. advanced (advanced_by steps s)) e ∙ (ap advanced (stays steps seat e) ∙ e) ∙ sym (stays steps seat e) ∙ ap (advanced_by steps) (sym e)
  | inr lt ↦ enough steps (advanced seat) (omega arith)
]

pub work_within : (seat : Seat) → work seat ≤ steps_left seat
work_within seat = go seat.going
  where
    go : (g : Bool) → length seat.acts + 32 * length seat.unused + one_if g ≤ length seat.acts + 32 * length seat.unused + 1
    go true = omega arith
    go false = omega arith

pub finished_finished : (seat : Seat) → IsFinished (finished seat)
finished_finished seat = enough (steps_left seat) seat (work_within seat)

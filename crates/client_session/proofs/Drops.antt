-- Where a session's peer is gone, the session goes on to its end or waits.
use Rattle.std.proofs.Common.{◌≡◌, ℕ, ◌+◌, ◌<◌, Bool, true, false, cond, List, [], ◌∷◌, refl, ap, sym, ◌∙◌, arith, length-drop, inl, inr, nat_le}
use Rattle.grant_table.specs.declared.Protocol.{Protocol}
use Rattle.grant_table.specs.declared.Protocol.TheVariants.{Xvc, Bitbang}
use Rattle.client_session.specs.declared.End.{End}
use Rattle.client_session.specs.declared.End.TheVariants.{Long}
use Rattle.client_session.specs.Acts.{Act}
use Rattle.client_session.specs.Seats.{Seat, Next, next_in, load_next, without_message, acted, step_of, advanced, IsFinished, ended, taken, most_bytes, gone_end}
use Rattle.client_session.specs.Seats.Next.{Whole, RefusedAt, Nothing}
use Rattle.client_session.specs.Private.{opened}
use Rattle.client_session.proofs.Steps.{work, work-acted, NextFits, next_fits}
use Rattle.client_session.proofs.Growth.{advanced_kind}

never : {A : Type 0} → false ≡ true → A
never e = absurd (let q : false ≡ true = e in cc)

-- a session that goes on after a step was going, and its peer is gone where it was
pub went_before : (seat : Seat) → (advanced seat).going ≡ true → seat.going ≡ true
went_before seat h = elim (advanced_kind seat) [ inl on ↦ sym on.going ∙ h | inr ends ↦ ends.went ]

pub gone_before : (seat : Seat) → (advanced seat).going ≡ true → (advanced seat).gone ≡ seat.gone
gone_before seat h = elim (advanced_kind seat) [ inl on ↦ on.gone | inr ends ↦ never (ap (λ s. s.going) (sym ends.new_is) ∙ h) ]

pub conn_before : (seat : Seat) → (advanced seat).going ≡ true → (advanced seat).conn ≡ seat.conn
conn_before seat h = elim (advanced_kind seat) [ inl on ↦ on.conn | inr ends ↦ never (ap (λ s. s.going) (sym ends.new_is) ∙ h) ]

-- a step to a seat that is not going, or that has less to do, is no standing still
not_still : (new seat : Seat) → new ≡ seat → seat.going ≡ true → new.going ≡ false → false ≡ true
not_still new seat same going ends = sym ends ∙ ap (λ s. s.going) same ∙ going

not_less : {A : Type 0} (new seat : Seat) → new ≡ seat → work new < work seat → A
not_less new seat same less = absurd (let e = ap work same in omega (arith, e, less))

quiet_here : (seat : Seat) → without_message seat ≡ seat → seat.going ≡ true → seat.gone ≡ false
quiet_here seat still going = by (nat_le most_bytes (taken seat)) seat.gone still
  where
    by : (b c : Bool) → cond b (ended (Long most_bytes) seat) (cond c (ended (gone_end seat.used seat.unused) seat) seat) ≡ seat → c ≡ false
    by true c h = never (not_still (ended (Long most_bytes) seat) seat h going refl)
    by false true h = never (not_still (ended (gone_end seat.used seat.unused) seat) seat h going refl)
    by false false h = refl

load_here : (seat : Seat) (next : Next) → NextFits seat.unused next → seat.acts ≡ [] → seat.going ≡ true → load_next next seat ≡ seat → seat.gone ≡ false
load_here seat (Whole acts count) fits a going still = not_less (load_next (Whole acts count) seat) seat still (rw (a, going) (omega (arith, fits, length-drop count seat.unused)))
load_here seat (RefusedAt at cause) fits a going still = never (not_still (ended (End.Refused (seat.used + at) cause) seat) seat still going refl)
load_here seat Nothing fits a going still = quiet_here seat still going

step_here : (seat : Seat) (acts : List Act) → seat.acts ≡ acts → seat.going ≡ true → step_of acts seat ≡ seat → seat.gone ≡ false
step_here seat [] a going still = load_here seat (next_in seat.protocol seat) (next_fits seat.protocol seat) a going still
step_here seat (act ∷ acts) a going still =
    not_less (acted act (record seat { acts = acts })) seat still (let le = work-acted act (record seat { acts = acts }) in rw a (omega (arith, le)))

-- a session that has finished and goes on has its peer
pub finished_here : (seat : Seat) → IsFinished seat → seat.going ≡ true → seat.gone ≡ false
finished_here seat done going = step_here seat seat.acts refl going (going_step going ∙ done)
  where
    going_step : seat.going ≡ true → step_of seat.acts seat ≡ advanced seat
    going_step g = rw g refl

-- a session that begins has nothing to do
pub opened_finished : (conn : ℕ) (seat : Seat) → IsFinished (opened conn seat)
opened_finished conn seat = by seat.protocol
  where
    by : (protocol : Protocol) → load_next (next_in protocol (opened conn seat)) (opened conn seat) ≡ opened conn seat
    by Xvc = refl
    by Bitbang = refl

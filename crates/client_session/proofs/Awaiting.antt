-- A seat of Xilinx Virtual Cable 1.0 that has nothing left to do but to wait for bytes: what its unused bytes make of it.
use Rattle.std.proofs.Common.{◌≡◌, ℕ, ◌+◌, ◌≤◌, ◌<◌, Bool, true, false, List, [], ◌∷◌, ◌++◌, length, drop, refl, ap, sym, ◌∙◌, arith, Some, None, nat_le}
use Rattle.std.proofs.lemmas.Bool.{le-leb, leb-true}
use Rattle.grant_table.specs.declared.Protocol.TheVariants.{Xvc}
use Rattle.xvc_frame.specs.Messages.{Message, Framed, Refusal, front, refused}
use Rattle.client_session.specs.declared.End.{End}
use Rattle.client_session.specs.Acts.{message_acts}
use Rattle.client_session.specs.Seats.{Seat, next_xvc, load_next, without_message, advanced, finished, ended, taken, most_bytes, gone_end}
pub use Rattle.client_session.specs.Places.{Awaits}
use Rattle.client_session.specs.Replies.{reply_to, after_message}
use Rattle.client_session.proofs.Later.{finished-advanced, finished_stays}
use Rattle.client_session.proofs.Answering.{answers_message, answered}

-- the seat once the message that its unused bytes are is answered
abbrev pub served : Message → Seat → Seat
served message seat = record seat {
  unused = [];
  used = seat.used + length seat.unused;
  chain = after_message message seat.chain;
  replies = seat.replies ++ reply_to seat.vector message seat.chain;
}

pub drop_all : (xs : List ℕ) → drop (length xs) xs ≡ []
drop_all [] = refl
drop_all (x ∷ xs) = drop_all xs

pub advanced_next : (seat : Seat) → seat.going ≡ true → seat.acts ≡ [] → seat.protocol ≡ Xvc
    → advanced seat ≡ load_next (next_xvc seat.vector (front seat.vector seat.unused) (refused seat.vector seat.unused)) seat
advanced_next seat g a p = rw (g, a, p) refl

-- a whole message is answered
pub serves : (message : Message) (seat : Seat) → Awaits seat → front seat.vector seat.unused ≡ Some (record { message = message; bytes = length seat.unused }) → finished seat ≡ finished (served message seat)
serves message seat awaits is =
    let f : Framed = record { message = message; bytes = length seat.unused } in
    let acts = message_acts seat.vector message in
    let with_acts : Seat = record seat { acts = acts; unused = drop (length seat.unused) seat.unused; used = seat.used + length seat.unused } in
    let next : advanced seat ≡ with_acts =
    advanced_next seat awaits.going awaits.acts awaits.protocol
    ∙ ap (λ o. load_next (next_xvc seat.vector o (refused seat.vector seat.unused)) seat) is in
    sym (finished-advanced seat) ∙ ap finished next ∙ answers_message message with_acts awaits.going awaits.sampled refl
    ∙ (λ i. finished (record (answered message with_acts) { acts = sym awaits.acts i; unused = drop_all seat.unused i }))

-- refused bytes end the session
pub refuses : (refusal : Refusal) (seat : Seat) → Awaits seat → front seat.vector seat.unused ≡ None → refused seat.vector seat.unused ≡ Some refusal
    → finished seat ≡ ended (End.Refused (seat.used + refusal.at) refusal.cause) seat
refuses refusal seat awaits none is =
    let next : advanced seat ≡ ended (End.Refused (seat.used + refusal.at) refusal.cause) seat =
    advanced_next seat awaits.going awaits.acts awaits.protocol
    ∙ (λ i. load_next (next_xvc seat.vector (none i) (is i)) seat) in
    sym (finished-advanced seat) ∙ ap finished next ∙ finished_stays (ended (End.Refused (seat.used + refusal.at) refusal.cause) seat) refl

advanced_quiet : (seat : Seat) → seat.going ≡ true → seat.acts ≡ [] → seat.protocol ≡ Xvc → front seat.vector seat.unused ≡ None → refused seat.vector seat.unused ≡ None → advanced seat ≡ without_message seat
advanced_quiet seat g a p none quiet = advanced_next seat g a p ∙ (λ i. load_next (next_xvc seat.vector (none i) (quiet i)) seat)

not_le : (m n : ℕ) → n < m → nat_le m n ≡ false
not_le m n lt = go (nat_le m n) refl
  where
    go : (t : Bool) → nat_le m n ≡ t → t ≡ false
    go true h = absurd (omega (arith, leb-true m n h))
    go false h = refl

-- a part of a message waits for more
pub waits : (seat : Seat) → Awaits seat → front seat.vector seat.unused ≡ None → refused seat.vector seat.unused ≡ None → taken seat < most_bytes → finished seat ≡ seat
waits seat awaits none quiet room =
    finished_stays seat (advanced_quiet seat awaits.going awaits.acts awaits.protocol none quiet
    ∙ (rw (not_le most_bytes (taken seat) room, awaits.here) refl))

-- the most bytes end the session
pub runs_long : (seat : Seat) → Awaits seat → front seat.vector seat.unused ≡ None → refused seat.vector seat.unused ≡ None → most_bytes ≤ taken seat → finished seat ≡ ended (End.Long most_bytes) seat
runs_long seat awaits none quiet full =
    let next : advanced seat ≡ ended (End.Long most_bytes) seat =
    advanced_quiet seat awaits.going awaits.acts awaits.protocol none quiet ∙ (rw (le-leb most_bytes (taken seat) full) refl) in
    sym (finished-advanced seat) ∙ ap finished next ∙ finished_stays (ended (End.Long most_bytes) seat) refl

-- a drop ends the session
pub leaves : (seat : Seat) → Awaits seat → front seat.vector seat.unused ≡ None → refused seat.vector seat.unused ≡ None → taken seat < most_bytes
    → finished (record seat { gone = true }) ≡ ended (gone_end seat.used seat.unused) seat
leaves seat awaits none quiet room =
    let gone : Seat = record seat { gone = true } in
    let next : advanced gone ≡ ended (gone_end seat.used seat.unused) seat =
    advanced_quiet gone awaits.going awaits.acts awaits.protocol none quiet ∙ (rw (not_le most_bytes (taken seat) room) refl) in
    sym (finished-advanced gone) ∙ ap finished next ∙ finished_stays (ended (gone_end seat.used seat.unused) seat) refl

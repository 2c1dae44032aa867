-- The acts of a message, all made: its reply, and its cycles.
use Rattle.std.proofs.Common.{◌≡◌, ℕ, zero, suc, Bool, true, List, [], ◌∷◌, ◌++◌, length, refl, ap, sym, ◌∙◌, append_assoc}
use Rattle.std.proofs.lemmas.List.{append-nil}
use Rattle.scan_bits.specs.Words.{packed}
use Rattle.chain_model.specs.Cycles.{rise, fall, after_cycles, answers, clocks}
use Rattle.xvc_frame.specs.Messages.{Message}
use Rattle.xvc_frame.specs.Messages.Message.{GetInfo, SetTck, Shift}
use Rattle.client_session.specs.Acts.{Act, shift_acts, message_acts, info}
use Rattle.client_session.specs.Acts.Act.{Say, Sample, Rise, Fall, Pack}
use Rattle.client_session.specs.Seats.{Seat, acted, advanced, advanced_by, finished}
use Rattle.client_session.specs.Replies.{reply_to, after_message}
use Rattle.client_session.proofs.Later.{finished-advanced}

-- a going seat makes its next act
pub one_act : (act : Act) (acts : List Act) (seat : Seat) → seat.going ≡ true → seat.acts ≡ act ∷ acts → advanced seat ≡ acted act (record seat { acts = acts })
one_act act acts seat g a = rw (g, a) refl

-- steps in a row lead where none leads
pub finished-advanced_by : (steps : ℕ) (seat : Seat) → finished (advanced_by steps seat) ≡ finished seat
finished-advanced_by zero seat = refl
finished-advanced_by (suc steps) seat = finished-advanced_by steps (advanced seat) ∙ finished-advanced seat

-- the seat after the acts of a shift
abbrev pub after_shift : List Bool → List Bool → Seat → Seat
after_shift tms tdi seat = record seat {
  acts = [];
  sampled = [];
  chain = after_cycles (clocks tms tdi) seat.chain;
  replies = seat.replies ++ packed (seat.sampled ++ answers (clocks tms tdi) seat.chain);
}

pack_only : (seat : Seat) → seat.going ≡ true → seat.acts ≡ Pack ∷ [] → advanced seat ≡ record seat { acts = []; sampled = []; replies = seat.replies ++ packed (seat.sampled ++ []) }
pack_only seat g a = one_act Pack [] seat g a ∙ ap (λ bits. record seat { acts = []; sampled = []; replies = seat.replies ++ packed bits }) (sym (append-nil seat.sampled))

pub shift_acted : (tms tdi : List Bool) (seat : Seat) → seat.going ≡ true → seat.acts ≡ shift_acts tms tdi → advanced_by (length (shift_acts tms tdi)) seat ≡ after_shift tms tdi seat
shift_acted [] tdi seat g a = pack_only seat g a
shift_acted (m ∷ more) [] seat g a = pack_only seat g a
shift_acted (m ∷ more) (d ∷ rest) seat g a =
    let acts = shift_acts more rest in
    let one : Seat = record seat { acts = Rise m d ∷ Fall ∷ acts; sampled = seat.sampled ++ seat.chain.tdo ∷ [] } in
    let two : Seat = record one { acts = Fall ∷ acts; chain = rise seat.chain m d } in
    let three : Seat = record two { acts = acts; chain = fall (rise seat.chain m d) } in
    let to_three : advanced (advanced (advanced seat)) ≡ three =
    ap (λ s. advanced (advanced s)) (one_act Sample (Rise m d ∷ Fall ∷ acts) seat g a)
    ∙ ap advanced (one_act (Rise m d) (Fall ∷ acts) one g refl)
    ∙ one_act Fall acts two g refl in
    ap (advanced_by (length acts)) to_three
    ∙ shift_acted more rest three g refl
    ∙ ap (λ bits. record seat { acts = []; sampled = []; chain = after_cycles (clocks more rest) (fall (rise seat.chain m d)); replies = seat.replies ++ packed bits })
    (append_assoc seat.sampled (seat.chain.tdo ∷ []) (answers (clocks more rest) (fall (rise seat.chain m d))))

-- the seat once a message's acts are made
abbrev pub answered : Message → Seat → Seat
answered message seat = record seat {
  acts = [];
  chain = after_message message seat.chain;
  replies = seat.replies ++ reply_to seat.vector message seat.chain;
}

pub message_acted : (message : Message) (seat : Seat) → seat.going ≡ true → seat.sampled ≡ [] → seat.acts ≡ message_acts seat.vector message
    → advanced_by (length (message_acts seat.vector message)) seat ≡ answered message seat
message_acted GetInfo seat g s a = one_act (Say (info seat.vector)) [] seat g a
message_acted (SetTck period) seat g s a = one_act (Say _) [] seat g a
message_acted (Shift tms tdi) seat g s a = shift_acted tms tdi seat g a ∙ (rw s refl)

-- a seat with a message's acts left goes on as one that has answered it
pub answers_message : (message : Message) (seat : Seat) → seat.going ≡ true → seat.sampled ≡ [] → seat.acts ≡ message_acts seat.vector message → finished seat ≡ finished (answered message seat)
answers_message message seat g s a = sym (finished-advanced_by (length (message_acts seat.vector message)) seat) ∙ ap finished (message_acted message seat g s a)

-- The bytes of a message of XVC, beside the seat that uses them.
use Rattle.std.proofs.Common.{◌≡◌, ◌≤◌, ◌+◌, ◌-◌, ℕ, Bool, true, false, not, ◌&&◌, cond, List, [], ◌∷◌, ◌++◌, take, drop, length, refl, ap, sym, ◌∙◌, subst, arith, Some, None, nat_lt, is_some}
use Rattle.std.specs.Prelude.{IfOk, IfErr}
use Rattle.std.specs.declared.option.Option.{Option}
use Rattle.std.specs.declared.result.Result.{Result}
use Rattle.std.specs.declared.result.Result.TheVariants.{Ok, Err}
use Rattle.std.specs.Fmt.{decimal}
use Rattle.std.proofs.lemmas.Fmt.{length-decimal-le}
use Rattle.std.proofs.lemmas.List.{append-nil}
use Rattle.std.proofs.lemmas.Bool.{ltb-true}
use Rattle.scan_bits.specs.Words.{bytes_of, packed}
use Rattle.chain_model.specs.Chains.{ChainState}
use Rattle.grant_table.specs.declared.Protocol.TheVariants as protocols
use Rattle.grant_table.specs.Layouts.{LayoutShape, group_of}
use Rattle.chain_token.specs.declared.token.Token.{Token}
use Rattle.scan_share.specs.Views.{ParkedView, OpenView}
use Rattle.scan_share.proofs.Groups.{group_of_laws}
use Rattle.xvc_frame.specs.declared.FrameStep.TheVariants.{Whole}
use Rattle.xvc_frame.specs.declared.Msg.TheVariants as told
use Rattle.xvc_frame.specs.Messages.{Message, Refusal, front, refused, IsFramed, IsMessage, has_word, furthest}
use Rattle.xvc_frame.specs.Messages.Message.{GetInfo, SetTck, Shift}
use Rattle.xvc_frame.specs.Frames.{FrameState, held_message, is_shift, message_or, tms_bits, tdi_bits, tms_of, tdi_of, told_of}
use Rattle.xvc_frame.proofs.Fronts.{by_word, too_long, refused_has_no_front}
use Rattle.virtual_tap.specs.Taps.{ScansAt}
use Rattle.virtual_tap.specs.Views.{StandsFor}
use Rattle.client_session.specs.declared.End.{End}
use Rattle.client_session.specs.declared.input.Input.{Input}
use Rattle.client_session.specs.declared.input.Input.TheVariants.{Xvc, Bitbang}
use Rattle.client_session.specs.declared.input.Work.{Work}
use Rattle.client_session.specs.declared.input.Work.TheVariants.{Taking, Shifting, Sampled, Shifted}
use Rattle.client_session.specs.declared.progress.Progress.{Progress}
use Rattle.client_session.specs.Acts.{info, message_acts, shift_acts}
use Rattle.client_session.specs.Acts.Act.{Say, Pack}
use Rattle.client_session.specs.Seats.{Seat, advanced, ended, load_next, next_in, next_xvc, most_bytes, opens_next, rises_next}
use Rattle.client_session.specs.Turns.{Turn, advanced_turn, advanced_turns, freeing_cost, frees, stepped}
use Rattle.client_session.specs.Sessions.{DeskView}
use Rattle.client_session.specs.Stores.{HasRoomToSay, HoldsShift, IsSilent, KeepsInput, KeepsProgress, WorksAt, acts_of, held_unused, protocol_of, replied, replied_in, reply_of, sampled_of, shift_left, shift_sampled, unused_of}
use Rattle.client_session.specs.Going.{Follows, GoesTo, KeepsBytes, Quiet, SampledAt, ShiftsAt, WaitsAt}
use Rattle.client_session.specs.Desks.{Attends, IsSound, desk_of}
use Rattle.client_session.specs.Calls.{ComesTo, EndsSo, HasReplied, MayGoOn, RestsThere, ShowsFed, ShowsSeat, ShowsTap, WaitsThere}
use Rattle.client_session.specs.Messaging.{HasTaken, IsReplied, KeepsLines, QuietlyTo, ShowsBytes, TakesBytes, frame_of, work_of}
use Rattle.client_session.proofs.Attending.{follows_quiet}
use Rattle.client_session.proofs.Awaiting.{advanced_next, drop_all}
use Rattle.client_session.proofs.Quietly.{advanced_turns-add, no_rise_next, quiet_act, quiet_more, quiet_none}

never : {A : Type 0} → false ≡ true → A
never e = absurd (let q : false ≡ true = e in cc)

other_protocol : {A : Type 0} → protocols.Bitbang ≡ protocols.Xvc → A
other_protocol e = absurd (let q : protocols.Bitbang ≡ protocols.Xvc = e in cc)

-- ---- what the buffers say

pub xvc_unused : (input : Input) → protocol_of input ≡ protocols.Xvc → unused_of input ≡ held_unused (work_of input) (frame_of input)
xvc_unused (Xvc messages) p = refl
xvc_unused (Bitbang letters) p = other_protocol p

pub xvc_acts : (input : Input) → protocol_of input ≡ protocols.Xvc → acts_of input ≡ shift_left (work_of input) (frame_of input)
xvc_acts (Xvc messages) p = refl
xvc_acts (Bitbang letters) p = other_protocol p

pub xvc_sampled : (input : Input) (tdo : Bool) → protocol_of input ≡ protocols.Xvc → sampled_of input tdo ≡ shift_sampled (work_of input) (frame_of input) tdo
xvc_sampled (Xvc messages) tdo p = refl
xvc_sampled (Bitbang letters) tdo p = other_protocol p

pub xvc_replied : (input : Input) (said : List ℕ) → protocol_of input ≡ protocols.Xvc → replied input said ≡ replied_in (work_of input) (frame_of input) said
xvc_replied (Xvc messages) said p = refl
xvc_replied (Bitbang letters) said p = other_protocol p

xvc_room : (input : Input) (said : List ℕ) → protocol_of input ≡ protocols.Xvc → IsSilent (work_of input) said → HasRoomToSay input said
xvc_room (Xvc messages) said p silent = silent
xvc_room (Bitbang letters) said p silent = other_protocol p

xvc_keeps : (vector : ℕ) (input : Input) → protocol_of input ≡ protocols.Xvc → (frame_of input).vector ≡ vector → WorksAt (work_of input) (frame_of input) → KeepsInput vector input
xvc_keeps vector (Xvc messages) p same works = (same, works)
xvc_keeps vector (Bitbang letters) p same works = other_protocol p

pub works_on : (vector : ℕ) (input : Input) → protocol_of input ≡ protocols.Xvc → KeepsInput vector input → WorksAt (work_of input) (frame_of input)
works_on vector (Xvc messages) p keeps = keeps.1
works_on vector (Bitbang letters) p keeps = other_protocol p

pub vector_is : (vector : ℕ) (input : Input) → protocol_of input ≡ protocols.Xvc → KeepsInput vector input → (frame_of input).vector ≡ vector
vector_is vector (Xvc messages) p keeps = keeps.0
vector_is vector (Bitbang letters) p keeps = other_protocol p

pub room_of : (input : Input) (said : List ℕ) → protocol_of input ≡ protocols.Xvc → HasRoomToSay input said → IsSilent (work_of input) said
room_of (Xvc messages) said p room = room
room_of (Bitbang letters) said p room = other_protocol p

pub no_reply : (progress : Progress) → progress.pending ≡ 0 → reply_of progress ≡ []
no_reply progress none =
    let all = replied progress.input progress.said.items in
    let whole : length all - 0 ≡ length all = omega arith in
    ap (λ (k : ℕ). drop (length all - k) all) none ∙ ap (λ (k : ℕ). drop k all) whole ∙ drop_all all

pub all_left : (progress : Progress) (bytes : List ℕ) → replied progress.input progress.said.items ≡ bytes → progress.pending ≡ length bytes → reply_of progress ≡ bytes
all_left progress bytes all pending =
    let none : length bytes - length bytes ≡ 0 = omega arith in
    (λ i. drop (length (all i) - pending i) (all i)) ∙ ap (λ (k : ℕ). drop k bytes) none

-- ---- what always holds

pub keeps_xvc : (progress : Progress) → 1 ≤ progress.vector → progress.vector ≤ 65536 → protocol_of progress.input ≡ protocols.Xvc → (frame_of progress.input).vector ≡ progress.vector
    → WorksAt (work_of progress.input) (frame_of progress.input) → IsSilent (work_of progress.input) progress.said.items
    → progress.pending ≤ length (replied_in (work_of progress.input) (frame_of progress.input) progress.said.items)
    → progress.taken ≡ progress.used + length (held_unused (work_of progress.input) (frame_of progress.input)) → progress.taken ≤ most_bytes → KeepsProgress progress
keeps_xvc progress some most xvc same works silent pending taken few = record {
  some = some;
  most = most;
  input = xvc_keeps progress.vector progress.input xvc same works;
  said = xvc_room progress.input progress.said.items xvc silent;
  pending = subst (λ (bytes : List ℕ). progress.pending ≤ length bytes) (sym (xvc_replied progress.input progress.said.items xvc)) pending;
  taken = taken ∙ ap (λ (bytes : List ℕ). progress.used + length bytes) (sym (xvc_unused progress.input xvc));
  few = few;
}

-- where the frame is open, or empty
pub keeps_taking : (progress : Progress) → 1 ≤ progress.vector → progress.vector ≤ 65536 → protocol_of progress.input ≡ protocols.Xvc → (frame_of progress.input).vector ≡ progress.vector
    → work_of progress.input ≡ Taking → front progress.vector (frame_of progress.input).held ≡ None → refused progress.vector (frame_of progress.input).held ≡ None
    → progress.pending ≤ length progress.said.items → progress.taken ≡ progress.used + length (frame_of progress.input).held → progress.taken ≤ most_bytes → KeepsProgress progress
keeps_taking progress some most xvc same work no_front no_refusal pending taken few =
    keeps_xvc progress some most xvc same
    (subst (λ w. WorksAt w (frame_of progress.input)) (sym work) ((λ i. front (same i) (frame_of progress.input).held) ∙ no_front, (λ i. refused (same i) (frame_of progress.input).held) ∙ no_refusal))
    (subst (λ w. IsSilent w progress.said.items) (sym work) tt)
    (subst (λ w. progress.pending ≤ length (replied_in w (frame_of progress.input) progress.said.items)) (sym work) pending)
    (taken ∙ (λ i. progress.used + length (held_unused (sym work i) (frame_of progress.input))))
    few

-- amid a `shift:`
pub keeps_amid : (progress : Progress) (work : Work) → IsReplied progress → work_of progress.input ≡ work → WorksAt work (frame_of progress.input) → IsSilent work progress.said.items
    → held_unused work (frame_of progress.input) ≡ [] → unused_of progress.input ≡ [] → KeepsProgress progress
keeps_amid progress work replied work_is works silent held unused =
    keeps_xvc progress replied.some replied.most replied.protocol replied.vector
    (subst (λ w. WorksAt w (frame_of progress.input)) (sym work_is) works)
    (subst (λ w. IsSilent w progress.said.items) (sym work_is) silent)
    (omega (arith, replied.pending))
    (replied.taken ∙ ap (λ (bytes : List ℕ). progress.used + length bytes) (xvc_unused progress.input replied.protocol))
    replied.few

-- ---- what the session shows

pub lines_on : (old new : Progress) (grant : ℕ) (turn : Turn) → KeepsLines old new → ShowsTap old grant turn → ShowsTap new grant turn
lines_on old new grant turn lines shows = record {
  going = shows.going;
  holds = shows.holds;
  types = shows.types ∙ ap (λ tap. tap.parts) (sym lines.tap);
  stands = subst (λ tap. StandsFor tap.view turn.seat.chain) (sym lines.tap) shows.stands;
  protocol = lines.protocol ∙ shows.protocol;
  uses_trst = lines.uses_trst ∙ shows.uses_trst;
  vector = lines.vector ∙ shows.vector;
  tck = lines.tck ∙ shows.tck;
  trst = lines.trst ∙ shows.trst;
}

-- bytes that came are taken
pub taken_shows : (old new : Progress) (piece : List ℕ) (grant : ℕ) (given : List ℕ) (turn : Turn) → protocol_of new.input ≡ protocols.Xvc → work_of new.input ≡ Taking → new.pending ≡ 0
    → KeepsLines old new → TakesBytes piece old new → ShowsFed old piece grant given turn → ShowsSeat new grant given turn
taken_shows old new piece grant given turn xvc work none lines bytes fed = record {
  tap = lines_on old new grant turn lines fed.tap;
  unused = bytes.unused ∙ fed.unused;
  used = bytes.used ∙ fed.used;
  acts = xvc_acts new.input xvc ∙ ap (λ w. shift_left w (frame_of new.input)) work ∙ sym fed.acts;
  sampled = xvc_sampled new.input new.tap.view.tdo xvc ∙ ap (λ w. shift_sampled w (frame_of new.input) new.tap.view.tdo) work ∙ sym fed.sampled;
  replies = ap (λ (r : List ℕ). given ++ r) (no_reply new none) ∙ append-nil given ∙ fed.replies;
}

-- a session that has taken bytes, beside its seat
module _ (progress : Progress) (grant : ℕ) (given : List ℕ) (turn : Turn) (replied : IsReplied progress) (work : work_of progress.input ≡ Taking) (shows : ShowsSeat progress grant given turn) where
  abbrev held : List ℕ
  held = (frame_of progress.input).held

  unused_is : turn.seat.unused ≡ held
  unused_is = sym shows.unused ∙ xvc_unused progress.input replied.protocol ∙ ap (λ w. held_unused w (frame_of progress.input)) work

  pub no_acts : turn.seat.acts ≡ []
  no_acts = sym shows.acts ∙ xvc_acts progress.input replied.protocol ∙ ap (λ w. shift_left w (frame_of progress.input)) work

  pub no_samples : turn.seat.sampled ≡ []
  no_samples = sym shows.sampled ∙ xvc_sampled progress.input progress.tap.view.tdo replied.protocol ∙ ap (λ w. shift_sampled w (frame_of progress.input) progress.tap.view.tdo) work

  pub seat_xvc : turn.seat.protocol ≡ protocols.Xvc
  seat_xvc = sym shows.tap.protocol ∙ replied.protocol

  pub all_given : given ≡ turn.seat.replies
  all_given = sym (append-nil given) ∙ ap (λ (r : List ℕ). given ++ r) (sym (no_reply progress replied.pending)) ∙ shows.replies

  front_is : front turn.seat.vector turn.seat.unused ≡ front progress.vector held
  front_is = λ i. front (sym shows.tap.vector i) (unused_is i)

  refused_is : refused turn.seat.vector turn.seat.unused ≡ refused progress.vector held
  refused_is = λ i. refused (sym shows.tap.vector i) (unused_is i)

  -- no message is whole
  pub rests_there : front progress.vector held ≡ None → refused progress.vector held ≡ None → RestsThere progress grant given turn
  rests_there no_front no_refusal = record {
    shows = shows;
    none = no_acts;
    nothing = (λ i. next_in (seat_xvc i) turn.seat) ∙ (λ i. next_xvc turn.seat.vector ((front_is ∙ no_front) i) ((refused_is ∙ no_refusal) i));
  }

  -- the bytes are refused
  pub ends_so : (new : Progress) (at cause : ℕ) → refused progress.vector held ≡ Some (record { at = at; cause = cause }) → KeepsLines progress new → reply_of new ≡ []
      → EndsSo (End.Refused (progress.used + at) cause) new grant given turn
  ends_so new at cause refusal lines none = record {
    tap = lines_on progress new grant turn lines shows.tap;
    replies = ap (λ (r : List ℕ). given ++ r) none ∙ append-nil given ∙ all_given;
    opens = no_rise_next turn.seat (ap (λ acts. rises_next acts turn.seat) no_acts);
    ends =
        advanced_next turn.seat shows.tap.going no_acts seat_xvc
        ∙ (λ i. load_next (next_xvc turn.seat.vector ((front_is ∙ refused_has_no_front progress.vector held (record { at = at; cause = cause }) refusal) i) ((refused_is ∙ refusal) i)) turn.seat)
        ∙ ap (λ (n : ℕ). ended (End.Refused (n + at) cause) turn.seat) (sym shows.used);
    cost = λ width. ap (λ acts. freeing_cost acts width) no_acts;
  }

  -- a whole message is loaded by a quiet step
  module _ (layout : LayoutShape) (message : Message) (framed : IsFramed progress.vector message held) where
    whole : front turn.seat.vector turn.seat.unused ≡ Some (record { message = message; bytes = length turn.seat.unused })
    whole = front_is ∙ framed ∙ ap (λ (bytes : List ℕ). Some (record { message = message; bytes = length bytes })) (sym unused_is)

    abbrev pub loaded_turn : Turn
    loaded_turn = record turn { seat = record turn.seat { acts = message_acts turn.seat.vector message; unused = []; used = turn.seat.used + length turn.seat.unused } }

    loads : advanced turn.seat ≡ loaded_turn.seat
    loads =
        advanced_next turn.seat shows.tap.going no_acts seat_xvc
        ∙ ap (λ o. load_next (next_xvc turn.seat.vector o (refused turn.seat.vector turn.seat.unused)) turn.seat) whole
        ∙ (λ i. record turn.seat { acts = message_acts turn.seat.vector message; unused = drop_all turn.seat.unused i; used = turn.seat.used + length turn.seat.unused })

    never_both : (b : Bool) → (b && not b) ≡ false
    never_both true = refl
    never_both false = refl

    pub to_loaded : Quiet layout grant turn loaded_turn
    to_loaded =
        let opens : opens_next turn.seat ≡ false = no_rise_next turn.seat (ap (λ acts. rises_next acts turn.seat) no_acts) in
        let kept : frees turn.holder grant loaded_turn.seat ≡ false = ap (λ b. b && not turn.seat.chain.scan_open) shows.tap.holds ∙ never_both turn.seat.chain.scan_open in
        let step : stepped layout grant loaded_turn.seat turn ≡ loaded_turn = rw kept refl in
        let as_is : advanced_turn layout grant turn ≡ stepped layout grant (advanced turn.seat) turn = rw opens refl in
        record {
          steps = 1;
          made = sym (as_is ∙ ap (λ s. stepped layout grant s turn) loads ∙ step);
          holder = refl;
          waiting = refl;
          joins = refl;
          cost = refl;
          scan = refl;
          contents = refl;
          codes = λ h. refl;
        }

    loaded_used : (new : Progress) → new.used ≡ progress.taken → new.used ≡ loaded_turn.seat.used
    loaded_used new used = used ∙ replied.taken ∙ (λ i. shows.used i + length (shows.unused i))

    -- and is replied at once
    pub says : (new : Progress) (bytes : List ℕ) → message_acts progress.vector message ≡ Say bytes ∷ [] → KeepsLines progress new → new.used ≡ progress.taken → work_of new.input ≡ Taking
        → (frame_of new.input).held ≡ [] → reply_of new ≡ bytes → QuietlyTo layout grant (RestsThere new grant given) turn
    says new bytes acts lines used new_work none reply =
        let xvc = lines.protocol ∙ replied.protocol in
        let acts_are : loaded_turn.seat.acts ≡ Say bytes ∷ [] = ap (λ (v : ℕ). message_acts v message) (sym shows.tap.vector) ∙ acts in
        let tap = lines_on progress new grant turn lines shows.tap in
        let last : Turn = record loaded_turn { seat = record loaded_turn.seat { acts = []; replies = turn.seat.replies ++ bytes } } in
        record {
          next = last;
          quiet = quiet_more layout grant turn loaded_turn last to_loaded
              (quiet_act layout grant (Say bytes) [] loaded_turn shows.tap.going acts_are (no_rise_next loaded_turn.seat (ap (λ acts. rises_next acts loaded_turn.seat) acts_are)) shows.tap.holds refl refl (λ h. refl));
          gone = refl;
          past = refl;
          there = record {
            shows = record {
              tap = record { going = tap.going; holds = tap.holds; types = tap.types; stands = tap.stands; protocol = tap.protocol; uses_trst = tap.uses_trst; vector = tap.vector; tck = tap.tck; trst = tap.trst };
              unused = xvc_unused new.input xvc ∙ ap (λ w. held_unused w (frame_of new.input)) new_work ∙ none;
              used = loaded_used new used;
              acts = xvc_acts new.input xvc ∙ ap (λ w. shift_left w (frame_of new.input)) new_work;
              sampled = xvc_sampled new.input new.tap.view.tdo xvc ∙ ap (λ w. shift_sampled w (frame_of new.input) new.tap.view.tdo) new_work ∙ sym no_samples;
              replies = (λ i. all_given i ++ reply i);
            };
            none = refl;
            nothing = (λ i. next_in (seat_xvc i) last.seat);
          };
        }

    -- the cycles of a `shift:` are left
    pub begins : (new : Progress) (cycles : ℕ) → message_acts progress.vector message ≡ shift_acts (tms_bits (frame_of progress.input)) (tdi_bits (frame_of progress.input)) → KeepsLines progress new
        → new.used ≡ progress.taken → work_of new.input ≡ Shifting cycles 0 → frame_of new.input ≡ frame_of progress.input → new.pending ≡ 0 → QuietlyTo layout grant (ShowsSeat new grant given) turn
    begins new cycles acts lines used new_work frame pending =
        let xvc = lines.protocol ∙ replied.protocol in
        let tap = lines_on progress new grant turn lines shows.tap in
        record {
          next = loaded_turn;
          quiet = to_loaded;
          gone = refl;
          past = refl;
          there = record {
            tap = record { going = tap.going; holds = tap.holds; types = tap.types; stands = tap.stands; protocol = tap.protocol; uses_trst = tap.uses_trst; vector = tap.vector; tck = tap.tck; trst = tap.trst };
            unused = xvc_unused new.input xvc ∙ ap (λ w. held_unused w (frame_of new.input)) new_work;
            used = loaded_used new used;
            acts = xvc_acts new.input xvc ∙ (λ i. shift_left (new_work i) (frame i)) ∙ sym acts ∙ ap (λ (v : ℕ). message_acts v message) shows.tap.vector;
            sampled = xvc_sampled new.input new.tap.view.tdo xvc ∙ ap (λ w. shift_sampled w (frame_of new.input) new.tap.view.tdo) new_work ∙ sym no_samples;
            replies = ap (λ (r : List ℕ). given ++ r) (no_reply new pending) ∙ append-nil given ∙ all_given;
          };
        }

-- a whole `shift:` is held
pub shift_held : (vector cycles : ℕ) (frame : FrameState) (message : Message) → frame.vector ≡ vector → IsMessage vector message frame.held → IsFramed vector message frame.held → told_of message ≡ told.Shift cycles
    → HoldsShift frame cycles × (message_acts vector message ≡ shift_acts (tms_bits frame) (tdi_bits frame))
shift_held vector cycles frame GetInfo same is framed said = absurd (let q : told.GetInfo ≡ told.Shift cycles = said in cc)
shift_held vector cycles frame (SetTck period) same is framed said = absurd (let q : told.SetTck period ≡ told.Shift cycles = said in cc)
shift_held vector cycles frame (Shift tms tdi) same is framed said =
    let here : held_message frame ≡ Shift tms tdi = (λ i. message_or (front (same i) frame.held)) ∙ ap message_or framed in
    let count : length tms ≡ cycles = (let q : told.Shift (length tms) ≡ told.Shift cycles = said in cc) in (
      record { shift = ap is_shift here; tms = ap (λ m. length (tms_of m)) here ∙ count; tdi = ap (λ m. length (tdi_of m)) here ∙ is.one_each ∙ count },
      (λ i. shift_acts (tms_of (sym here i)) (tdi_of (sym here i))),
    )

-- ---- amid a `shift:`

pub shifts_at : (progress : Progress) (cycles at grant : ℕ) (given : List ℕ) (turn : Turn) → protocol_of progress.input ≡ protocols.Xvc → work_of progress.input ≡ Shifting cycles at
    → ShowsSeat progress grant given turn → ShiftsAt (frame_of progress.input) progress.tap at grant turn
shifts_at progress cycles at grant given turn xvc work shows = record {
  going = shows.tap.going;
  holds = shows.tap.holds;
  types = shows.tap.types;
  acts = sym shows.acts ∙ xvc_acts progress.input xvc ∙ ap (λ w. shift_left w (frame_of progress.input)) work;
  sampled = sym shows.sampled ∙ xvc_sampled progress.input progress.tap.view.tdo xvc ∙ ap (λ w. shift_sampled w (frame_of progress.input) progress.tap.view.tdo) work;
  stands = shows.tap.stands;
}

pub sampled_at : (progress : Progress) (cycles at grant : ℕ) (given : List ℕ) (turn : Turn) → protocol_of progress.input ≡ protocols.Xvc → work_of progress.input ≡ Sampled cycles at
    → ShowsSeat progress grant given turn → SampledAt (frame_of progress.input) progress.tap at grant turn
sampled_at progress cycles at grant given turn xvc work shows = record {
  going = shows.tap.going;
  holds = shows.tap.holds;
  types = shows.tap.types;
  acts = sym shows.acts ∙ xvc_acts progress.input xvc ∙ ap (λ w. shift_left w (frame_of progress.input)) work;
  sampled = sym shows.sampled ∙ xvc_sampled progress.input progress.tap.view.tdo xvc ∙ ap (λ w. shift_sampled w (frame_of progress.input) progress.tap.view.tdo) work;
  stands = shows.tap.stands;
}

-- the seat's bytes and replies stay
pub bytes_on : (old mid : Progress) (grant : ℕ) (given : List ℕ) (turn next : Turn) → old.pending ≡ 0 → protocol_of mid.input ≡ protocol_of old.input → mid.uses_trst ≡ old.uses_trst → mid.vector ≡ old.vector
    → mid.tck ≡ old.tck → mid.trst ≡ old.trst → unused_of mid.input ≡ unused_of old.input → mid.used ≡ old.used → ShowsSeat old grant given turn → KeepsBytes turn.seat next.seat → ShowsBytes mid given next
bytes_on old mid grant given turn next none protocol uses_trst vector tck trst unused used shows kept = record {
  protocol = protocol ∙ shows.tap.protocol ∙ ap (λ (s : Seat). s.protocol) (sym kept);
  uses_trst = uses_trst ∙ shows.tap.uses_trst ∙ ap (λ (s : Seat). s.uses_trst) (sym kept);
  vector = vector ∙ shows.tap.vector ∙ ap (λ (s : Seat). s.vector) (sym kept);
  tck = tck ∙ shows.tap.tck ∙ ap (λ (s : Seat). s.tck) (sym kept);
  trst = trst ∙ shows.tap.trst ∙ ap (λ (s : Seat). s.trst) (sym kept);
  unused = unused ∙ shows.unused ∙ ap (λ (s : Seat). s.unused) (sym kept);
  used = used ∙ shows.used ∙ ap (λ (s : Seat). s.used) (sym kept);
  replies = sym (append-nil given) ∙ ap (λ (r : List ℕ). given ++ r) (sym (no_reply old none)) ∙ shows.replies ∙ ap (λ (s : Seat). s.replies) (sym kept);
}

drop_whole : (xs : List Bool) → drop (length xs) xs ≡ []
drop_whole [] = refl
drop_whole (x ∷ xs) = drop_whole xs

drop_past : (xs : List Bool) (n : ℕ) → length xs ≡ n → drop n xs ≡ []
drop_past xs n e = ap (λ (k : ℕ). drop k xs) (sym e) ∙ drop_whole xs

take_whole : (xs : List Bool) → take (length xs) xs ≡ xs
take_whole [] = refl
take_whole (x ∷ xs) = ap (λ rest. x ∷ rest) (take_whole xs)

take_past : (xs : List Bool) (n : ℕ) → length xs ≡ n → take n xs ≡ xs
take_past xs n e = ap (λ (k : ℕ). take k xs) (sym e) ∙ take_whole xs

-- all cycles are made: the samples are the reply
pub packs : (layout : LayoutShape) (old new : Progress) (cycles grant : ℕ) (given : List ℕ) (turn : Turn) → IsReplied old → unused_of old.input ≡ [] → HoldsShift (frame_of old.input) cycles → KeepsLines old new
    → new.used ≡ old.used → work_of new.input ≡ Shifted → reply_of new ≡ packed (tdi_bits (frame_of old.input)) → ShowsBytes old given turn → ShiftsAt (frame_of old.input) old.tap cycles grant turn
    → QuietlyTo layout grant (RestsThere new grant given) turn
packs layout old new cycles grant given turn replied no_bytes held lines used work reply bytes shifts =
    let frame = frame_of old.input in
    let xvc = lines.protocol ∙ replied.protocol in
    let acts_are : turn.seat.acts ≡ Pack ∷ [] = shifts.acts ∙ (λ i. shift_acts (drop_past (tms_bits frame) cycles held.tms i) (drop_past (tdi_bits frame) cycles held.tdi i)) in
    let sampled_are : turn.seat.sampled ≡ tdi_bits frame = shifts.sampled ∙ take_past (tdi_bits frame) cycles held.tdi in
    let seat_xvc : turn.seat.protocol ≡ protocols.Xvc = sym bytes.protocol ∙ replied.protocol in
    let none : turn.seat.unused ≡ [] = sym bytes.unused ∙ no_bytes in
    let last : Turn = record turn { seat = record turn.seat { acts = []; replies = turn.seat.replies ++ packed turn.seat.sampled; sampled = [] } } in
    record {
      next = last;
      quiet = quiet_act layout grant Pack [] turn shifts.going acts_are (no_rise_next turn.seat (ap (λ acts. rises_next acts turn.seat) acts_are)) shifts.holds refl refl (λ h. refl);
      gone = refl;
      past = refl;
      there = record {
        shows = record {
          tap = record {
            going = shifts.going;
            holds = shifts.holds;
            types = shifts.types ∙ ap (λ tap. tap.parts) (sym lines.tap);
            stands = subst (λ tap. StandsFor tap.view turn.seat.chain) (sym lines.tap) shifts.stands;
            protocol = lines.protocol ∙ bytes.protocol;
            uses_trst = lines.uses_trst ∙ bytes.uses_trst;
            vector = lines.vector ∙ bytes.vector;
            tck = lines.tck ∙ bytes.tck;
            trst = lines.trst ∙ bytes.trst;
          };
          unused = xvc_unused new.input xvc ∙ ap (λ w. held_unused w (frame_of new.input)) work ∙ sym none;
          used = used ∙ bytes.used;
          acts = xvc_acts new.input xvc ∙ ap (λ w. shift_left w (frame_of new.input)) work;
          sampled = xvc_sampled new.input new.tap.view.tdo xvc ∙ ap (λ w. shift_sampled w (frame_of new.input) new.tap.view.tdo) work;
          replies = (λ i. bytes.replies i ++ (reply ∙ ap packed (sym sampled_are)) i);
        };
        none = refl;
        nothing = (λ i. next_in (seat_xvc i) last.seat) ∙ (λ i. next_xvc turn.seat.vector (front turn.seat.vector (none i)) (refused turn.seat.vector (none i)));
      };
    }

-- the session waits before the rise of a cycle
pub pauses : (layout : LayoutShape) (old new : Progress) (cycles at grant : ℕ) (given : List ℕ) (turn : Turn) → IsReplied old → unused_of old.input ≡ [] → KeepsLines old new → new.used ≡ old.used
    → work_of new.input ≡ Sampled cycles at → frame_of new.input ≡ frame_of old.input → new.pending ≡ 0 → ShowsBytes old given turn → WaitsAt layout (frame_of old.input) old.tap at grant turn
    → QuietlyTo layout grant (WaitsThere layout new grant given) turn
pauses layout old new cycles at grant given turn replied no_bytes lines used work frame none bytes waits =
    let amid = waits.amid in
    let xvc = lines.protocol ∙ replied.protocol in
    record {
      next = turn;
      quiet = quiet_none layout grant turn;
      gone = refl;
      past = refl;
      there = record {
        shows = record {
          tap = record {
            going = amid.going;
            holds = amid.holds;
            types = amid.types ∙ ap (λ tap. tap.parts) (sym lines.tap);
            stands = subst (λ tap. StandsFor tap.view turn.seat.chain) (sym lines.tap) amid.stands;
            protocol = lines.protocol ∙ bytes.protocol;
            uses_trst = lines.uses_trst ∙ bytes.uses_trst;
            vector = lines.vector ∙ bytes.vector;
            tck = lines.tck ∙ bytes.tck;
            trst = lines.trst ∙ bytes.trst;
          };
          unused = xvc_unused new.input xvc ∙ ap (λ w. held_unused w (frame_of new.input)) work ∙ sym no_bytes ∙ bytes.unused;
          used = used ∙ bytes.used;
          acts = xvc_acts new.input xvc ∙ (λ i. shift_left (work i) (frame i)) ∙ sym amid.acts;
          sampled = xvc_sampled new.input new.tap.view.tdo xvc ∙ (λ i. shift_sampled (work i) (frame i) (lines.tap i).view.tdo) ∙ sym amid.sampled;
          replies = ap (λ (r : List ℕ). given ++ r) (no_reply new none) ∙ append-nil given ∙ bytes.replies;
        };
        rests = waits.rests;
        waits = waits.waits;
      };
    }

-- ---- where steps come to

pub quietly_none : (layout : LayoutShape) (grant : ℕ) (P : Turn → Type 0) (turn : Turn) → P turn → QuietlyTo layout grant P turn
quietly_none layout grant P turn there = record { next = turn; quiet = quiet_none layout grant turn; gone = refl; past = refl; there = there }

module _ (layout : LayoutShape) (grant : ℕ) (sound : IsSound layout grant) (base_desk : DeskView) (base : Turn) where
  follows_on : (desk : DeskView) (turn next : Turn) → Quiet layout grant turn next → Follows layout (group_of layout.grants grant) grant base_desk base desk turn → Follows layout (group_of layout.grants grant) grant base_desk base desk next
  follows_on desk turn next quiet follows = follows_quiet layout grant sound.parts (group_of_laws layout (group_of layout.grants grant) sound.group_is) base_desk desk base turn next quiet follows

  module _ {C : Type 0} where
    pub attends_as : (P Q : Turn → Type 0) (desk : Token (ParkedView C) (OpenView C)) (chain : Option ChainState) (turn : Turn) → (P turn → Q turn) → Attends layout grant base_desk base P desk chain turn → Attends layout grant base_desk base Q desk chain turn
    attends_as P Q desk None turn turned attends = absurd attends
    attends_as P Q desk (Some chain) turn turned attends = (attends.0, turned attends.1)

    -- by quiet steps alone
    pub comes_quietly : (P Q : Turn → Type 0) (desk : Token (ParkedView C) (OpenView C)) (chain : Option ChainState) (turn : Turn) → (P turn → QuietlyTo layout grant Q turn) → Attends layout grant base_desk base P desk chain turn
        → ComesTo layout grant (Attends layout grant base_desk base Q desk chain) turn
    comes_quietly P Q desk None turn went attends = absurd attends
    comes_quietly P Q desk (Some chain) turn went attends =
        let to = went attends.1 in
        record { next = to.next; steps = to.quiet.steps; made = to.quiet.made; gone = to.gone; past = to.past; there = (follows_on (desk_of layout desk chain) turn to.next to.quiet attends.0, to.there) }

    -- nowhere else, where the cable failed
    pub stays_there : (P Q : Turn → Type 0) (desk : Token (ParkedView C) (OpenView C)) (chain : Option ChainState) (turn : Turn) → (P turn → Q turn) → Attends layout grant base_desk base P desk chain turn → ComesTo layout grant Q turn
    stays_there P Q desk None turn turned attends = absurd attends
    stays_there P Q desk (Some chain) turn turned attends = record { next = turn; steps = 0; made = refl; gone = refl; past = refl; there = turned attends.1 }

    -- through the cycles of a `shift:`, and by quiet steps from there
    pub comes_through : (P Q : Turn → Type 0) (desk : Token (ParkedView C) (OpenView C)) (chain : Option ChainState) (turn : Turn) → GoesTo layout grant (Attends layout grant base_desk base P desk chain) turn
        → ((next : Turn) → KeepsBytes turn.seat next.seat → P next → QuietlyTo layout grant Q next) → ComesTo layout grant (Attends layout grant base_desk base Q desk chain) turn
    comes_through P Q desk None turn goes more = absurd goes.there
    comes_through P Q desk (Some chain) turn goes more =
        let to = more goes.next goes.kept goes.there.1 in
        record {
          next = to.next;
          steps = goes.steps + to.quiet.steps;
          made = to.quiet.made ∙ ap (advanced_turns to.quiet.steps layout grant) goes.made ∙ sym (advanced_turns-add layout grant goes.steps to.quiet.steps turn);
          gone = to.gone ∙ ap (λ (s : Seat). s.gone) goes.kept;
          past = to.past ∙ ap (λ (s : Seat). s.past) goes.kept;
          there = (follows_on (desk_of layout desk chain) goes.next to.next to.quiet goes.there.0, to.there);
        }

    -- a `shift:`, from where the session shows its seat
    pub comes_shifting : (P S T Q : Turn → Type 0) (desk next : Token (ParkedView C) (OpenView C)) (before after : Option ChainState) (turn : Turn) → (P turn → S turn)
        → (Attends layout grant base_desk base S desk before turn → GoesTo layout grant (Attends layout grant base_desk base T next after) turn)
        → ((last : Turn) → P turn → KeepsBytes turn.seat last.seat → T last → QuietlyTo layout grant Q last)
        → Attends layout grant base_desk base P desk before turn → ComesTo layout grant (Attends layout grant base_desk base Q next after) turn
    comes_shifting P S T Q desk next None after turn turned went more attends = absurd attends
    comes_shifting P S T Q desk next (Some chain) after turn turned went more attends =
        comes_through T Q next after turn (went (attends_as P S desk (Some chain) turn turned attends)) (λ last kept there. more last attends.1 kept there)

-- ---- by how a call answered

-- nothing more was replied
pub has_replied : (old new : Progress) (grant : ℕ) (given : List ℕ) (turn : Turn) → old.pending ≡ 0 → new.pending ≡ 0 → ShowsSeat old grant given turn → HasReplied new given turn
has_replied old new grant given turn none same shows = record {
  going = shows.tap.going;
  replies = ap (λ (r : List ℕ). given ++ r) (no_reply new same ∙ sym (no_reply old none)) ∙ shows.replies;
}

pub if_ok : {T E : Type 0} (P Q : T → Type 0) (result : Result T E) → ((answer : T) → P answer → Q answer) → IfOk result P → IfOk result Q
if_ok P Q (Ok answer) turned is = turned answer is
if_ok P Q (Err fault) turned is = tt

pub if_err : {T E : Type 0} (P Q : E → Type 0) (result : Result T E) → ((fault : E) → P fault → Q fault) → IfErr result P → IfErr result Q
if_err P Q (Ok answer) turned is = tt
if_err P Q (Err fault) turned is = turned fault is

pub each_err : {T E : Type 0} (P : E → Type 0) (result : Result T E) → ((fault : E) → P fault) → IfErr result P
each_err P (Ok answer) is = tt
each_err P (Err fault) is = is fault

-- ---- a session that may go on

pub goes_on : (old new : Progress) → KeepsLines old new → MayGoOn old → MayGoOn new
goes_on old new lines may = record {
  time = record {
    scans = subst (λ t. t) (λ i. ScansAt (sym lines.tck i) (sym lines.tap i).view) may.time.scans;
    low = λ xvc. (lines.tck ∙ (may.time.low (sym lines.protocol ∙ xvc)).0, lines.trst ∙ (may.time.low (sym lines.protocol ∙ xvc)).1);
    held = λ held. ap (λ tap. tap.view.state) lines.tap ∙ may.time.held (sym lines.trst ∙ held);
  };
  there = ap (λ tap. is_some tap.view.register) lines.tap ∙ may.there;
}

-- ---- the replies

-- all that was said is left to give
pub used_reply : (progress : Progress) (bytes : List ℕ) → protocol_of progress.input ≡ protocols.Xvc → work_of progress.input ≡ Taking → progress.said.items ≡ bytes → progress.pending ≡ length progress.said.items → reply_of progress ≡ bytes
used_reply progress bytes xvc work said pending =
    all_left progress bytes (xvc_replied progress.input progress.said.items xvc ∙ ap (λ w. replied_in w (frame_of progress.input) progress.said.items) work ∙ said) (pending ∙ ap length said)

pub info_acts : (vector : ℕ) (message : Message) → told_of message ≡ told.GetInfo → message_acts vector message ≡ Say (info vector) ∷ []
info_acts vector GetInfo said = refl
info_acts vector (SetTck period) said = absurd (let q : told.SetTck period ≡ told.GetInfo = said in cc)
info_acts vector (Shift tms tdi) said = absurd (let q : told.Shift (length tms) ≡ told.GetInfo = said in cc)

pub period_acts : (vector period : ℕ) (message : Message) → told_of message ≡ told.SetTck period → message_acts vector message ≡ Say (bytes_of 4 period) ∷ []
period_acts vector period GetInfo said = absurd (let q : told.GetInfo ≡ told.SetTck period = said in cc)
period_acts vector period (SetTck asked) said = let same : asked ≡ period = (let q : told.SetTck asked ≡ told.SetTck period = said in cc) in ap (λ (n : ℕ). Say (bytes_of 4 n) ∷ []) same
period_acts vector period (Shift tms tdi) said = absurd (let q : told.Shift (length tms) ≡ told.SetTck period = said in cc)

-- the vector length has five digits at most
pub few_digits : (vector : ℕ) → vector ≤ 65536 → length (decimal vector) ≤ 5
few_digits vector le = length-decimal-le 5 vector (omega arith) (omega (arith, le)) (omega (arith, le))

-- amid a `shift:` no reply is left
pub amid_none : (progress : Progress) (work : Work) → protocol_of progress.input ≡ protocols.Xvc → work_of progress.input ≡ work → ((said : List ℕ) → IsSilent work said → said ≡ [])
    → ((frame : FrameState) (said : List ℕ) → replied_in work frame said ≡ said) → KeepsProgress progress → progress.pending ≡ 0
amid_none progress work xvc work_is silent short keeps =
    let said : progress.said.items ≡ [] = silent progress.said.items (subst (λ w. IsSilent w progress.said.items) work_is (room_of progress.input progress.said.items xvc keeps.said)) in
    let all : replied progress.input progress.said.items ≡ [] =
    xvc_replied progress.input progress.said.items xvc ∙ ap (λ w. replied_in w (frame_of progress.input) progress.said.items) work_is ∙ short (frame_of progress.input) progress.said.items ∙ said in
    omega (arith, keeps.pending, ap length all)

-- the bytes of a `shift:` are used
pub begun_keeps : (old new : Progress) (cycles : ℕ) → HasTaken (Whole (told.Shift cycles)) old → KeepsLines old new → new.used ≡ old.taken → new.taken ≡ old.taken → new.said.items ≡ old.said.items → new.pending ≡ old.pending
    → work_of new.input ≡ Shifting cycles 0 → frame_of new.input ≡ frame_of old.input → KeepsProgress new
begun_keeps old new cycles taken lines used taken_is said pending work frame =
    let t = taken.told in
    let replied = taken.replied in
    let held = shift_held old.vector cycles (frame_of old.input) t.message replied.vector t.is_message t.is_framed t.said_is in
    let none : length (held_unused (work_of new.input) (frame_of new.input)) ≡ 0 = ap (λ w. length (held_unused w (frame_of new.input))) work in
    keeps_xvc new (omega (arith, lines.vector, replied.some)) (omega (arith, lines.vector, replied.most)) (lines.protocol ∙ replied.protocol) (ap (λ (f : FrameState). f.vector) frame ∙ replied.vector ∙ sym lines.vector)
    (subst (λ w. WorksAt w (frame_of new.input)) (sym work) (subst (λ f. HoldsShift f cycles) (sym frame) held.0, omega arith))
    (subst (λ w. IsSilent w new.said.items) (sym work) (said ∙ replied.said))
    (omega (arith, pending, replied.pending))
    (omega (arith, none, used, taken_is))
    (omega (arith, taken_is, replied.few))

-- ---- where bytes are refused

abbrev place_of : Option Refusal → ℕ
place_of None = 0
place_of (Some refusal) = refusal.at

place_by : (w l : Bool) (a n : ℕ) (at cause : ℕ) → by_word w l a n ≡ Some (record { at = at; cause = cause }) → at ≤ n + 6
place_by true true a n at cause e = let q : 6 ≡ at = ap place_of e in omega (arith, q)
place_by true false a n at cause e = absurd (let q : None ≡ Some (record { at = at; cause = cause }) = e in cc)
place_by false l a n at cause e = by (nat_lt a n) refl e
  where
    by : (b : Bool) → nat_lt a n ≡ b → cond {A = Option Refusal} b (Some (record { at = a; cause = 1 })) None ≡ Some (record { at = at; cause = cause }) → at ≤ n + 6
    by true k r = let lt = ltb-true a n k in let q : a ≡ at = ap place_of r in omega (arith, lt, q)
    by false k r = absurd (let q : None ≡ Some (record { at = at; cause = cause }) = r in cc)

pub place_within : (vector : ℕ) (bytes : List ℕ) (at cause : ℕ) → refused vector bytes ≡ Some (record { at = at; cause = cause }) → at ≤ length bytes + 6
place_within vector bytes at cause e = place_by (has_word bytes) (too_long vector bytes) (furthest bytes) (length bytes) at cause e

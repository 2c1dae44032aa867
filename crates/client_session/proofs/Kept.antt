-- What a seat's chain is made of stays along its acts, loads and ends.
use Rattle.std.proofs.Common.{◌≡◌, ℕ, zero, suc, ◌+◌, Bool, true, false, not, ◌&&◌, cond, List, [], ◌∷◌, refl, sym, subst, ◌∙◌, Some, None, nat_le}
use Rattle.std.specs.declared.option.Option.{Option}
use Rattle.part_model.specs.declared.Net.{Net}
use Rattle.part_model.specs.Parts.{DeviceType}
use Rattle.grant_table.specs.declared.Protocol.{Protocol}
use Rattle.grant_table.specs.declared.Protocol.TheVariants.{Xvc, Bitbang}
use Rattle.chain_model.specs.Chains.{ChainState, reset}
use Rattle.chain_model.specs.Cycles.{updated}
use Rattle.scan_share.specs.Scans.{IsMadeOf}
use Rattle.scan_share.specs.Timing.{IsTimed}
use Rattle.scan_share.proofs.Kept.{AllSound, made_rise, made_fall, made_reset, made_closed, timed_rise, timed_fall, timed_reset, timed_shut}
use Rattle.xvc_frame.specs.Messages.{Message, Framed, Refusal, front, refused}
use Rattle.xvc_frame.specs.Messages.Message.{GetInfo, SetTck, Shift}
use Rattle.bitbang_frame.specs.declared.Letter.{Letter}
use Rattle.bitbang_frame.specs.declared.Letter.TheVariants.{Lines, Read, Quit, Light, Reset}
use Rattle.bitbang_frame.specs.Letters.{letter}
use Rattle.client_session.specs.declared.End.{End}
use Rattle.client_session.specs.Acts.{Act, shift_acts, message_acts, letter_acts}
use Rattle.client_session.specs.Acts.Act.{Say, SayTdo, Sample, Rise, Fall, Pack, SetLines, SetTrst, EndAt}
use Rattle.client_session.specs.Seats.{Seat, Next, next_xvc, next_letter, next_bitbang, next_in, load_next, without_message, acted, after_tck, with_lines, step_of, advanced, ended, taken, most_bytes, gone_end, opens_next, steps_left}
use Rattle.client_session.specs.Seats.Next.{Whole as NextMessage, RefusedAt, Nothing}
use Rattle.client_session.specs.Private.{free_seat, opened, received, is_live, took, dropped}
use Rattle.client_session.specs.Turns.{LayoutShape, Turn, may_open, advanced_as, advanced_turn, advanced_turns, gone_on}
use Rattle.client_session.specs.Paces.{AreCycles, AreLetters, IsPacedBy, IsSeatOver}

never : {A : Type 0} → false ≡ true → A
never e = absurd (let q : false ≡ true = e in cc)

-- ---- what is loaded

-- the acts of what comes next are those of the protocol
abbrev NextPaced : Protocol → Next → Type 0
NextPaced Xvc (NextMessage acts count) = AreCycles false acts
NextPaced Bitbang (NextMessage acts count) = AreLetters acts
NextPaced protocol next = Unit {0}

shift_paced : (tms tdi : List Bool) → AreCycles false (shift_acts tms tdi)
shift_paced [] tdi = tt
shift_paced (bit ∷ tms) [] = tt
shift_paced (bit ∷ tms) (other ∷ tdi) = shift_paced tms tdi

message_paced : (vector : ℕ) (message : Message) → AreCycles false (message_acts vector message)
message_paced vector GetInfo = tt
message_paced vector (SetTck period) = tt
message_paced vector (Shift tms tdi) = shift_paced tms tdi

letter_paced : (uses_trst : Bool) (at : ℕ) (l : Letter) → AreLetters (letter_acts uses_trst at l)
letter_paced uses_trst at (Lines tck tms tdi) = tt
letter_paced uses_trst at Read = tt
letter_paced uses_trst at Quit = tt
letter_paced uses_trst at (Light on) = tt
letter_paced true at (Reset trst srst) = tt
letter_paced false at (Reset trst srst) = tt

xvc_paced : (vector : ℕ) (framed : Option Framed) (refusal : Option Refusal) → NextPaced Xvc (next_xvc vector framed refusal)
xvc_paced vector (Some framed) refusal = message_paced vector framed.message
xvc_paced vector None None = tt
xvc_paced vector None (Some refusal) = tt

by_letter : (uses_trst : Bool) (at : ℕ) (l : Option Letter) → NextPaced Bitbang (next_letter uses_trst at l)
by_letter uses_trst at None = tt
by_letter uses_trst at (Some l) = letter_paced uses_trst at l

bitbang_paced : (uses_trst : Bool) (at : ℕ) (bytes : List ℕ) → NextPaced Bitbang (next_bitbang uses_trst at bytes)
bitbang_paced uses_trst at [] = tt
bitbang_paced uses_trst at (byte ∷ bytes) = by_letter uses_trst at (letter byte)

next_paced : (protocol : Protocol) (seat : Seat) → NextPaced protocol (next_in protocol seat)
next_paced Xvc seat = xvc_paced seat.vector (front seat.vector seat.unused) (refused seat.vector seat.unused)
next_paced Bitbang seat = bitbang_paced seat.uses_trst seat.used seat.unused

-- ---- one step

module _ (parts : List DeviceType) (nets : List Net) (sound : AllSound parts) where
  -- a seat that starts anew over a chain that was closed or reset
  anew : (protocol : Protocol) (seat : Seat) → seat.protocol ≡ protocol → IsMadeOf parts nets seat.chain → ((tck : Bool) → IsTimed tck seat.chain) → seat.trst ≡ false → seat.acts ≡ []
      → IsSeatOver protocol parts nets seat
  anew Xvc seat p made timed trst acts = record { protocol_is = p; made = made; paced = record { tck = false; timed = timed false; acts = subst (AreCycles false) (sym acts) tt } }
  anew Bitbang seat p made timed trst acts = record { protocol_is = p; made = made; paced = record { timed = timed seat.tck; held = λ h. never (sym trst ∙ h); acts = subst AreLetters (sym acts) tt } }

  ended_over : (protocol : Protocol) (end : End) (seat : Seat) → seat.protocol ≡ protocol → IsMadeOf parts nets seat.chain → IsSeatOver protocol parts nets (ended end seat)
  ended_over protocol end seat p made = anew protocol (ended end seat) p (made_closed parts nets sound seat.chain made) (λ tck. timed_reset tck (updated seat.chain)) refl refl

  quiet_over : (protocol : Protocol) (seat : Seat) → IsSeatOver protocol parts nets seat → IsSeatOver protocol parts nets (without_message seat)
  quiet_over protocol seat over = by (nat_le most_bytes (taken seat)) seat.gone
    where
      by : (b c : Bool) → IsSeatOver protocol parts nets (cond b (ended (End.Long most_bytes) seat) (cond c (ended (gone_end seat.used seat.unused) seat) seat))
      by true c = ended_over protocol (End.Long most_bytes) seat over.protocol_is over.made
      by false true = ended_over protocol (gone_end seat.used seat.unused) seat over.protocol_is over.made
      by false false = over

  -- a load, where no act is left
  load_over : (protocol : Protocol) (seat : Seat) (next : Next) → seat.acts ≡ [] → NextPaced protocol next → IsSeatOver protocol parts nets seat → IsSeatOver protocol parts nets (load_next next seat)
  load_over protocol seat (RefusedAt at cause) none paced over = ended_over protocol (End.Refused (seat.used + at) cause) seat over.protocol_is over.made
  load_over protocol seat Nothing none paced over = quiet_over protocol seat over
  load_over Xvc seat (NextMessage acts count) none paced over = record { protocol_is = over.protocol_is; made = over.made; paced = record { tck = false; timed = low over.paced.tck over.paced.acts over.paced.timed; acts = paced } }
    where
      low : (tck : Bool) → AreCycles tck seat.acts → IsTimed tck seat.chain → IsTimed false seat.chain
      low false h timed = timed
      low true h timed = absurd (subst (AreCycles true) none h)
  load_over Bitbang seat (NextMessage acts count) none paced over = record { protocol_is = over.protocol_is; made = over.made; paced = record { timed = over.paced.timed; held = over.paced.held; acts = paced } }

  -- an act of a cycle
  cycle_over : (act : Act) (acts : List Act) (seat : Seat) (tck : Bool) → seat.protocol ≡ Xvc → IsMadeOf parts nets seat.chain → IsTimed tck seat.chain → AreCycles tck (act ∷ acts)
      → IsSeatOver Xvc parts nets (acted act (record seat { acts = acts }))
  cycle_over (Say bytes) acts seat false p made timed h = record { protocol_is = p; made = made; paced = record { tck = false; timed = timed; acts = h } }
  cycle_over Sample acts seat false p made timed h = record { protocol_is = p; made = made; paced = record { tck = false; timed = timed; acts = h } }
  cycle_over Pack acts seat false p made timed h = record { protocol_is = p; made = made; paced = record { tck = false; timed = timed; acts = h } }
  cycle_over (Rise tms tdi) acts seat false p made timed h =
      record { protocol_is = p; made = made_rise parts nets sound seat.chain tms tdi made; paced = record { tck = true; timed = timed_rise seat.chain tms tdi timed; acts = h } }
  cycle_over Fall acts seat true p made timed h =
      record { protocol_is = p; made = made_fall parts nets sound true seat.chain timed made; paced = record { tck = false; timed = timed_fall true seat.chain timed; acts = h } }
  cycle_over SayTdo acts seat false p made timed h = absurd h
  cycle_over Fall acts seat false p made timed h = absurd h
  cycle_over (SetLines a b c) acts seat false p made timed h = absurd h
  cycle_over (SetTrst level) acts seat false p made timed h = absurd h
  cycle_over (EndAt at) acts seat false p made timed h = absurd h
  cycle_over (Say bytes) acts seat true p made timed h = absurd h
  cycle_over SayTdo acts seat true p made timed h = absurd h
  cycle_over Sample acts seat true p made timed h = absurd h
  cycle_over (Rise tms tdi) acts seat true p made timed h = absurd h
  cycle_over Pack acts seat true p made timed h = absurd h
  cycle_over (SetLines a b c) acts seat true p made timed h = absurd h
  cycle_over (SetTrst level) acts seat true p made timed h = absurd h
  cycle_over (EndAt at) acts seat true p made timed h = absurd h

  -- an edge of the line TCK, or none
  tck_over : (from to tms tdi : Bool) (chain : ChainState) → IsMadeOf parts nets chain → IsTimed from chain → IsMadeOf parts nets (after_tck from to tms tdi chain) × IsTimed to (after_tck from to tms tdi chain)
  tck_over false true tms tdi chain made timed = (made_rise parts nets sound chain tms tdi made, timed_rise chain tms tdi timed)
  tck_over true false tms tdi chain made timed = (made_fall parts nets sound true chain timed made, timed_fall true chain timed)
  tck_over true true tms tdi chain made timed = (made, timed)
  tck_over false false tms tdi chain made timed = (made, timed)

  lines_over : (tck tms tdi : Bool) (acts : List Act) (seat : Seat) → IsSeatOver Bitbang parts nets seat → AreLetters acts → IsSeatOver Bitbang parts nets (with_lines tck tms tdi (record seat { acts = acts }))
  lines_over tck tms tdi acts seat over h = by seat.trst refl
    where
      by : (t : Bool) → seat.trst ≡ t → IsSeatOver Bitbang parts nets (record seat { acts = acts; tck = tck; chain = cond t seat.chain (after_tck seat.tck tck tms tdi seat.chain) })
      by true e = record { protocol_is = over.protocol_is; made = over.made; paced = record { timed = timed_shut tck seat.chain (over.paced.held e); held = over.paced.held; acts = h } }
      by false e =
          let moved = tck_over seat.tck tck tms tdi seat.chain over.made over.paced.timed in
          record { protocol_is = over.protocol_is; made = moved.0; paced = record { timed = moved.1; held = λ k. never (sym e ∙ k); acts = h } }

  trst_over : (level : Bool) (acts : List Act) (seat : Seat) → IsSeatOver Bitbang parts nets seat → AreLetters acts → IsSeatOver Bitbang parts nets (acted (SetTrst level) (record seat { acts = acts }))
  trst_over false acts seat over h = record { protocol_is = over.protocol_is; made = over.made; paced = record { timed = over.paced.timed; held = λ k. never k; acts = h } }
  trst_over true acts seat over h = by seat.trst refl
    where
      by : (t : Bool) → seat.trst ≡ t → IsSeatOver Bitbang parts nets (record seat { acts = acts; trst = true; chain = cond (not t) (reset seat.chain) seat.chain })
      by true e = record { protocol_is = over.protocol_is; made = over.made; paced = record { timed = over.paced.timed; held = λ k. over.paced.held e; acts = h } }
      by false e =
          record { protocol_is = over.protocol_is; made = made_reset parts nets sound seat.chain over.made; paced = record { timed = timed_reset seat.tck seat.chain; held = λ k. refl; acts = h } }

  -- an act of a letter
  letter_over : (act : Act) (acts : List Act) (seat : Seat) → AreLetters (act ∷ acts) → IsSeatOver Bitbang parts nets seat → IsSeatOver Bitbang parts nets (acted act (record seat { acts = acts }))
  letter_over SayTdo acts seat h over = record { protocol_is = over.protocol_is; made = over.made; paced = record { timed = over.paced.timed; held = over.paced.held; acts = h } }
  letter_over (SetLines tck tms tdi) acts seat h over = lines_over tck tms tdi acts seat over h
  letter_over (SetTrst level) acts seat h over = trst_over level acts seat over h
  letter_over (EndAt at) acts seat h over = ended_over Bitbang (End.Quit at) seat over.protocol_is over.made
  letter_over (Say bytes) acts seat h over = absurd h
  letter_over Sample acts seat h over = absurd h
  letter_over (Rise tms tdi) acts seat h over = absurd h
  letter_over Fall acts seat h over = absurd h
  letter_over Pack acts seat h over = absurd h

  act_over : (protocol : Protocol) (act : Act) (acts : List Act) (seat : Seat) → seat.acts ≡ act ∷ acts → IsSeatOver protocol parts nets seat → IsSeatOver protocol parts nets (acted act (record seat { acts = acts }))
  act_over Xvc act acts seat a over = cycle_over act acts seat over.paced.tck over.protocol_is over.made over.paced.timed (subst (AreCycles over.paced.tck) a over.paced.acts)
  act_over Bitbang act acts seat a over = letter_over act acts seat (subst AreLetters a over.paced.acts) over

  step_over : (protocol : Protocol) (acts : List Act) (seat : Seat) → seat.acts ≡ acts → IsSeatOver protocol parts nets seat → IsSeatOver protocol parts nets (step_of acts seat)
  step_over protocol [] seat a over = load_over protocol seat (next_in seat.protocol seat) a (subst (λ p. NextPaced protocol (next_in p seat)) (sym over.protocol_is) (next_paced protocol seat)) over
  step_over protocol (act ∷ acts) seat a over = act_over protocol act acts seat a over

  -- a load or an act
  pub advanced_over : (protocol : Protocol) (seat : Seat) → IsSeatOver protocol parts nets seat → IsSeatOver protocol parts nets (advanced seat)
  advanced_over protocol seat over = by seat.going
    where
      by : (t : Bool) → IsSeatOver protocol parts nets (cond t (step_of seat.acts seat) seat)
      by true = step_over protocol seat.acts seat refl over
      by false = over

  -- a grant that goes on
  pub turns_over : (times : ℕ) (layout : LayoutShape) (grant : ℕ) (protocol : Protocol) (turn : Turn) → IsSeatOver protocol parts nets turn.seat → IsSeatOver protocol parts nets (advanced_turns times layout grant turn).seat
  turns_over zero layout grant protocol turn over = over
  turns_over (suc times) layout grant protocol turn over =
      turns_over times layout grant protocol (advanced_turn layout grant turn) (by (opens_next turn.seat) (may_open turn.holder turn.waiting grant))
    where
      by : (opens may : Bool) → IsSeatOver protocol parts nets (advanced_as opens may layout grant turn).seat
      by false may = advanced_over protocol turn.seat over
      by true true = advanced_over protocol turn.seat over
      by true false = over

  pub gone_on_over : (layout : LayoutShape) (grant : ℕ) (protocol : Protocol) (turn : Turn) → IsSeatOver protocol parts nets turn.seat → IsSeatOver protocol parts nets (gone_on layout grant turn).seat
  gone_on_over layout grant protocol turn over = turns_over (steps_left turn.seat) layout grant protocol turn over

  -- a session begins
  pub opened_over : (protocol : Protocol) (conn : ℕ) (seat : Seat) → IsSeatOver protocol parts nets seat → IsSeatOver protocol parts nets (opened conn seat)
  opened_over protocol conn seat over = anew protocol (opened conn seat) over.protocol_is (made_reset parts nets sound seat.chain over.made) (λ tck. timed_reset tck seat.chain) refl refl

  -- a free seat over a chain without an open scan
  pub free_over : (protocol : Protocol) (uses_trst : Bool) (vector : ℕ) (chain : ChainState) → IsMadeOf parts nets chain → chain.scan_open ≡ false → IsSeatOver protocol parts nets (free_seat protocol uses_trst vector chain)
  free_over protocol uses_trst vector chain made shut = anew protocol (free_seat protocol uses_trst vector chain) refl made (λ tck. timed_shut tck chain shut) refl refl

-- ---- bytes and drops

paced_received : (protocol : Protocol) (bytes : List ℕ) (seat : Seat) → IsPacedBy protocol seat → IsPacedBy protocol (received bytes seat)
paced_received Xvc bytes seat paced = record { tck = paced.tck; timed = paced.timed; acts = paced.acts }
paced_received Bitbang bytes seat paced = record { timed = paced.timed; held = paced.held; acts = paced.acts }

paced_gone : (protocol : Protocol) (seat : Seat) → IsPacedBy protocol seat → IsPacedBy protocol (record seat { gone = true })
paced_gone Xvc seat paced = record { tck = paced.tck; timed = paced.timed; acts = paced.acts }
paced_gone Bitbang seat paced = record { timed = paced.timed; held = paced.held; acts = paced.acts }

module _ (parts : List DeviceType) (nets : List Net) (protocol : Protocol) where
  pub took_over : (conn : ℕ) (bytes : List ℕ) (seat : Seat) → IsSeatOver protocol parts nets seat → IsSeatOver protocol parts nets (took conn bytes seat)
  took_over conn bytes seat over = by (is_live conn seat && not seat.gone)
    where
      by : (t : Bool) → IsSeatOver protocol parts nets (cond t (received bytes seat) seat)
      by true = record { protocol_is = over.protocol_is; made = over.made; paced = paced_received protocol bytes seat over.paced }
      by false = over

  pub dropped_over : (conn : ℕ) (seat : Seat) → IsSeatOver protocol parts nets seat → IsSeatOver protocol parts nets (dropped conn seat)
  dropped_over conn seat over = by (is_live conn seat)
    where
      by : (t : Bool) → IsSeatOver protocol parts nets (cond t (record seat { gone = true }) seat)
      by true = record { protocol_is = over.protocol_is; made = over.made; paced = paced_gone protocol seat over.paced }
      by false = over

-- The replies of a session are short: three bytes at most for each byte that was taken.
use Rattle.std.proofs.Common.{◌≡◌, ℕ, zero, suc, ◌+◌, ◌*◌, ◌-◌, ◌≤◌, Bool, true, false, not, ◌&&◌, cond, List, [], ◌∷◌, ◌++◌, length, take, drop, refl, ap, sym, subst, arith, length-append, length-take, length-drop, Some, None, nat_le, nat_eq}
use Rattle.std.specs.declared.option.Option.{Option}
use Rattle.std.proofs.lemmas.Bool.{eqb-true}
use Rattle.grant_table.specs.declared.Protocol.{Protocol}
use Rattle.grant_table.specs.declared.Protocol.TheVariants.{Xvc, Bitbang}
use Rattle.scan_bits.specs.Words.{byte_count, packed, packed_in}
use Rattle.chain_model.specs.Chains.{ChainState}
use Rattle.scan_share.proofs.Kept.{Each, each_impl, each_last}
use Rattle.xvc_frame.specs.Messages.{Message, Framed, Refusal, front, refused}
use Rattle.xvc_frame.specs.Messages.Message.{GetInfo, SetTck, Shift}
use Rattle.bitbang_frame.specs.declared.Letter.{Letter}
use Rattle.bitbang_frame.specs.declared.Letter.TheVariants.{Lines, Read, Quit, Light, Reset}
use Rattle.bitbang_frame.specs.Letters.{letter}
use Rattle.client_session.specs.declared.End.{End}
use Rattle.client_session.specs.Acts.{Act, shift_acts, message_acts, letter_acts}
use Rattle.client_session.specs.Acts.Act.{Say, SayTdo, Sample, Rise, Fall, Pack, SetLines, SetTrst, EndAt}
use Rattle.client_session.specs.Seats.{Seat, Next, next_xvc, next_letter, next_bitbang, next_in, load_next, without_message, acted, step_of, advanced, ended, taken, most_bytes, gone_end, tdo_digit}
use Rattle.client_session.specs.Seats.Next.{Whole as NextMessage, RefusedAt, Nothing}
use Rattle.client_session.specs.Private.{free_seat, opened, received, is_live, took, dropped}
use Rattle.client_session.specs.Laws.{reply_bytes, IsShortVector}
use Rattle.client_session.proofs.Steps.{NextFits, next_fits}
use Rattle.client_session.proofs.Replies.{messages_short, letters_short}

-- how many bits of TDO are noted after acts
abbrev pub noted_after : ℕ → List Act → ℕ
noted_after noted [] = noted
noted_after noted (Sample ∷ acts) = noted_after (suc noted) acts
noted_after noted (Pack ∷ acts) = noted_after 0 acts
noted_after noted (act ∷ acts) = noted_after noted acts

-- what the acts that are left reply, with the replies so far, and that they leave no bit noted
pub record IsShort (replies noted : ℕ) (acts : List Act) (used : ℕ) : Type 0 where
  pub few : replies + reply_bytes noted acts ≤ 3 * used
  pub none : noted_after noted acts ≡ 0

-- a session's replies, and that no more was taken of its connection than the limit
pub record IsShortSession (limit : ℕ → ℕ) (seat : Seat) : Type 0 where
  pub short : IsShort (length seat.replies) (length seat.sampled) seat.acts seat.used
  pub within : seat.used + length seat.unused ≤ limit seat.conn

-- all replies of a seat's sessions, against a limit of bytes of each connection
pub record IsShortSeat (limit : ℕ → ℕ) (seat : Seat) : Type 0 where
  pub vector : IsShortVector seat.vector
  pub past : Each (λ p. length p.replies ≤ 3 * limit p.conn) seat.past
  pub live : seat.going ≡ true → IsShortSession limit seat

-- ---- what is loaded

NextShort : Next → Type 0
NextShort (NextMessage acts count) = IsShort 0 0 acts count
NextShort (RefusedAt at cause) = Unit {0}
NextShort Nothing = Unit {0}

shift_notes : (noted : ℕ) (tms tdi : List Bool) → noted_after noted (shift_acts tms tdi) ≡ 0
shift_notes noted [] tdi = refl
shift_notes noted (a ∷ tms) [] = refl
shift_notes noted (a ∷ tms) (b ∷ tdi) = shift_notes (suc noted) tms tdi

message_notes : (vector : ℕ) (message : Message) → noted_after 0 (message_acts vector message) ≡ 0
message_notes vector GetInfo = refl
message_notes vector (SetTck period) = refl
message_notes vector (Shift tms tdi) = shift_notes 0 tms tdi

letter_notes : (uses_trst : Bool) (at : ℕ) (l : Letter) → noted_after 0 (letter_acts uses_trst at l) ≡ 0
letter_notes uses_trst at (Lines tck tms tdi) = refl
letter_notes uses_trst at Read = refl
letter_notes uses_trst at Quit = refl
letter_notes uses_trst at (Light on) = refl
letter_notes true at (Reset trst srst) = refl
letter_notes false at (Reset trst srst) = refl

xvc_short : (vector : ℕ) (bytes : List ℕ) (framed : Option Framed) (refusal : Option Refusal) → IsShortVector vector → front vector bytes ≡ framed → NextShort (next_xvc vector framed refusal)
unfolding NextShort
xvc_short vector bytes (Some framed) refusal short e = record { few = (let few = messages_short vector bytes framed short e in omega (arith, few)); none = message_notes vector framed.message }
xvc_short vector bytes None None short e = tt
xvc_short vector bytes None (Some refusal) short e = tt

by_letter : (uses_trst : Bool) (at : ℕ) (l : Option Letter) → NextShort (next_letter uses_trst at l)
unfolding NextShort
by_letter uses_trst at None = tt
by_letter uses_trst at (Some l) = record { few = (let one = letters_short uses_trst at l in omega (arith, one)); none = letter_notes uses_trst at l }

bitbang_short : (uses_trst : Bool) (at : ℕ) (bytes : List ℕ) → NextShort (next_bitbang uses_trst at bytes)
unfolding NextShort
bitbang_short uses_trst at [] = tt
bitbang_short uses_trst at (byte ∷ bytes) = by_letter uses_trst at (letter byte)

next_short : (protocol : Protocol) (seat : Seat) → IsShortVector seat.vector → NextShort (next_in protocol seat)
next_short Xvc seat short = xvc_short seat.vector seat.unused (front seat.vector seat.unused) (refused seat.vector seat.unused) short refl
next_short Bitbang seat short = bitbang_short seat.uses_trst seat.used seat.unused

-- ---- a step

length-packed_in : (count : ℕ) (bits : List Bool) → length (packed_in count bits) ≡ count
length-packed_in zero bits = refl
length-packed_in (suc count) bits = ap suc (length-packed_in count (drop 8 bits))

never : {A : Type 0} → false ≡ true → A
never e = absurd (let q : false ≡ true = e in cc)

module _ (limit : ℕ → ℕ) where
  -- a session that ends has fewer replies than the limit allows
  ended_short : (end : End) (seat : Seat) → IsShortSeat limit seat → seat.going ≡ true → IsShortSeat limit (ended end seat)
  ended_short end seat short going =
      let live = short.live going in
      record {
        vector = short.vector;
        past = each_last (λ p. length p.replies ≤ 3 * limit p.conn) seat.past (record { conn = seat.conn; replies = seat.replies; end = end }) short.past
            (let few = live.short.few in let within = live.within in omega (arith, few, within));
        live = λ h. never h;
      }

  quiet_short : (seat : Seat) → IsShortSeat limit seat → seat.going ≡ true → IsShortSeat limit (without_message seat)
  quiet_short seat short going = by (nat_le most_bytes (taken seat)) seat.gone
    where
      by : (b c : Bool) → IsShortSeat limit (cond b (ended (End.Long most_bytes) seat) (cond c (ended (gone_end seat.used seat.unused) seat) seat))
      by true c = ended_short (End.Long most_bytes) seat short going
      by false true = ended_short (gone_end seat.used seat.unused) seat short going
      by false false = short

  load_short : (next : Next) (seat : Seat) → NextShort next → NextFits seat.unused next → seat.acts ≡ [] → IsShortSeat limit seat → seat.going ≡ true → IsShortSeat limit (load_next next seat)
  unfolding NextShort
  load_short (RefusedAt at cause) seat loads fits none short going = ended_short (End.Refused (seat.used + at) cause) seat short going
  load_short Nothing seat loads fits none short going = quiet_short seat short going
  load_short (NextMessage acts count) seat loads fits none short going =
      let live = short.live going in
      let unnoted : length seat.sampled ≡ 0 = subst (λ a. noted_after (length seat.sampled) a ≡ 0) none live.short.none in
      let few : length seat.replies ≤ 3 * seat.used = (let all = live.short.few in omega (arith, all)) in
      record {
        vector = short.vector;
        past = short.past;
        live = λ h. record {
          short = subst (λ noted. IsShort (length seat.replies) noted acts (seat.used + count)) (sym unnoted)
              (record { few = (let more = loads.few in omega (arith, few, more)); none = loads.none });
          within = (let all = live.within in let there = fits.0 in omega (arith, all, there, length-drop count seat.unused));
        };
      }

  -- a seat that goes on with other replies and bits noted
  gone_on_short : (seat new : Seat) → IsShortSeat limit seat → new.vector ≡ seat.vector → new.past ≡ seat.past → new.conn ≡ seat.conn → new.used ≡ seat.used → new.unused ≡ seat.unused
      → IsShort (length new.replies) (length new.sampled) new.acts seat.used → seat.going ≡ true → IsShortSeat limit new
  gone_on_short seat new short v p c u n is going = record {
    vector = subst IsShortVector (sym v) short.vector;
    past = subst (Each (λ q. length q.replies ≤ 3 * limit q.conn)) (sym p) short.past;
    live = λ h. record {
      short = subst (IsShort (length new.replies) (length new.sampled) new.acts) (sym u) is;
      within = rw (u, n, c) (short.live going).within;
    };
  }

  act_short : (act : Act) (acts : List Act) (seat : Seat) → seat.acts ≡ act ∷ acts → IsShortSeat limit seat → seat.going ≡ true → IsShortSeat limit (acted act (record seat { acts = acts }))
  act_short act acts seat a short going = by act (subst (λ l. IsShort (length seat.replies) (length seat.sampled) l seat.used) a (short.live going).short)
    where
      noted : ℕ
      noted = length seat.sampled

      by : (act : Act) → IsShort (length seat.replies) (length seat.sampled) (act ∷ acts) seat.used → IsShortSeat limit (acted act (record seat { acts = acts }))
      by (Say bytes) is = gone_on_short seat (acted (Say bytes) (record seat { acts = acts })) short refl refl refl refl refl
          (record { few = (let few = is.few in omega (arith, few, length-append seat.replies bytes)); none = is.none }) going
      by SayTdo is = gone_on_short seat (acted SayTdo (record seat { acts = acts })) short refl refl refl refl refl
          (record { few = (let few = is.few in omega (arith, few, length-append seat.replies (tdo_digit seat.chain.tdo ∷ []))); none = is.none }) going
      by Sample is =
          let more : length (seat.sampled ++ seat.chain.tdo ∷ []) ≡ suc (length seat.sampled) = omega (arith, length-append seat.sampled (seat.chain.tdo ∷ [])) in
          gone_on_short seat (acted Sample (record seat { acts = acts })) short refl refl refl refl refl
          (subst (λ n. IsShort (length seat.replies) n acts seat.used) (sym more) (record { few = is.few; none = is.none })) going
      by (Rise tms tdi) is = gone_on_short seat (acted (Rise tms tdi) (record seat { acts = acts })) short refl refl refl refl refl (record { few = is.few; none = is.none }) going
      by Fall is = gone_on_short seat (acted Fall (record seat { acts = acts })) short refl refl refl refl refl (record { few = is.few; none = is.none }) going
      by Pack is = gone_on_short seat (acted Pack (record seat { acts = acts })) short refl refl refl refl refl
          (record { few = (let few = is.few in omega (arith, few, length-append seat.replies (packed seat.sampled), length-packed_in (byte_count (length seat.sampled)) seat.sampled)); none = is.none }) going
      by (SetLines tck tms tdi) is = gone_on_short seat (acted (SetLines tck tms tdi) (record seat { acts = acts })) short refl refl refl refl refl (record { few = is.few; none = is.none }) going
      by (SetTrst level) is = gone_on_short seat (acted (SetTrst level) (record seat { acts = acts })) short refl refl refl refl refl (record { few = is.few; none = is.none }) going
      by (EndAt at) is = ended_short (End.Quit at) (record seat { acts = acts })
          (gone_on_short seat (record seat { acts = acts }) short refl refl refl refl refl (record { few = (let few = is.few in omega (arith, few)); none = is.none }) going) going

  step_short : (acts : List Act) (seat : Seat) → seat.acts ≡ acts → IsShortSeat limit seat → seat.going ≡ true → IsShortSeat limit (step_of acts seat)
  step_short [] seat a short going = load_short (next_in seat.protocol seat) seat (next_short seat.protocol seat short.vector) (next_fits seat.protocol seat) a short going
  step_short (act ∷ acts) seat a short going = act_short act acts seat a short going

  pub advanced_short : (seat : Seat) → IsShortSeat limit seat → IsShortSeat limit (advanced seat)
  advanced_short seat short = by seat.going refl
    where
      by : (t : Bool) → seat.going ≡ t → IsShortSeat limit (cond t (step_of seat.acts seat) seat)
      by true going = step_short seat.acts seat refl short going
      by false idle = short

  pub opened_short : (conn : ℕ) (seat : Seat) → IsShortSeat limit seat → IsShortSeat limit (opened conn seat)
  opened_short conn seat short = record { vector = short.vector; past = short.past; live = λ h. record { short = record { few = omega arith; none = refl }; within = omega arith } }

  pub dropped_short : (conn : ℕ) (seat : Seat) → IsShortSeat limit seat → IsShortSeat limit (dropped conn seat)
  dropped_short conn seat short = by (is_live conn seat)
    where
      by : (t : Bool) → IsShortSeat limit (cond t (record seat { gone = true }) seat)
      by true = record { vector = short.vector; past = short.past; live = λ h. record { short = (short.live h).short; within = (short.live h).within } }
      by false = short

  pub free_short : (protocol : Protocol) (uses_trst : Bool) (vector : ℕ) (chain : ChainState) → IsShortVector vector → IsShortSeat limit (free_seat protocol uses_trst vector chain)
  free_short protocol uses_trst vector chain short = record { vector = short; past = tt; live = λ h. never h }

-- a higher limit
pub more_short : (limit most : ℕ → ℕ) → ((conn : ℕ) → limit conn ≤ most conn) → (seat : Seat) → IsShortSeat limit seat → IsShortSeat most seat
more_short limit most le seat short = record {
  vector = short.vector;
  past = each_impl (λ p. length p.replies ≤ 3 * limit p.conn) (λ p. length p.replies ≤ 3 * most p.conn) (λ p here. omega (arith, here, le p.conn)) seat.past short.past;
  live = λ h. record { short = (short.live h).short; within = (let within = (short.live h).within in omega (arith, within, le seat.conn)) };
}

-- bytes of a connection, whose limit rises by as many
pub took_short : (limit most : ℕ → ℕ) → ((conn : ℕ) → limit conn ≤ most conn) → (conn : ℕ) (bytes : List ℕ) → limit conn + length bytes ≤ most conn → (seat : Seat) → IsShortSeat limit seat → IsShortSeat most (took conn bytes seat)
took_short limit most le conn bytes rises seat short = by (is_live conn seat && not seat.gone) refl
  where
    same_conn : (a b c : Bool) → ((a && b) && c) ≡ true → b ≡ true
    same_conn true true c h = refl
    same_conn true false c h = never h
    same_conn false b c h = never h

    by : (t : Bool) → (is_live conn seat && not seat.gone) ≡ t → IsShortSeat most (cond t (received bytes seat) seat)
    by true live =
        let same : seat.conn ≡ conn = eqb-true seat.conn conn (same_conn seat.going (nat_eq seat.conn conn) (not seat.gone) live) in
        let raised : limit seat.conn + length bytes ≤ most seat.conn = subst (λ c. limit c + length bytes ≤ most c) (sym same) rises in
        let more = more_short limit most le seat short in
        record {
          vector = more.vector;
          past = more.past;
          live = λ h. record {
            short = (short.live h).short;
            within = (let within = (short.live h).within in
                omega (arith, within, raised, length-append seat.unused (take (most_bytes - taken seat) bytes), length-take (most_bytes - taken seat) bytes));
          };
        }
    by false live = more_short limit most le seat short

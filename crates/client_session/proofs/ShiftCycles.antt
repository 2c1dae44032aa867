-- Cycles of a `shift:` on a virtual TAP, beside the acts of its seat.
use Rattle.std.proofs.Common.{◌≡◌, ◌<◌, ℕ, zero, suc, ◌+◌, Bool, true, false, List, [], ◌∷◌, ◌++◌, take, drop, length, set, refl, ap, sym, ◌∙◌, subst, arith}
use Rattle.std.proofs.Math.Seq.{drop-cons, take-suc-set}
use Rattle.tap_states.specs.States.{is_capture_dr}
use Rattle.scan_bits.specs.Registers.{bit_at}
use Rattle.chain_model.specs.Chains.{ChainState}
use Rattle.chain_model.specs.Cycles.{rise, fall}
use Rattle.scan_share.specs.Scans.{types_of}
use Rattle.scan_share.specs.Timing.{may_scan, IsTimed}
use Rattle.scan_share.proofs.Kept.{timed_rise}
use Rattle.xvc_frame.specs.Frames.{FrameState, tms_bits, tdi_bits}
use Rattle.virtual_tap.specs.Taps.{VTapState, ScansAt, KeepsTap}
use Rattle.virtual_tap.specs.Views.{TapView, StandsFor, MovesAs, at_capture}
use Rattle.client_session.specs.Acts.{Act, shift_acts}
use Rattle.client_session.specs.Acts.Act.{Sample, Rise, Fall}
use Rattle.client_session.specs.Seats.{Seat}
use Rattle.client_session.specs.Turns.{LayoutShape, Turn}
use Rattle.client_session.specs.Going.{Holds, Quiet, PutsBit, ShiftsAt, ClosesAt, Leads, IsToClose}
use Rattle.client_session.proofs.Untouched.{rise_contents, rise_codes, rise_scan, rise_types, fall_contents, fall_codes, fall_types}
use Rattle.client_session.proofs.Cycles.{no_capture}
use Rattle.client_session.specs.Stores.{HoldsShift}
use Rattle.client_session.proofs.Quietly.{quiet_more, quiet_act, leads_more, no_rise_next, not_at_capture}

-- the acts of the cycle at a place, and of those behind it
pub acts_from : (tms tdi : List Bool) (at : ℕ) → at < length tms → at < length tdi
    → shift_acts (drop at tms) (drop at tdi) ≡ Sample ∷ Rise (bit_at tms at) (bit_at tdi at) ∷ Fall ∷ shift_acts (drop (suc at) tms) (drop (suc at) tdi)
acts_from tms tdi at lt gt = λ i. shift_acts (drop-cons tms at false lt i) (drop-cons tdi at false gt i)

pub drop-set : (bits : List Bool) (at : ℕ) (bit : Bool) → drop (suc at) (set bits at bit) ≡ drop (suc at) bits
drop-set [] at bit = refl
drop-set (x ∷ bits) zero bit = refl
drop-set (x ∷ bits) (suc at) bit = drop-set bits at bit

timed_low : (view : TapView) (chain : ChainState) → ScansAt false view → StandsFor view chain → IsTimed false chain
timed_low view chain low stands = λ is_open. sym (ap (may_scan false) stands.state) ∙ sym low ∙ stands.scan ∙ is_open

module _ (layout : LayoutShape) (grant : ℕ) (frame : FrameState) (tap : VTapState) (at : ℕ) (turn : Turn) (shifts : ShiftsAt frame tap at grant turn)
    (low : ScansAt false tap.view) (free : at_capture tap.view ≡ false) (in_tms : at < length (tms_bits frame)) (in_tdi : at < length (tdi_bits frame)) where
  abbrev tms : Bool
  tms = bit_at (tms_bits frame) at

  abbrev tdi : Bool
  tdi = bit_at (tdi_bits frame) at

  abbrev more : List Act
  more = shift_acts (drop (suc at) (tms_bits frame)) (drop (suc at) (tdi_bits frame))

  abbrev seat : Seat
  seat = turn.seat

  abbrev sampled : Turn
  sampled = record turn { seat = record seat { acts = Rise tms tdi ∷ Fall ∷ more; sampled = seat.sampled ++ seat.chain.tdo ∷ [] } }

  abbrev risen : Turn
  risen = record turn { seat = record sampled.seat { acts = Fall ∷ more; chain = rise seat.chain tms tdi } }

  abbrev fallen : Turn
  fallen = record turn { seat = record risen.seat { acts = more; chain = fall (rise seat.chain tms tdi) } }

  elsewhere : is_capture_dr seat.chain.state ≡ false
  elsewhere = ap is_capture_dr (sym shifts.stands.state) ∙ no_capture tap.view.state tap.view.scan_open low free

  acts_are : seat.acts ≡ Sample ∷ Rise tms tdi ∷ Fall ∷ more
  acts_are = shifts.acts ∙ acts_from (tms_bits frame) (tdi_bits frame) at in_tms in_tdi

  timed : IsTimed false seat.chain
  timed = timed_low tap.view seat.chain low shifts.stands

  to_sampled : Quiet layout grant turn sampled
  to_sampled = quiet_act layout grant Sample (Rise tms tdi ∷ Fall ∷ more) turn shifts.going acts_are (not_at_capture seat elsewhere) shifts.holds refl refl (λ h. refl)

  to_risen : Quiet layout grant sampled risen
  to_risen = quiet_act layout grant (Rise tms tdi) (Fall ∷ more) sampled shifts.going refl (not_at_capture sampled.seat elsewhere) shifts.holds
      (rise_scan seat.chain tms tdi elsewhere) (rise_contents seat.chain tms tdi elsewhere) (λ h. rise_codes seat.chain tms tdi)

  held_risen : Holds grant risen
  held_risen = shifts.holds ∙ sym (rise_scan seat.chain tms tdi elsewhere)

  to_fallen : (fall (rise seat.chain tms tdi)).scan_open ≡ (rise seat.chain tms tdi).scan_open → Quiet layout grant risen fallen
  to_fallen same = quiet_act layout grant Fall more risen shifts.going refl (no_rise_next risen.seat refl) held_risen
      same (fall_contents (rise seat.chain tms tdi) same) (λ h. fall_codes true (rise seat.chain tms tdi) (timed_rise seat.chain tms tdi timed) h same)

  sampled_are : seat.sampled ++ seat.chain.tdo ∷ [] ≡ take at (tdi_bits frame) ++ tap.view.tdo ∷ []
  sampled_are = λ i. shifts.sampled i ++ sym shifts.stands.tdo i ∷ []

  -- the frame with the TDO bit in its place
  module _ (frame_new : FrameState) (tap_new : VTapState) (put : PutsBit at tap.view.tdo frame frame_new) (parts : tap_new.parts ≡ tap.parts) (scan : tap_new.view.scan_open ≡ tap.view.scan_open) where
    sampled_then : seat.sampled ++ seat.chain.tdo ∷ [] ≡ take (suc at) (tdi_bits frame_new)
    sampled_then = sampled_are ∙ sym (take-suc-set (tdi_bits frame) at tap.view.tdo in_tdi) ∙ ap (take (suc at)) (sym put.tdi)

    more_then : more ≡ shift_acts (drop (suc at) (tms_bits frame_new)) (drop (suc at) (tdi_bits frame_new))
    more_then = λ i. shift_acts (drop (suc at) (sym put.tms i)) ((sym (drop-set (tdi_bits frame) at tap.view.tdo) ∙ ap (drop (suc at)) (sym put.tdi)) i)

    pub on : (StandsFor tap_new.view (fall (rise seat.chain tms tdi))) → Leads layout grant (ShiftsAt frame_new tap_new (suc at) grant) turn
    on stands =
        let same : (fall (rise seat.chain tms tdi)).scan_open ≡ (rise seat.chain tms tdi).scan_open =
        sym stands.scan ∙ scan ∙ shifts.stands.scan ∙ sym (rise_scan seat.chain tms tdi elsewhere) in
        record {
          next = fallen;
          quiet = quiet_more layout grant turn sampled fallen to_sampled (quiet_more layout grant sampled risen fallen to_risen (to_fallen same));
          kept = refl;
          there = record {
            going = shifts.going;
            holds = held_risen ∙ sym same;
            types = fall_types (rise seat.chain tms tdi) ∙ rise_types seat.chain tms tdi ∙ shifts.types ∙ sym parts;
            acts = more_then;
            sampled = sampled_then;
            stands = stands;
          };
        }

    pub to_close : IsToClose tap_new.view (rise seat.chain tms tdi) → Leads layout grant (ClosesAt frame_new tap_new (suc at) grant) turn
    to_close closes = record {
      next = risen;
      quiet = quiet_more layout grant turn sampled risen to_sampled to_risen;
      kept = refl;
      there = record {
        going = shifts.going;
        holds = held_risen;
        types = rise_types seat.chain tms tdi ∙ shifts.types ∙ sym parts;
        acts = ap (λ acts. Fall ∷ acts) more_then;
        sampled = sampled_then;
        closes = closes;
      };
    }

pub keeps_more : (old mid new : VTapState) → KeepsTap old mid → KeepsTap mid new → KeepsTap old new
keeps_more old mid new a b = record { grant = b.grant ∙ a.grant; parts = b.parts ∙ a.parts; there = b.there ∙ a.there; room = b.room ∙ a.room }

-- a cycle behind others
module _ (layout : LayoutShape) (grant : ℕ) (frame frame_new : FrameState) (tap tap_new : VTapState) (at cycles : ℕ) (turn : Turn)
    (went : Leads layout grant (ShiftsAt frame tap at grant) turn) (low : ScansAt false tap.view) (free : at_capture tap.view ≡ false) (held : HoldsShift frame cycles) (lt : at < cycles)
    (put : PutsBit at tap.view.tdo frame frame_new) (kept : KeepsTap tap tap_new) (scan : tap_new.view.scan_open ≡ tap.view.scan_open) where
  one : suc at ≡ at + 1
  one = omega arith

  pub walked_on : MovesAs tap.parts (λ chain. fall (rise chain (bit_at (tms_bits frame) at) (bit_at (tdi_bits frame) at))) tap.view tap_new.view → Leads layout grant (ShiftsAt frame_new tap_new (at + 1) grant) turn
  walked_on moved = leads_more layout grant (ShiftsAt frame tap at grant) (ShiftsAt frame_new tap_new (at + 1) grant) turn went (λ next shifts.
      subst (λ k. Leads layout grant (ShiftsAt frame_new tap_new k grant) next) one
      (on layout grant frame tap at next shifts low free (omega (arith, held.tms)) (omega (arith, held.tdi)) frame_new tap_new put kept.parts scan (moved next.seat.chain shifts.types shifts.stands)))

  pub walked_to_close : ((chain : ChainState) → types_of chain ≡ tap.parts → StandsFor tap.view chain → IsToClose tap_new.view (rise chain (bit_at (tms_bits frame) at) (bit_at (tdi_bits frame) at)))
      → Leads layout grant (ClosesAt frame_new tap_new (at + 1) grant) turn
  walked_to_close closes = leads_more layout grant (ShiftsAt frame tap at grant) (ClosesAt frame_new tap_new (at + 1) grant) turn went (λ next shifts.
      subst (λ k. Leads layout grant (ClosesAt frame_new tap_new k grant) next) one
      (to_close layout grant frame tap at next shifts low free (omega (arith, held.tms)) (omega (arith, held.tdi)) frame_new tap_new put kept.parts scan (closes next.seat.chain shifts.types shifts.stands)))

-- A cycle on a virtual TAP that does not capture.
use Rattle.std.proofs.Common.{◌≡◌, Bool, true, false, not, ◌&&◌, List, refl, sym, ◌∙◌}
use Rattle.tap_states.specs.declared.Tap.{Tap}
use Rattle.tap_states.specs.declared.Tap.TheVariants.{CaptureDr}
use Rattle.tap_states.specs.States.{is_capture_dr}
use Rattle.part_model.specs.Parts.{DeviceType}
use Rattle.chain_model.specs.Chains.{ChainState}
use Rattle.chain_model.specs.Cycles.{rise, fall}
use Rattle.scan_share.specs.Scans.{types_of}
use Rattle.scan_share.specs.Timing.{may_scan}
use Rattle.virtual_tap.specs.Taps.{ScansAt}
use Rattle.virtual_tap.specs.Views.{TapView, StandsFor, MovesAs, at_capture, closed_view}
use Rattle.client_session.specs.Going.{closed_if}
use Rattle.client_session.proofs.Untouched.{rise_types}

never : {A : Type 0} → false ≡ true → A
never e = absurd (let q : false ≡ true = e in cc)

-- with TCK low no scan is open in Capture-DR
pub no_capture : (state : Tap) (is_open : Bool) → is_open ≡ may_scan false state → (is_capture_dr state && not is_open) ≡ false → is_capture_dr state ≡ false
no_capture CaptureDr true is capture = never (sym is)
no_capture CaptureDr false is capture = never (sym capture)
no_capture _ is_open is capture = refl

-- a rise and then a fall, with the scan closed where the fall ends it
pub cycle_moves : (parts mid_parts : List DeviceType) (old mid new : TapView) (tms tdi ends : Bool) → ScansAt false old → at_capture old ≡ false → mid_parts ≡ parts
    → (is_capture_dr old.state ≡ false → MovesAs parts (λ chain. rise chain tms tdi) old mid)
    → (ends ≡ false → MovesAs mid_parts fall mid new) → (ends ≡ true → MovesAs mid_parts fall mid (closed_view new))
    → MovesAs parts (λ chain. fall (rise chain tms tdi)) old (closed_if ends new)
cycle_moves parts mid_parts old mid new tms tdi ends low capture same risen stays closes = λ chain types stands.
    let between = risen (no_capture old.state old.scan_open low capture) chain types stands in
    let types_then = rise_types chain tms tdi ∙ types ∙ sym same in
    by ends (rise chain tms tdi) types_then between stays closes
  where
    by : (t : Bool) (chain : ChainState) → types_of chain ≡ mid_parts → StandsFor mid chain → (t ≡ false → MovesAs mid_parts fall mid new) → (t ≡ true → MovesAs mid_parts fall mid (closed_view new)) → StandsFor (closed_if t new) (fall chain)
    by true chain types stands stays closes = closes refl chain types stands
    by false chain types stands stays closes = stays refl chain types stands

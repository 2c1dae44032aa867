-- Where a scan is open, from edge to edge.
use Rattle.std.proofs.Common.{◌≡◌, Bool, true, false, refl, sym, ◌∙◌}
use Rattle.tap_states.specs.declared.Tap.{Tap}
use Rattle.tap_states.specs.declared.Tap.TheVariants.{CaptureDr, UpdateDr}
use Rattle.tap_states.specs.States.{is_capture_dr, next}
use Rattle.scan_share.specs.Timing.{may_scan}
use Rattle.virtual_tap.specs.Taps.{ends_scan}
use Rattle.virtual_tap.proofs.Moving.{never}

-- behind a falling edge no scan waits to be closed
pub low_stays : (state : Tap) (is_open : Bool) → is_open ≡ may_scan false state → ends_scan state is_open ≡ false
low_stays UpdateDr is_open is = is
low_stays _ is_open is = refl

-- a rise that does not capture
pub rise_scans : (state : Tap) (tms is_open : Bool) → is_capture_dr state ≡ false → is_open ≡ may_scan false state → is_open ≡ may_scan true (next state tms)
rise_scans CaptureDr tms is_open other is = never (sym other)
rise_scans state true is_open other is = is ∙ on_1 state other
  where
    on_1 : (state : Tap) → is_capture_dr state ≡ false → may_scan false state ≡ may_scan true (next state true)
    on_1 CaptureDr other = never (sym other)
    on_1 _ other = refl
rise_scans state false is_open other is = is ∙ on_0 state other
  where
    on_0 : (state : Tap) → is_capture_dr state ≡ false → may_scan false state ≡ may_scan true (next state false)
    on_0 CaptureDr other = never (sym other)
    on_0 _ other = refl

-- the rise that follows the opening of a scan
pub open_scans : (state : Tap) (tms : Bool) → is_capture_dr state ≡ true → true ≡ may_scan true (next state tms)
open_scans CaptureDr true at = refl
open_scans CaptureDr false at = refl
open_scans _ tms at = never at

-- a fall that does not end the scan, and one that does
pub fall_scans : (state : Tap) (is_open : Bool) → ends_scan state is_open ≡ false → is_open ≡ may_scan true state → is_open ≡ may_scan false state
fall_scans UpdateDr is_open stays is = stays
fall_scans _ is_open stays is = is

pub closed_scans : (state : Tap) (is_open : Bool) → ends_scan state is_open ≡ true → false ≡ may_scan false state
closed_scans UpdateDr is_open ends = refl
closed_scans _ is_open ends = never ends

-- Where an open scan stands: behind Capture-DR, and before the fall in Update-DR.
use Rattle.std.specs.Prelude.{◌≡◌, Bool, true}
use Rattle.tap_states.specs.declared.Tap.{Tap}
use Rattle.tap_states.specs.declared.Tap.TheVariants.{UpdateDr}
use Rattle.tap_states.specs.States.{in_dr_scan}
use Rattle.chain_model.specs.Chains.{ChainState}

-- a state in which a scan may be open, with TCK at this level: the fall in Update-DR ends it
abbrev pub may_scan : Bool → Tap → Bool
may_scan tck UpdateDr = tck
may_scan tck state = in_dr_scan state

-- a scan is open only in such a state
abbrev pub IsTimed : (tck : Bool) → ChainState → Type 0
IsTimed tck chain = chain.scan_open ≡ true → may_scan tck chain.state ≡ true

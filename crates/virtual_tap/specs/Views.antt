-- The part of a private chain that needs nothing of what its devices hold: the state of its TAP controllers, its instructions,
-- and its data register stages, joined into one register.
use Rattle.std.specs.Prelude.{ℕ, ◌≡◌, Bool, true, false, ◌&&◌, not, List, [], ◌∷◌, length}
use Rattle.std.specs.List.{sum_by}
use Rattle.std.specs.declared.option.Option.{Option}
use Rattle.std.specs.declared.option.Option.TheVariants.{None, Some}
use Rattle.tap_states.specs.declared.Tap.{Tap}
use Rattle.tap_states.specs.States.{is_capture_dr}
use Rattle.scan_bits.specs.Registers.{joined}
use Rattle.part_model.specs.Parts.{DeviceType}
use Rattle.chain_model.specs.Chains.{ChainState, DeviceState}
use Rattle.chain_model.specs.Cycles.{dr_stages, ir_stages}
use Rattle.scan_share.specs.Scans.{code_list, types_of, widths_during}

-- what a virtual TAP shows; the register is none while it is taken out
pub record TapView : Type 0 where
  pub state : Tap
  pub tdo : Bool
  pub codes : List (List Bool)
  pub ir_stages : List (List Bool)
  pub scan_open : Bool
  pub register : Option (List Bool)

-- while a scan is open, the register has the bits of the devices' data stages, those of the last device first; with no scan open, the
-- devices' data stages are empty
abbrev pub HoldsStages : Bool → Option (List Bool) → List DeviceState → Type 0
HoldsStages false register devices = joined (dr_stages devices) ≡ []
HoldsStages true register devices = register ≡ Some (joined (dr_stages devices))

-- the view stands for a private chain, whatever the devices of the chain hold
pub record StandsFor (view : TapView) (chain : ChainState) : Type 0 where
  pub state : view.state ≡ chain.state
  pub tdo : view.tdo ≡ chain.tdo
  pub codes : view.codes ≡ code_list chain
  pub ir_stages : view.ir_stages ≡ ir_stages chain.devices
  pub scan : view.scan_open ≡ chain.scan_open
  pub register : HoldsStages chain.scan_open view.register chain.devices

-- a code for each device type, of its instruction length
abbrev pub EachLength : List DeviceType → List (List Bool) → Type 0
EachLength [] [] = Unit {0}
EachLength (part ∷ parts) (code ∷ codes) = (length code ≡ part.ir_length) × EachLength parts codes
EachLength _ _ = ⊥

-- while a scan is open, the register is there and has so many bits
abbrev pub HasRegister : Bool → ℕ → Option (List Bool) → Type 0
HasRegister false count register = Unit {0}
HasRegister true count None = ⊥
HasRegister true count (Some bits) = length bits ≡ count

-- the view is that of a chain of these device types: its codes, stages and register have their lengths
pub record IsView (parts : List DeviceType) (view : TapView) : Type 0 where
  pub codes_fit : EachLength parts view.codes
  pub stages_fit : EachLength parts view.ir_stages
  pub register_fits : HasRegister view.scan_open (sum_by (λ width. width) (widths_during parts view.codes)) view.register

-- the next rising edge captures: the state is Capture-DR, and no scan is open
abbrev pub at_capture : TapView → Bool
at_capture view = is_capture_dr view.state && not view.scan_open

-- the view once the scan is closed
abbrev pub closed_view : TapView → TapView
closed_view view = record view { scan_open = false }

-- the view once a scan is opened with these captured bits
abbrev pub opened_view : List Bool → TapView → TapView
opened_view bits view = record view { scan_open = true; register = Some bits }

-- the view moves as a chain of these device types does: of whatever chain the old view stands for, the new one stands for the next
abbrev pub MovesAs : List DeviceType → (ChainState → ChainState) → TapView → TapView → Type 0
MovesAs parts step old new = (chain : ChainState) → types_of chain ≡ parts → StandsFor old chain → StandsFor new (step chain)

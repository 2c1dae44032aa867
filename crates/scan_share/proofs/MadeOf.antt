-- A chain of a layout, as the laws of scans want it, and whole after all cycles.
use Rattle.std.proofs.Common.{◌≡◌, ◌<◌, ℕ, Bool, true, false, suc, List, [], ◌∷◌, length, map, refl, ap, sym, subst, ◌∙◌, arith, Some, None}
use Rattle.std.specs.declared.option.Option.{Option}
use Rattle.std.proofs.lemmas.List.{length-map}
use Rattle.part_model.specs.declared.Net.{Net}
use Rattle.part_model.specs.Parts.{DeviceType, Register, selected}
use Rattle.part_model.specs.Parts.Register.{Named}
use Rattle.part_model.specs.Plans.{IsPart}
use Rattle.part_model.proofs.Accepted.{HasRegister, HasBits, part_is_sound}
use Rattle.chain_model.specs.Chains.{ChainState, DeviceState, Placed, powered, code_or_zeros}
use Rattle.chain_model.specs.Cycles.{Clock, rise, cycle, after_cycles, after_calls, dr_stages}
use Rattle.grant_table.specs.Kept.{AllParts}
use Rattle.grant_table.specs.Layouts.{LayoutShape}
use Rattle.scan_share.specs.Scans.{EachFits, IsMadeOf, IsWhole, code_list, codes_during, widths_during}
use Rattle.scan_share.specs.Timing.{IsTimed}
use Rattle.scan_share.specs.Laws.{IsScan, EachIsBoard}
use Rattle.scan_share.proofs.Facts.{FitAll, PartFits, ReadyFor}
use Rattle.scan_share.proofs.Groups.{group_of_laws, nets_of_laws}
use Rattle.scan_share.proofs.Kept.{Each, AllSound, IsSoundBoard, made_rise, made_fall, timed_rise, timed_fall, made_powered}
use Rattle.scan_share.proofs.Parting.{device_fits}
use Rattle.scan_share.proofs.Wide.{instruction_some, width_some}

pub all_sound : (parts : List DeviceType) → AllParts parts → AllSound parts
all_sound [] each = tt
all_sound (part ∷ parts) each = (part_is_sound part (each 0 part refl), all_sound parts (λ place. each (suc place)))

module _ (parts : List DeviceType) (nets : List Net) (sound : AllSound parts) where
  -- cycles keep what the chain is made of
  pub made_cycles : (clocks : List Clock) (chain : ChainState) → IsTimed false chain → IsMadeOf parts nets chain → IsMadeOf parts nets (after_cycles clocks chain)
  made_cycles [] chain timed made = made
  made_cycles (clock ∷ clocks) chain timed made =
      let high = timed_rise chain clock.tms clock.tdi timed in
      made_cycles clocks (cycle chain clock) (timed_fall true (rise chain clock.tms clock.tdi) high)
      (made_fall parts nets sound true (rise chain clock.tms clock.tdi) high (made_rise parts nets sound chain clock.tms clock.tdi made))

  pub made_calls : (calls : ℕ) (clocks : List Clock) (chain : ChainState) → IsTimed false chain → IsMadeOf parts nets chain → IsMadeOf parts nets (after_calls calls clocks chain)
  made_calls calls clocks chain timed made =
      let is = made_cycles clocks chain timed made in
      record { parts_are = is.parts_are; nets_are = is.nets_are; fits = is.fits }

idcode_length : (code : Option (List Bool)) → HasBits 32 code → length (code_or_zeros code) ≡ 32
idcode_length None has = refl
idcode_length (Some bits) has = has

named_there : (part : DeviceType) (register : Register) → HasRegister part.named register → (at : ℕ) → register ≡ Named at → at < length part.named
named_there part register has at is = subst (HasRegister part.named) is has

part_fits : (part : DeviceType) → IsPart part → PartFits part
part_fits part is =
    let sound = part_is_sound part is in
    record {
      some = instruction_some part is;
      captures = sound.captures;
      idcode = idcode_length part.idcode sound.idcode;
      usercode = sound.usercode;
      in_range = λ code at at_is. named_there part (selected part code) (sound.registers code) at at_is;
      wide = width_some part is;
    }

all_fit : (s : Bool) (devices : List DeviceState) → AllParts (map (λ device. device.part) devices) → EachFits s devices → FitAll devices
all_fit s [] each fits = tt
all_fit s (device ∷ devices) each fits =
    (device_fits device.part device.content (part_fits device.part (each 0 device.part refl)) fits.0.pins fits.0.named, all_fit s devices (λ place. each (suc place)) fits.1)

-- a whole chain of a layout is ready for a scan of a group
pub ready : (layout : LayoutShape) (group : List ℕ) (codes : List (List Bool)) (chain : ChainState) → IsScan layout group codes → IsWhole layout chain → ReadyFor layout group codes chain
ready layout group codes chain scan whole = record {
  parts = whole.parts_are;
  nets = whole.nets_are;
  fit = all_fit chain.scan_open chain.devices (subst AllParts (sym whole.parts_are) scan.parts) whole.fits;
  some = omega (arith, scan.some, ap length whole.parts_are, length-map chain.devices (λ device. device.part));
  group_is = group_of_laws layout group scan.group_is;
  stay = nets_of_laws layout group scan.group_is;
  codes_fit = scan.codes_fit;
}

-- the stages of an open scan
stages_are : (devices : List DeviceState) → EachFits true devices → map length (dr_stages devices) ≡ widths_during (map (λ device. device.part) devices) (map (λ device. device.code) devices)
stages_are [] fits = refl
stages_are (device ∷ devices) fits = λ i. fits.0.dr_stage i ∷ stages_are devices fits.1 i

pub open_stages : (layout : LayoutShape) (group : List ℕ) (codes : List (List Bool)) (chain : ChainState) → IsWhole layout chain → chain.scan_open ≡ true → code_list chain ≡ codes_during layout group codes
    → map length (dr_stages chain.devices) ≡ widths_during layout.parts (codes_during layout group codes)
open_stages layout group codes chain whole is codes_are =
    stages_are chain.devices (subst (λ s. EachFits s chain.devices) is whole.fits) ∙ (λ i. widths_during (whole.parts_are i) (codes_are i))

boards_sound : (boards : List Placed) → EachIsBoard boards → Each IsSoundBoard boards
boards_sound [] each = tt
boards_sound (board ∷ boards) each = (record { part = part_is_sound board.part each.0.0; pins = each.0.1 }, boards_sound boards each.1)

pub powered_whole : (layout : LayoutShape) (boards : List Placed) → EachIsBoard boards → layout.parts ≡ map (λ board. board.part) boards → IsWhole layout (powered boards layout.nets)
powered_whole layout boards each is =
    subst (λ parts. IsMadeOf parts layout.nets (powered boards layout.nets)) (sym is) (made_powered boards layout.nets (boards_sound boards each))

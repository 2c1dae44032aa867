-- An update, a start and an abandon.
use Rattle.std.proofs.Common.{◌≡◌, ◌≤◌, ℕ, Bool, true, false, List, [], ◌∷◌, length, map, refl, ap, sym, ◌∙◌, arith, subst}
use Rattle.std.specs.List.{sum_by}
use Rattle.std.proofs.lemmas.List.{length-map}
use Rattle.tap_states.specs.declared.Tap.TheVariants.{TestLogicReset, RunTestIdle, PauseDr}
use Rattle.scan_bits.specs.Registers.{joined}
use Rattle.grant_table.specs.Layouts.{LayoutShape}
use Rattle.chain_model.specs.Chains.{ChainState, DeviceState, reset, reset_device}
use Rattle.chain_model.specs.Cycles.{after_cycles, update_device, dr_stages, reset_code}
use Rattle.scan_share.specs.Scans.{with_stages, codes_during, widths_during, code_list, IsOpenFor}
use Rattle.scan_walks.specs.Walks.{with_tms}
use Rattle.scan_share.specs.Walks.{write_walk, start_walk}
use Rattle.scan_share.proofs.Facts.{ReadyFor, LoadedFrom}
use Rattle.scan_share.specs.Written.{group_widths, written}
use Rattle.scan_share.proofs.Facts.{UpdatesBy}
use Rattle.scan_share.proofs.Rests.{write_leads, dr_after, in_state}
use Rattle.scan_share.proofs.Loads.{dr_refilled, staged_codes}
use Rattle.scan_share.proofs.Widths.{joined_length, some_bits}
use Rattle.scan_share.proofs.WholeCapture.{loaded_from, length-codes}
use Rattle.scan_share.proofs.Updates.{written_lengths, updates_alike}

-- the chain after an update
abbrev pub updated_chain : LayoutShape → List ℕ → List (List Bool) → List Bool → ChainState → ChainState
updated_chain layout group codes bits old = record old {
  state = RunTestIdle;
  tdo = true;
  scan_open = false;
  devices = map update_device (with_stages old.devices (written layout group codes bits));
}

write_any : (bits : List Bool) (chain : ChainState) → 1 ≤ length bits
    → after_cycles (write_walk bits) (record chain { state = PauseDr; scan_open = true })
    ≡ record chain { state = RunTestIdle; tdo = true; scan_open = false; devices = map update_device (dr_after bits chain.devices) }
write_any [] chain some = absurd (omega (arith, some))
write_any (bit ∷ bits) chain some = write_leads bit bits chain

updated_codes : (devices : List DeviceState) → map (λ device. device.code) (map update_device devices) ≡ map (λ device. device.code) devices
updated_codes [] = refl
updated_codes (device ∷ devices) = ap (λ rest. device.code ∷ rest) (updated_codes devices)

pub whole_update : (layout : LayoutShape) (group : List ℕ) (codes : List (List Bool)) (bits : List Bool) (old : ChainState) → ReadyFor layout group codes old → IsOpenFor layout group codes old
    → map length (dr_stages old.devices) ≡ widths_during layout.parts (codes_during layout group codes)
    → length bits ≡ sum_by (λ w. w) (group_widths layout group codes)
    → UpdatesBy layout group codes bits (write_walk (joined (written layout group codes bits))) old (updated_chain layout group codes bits old)
whole_update layout group codes bits old r is stages whole = record {
  leads = ap (after_cycles (write_walk (joined (written layout group codes bits)))) held
      ∙ write_any (joined (written layout group codes bits)) old long
      ∙ ap {A = List DeviceState} (λ ds. record old { state = RunTestIdle; tdo = true; scan_open = false; devices = map update_device ds }) (dr_refilled old.devices (written layout group codes bits) (lengths ∙ sym stages));
  contents = updates_alike layout group codes bits old l r.parts r.group_is;
  parked = (refl, refl);
  codes_are = codes_kept;
}
  where
    codes_kept : code_list (updated_chain layout group codes bits old) ≡ code_list old
    codes_kept = updated_codes (with_stages old.devices (written layout group codes bits)) ∙ staged_codes old.devices (written layout group codes bits)

    held : old ≡ record old { state = PauseDr; scan_open = true }
    held = λ i. record old { state = is.0 i; scan_open = is.1 i }

    size : length codes ≡ length group
    size = length-codes layout group codes old r

    lengths : map length (written layout group codes bits) ≡ widths_during layout.parts (codes_during layout group codes)
    lengths = written_lengths layout group codes bits r.group_is size whole

    long : 1 ≤ length (joined (written layout group codes bits))
    long = subst (λ n. 1 ≤ n) (ap (sum_by (λ w. w)) ((λ i. widths_during (r.parts i) (is.2 i)) ∙ sym lengths) ∙ sym (joined_length (written layout group codes bits))) (some_bits old.devices r.fit r.some)

    count : length (written layout group codes bits) ≡ length old.devices
    count = sym (length-map (written layout group codes bits) length) ∙ ap length (lengths ∙ sym stages) ∙ length-map (dr_stages old.devices) length ∙ length-map old.devices (λ device. device.dr_stage)

    l : LoadedFrom group layout.nets codes old old
    l = loaded_from layout group codes old old r refl (is.2) refl refl

-- resets
pub code_contents : (devices : List DeviceState) → map (λ device. device.content) (map reset_code devices) ≡ map (λ device. device.content) devices
code_contents [] = refl
code_contents (device ∷ devices) = ap (λ rest. device.content ∷ rest) (code_contents devices)

pub code_codes : (devices : List DeviceState) → map (λ device. device.code) (map reset_code devices) ≡ map (λ part. part.reset_code) (map (λ device. device.part) devices)
code_codes [] = refl
code_codes (device ∷ devices) = ap (λ rest. device.part.reset_code ∷ rest) (code_codes devices)

code_again : (devices : List DeviceState) → map reset_code (map reset_code devices) ≡ map reset_code devices
code_again [] = refl
code_again (device ∷ devices) = ap {A = List DeviceState} (λ rest. reset_code device ∷ rest) (code_again devices)

abbrev pub started_chain : ChainState → ChainState
started_chain old = record old { state = RunTestIdle; tdo = true; devices = map reset_code old.devices }

start_walks : (chain : ChainState) → after_cycles start_walk (record chain { state = TestLogicReset })
    ≡ record chain { state = RunTestIdle; tdo = true; devices = map reset_code (map reset_code (map reset_code (map reset_code (map reset_code chain.devices)))) }
start_walks chain = refl

pub start_leads : (old : ChainState) → old.state ≡ TestLogicReset → after_cycles start_walk old ≡ started_chain old
start_leads old is =
    ap (after_cycles start_walk) (in_state old TestLogicReset is) ∙ start_walks old
    ∙ ap {A = List DeviceState} (λ ds. record old { state = RunTestIdle; tdo = true; devices = ds })
    (code_again (map reset_code (map reset_code (map reset_code old.devices))) ∙ code_again (map reset_code (map reset_code old.devices)) ∙ code_again (map reset_code old.devices) ∙ code_again old.devices)

-- an abandon: a reset, and one cycle with TMS 0
abbrev pub abandoned_chain : ChainState → ChainState
abandoned_chain old = record old { state = RunTestIdle; tdo = true; scan_open = false; devices = map reset_device old.devices }

pub abandon_leads : (old : ChainState) → after_cycles (with_tms false ∷ []) (reset old) ≡ abandoned_chain old
abandon_leads old = refl

pub reset_contents : (devices : List DeviceState) → map (λ device. device.content) (map reset_device devices) ≡ map (λ device. device.content) devices
reset_contents [] = refl
reset_contents (device ∷ devices) = ap (λ rest. device.content ∷ rest) (reset_contents devices)

pub reset_codes_are : (devices : List DeviceState) → map (λ device. device.code) (map reset_device devices) ≡ map (λ part. part.reset_code) (map (λ device. device.part) devices)
reset_codes_are [] = refl
reset_codes_are (device ∷ devices) = ap (λ rest. device.part.reset_code ∷ rest) (reset_codes_are devices)

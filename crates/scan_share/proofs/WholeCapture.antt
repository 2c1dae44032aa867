-- A capture: with the instruction part, and without it where the codes are loaded.
use Rattle.std.proofs.Common.{◌≡◌, ◌≤◌, ℕ, zero, suc, Bool, true, false, List, [], ◌∷◌, ◌++◌, length, map, replicate, refl, ap, sym, ◌∙◌, arith, subst}
use Rattle.std.specs.List.{sum_by}
use Rattle.std.proofs.lemmas.List.{length-map}
use Rattle.std.proofs.lemmas.List.Sums.{sum_by-cons}
use Rattle.tap_states.specs.declared.Tap.TheVariants.{RunTestIdle, CaptureDr, UpdateIr}
use Rattle.scan_bits.specs.Registers.{joined}
use Rattle.grant_table.specs.Layouts.{LayoutShape}
use Rattle.chain_model.specs.Chains.{ChainState, DeviceState}
use Rattle.chain_model.specs.Cycles.{Clock, after_cycles, answers, captured_from, dr_stages, capture_ir, update_ir}
use Rattle.chain_model.proofs.Rows.{after_cycles-append}
use Rattle.scan_share.specs.PrivateChains.{entries_at}
use Rattle.scan_share.specs.Scans.{codes_during, codes_from, code_list, contents_of, captured_group, scan_length, widths_during, with_stages, group_bits, with_contents}
use Rattle.scan_walks.specs.Walks.{with_tms, shift_in}
use Rattle.scan_share.specs.Walks.{load_walk, read_walk}
use Rattle.scan_share.proofs.Facts.{FitAll, IsGroup, LoadedFrom, ReadyFor}
use Rattle.scan_share.proofs.Facts.{CapturesBy}
use Rattle.scan_share.proofs.Refills.{stages_after}
use Rattle.scan_share.proofs.Rests.{in_state, load_leads, captured_chain, capture_leads_idle, capture_leads_loaded, ir_after, dr_after}
use Rattle.scan_share.proofs.Captures.{stages_alike, contents_alike}
use Rattle.scan_share.proofs.Lookups.{length-entries_at}
use Rattle.scan_share.proofs.Loads.{load_is, loaded, loaded_parts, loaded_contents, loaded_codes, codes_lengths, length-codes_from, dr_after_stages, staged_codes, staged_contents}
use Rattle.scan_share.proofs.Widths.{stage_lengths, joined_length, some_bits, group_bits_are, fit_same}
use Rattle.scan_share.proofs.CaptureWalk.{read_chain, read_leads, row_answers}

-- what a capture keeps
captured_codes : (chain : ChainState) (from : ℕ) (devices : List DeviceState) → map (λ device. device.code) (captured_from chain from devices) ≡ map (λ device. device.code) devices
captured_codes chain from [] = refl
captured_codes chain from (device ∷ devices) = ap (λ rest. device.code ∷ rest) (captured_codes chain (suc from) devices)

captured_parts : (chain : ChainState) (from : ℕ) (devices : List DeviceState) → map (λ device. device.part) (captured_from chain from devices) ≡ map (λ device. device.part) devices
captured_parts chain from [] = refl
captured_parts chain from (device ∷ devices) = ap (λ rest. device.part ∷ rest) (captured_parts chain (suc from) devices)

pub length-codes : (layout : LayoutShape) (group : List ℕ) (codes : List (List Bool)) (chain : ChainState) → ReadyFor layout group codes chain → length codes ≡ length group
length-codes layout group codes chain r =
    sym (length-map codes length) ∙ ap length r.codes_fit ∙ length-map (entries_at layout.parts group) (λ part. part.ir_length) ∙ length-entries_at layout.parts group r.group_is.within

-- a chain that was loaded from a ready one
pub loaded_from : (layout : LayoutShape) (group : List ℕ) (codes : List (List Bool)) (old mid : ChainState) → ReadyFor layout group codes old
    → map (λ device. device.part) mid.devices ≡ map (λ device. device.part) old.devices → code_list mid ≡ codes_during layout group codes → contents_of mid ≡ contents_of old → mid.nets ≡ old.nets
    → LoadedFrom group layout.nets codes old mid
loaded_from layout group codes old mid r parts codes_are contents nets = record {
  group_is = subst (IsGroup group) (ap length (sym r.parts) ∙ length-map old.devices (λ device. device.part)) r.group_is;
  size = length-codes layout group codes old r;
  parts = parts;
  codes_are = codes_are ∙ ap (codes_from group codes 0) (sym r.parts);
  contents = contents;
  nets_are = nets ∙ r.nets;
  stay = r.stay;
}

-- the data part of a capture, from a chain that is loaded
pub data_part : (layout : LayoutShape) (group : List ℕ) (codes : List (List Bool)) (old mid from : ChainState) → ReadyFor layout group codes old
    → map (λ device. device.part) mid.devices ≡ map (λ device. device.part) old.devices → code_list mid ≡ codes_during layout group codes → contents_of mid ≡ contents_of old → mid.nets ≡ old.nets
    → (first : List Clock) → after_cycles first old ≡ from
    → after_cycles (with_tms true ∷ with_tms false ∷ with_tms false ∷ []) from ≡ captured_chain mid
    → CapturesBy layout group codes (first ++ read_walk (scan_length layout group codes)) (first ++ (with_tms true ∷ with_tms false ∷ with_tms false ∷ [])) old (read_chain (scan_length layout group codes) mid)
    (joined (dr_stages (captured_chain mid).devices))
data_part layout group codes old mid from r parts codes_are contents nets first goes starts =
    by (scan_length layout group codes) refl (omega (arith, positive))
  where
    l : LoadedFrom group layout.nets codes old (record mid { state = CaptureDr; tdo = true })
    l = loaded_from layout group codes old (record mid { state = CaptureDr; tdo = true }) r parts codes_are contents nets

    fit : FitAll mid.devices
    fit = fit_same mid.devices old.devices parts contents r.fit

    widths : widths_during (map (λ device. device.part) mid.devices) (map (λ device. device.code) mid.devices) ≡ widths_during layout.parts (codes_during layout group codes)
    widths = λ i. widths_during ((parts ∙ r.parts) i) (codes_are i)

    some : 1 ≤ length mid.devices
    some = omega (arith, r.some, ap length parts, length-map mid.devices (λ device. device.part), length-map old.devices (λ device. device.part))

    positive : 1 ≤ scan_length layout group codes
    positive = subst (λ w. 1 ≤ sum_by (λ x. x) w) widths (some_bits mid.devices fit some)

    lengths : map length (dr_stages (captured_chain mid).devices) ≡ widths_during layout.parts (codes_during layout group codes)
    lengths = stage_lengths (record mid { state = CaptureDr; tdo = true }) 0 mid.devices fit ∙ widths

    size : length (joined (dr_stages (captured_chain mid).devices)) ≡ scan_length layout group codes
    size = joined_length (dr_stages (captured_chain mid).devices) ∙ ap (sum_by (λ w. w)) lengths

    devices_are : (bits : List Bool) → dr_after bits (captured_chain mid).devices ≡ with_stages (captured_chain mid).devices (stages_after bits (dr_stages (captured_chain mid).devices))
    devices_are bits = dr_after_stages bits (captured_chain mid).devices

    kept_contents : (n : ℕ) → contents_of (read_chain n mid) ≡ with_contents group (contents_of (captured_group group layout.nets codes old)) (contents_of old)
    kept_contents n = ap (map (λ device. device.content)) (devices_are (replicate n false))
        ∙ staged_contents (captured_chain mid).devices (stages_after (replicate n false) (dr_stages (captured_chain mid).devices))
        ∙ contents_alike group layout.nets codes old (record mid { state = CaptureDr; tdo = true }) l

    kept_codes : (n : ℕ) → code_list (read_chain n mid) ≡ codes_during layout group codes
    kept_codes n = ap (map (λ device. device.code)) (devices_are (replicate n false))
        ∙ staged_codes (captured_chain mid).devices (stages_after (replicate n false) (dr_stages (captured_chain mid).devices))
        ∙ captured_codes (record mid { state = CaptureDr; tdo = true }) 0 mid.devices ∙ codes_are

    bits_are : group_bits group (widths_during layout.parts (codes_during layout group codes)) (joined (dr_stages (captured_chain mid).devices)) ≡ joined (dr_stages (captured_group group layout.nets codes old).devices)
    bits_are = group_bits_are group (widths_during layout.parts (codes_during layout group codes)) (dr_stages (captured_chain mid).devices) lengths
        ∙ ap joined (sym (stages_alike group layout.nets codes old (record mid { state = CaptureDr; tdo = true }) l))

    by : (n : ℕ) → scan_length layout group codes ≡ n → 1 ≤ n
        → CapturesBy layout group codes (first ++ read_walk n) (first ++ (with_tms true ∷ with_tms false ∷ with_tms false ∷ [])) old (read_chain n mid)
        (joined (dr_stages (captured_chain mid).devices))
    by zero is more = absurd (omega (arith, more))
    by (suc n) is more = record {
      leads = after_cycles-append first (read_walk (suc n)) old ∙ ap (after_cycles (read_walk (suc n))) goes ∙ read_leads n mid from starts;
      row = ap (λ k. answers (shift_in (replicate k false)) (after_cycles (first ++ (with_tms true ∷ with_tms false ∷ with_tms false ∷ [])) old)) is
          ∙ ap (answers (shift_in (replicate (suc n) false))) (after_cycles-append first (with_tms true ∷ with_tms false ∷ with_tms false ∷ []) old ∙ ap (after_cycles (with_tms true ∷ with_tms false ∷ with_tms false ∷ [])) goes ∙ starts)
          ∙ row_answers n mid (size ∙ is);
      contents = (kept_contents (suc n), bits_are);
      holds = (refl, refl, kept_codes (suc n));
    }

-- the instruction part, of any bits there are
load_any : (bits : List Bool) (chain : ChainState) → 1 ≤ length bits
    → after_cycles (load_walk bits) (record chain { state = RunTestIdle })
    ≡ record chain { state = UpdateIr; tdo = true; devices = map update_ir (ir_after bits (map capture_ir chain.devices)) }
load_any [] chain some = absurd (omega (arith, some))
load_any (bit ∷ bits) chain some = load_leads bit bits chain

captures_lengths : (devices : List DeviceState) → FitAll devices → map (λ device. length device.part.ir_captures) devices ≡ map (λ part. part.ir_length) (map (λ device. device.part) devices)
captures_lengths [] fit = refl
captures_lengths (device ∷ devices) fit = λ i. (fit.0).captures i ∷ captures_lengths devices (fit.1) i

some_ir : (devices : List DeviceState) → FitAll devices → 1 ≤ length devices → 1 ≤ sum_by (λ w. w) (map (λ part. part.ir_length) (map (λ device. device.part) devices))
some_ir [] fit some = absurd (omega (arith, some))
some_ir (device ∷ devices) fit some = omega (arith, (fit.0).some, sum_by-cons (λ w. w) device.part.ir_length (map (λ part. part.ir_length) (map (λ d. d.part) devices)))

-- the chain after the instruction part
abbrev pub loaded_chain : LayoutShape → List ℕ → List (List Bool) → ChainState → ChainState
loaded_chain layout group codes old = record old { state = UpdateIr; tdo = true; devices = loaded old.devices (codes_during layout group codes) }

pub load_part : (layout : LayoutShape) (group : List ℕ) (codes : List (List Bool)) (old : ChainState) → ReadyFor layout group codes old → old.state ≡ RunTestIdle
    → after_cycles (load_walk (joined (codes_during layout group codes))) old ≡ loaded_chain layout group codes old
load_part layout group codes old r idle =
    let lengths : map length (codes_during layout group codes) ≡ map (λ part. part.ir_length) layout.parts = codes_lengths layout.parts group codes r.group_is r.codes_fit in
    let parts : map (λ part. part.ir_length) (map (λ device. device.part) old.devices) ≡ map (λ part. part.ir_length) layout.parts = ap (map (λ part. part.ir_length)) r.parts in
    let same : map length (codes_during layout group codes) ≡ map (λ device. length device.part.ir_captures) old.devices = lengths ∙ sym parts ∙ sym (captures_lengths old.devices r.fit) in
    let long : 1 ≤ sum_by (λ w. w) (map length (codes_during layout group codes)) = subst (λ w. 1 ≤ sum_by (λ x. x) w) (parts ∙ sym lengths) (some_ir old.devices r.fit r.some) in
    ap (after_cycles (load_walk (joined (codes_during layout group codes)))) (in_state old RunTestIdle idle)
    ∙ load_any (joined (codes_during layout group codes)) old (omega (arith, long, joined_length (codes_during layout group codes)))
    ∙ ap {A = List DeviceState} (λ ds. record old { state = UpdateIr; tdo = true; devices = ds }) (load_is old.devices (codes_during layout group codes) same)

-- a whole capture
pub whole_capture : (layout : LayoutShape) (group : List ℕ) (codes : List (List Bool)) (old : ChainState) → ReadyFor layout group codes old → old.state ≡ RunTestIdle
    → CapturesBy layout group codes (load_walk (joined (codes_during layout group codes)) ++ read_walk (scan_length layout group codes)) (load_walk (joined (codes_during layout group codes)) ++ (with_tms true ∷ with_tms false ∷ with_tms false ∷ [])) old
    (read_chain (scan_length layout group codes) (loaded_chain layout group codes old))
    (joined (dr_stages (captured_chain (loaded_chain layout group codes old)).devices))
whole_capture layout group codes old r idle =
    data_part layout group codes old (loaded_chain layout group codes old) (loaded_chain layout group codes old) r
    (loaded_parts old.devices (codes_during layout group codes))
    (loaded_codes old.devices (codes_during layout group codes) size)
    (loaded_contents old.devices (codes_during layout group codes))
    refl
    (load_walk (joined (codes_during layout group codes)))
    (load_part layout group codes old r idle)
    (capture_leads_loaded (loaded_chain layout group codes old))
  where
    size : length (codes_during layout group codes) ≡ length old.devices
    size = length-codes_from group codes 0 layout.parts ∙ ap length (sym r.parts) ∙ length-map old.devices (λ device. device.part)

-- a capture without the instruction part, where the codes are loaded
pub short_capture : (layout : LayoutShape) (group : List ℕ) (codes : List (List Bool)) (old : ChainState) → ReadyFor layout group codes old → old.state ≡ RunTestIdle
    → code_list old ≡ codes_during layout group codes
    → CapturesBy layout group codes ([] ++ read_walk (scan_length layout group codes)) ([] ++ (with_tms true ∷ with_tms false ∷ with_tms false ∷ [])) old (read_chain (scan_length layout group codes) old)
    (joined (dr_stages (captured_chain old).devices))
short_capture layout group codes old r idle are =
    data_part layout group codes old old old r refl are refl refl [] refl
    (ap (after_cycles (with_tms true ∷ with_tms false ∷ with_tms false ∷ [])) (in_state old RunTestIdle idle) ∙ capture_leads_idle old)

-- The laws of captures, updates, starts and abandons.
use Rattle.std.proofs.Common.{◌≡◌, ◌+◌, ℕ, suc, Bool, true, false, cond, List, [], ◌∷◌, ◌++◌, length, map, replicate, refl, ap, sym, subst, ◌∙◌, arith, length-append}
use Rattle.std.specs.List.{sum_by}
use Rattle.std.proofs.lemmas.List.{length-replicate}
use Rattle.std.proofs.lemmas.List.Sums.{sum-map}
use Rattle.tap_states.specs.declared.Tap.TheVariants.{TestLogicReset}
use Rattle.scan_bits.specs.Registers.{joined}
use Rattle.base_types.specs.Counts.{raised}
use Rattle.chain_model.specs.Chains.{ChainState, reset}
use Rattle.chain_model.specs.Cycles.{Clock, after_cycles, after_calls, answers}
use Rattle.grant_table.specs.Kept.{AllParts}
use Rattle.grant_table.specs.Layouts.{LayoutShape, ir_total}
use Rattle.scan_walks.specs.Walks.{with_tms, shift_in}
use Rattle.scan_share.specs.Scans.{Captures, Updates, Starts, Abandons, CapturesGroup, UpdatesGroup, IsWhole, IsParked, IsOpenFor, code_list, codes_during, contents_of, same_codes, scan_length, widths_during, group_bits}
use Rattle.scan_share.specs.Timing.{may_scan, IsTimed}
use Rattle.scan_share.specs.Walks.{capture_walk, shift_out, read_walk, write_walk, start_walk}
use Rattle.scan_share.specs.Written.{group_widths, written}
use Rattle.scan_share.specs.Laws.{IsScan, read_out, own_bits, load_codes}
use Rattle.scan_share.proofs.Facts.{CapturesBy, ReadyFor}
use Rattle.scan_share.proofs.Kept.{timed_shut, timed_reset, made_reset}
use Rattle.scan_share.proofs.Loads.{codes_lengths}
use Rattle.scan_share.proofs.Widths.{joined_length}
use Rattle.scan_share.proofs.WholeCapture.{whole_capture, short_capture, length-codes}
use Rattle.scan_share.proofs.Updates.{written_lengths}
use Rattle.scan_share.proofs.WholeUpdate.{whole_update, start_leads, code_contents, code_codes, reset_contents, reset_codes_are}
use Rattle.scan_share.proofs.Reloads.{same_codes_self}
use Rattle.scan_share.proofs.MadeOf.{all_sound, made_calls, ready, open_stages}

pub length-shift_in : (bits : List Bool) → length (shift_in bits) ≡ length bits
length-shift_in [] = refl
length-shift_in (bit ∷ []) = refl
length-shift_in (bit ∷ next ∷ bits) = ap suc (length-shift_in (next ∷ bits))

-- ---- how many cycles

pub length-load : (layout : LayoutShape) (group : List ℕ) (codes : List (List Bool)) (chain : ChainState) → ReadyFor layout group codes chain → length (joined (codes_during layout group codes)) ≡ ir_total layout
length-load layout group codes chain r =
    joined_length (codes_during layout group codes) ∙ ap (sum_by (λ w. w)) (codes_lengths layout.parts group codes r.group_is r.codes_fit) ∙ sum-map (λ part. part.ir_length) layout.parts

read_count : (count : ℕ) → length (read_walk count) ≡ count + 4
read_count count = omega (arith, length-append (shift_out count) (with_tms false ∷ []), length-shift_in (replicate count false), length-replicate count false)

capture_count : (layout : LayoutShape) (group : List ℕ) (codes : List (List Bool)) (chain : ChainState) → ReadyFor layout group codes chain
    → length (load_codes layout group codes ++ read_walk (scan_length layout group codes)) ≡ ir_total layout + scan_length layout group codes + 9
capture_count layout group codes chain r =
    omega (
      arith,
      length-load layout group codes chain r,
      length-append (load_codes layout group codes) (read_walk (scan_length layout group codes)),
      length-append (shift_in (joined (codes_during layout group codes))) (with_tms true ∷ []),
      length-shift_in (joined (codes_during layout group codes)),
      read_count (scan_length layout group codes),
    )

-- ---- captures

-- a capture by some cycles, in some calls
captures_by : (layout : LayoutShape) (group : List ℕ) (codes : List (List Bool)) (calls : ℕ) (clocks entry : List Clock) (old new : ChainState) (read : List Bool)
    → IsScan layout group codes → IsWhole layout old → IsParked old
    → CapturesBy layout group codes clocks entry old new read → raised old.made (length clocks) ≡ raised old.made (Rattle.scan_share.specs.Scans.capture_cycles layout group codes old)
    → Captures layout group codes (own_bits layout group codes (answers (shift_out (scan_length layout group codes)) (after_cycles entry old))) old (after_calls calls clocks old)
captures_by layout group codes calls clocks entry old new read scan whole parked facts count = record {
  contents = subst (λ out. CapturesGroup group layout.nets codes (own_bits layout group codes out) old (after_cycles clocks old)) (sym facts.row)
      (subst (λ c. CapturesGroup group layout.nets codes (own_bits layout group codes read) old c) (sym facts.leads) facts.contents);
  holds = subst (λ c. IsOpenFor layout group codes c) (sym facts.leads) facts.holds;
  whole = made_calls layout.parts layout.nets (all_sound layout.parts scan.parts) calls clocks old (timed_shut false old parked.1) whole;
  made = count;
}

pub load_and_capture : (layout : LayoutShape) (group : List ℕ) (codes : List (List Bool)) (calls : ℕ) (old : ChainState)
    → IsScan layout group codes → IsWhole layout old → IsParked old → same_codes (code_list old) (codes_during layout group codes) ≡ false
    → Captures layout group codes (own_bits layout group codes (read_out (load_codes layout group codes ++ capture_walk) (scan_length layout group codes) old)) old
    (after_calls calls (load_codes layout group codes ++ read_walk (scan_length layout group codes)) old)
load_and_capture layout group codes calls old scan whole parked other =
    let r = ready layout group codes old scan whole in
    captures_by layout group codes calls (load_codes layout group codes ++ read_walk (scan_length layout group codes)) (load_codes layout group codes ++ capture_walk) old _ _ scan whole parked
    (whole_capture layout group codes old r parked.0)
    (ap (raised old.made) (capture_count layout group codes old r) ∙ ap (λ t. raised old.made (cond t (scan_length layout group codes + 4) (ir_total layout + scan_length layout group codes + 9))) (sym other))

pub capture_loaded : (layout : LayoutShape) (group : List ℕ) (codes : List (List Bool)) (calls : ℕ) (old : ChainState)
    → IsScan layout group codes → IsWhole layout old → IsParked old → code_list old ≡ codes_during layout group codes
    → Captures layout group codes (own_bits layout group codes (read_out capture_walk (scan_length layout group codes) old)) old
    (after_calls calls (read_walk (scan_length layout group codes)) old)
capture_loaded layout group codes calls old scan whole parked are =
    let same : same_codes (code_list old) (codes_during layout group codes) ≡ true = ap (λ q. same_codes q (codes_during layout group codes)) are ∙ same_codes_self (codes_during layout group codes) in
    captures_by layout group codes calls (read_walk (scan_length layout group codes)) capture_walk old _ _ scan whole parked
    (short_capture layout group codes old (ready layout group codes old scan whole) parked.0 are)
    (ap (raised old.made) (read_count (scan_length layout group codes)) ∙ ap (λ t. raised old.made (cond t (scan_length layout group codes + 4) (ir_total layout + scan_length layout group codes + 9))) (sym same))

-- ---- an update

held_timed : (layout : LayoutShape) (group : List ℕ) (codes : List (List Bool)) (chain : ChainState) → IsOpenFor layout group codes chain → IsTimed false chain
held_timed layout group codes chain is h = ap (may_scan false) is.0

pub write_updates : (layout : LayoutShape) (group : List ℕ) (codes : List (List Bool)) (bits : List Bool) (calls : ℕ) (old : ChainState)
    → IsScan layout group codes → IsWhole layout old → IsOpenFor layout group codes old → length bits ≡ sum_by (λ w. w) (group_widths layout group codes)
    → Updates layout group codes bits old (after_calls calls (write_walk (joined (written layout group codes bits))) old)
write_updates layout group codes bits calls old scan whole is long =
    let r = ready layout group codes old scan whole in
    let stages = open_stages layout group codes old whole is.1 is.2 in
    let facts = whole_update layout group codes bits old r is stages long in
    let clocks = write_walk (joined (written layout group codes bits)) in
    let all : length (joined (written layout group codes bits)) ≡ scan_length layout group codes =
    joined_length (written layout group codes bits) ∙ ap (sum_by (λ w. w)) (written_lengths layout group codes bits r.group_is (length-codes layout group codes old r) long) in
    let count : length (write_walk (joined (written layout group codes bits))) ≡ scan_length layout group codes + 4 =
    omega (arith, all, length-append (shift_in (joined (written layout group codes bits))) (with_tms true ∷ with_tms false ∷ []), length-shift_in (joined (written layout group codes bits))) in
    record {
      contents = subst (λ c. UpdatesGroup group layout.nets codes bits old c) (sym facts.leads) facts.contents;
      parked = subst (λ c. IsParked c) (sym facts.leads) facts.parked;
      whole = made_calls layout.parts layout.nets (all_sound layout.parts scan.parts) calls (write_walk (joined (written layout group codes bits))) old (held_timed layout group codes old is) whole;
      codes_are = subst (λ c. code_list c ≡ code_list old) (sym facts.leads) facts.codes_are;
      made = ap (raised old.made) count;
    }

-- ---- a start, and an abandon

pub start_rests : (layout : LayoutShape) (calls : ℕ) (old : ChainState) → AllParts layout.parts → IsWhole layout old → old.state ≡ TestLogicReset → old.scan_open ≡ false
    → Starts layout old (after_calls calls start_walk old)
start_rests layout calls old parts whole state shut = record {
  contents = subst (λ c. contents_of c ≡ contents_of old) (sym (start_leads old state)) (code_contents old.devices);
  parked = subst (λ c. IsParked c) (sym (start_leads old state)) (refl, shut);
  whole = made_calls layout.parts layout.nets (all_sound layout.parts parts) calls start_walk old (timed_shut false old shut) whole;
  codes_are = subst (λ c. code_list c ≡ map (λ part. part.reset_code) layout.parts) (sym (start_leads old state)) (code_codes old.devices ∙ ap (map (λ part. part.reset_code)) whole.parts_are);
  made = refl;
}

pub reset_abandons : (layout : LayoutShape) (calls : ℕ) (old : ChainState) → AllParts layout.parts → IsWhole layout old → Abandons layout old (after_calls calls (with_tms false ∷ []) (reset old))
reset_abandons layout calls old parts whole = record {
  contents = reset_contents old.devices;
  parked = (refl, refl);
  whole = made_calls layout.parts layout.nets (all_sound layout.parts parts) calls (with_tms false ∷ []) (reset old) (timed_reset false old) (made_reset layout.parts layout.nets (all_sound layout.parts parts) old whole);
  codes_are = reset_codes_are old.devices ∙ ap (map (λ part. part.reset_code)) whole.parts_are;
  made = refl;
}

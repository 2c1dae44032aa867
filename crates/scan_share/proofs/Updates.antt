-- An update of the whole chain is an update of the group's private chain, and of nothing else.
use Rattle.std.proofs.Common.{◌≡◌, ◌≤◌, ◌<◌, ◌+◌, ℕ, zero, suc, Bool, true, false, List, [], ◌∷◌, length, map, replicate, take, drop, refl, ap, sym, ◌∙◌, arith, Some, None, inl, inr}
use Rattle.std.specs.declared.option.Option.{Option}
use Rattle.std.specs.Option.{option_map}
use Rattle.std.specs.Prelude.{◌==◌, slice_get}
use Rattle.std.specs.List.{sum_by, slice_index_or}
use Rattle.std.proofs.lemmas.Bool.{cases_lt}
use Rattle.std.proofs.lemmas.List.{length-map, length-drop}
use Rattle.std.proofs.lemmas.List.Sums.{sum_by-cons}
use Rattle.std.proofs.lemmas.Option.{same_Some, slice_get-map, slice_get_within, slice_get-get_or}
use Rattle.grant_table.specs.Layouts.{LayoutShape, first_place}
use Rattle.part_model.specs.Parts.{DeviceType, selected, width, length_of}
use Rattle.part_model.proofs.Bypass.{selected-ones}
use Rattle.chain_model.specs.Chains.{ChainState, DeviceState}
use Rattle.chain_model.specs.Cycles.{update_device, updated_content}
use Rattle.scan_share.specs.PrivateChains.{entries_at}
use Rattle.scan_share.specs.Scans.{with_codes, with_stages, with_contents, code_during, codes_during, contents_of, widths_of, widths_during, parted, updated_group}
use Rattle.scan_share.proofs.Facts.{LoadedFrom, IsGroup}
use Rattle.scan_share.specs.Written.{group_widths, stages_from, written}
use Rattle.scan_share.proofs.Lookups.{some_none, same_entries, entry_within, entry_past, length-entries_at, entry_at, placed, content_at, picked, code_or, code_during_is, codes_at}
use Rattle.scan_share.proofs.Geometry.{own_devices, pair_at}
use Rattle.scan_share.proofs.Captures.{length-own, bypassed}
use Rattle.scan_share.proofs.Loads.{length-codes_from}

-- the stages of a write, by place
pub stages_at : {X : Type 0} (group : List ℕ) (pieces : List (List Bool)) (from : ℕ) (xs : List X) (i : ℕ)
    → slice_get (stages_from group pieces from xs) i ≡ option_map (λ x. code_during group pieces (from + i) (false ∷ [])) (slice_get xs i)
stages_at group pieces from [] i = refl
stages_at group pieces from (x ∷ xs) zero = ap (λ k. Some (code_during group pieces k (false ∷ []))) (omega arith)
stages_at group pieces from (x ∷ xs) (suc i) = stages_at group pieces (suc from) xs i ∙ ap (λ k. option_map (λ x. code_during group pieces k (false ∷ [])) (slice_get xs i)) (omega arith)

pub stage_at : {X : Type 0} (group : List ℕ) (pieces : List (List Bool)) (xs : List X) (i : ℕ)
    → slice_get (stages_from group pieces 0 xs) i ≡ option_map (λ x. code_during group pieces i (false ∷ [])) (slice_get xs i)
stage_at group pieces xs i = stages_at group pieces 0 xs i ∙ ap (λ k. option_map (λ x. code_during group pieces k (false ∷ [])) (slice_get xs i)) (omega arith)

pub length-stages_from : {X : Type 0} (group : List ℕ) (pieces : List (List Bool)) (from : ℕ) (xs : List X) → length (stages_from group pieces from xs) ≡ length xs
length-stages_from group pieces from [] = refl
length-stages_from group pieces from (x ∷ xs) = ap suc (length-stages_from group pieces (suc from) xs)

-- the pieces are as long as the registers
pub parted_lengths : (widths : List ℕ) (bits : List Bool) → length bits ≡ sum_by (λ w. w) widths → map length (parted widths bits) ≡ widths
parted_lengths [] bits is = refl
parted_lengths (w ∷ widths) bits is =
    let total : sum_by (λ w. w) (w ∷ widths) ≡ w + sum_by (λ w. w) widths = sum_by-cons (λ w. w) w widths in
    let back : length (drop (sum_by (λ w. w) widths) bits) ≡ w = omega (arith, is, total, length-drop (sum_by (λ w. w) widths) bits) in
    let front : length (take (sum_by (λ w. w) widths) bits) ≡ sum_by (λ w. w) widths = short bits (sum_by (λ w. w) widths) (omega (arith, is, total)) in
    λ i. back i ∷ parted_lengths widths (take (sum_by (λ w. w) widths) bits) front i
  where
    short : (b : List Bool) (n : ℕ) → n ≤ length b → length (take n b) ≡ n
    short b zero le = refl
    short [] (suc n) le = absurd (omega (arith, le))
    short (x ∷ b) (suc n) le = ap suc (short b n (omega (arith, le)))

pub length-parted : (widths : List ℕ) (bits : List Bool) → length (parted widths bits) ≡ length widths
length-parted [] bits = refl
length-parted (w ∷ widths) bits = ap suc (length-parted widths (take (sum_by (λ w. w) widths) bits))

-- the group's widths, from its devices and from the layout
entries_mapped : {X Y : Type 0} (f : X → Y) (xs : List X) (group : List ℕ) → ((g place : ℕ) → slice_get group g ≡ Some place → place < length xs)
    → entries_at (map f xs) group ≡ map f (entries_at xs group)
entries_mapped f xs [] within = refl
entries_mapped f xs (place ∷ group) within =
    let at = entry_within xs place (within 0 place refl) in
    rw (slice_get-map f xs place, at.1) (ap (λ rest. f (at.0) ∷ rest) (entries_mapped f xs group (λ g p. within (suc g) p)))

widths_with_codes : (devices : List DeviceState) (codes : List (List Bool)) → length codes ≡ length devices → widths_of (with_codes devices codes) ≡ widths_during (map (λ device. device.part) devices) codes
widths_with_codes [] [] size = refl
widths_with_codes [] (code ∷ codes) size = absurd (omega (arith, size))
widths_with_codes (device ∷ devices) [] size = absurd (omega (arith, size))
widths_with_codes (device ∷ devices) (code ∷ codes) size = ap (λ rest. width device.part code ∷ rest) (widths_with_codes devices codes (omega (arith, size)))

pub own_widths : (layout : LayoutShape) (group : List ℕ) (codes : List (List Bool)) (old : ChainState) → map (λ device. device.part) old.devices ≡ layout.parts
    → IsGroup group (length old.devices) → length codes ≡ length group → widths_of (own_devices group codes old) ≡ group_widths layout group codes
own_widths layout group codes old parts is size =
    widths_with_codes (entries_at old.devices group) codes (size ∙ sym (length-entries_at old.devices group is.within))
    ∙ ap (λ ps. widths_during ps codes) (sym (entries_mapped (λ device. device.part) old.devices group is.within) ∙ ap (λ ps. entries_at ps group) parts)

-- devices with stages, by place
pub staged_at : (devices : List DeviceState) (stages : List (List Bool)) (i : ℕ) (device : DeviceState) (stage : List Bool) → slice_get devices i ≡ Some device → slice_get stages i ≡ Some stage
    → slice_get (with_stages devices stages) i ≡ Some (record device { dr_stage = stage })
staged_at [] stages i device stage is at = some_none device (sym is)
staged_at (first ∷ devices) [] i device stage is at = some_none stage (sym at)
staged_at (first ∷ devices) (s ∷ stages) zero device stage is at = λ k. Some (record (same_Some first device is k) { dr_stage = same_Some s stage at k })
staged_at (first ∷ devices) (s ∷ stages) (suc i) device stage is at = staged_at devices stages i device stage is at

-- widths by place
pub widths_zip_at : (parts : List DeviceType) (codes : List (List Bool)) (i : ℕ) (part : DeviceType) (code : List Bool) → slice_get parts i ≡ Some part → slice_get codes i ≡ Some code
    → slice_get (widths_during parts codes) i ≡ Some (width part code)
widths_zip_at [] codes i part code is at = some_none part (sym is)
widths_zip_at (p ∷ parts) [] i part code is at = some_none code (sym at)
widths_zip_at (p ∷ parts) (c ∷ codes) zero part code is at = λ k. Some (width (same_Some p part is k) (same_Some c code at k))
widths_zip_at (p ∷ parts) (c ∷ codes) (suc i) part code is at = widths_zip_at parts codes i part code is at

pub length-widths_during : (parts : List DeviceType) (codes : List (List Bool)) → length codes ≡ length parts → length (widths_during parts codes) ≡ length parts
length-widths_during [] codes size = refl
length-widths_during (p ∷ parts) [] size = absurd (omega (arith, size))
length-widths_during (p ∷ parts) (c ∷ codes) size = ap suc (length-widths_during parts codes (omega (arith, size)))

pub length-pieces : (layout : LayoutShape) (group : List ℕ) (codes : List (List Bool)) (bits : List Bool) → IsGroup group (length layout.parts) → length codes ≡ length group
    → length (parted (group_widths layout group codes) bits) ≡ length group
length-pieces layout group codes bits is size =
    length-parted (group_widths layout group codes) bits
    ∙ length-widths_during (entries_at layout.parts group) codes (size ∙ sym (length-entries_at layout.parts group is.within)) ∙ length-entries_at layout.parts group is.within

-- the stages of a write are as long as the registers of the chain
pub written_lengths : (layout : LayoutShape) (group : List ℕ) (codes : List (List Bool)) (bits : List Bool) → IsGroup group (length layout.parts) → length codes ≡ length group
    → length bits ≡ sum_by (λ w. w) (group_widths layout group codes)
    → map length (written layout group codes bits) ≡ widths_during layout.parts (codes_during layout group codes)
written_lengths layout group codes bits is size whole = same_entries (map length (written layout group codes bits)) (widths_during layout.parts (codes_during layout group codes))
    (λ i. elim (cases_lt i (length layout.parts)) [ inl lt ↦ inside i (entry_within layout.parts i lt) | inr ge ↦ past i ge ])
  where
    pieces_lengths : map length (parted (group_widths layout group codes) bits) ≡ group_widths layout group codes
    pieces_lengths = parted_lengths (group_widths layout group codes) bits whole

    long : (i : ℕ) (part : DeviceType) → slice_get layout.parts i ≡ Some part → (o : Option ℕ) → first_place (λ p. p == i) group ≡ o
        → length (code_or o (parted (group_widths layout group codes) bits) (false ∷ [])) ≡ width part (code_or o codes (replicate part.ir_length true))
    long i part at None e = ap (length_of part) (sym (selected-ones part part.ir_length))
    long i part at (Some g) e =
        let here : slice_get group g ≡ Some i = placed group i g e in
        let in_group : g < length group = slice_get_within group g i here in
        let piece : slice_get (parted (group_widths layout group codes) bits) g ≡ Some (slice_index_or (parted (group_widths layout group codes) bits) g (false ∷ [])) =
        slice_get-get_or (parted (group_widths layout group codes) bits) g (false ∷ []) (omega (arith, in_group, length-pieces layout group codes bits is size)) in
        let code : slice_get codes g ≡ Some (slice_index_or codes g (replicate part.ir_length true)) = slice_get-get_or codes g (replicate part.ir_length true) (omega (arith, in_group, size)) in
        same_Some (length (slice_index_or (parted (group_widths layout group codes) bits) g (false ∷ []))) (width part (slice_index_or codes g (replicate part.ir_length true)))
        (ap (option_map length) (sym piece) ∙ sym (slice_get-map length (parted (group_widths layout group codes) bits) g) ∙ ap (λ q. slice_get q g) pieces_lengths
        ∙ widths_zip_at (entries_at layout.parts group) codes g part (slice_index_or codes g (replicate part.ir_length true)) (entry_at layout.parts group is.within g i here ∙ at) code)

    inside : (i : ℕ) → (part : DeviceType) × (slice_get layout.parts i ≡ Some part)
        → slice_get (map length (written layout group codes bits)) i ≡ slice_get (widths_during layout.parts (codes_during layout group codes)) i
    inside i at =
        slice_get-map length (written layout group codes bits) i
        ∙ ap (option_map length) (stage_at group (parted (group_widths layout group codes) bits) layout.parts i ∙ ap (option_map (λ x. code_during group (parted (group_widths layout group codes) bits) i (false ∷ []))) (at.1))
        ∙ ap Some (ap length (code_during_is group (parted (group_widths layout group codes) bits) i (false ∷ []) (length-pieces layout group codes bits is size))
        ∙ long i (at.0) (at.1) (first_place (λ p. p == i) group) refl
        ∙ ap (width (at.0)) (sym (code_during_is group codes i (replicate (at.0).ir_length true) size)))
        ∙ sym (widths_zip_at layout.parts (codes_during layout group codes) i (at.0) (code_during group codes i (replicate (at.0).ir_length true)) (at.1)
        (codes_at group codes layout.parts i ∙ ap (option_map (λ part. code_during group codes i (replicate part.ir_length true))) (at.1)))

    past : (i : ℕ) → length layout.parts ≤ i → slice_get (map length (written layout group codes bits)) i ≡ slice_get (widths_during layout.parts (codes_during layout group codes)) i
    past i ge = entry_past (map length (written layout group codes bits)) i (omega (arith, ge, length-map (written layout group codes bits) length, length-stages_from group (parted (group_widths layout group codes) bits) 0 layout.parts))
        ∙ sym (entry_past (widths_during layout.parts (codes_during layout group codes)) i (omega (arith, ge, length-widths_during layout.parts (codes_during layout group codes) (length-codes_from group codes 0 layout.parts))))

-- the contents
pub updates_alike : (layout : LayoutShape) (group : List ℕ) (codes : List (List Bool)) (bits : List Bool) (old : ChainState) → LoadedFrom group layout.nets codes old old
    → map (λ device. device.part) old.devices ≡ layout.parts → IsGroup group (length layout.parts)
    → map (λ device. device.content) (map update_device (with_stages old.devices (written layout group codes bits)))
    ≡ with_contents group (contents_of (updated_group group layout.nets codes bits old)) (contents_of old)
updates_alike layout group codes bits old l parts is =
    same_entries (map (λ device. device.content) (map update_device (with_stages old.devices (written layout group codes bits)))) (with_contents group (contents_of (updated_group group layout.nets codes bits old)) (contents_of old))
    (λ i. by i (first_place (λ p. p == i) group) refl ∙ sym (content_at group (contents_of (updated_group group layout.nets codes bits old)) (contents_of old) l.group_is.apart own_count within i))
  where
    own_pieces : parted (widths_of (own_devices group codes old)) bits ≡ parted (group_widths layout group codes) bits
    own_pieces = ap (λ ws. parted ws bits) (own_widths layout group codes old parts l.group_is l.size)

    length-staged : (ds : List DeviceState) (ss : List (List Bool)) → length (with_stages ds ss) ≡ length ds
    length-staged [] ss = refl
    length-staged (d ∷ ds) [] = refl
    length-staged (d ∷ ds) (s ∷ ss) = ap suc (length-staged ds ss)

    length-updated : (ds : List DeviceState) (ss : List (List Bool)) → length (map (λ device. device.content) (map update_device (with_stages ds ss))) ≡ length ds
    length-updated ds ss = length-map (map update_device (with_stages ds ss)) (λ device. device.content) ∙ length-map (with_stages ds ss) update_device ∙ length-staged ds ss

    own_count : length (contents_of (updated_group group layout.nets codes bits old)) ≡ length group
    own_count = length-updated (own_devices group codes old) (parted (widths_of (own_devices group codes old)) bits) ∙ length-own group codes old l.group_is

    within : (g place : ℕ) → slice_get group g ≡ Some place → place < length (contents_of old)
    within g place at = omega (arith, length-map old.devices (λ device. device.content), l.group_is.within g place at)

    as_parts : length old.devices ≡ length layout.parts
    as_parts = sym (length-map old.devices (λ device. device.part)) ∙ ap length parts

    entry : (ds : List DeviceState) (ss : List (List Bool)) (i : ℕ) (device : DeviceState) (stage : List Bool) → slice_get ds i ≡ Some device → slice_get ss i ≡ Some stage
        → slice_get (map (λ device. device.content) (map update_device (with_stages ds ss))) i ≡ Some (updated_content (selected device.part device.code) stage device.content)
    entry ds ss i device stage d_is s_is =
        slice_get-map (λ device. device.content) (map update_device (with_stages ds ss)) i
        ∙ ap (option_map (λ device. device.content)) (slice_get-map update_device (with_stages ds ss) i ∙ ap (option_map update_device) (staged_at ds ss i device stage d_is s_is))

    stage_here : (i : ℕ) → i < length old.devices → (o : Option ℕ) → first_place (λ p. p == i) group ≡ o
        → slice_get (written layout group codes bits) i ≡ Some (code_or o (parted (group_widths layout group codes) bits) (false ∷ []))
    stage_here i lt o e =
        let at = entry_within layout.parts i (omega (arith, lt, as_parts)) in
        stage_at group (parted (group_widths layout group codes) bits) layout.parts i ∙ ap (option_map (λ x. code_during group (parted (group_widths layout group codes) bits) i (false ∷ []))) (at.1)
        ∙ ap Some (code_during_is group (parted (group_widths layout group codes) bits) i (false ∷ []) (length-pieces layout group codes bits is l.size)
        ∙ ap (λ o. code_or o (parted (group_widths layout group codes) bits) (false ∷ [])) e)

    stays : (i : ℕ) (one : DeviceState) → slice_get old.devices i ≡ Some one → first_place (λ p. p == i) group ≡ None
        → slice_get (map (λ device. device.content) (map update_device (with_stages old.devices (written layout group codes bits)))) i ≡ slice_get (contents_of old) i
    stays i one at none =
        entry old.devices (written layout group codes bits) i one (false ∷ []) at (stage_here i (slice_get_within old.devices i one at) None none)
        ∙ (λ k. Some (updated_content (bypassed group layout.nets codes old old l i one at none k) (false ∷ []) one.content))
        ∙ sym (slice_get-map (λ device. device.content) old.devices i ∙ ap (option_map (λ device. device.content)) at)

    past : (i : ℕ) → length old.devices ≤ i
        → slice_get (map (λ device. device.content) (map update_device (with_stages old.devices (written layout group codes bits)))) i ≡ slice_get (contents_of old) i
    past i ge = entry_past (map (λ device. device.content) (map update_device (with_stages old.devices (written layout group codes bits)))) i (omega (arith, ge, length-updated old.devices (written layout group codes bits)))
        ∙ sym (entry_past (contents_of old) i (omega (arith, ge, length-map old.devices (λ device. device.content))))

    by : (i : ℕ) (o : Option ℕ) → first_place (λ p. p == i) group ≡ o
        → slice_get (map (λ device. device.content) (map update_device (with_stages old.devices (written layout group codes bits)))) i
        ≡ picked (first_place (λ p. p == i) group) (contents_of (updated_group group layout.nets codes bits old)) (slice_get (contents_of old) i)
    by i None e = elim (cases_lt i (length old.devices)) [
      | inl lt ↦ let at = entry_within old.devices i lt in stays i (at.0) (at.1) e
      | inr ge ↦ past i ge
    ]
        ∙ ap (λ o. picked o (contents_of (updated_group group layout.nets codes bits old)) (slice_get (contents_of old) i)) (sym e)
    by i (Some g) e =
        let here : slice_get group g ≡ Some i = placed group i g e in
        let pair = pair_at group layout.nets codes old old l g i here in
        let in_group : g < length group = slice_get_within group g i here in
        let piece : slice_get (parted (widths_of (own_devices group codes old)) bits) g ≡ Some (slice_index_or (parted (group_widths layout group codes) bits) g (false ∷ [])) =
        ap (λ q. slice_get q g) own_pieces ∙ slice_get-get_or (parted (group_widths layout group codes) bits) g (false ∷ []) (omega (arith, in_group, length-pieces layout group codes bits is l.size)) in
        entry old.devices (written layout group codes bits) i (pair.0) (slice_index_or (parted (group_widths layout group codes) bits) g (false ∷ [])) (pair.2) (stage_here i (slice_get_within old.devices i (pair.0) (pair.2)) (Some g) e)
        ∙ (λ k. Some (updated_content (selected ((pair.4).part k) ((pair.4).code k)) (slice_index_or (parted (group_widths layout group codes) bits) g (false ∷ [])) ((pair.4).content k)))
        ∙ sym (entry (own_devices group codes old) (parted (widths_of (own_devices group codes old)) bits) g (pair.1) (slice_index_or (parted (group_widths layout group codes) bits) g (false ∷ [])) (pair.3) piece)
        ∙ ap (λ o. picked o (contents_of (updated_group group layout.nets codes bits old)) (slice_get (contents_of old) i)) (sym e)

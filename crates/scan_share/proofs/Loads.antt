-- Stages put into devices, and a load of all codes.
use Rattle.std.proofs.Common.{◌≡◌, ◌≤◌, ◌<◌, ℕ, suc, Bool, true, List, [], ◌∷◌, length, map, replicate, refl, ap, sym, ◌∙◌, arith, Some, None, inl, inr}
use Rattle.std.specs.declared.option.Option.{Option}
use Rattle.std.specs.Option.{option_map}
use Rattle.std.specs.Prelude.{◌==◌, slice_get}
use Rattle.std.specs.List.{slice_index_or}
use Rattle.std.proofs.lemmas.Bool.{cases_lt}
use Rattle.std.proofs.lemmas.List.{length-map, length-replicate}
use Rattle.std.proofs.lemmas.Option.{same_Some, slice_get-map, slice_get_within, slice_get-get_or}
use Rattle.scan_bits.specs.Registers.{lowest_or, shifted, joined, shifted_stages}
use Rattle.grant_table.specs.Layouts.{first_place}
use Rattle.part_model.specs.Parts.{DeviceType}
use Rattle.chain_model.specs.Chains.{DeviceState}
use Rattle.chain_model.specs.Cycles.{shifted_ir, shifted_dr, capture_ir, update_ir, dr_stages}
use Rattle.scan_share.specs.PrivateChains.{entries_at}
use Rattle.scan_share.specs.Scans.{with_stages, code_during, codes_from}
use Rattle.scan_share.proofs.Facts.{IsGroup, CodesFit}
use Rattle.scan_share.proofs.Lookups.{same_entries, entry_within, entry_past, length-entries_at, entry_at, placed, code_or, code_during_is, codes_at}
use Rattle.scan_share.proofs.Refills.{stages_after, refilled}
use Rattle.scan_share.proofs.Rests.{ir_after, dr_after}

-- devices with these instruction stages
abbrev pub with_ir : List DeviceState → List (List Bool) → List DeviceState
with_ir [] stages = []
with_ir (device ∷ devices) [] = device ∷ devices
with_ir (device ∷ devices) (stage ∷ stages) = record device { ir_stage = stage } ∷ with_ir devices stages

-- as long as lists whose images are equal
same_length : {X Y Z : Type 0} (f : X → Z) (g : Y → Z) (xs : List X) (ys : List Y) → map f xs ≡ map g ys → length xs ≡ length ys
same_length f g xs ys same = sym (length-map xs f) ∙ ap length same ∙ length-map ys g

pub length-shifted_stages : (bit : Bool) (stages : List (List Bool)) → length (shifted_stages bit stages) ≡ length stages
length-shifted_stages bit [] = refl
length-shifted_stages bit (stage ∷ stages) = ap suc (length-shifted_stages (lowest_or bit stage) stages)

shifted_with_ir : (bit : Bool) (devices : List DeviceState) (stages : List (List Bool)) → length stages ≡ length devices
    → shifted_ir bit (with_ir devices stages) ≡ with_ir devices (shifted_stages bit stages)
shifted_with_ir bit [] [] size = refl
shifted_with_ir bit [] (stage ∷ stages) size = absurd (omega (arith, size))
shifted_with_ir bit (device ∷ devices) [] size = absurd (omega (arith, size))
shifted_with_ir bit (device ∷ devices) (stage ∷ stages) size =
    ap {A = List DeviceState} (λ rest. record device { ir_stage = shifted stage bit } ∷ rest) (shifted_with_ir (lowest_or bit stage) devices stages (omega (arith, size)))

pub ir_after_with : (bits : List Bool) (devices : List DeviceState) (stages : List (List Bool)) → length stages ≡ length devices
    → ir_after bits (with_ir devices stages) ≡ with_ir devices (stages_after bits stages)
ir_after_with [] devices stages size = refl
ir_after_with (bit ∷ bits) devices stages size =
    ap (ir_after bits) (shifted_with_ir bit devices stages size) ∙ ir_after_with bits devices (shifted_stages bit stages) (length-shifted_stages bit stages ∙ size)

shifted_with_dr : (bit : Bool) (devices : List DeviceState) (stages : List (List Bool)) → length stages ≡ length devices
    → shifted_dr bit (with_stages devices stages) ≡ with_stages devices (shifted_stages bit stages)
shifted_with_dr bit [] [] size = refl
shifted_with_dr bit [] (stage ∷ stages) size = absurd (omega (arith, size))
shifted_with_dr bit (device ∷ devices) [] size = absurd (omega (arith, size))
shifted_with_dr bit (device ∷ devices) (stage ∷ stages) size =
    ap {A = List DeviceState} (λ rest. record device { dr_stage = shifted stage bit } ∷ rest) (shifted_with_dr (lowest_or bit stage) devices stages (omega (arith, size)))

dr_after_with : (bits : List Bool) (devices : List DeviceState) (stages : List (List Bool)) → length stages ≡ length devices
    → dr_after bits (with_stages devices stages) ≡ with_stages devices (stages_after bits stages)
dr_after_with [] devices stages size = refl
dr_after_with (bit ∷ bits) devices stages size =
    ap (dr_after bits) (shifted_with_dr bit devices stages size) ∙ dr_after_with bits devices (shifted_stages bit stages) (length-shifted_stages bit stages ∙ size)

captures_with : (devices : List DeviceState) → map capture_ir devices ≡ with_ir devices (map (λ device. device.part.ir_captures) devices)
captures_with [] = refl
captures_with (device ∷ devices) = ap {A = List DeviceState} (λ rest. capture_ir device ∷ rest) (captures_with devices)

own_stages : (devices : List DeviceState) → devices ≡ with_stages devices (dr_stages devices)
own_stages [] = refl
own_stages (device ∷ devices) = ap {A = List DeviceState} (λ rest. device ∷ rest) (own_stages devices)

-- the devices after a row of data bits that replaces all stages
pub dr_refilled : (devices : List DeviceState) (goal : List (List Bool)) → map length goal ≡ map length (dr_stages devices)
    → dr_after (joined goal) devices ≡ with_stages devices goal
dr_refilled devices goal same =
    ap (dr_after (joined goal)) (own_stages devices)
    ∙ dr_after_with (joined goal) devices (dr_stages devices) (length-map devices (λ device. device.dr_stage))
    ∙ ap (with_stages devices) (refilled (dr_stages devices) goal same)

-- any row of data bits changes the stages alone
pub dr_after_stages : (bits : List Bool) (devices : List DeviceState) → dr_after bits devices ≡ with_stages devices (stages_after bits (dr_stages devices))
dr_after_stages bits devices = ap (dr_after bits) (own_stages devices) ∙ dr_after_with bits devices (dr_stages devices) (length-map devices (λ device. device.dr_stage))

-- the devices after a load of codes
abbrev pub loaded : List DeviceState → List (List Bool) → List DeviceState
loaded devices codes = map update_ir (with_ir devices codes)

pub load_is : (devices : List DeviceState) (codes : List (List Bool)) → map length codes ≡ map (λ device. length device.part.ir_captures) devices
    → map update_ir (ir_after (joined codes) (map capture_ir devices)) ≡ loaded devices codes
load_is devices codes same =
    ap (map update_ir) (ap (ir_after (joined codes)) (captures_with devices)
    ∙ ir_after_with (joined codes) devices (map (λ device. device.part.ir_captures) devices) (length-map devices (λ device. device.part.ir_captures))
    ∙ ap (with_ir devices) (refilled (map (λ device. device.part.ir_captures) devices) codes (same ∙ twice devices)))
  where
    twice : (ds : List DeviceState) → map (λ device. length device.part.ir_captures) ds ≡ map length (map (λ device. device.part.ir_captures) ds)
    twice [] = refl
    twice (d ∷ ds) = ap (λ rest. length d.part.ir_captures ∷ rest) (twice ds)

pub loaded_parts : (devices : List DeviceState) (codes : List (List Bool)) → map (λ device. device.part) (loaded devices codes) ≡ map (λ device. device.part) devices
loaded_parts [] codes = refl
loaded_parts (device ∷ devices) [] = ap (λ rest. device.part ∷ rest) (none devices)
  where
    none : (ds : List DeviceState) → map (λ d. d.part) (map update_ir ds) ≡ map (λ d. d.part) ds
    none [] = refl
    none (d ∷ ds) = ap (λ rest. d.part ∷ rest) (none ds)
loaded_parts (device ∷ devices) (code ∷ codes) = ap (λ rest. device.part ∷ rest) (loaded_parts devices codes)

pub loaded_contents : (devices : List DeviceState) (codes : List (List Bool)) → map (λ device. device.content) (loaded devices codes) ≡ map (λ device. device.content) devices
loaded_contents [] codes = refl
loaded_contents (device ∷ devices) [] = ap (λ rest. device.content ∷ rest) (none devices)
  where
    none : (ds : List DeviceState) → map (λ d. d.content) (map update_ir ds) ≡ map (λ d. d.content) ds
    none [] = refl
    none (d ∷ ds) = ap (λ rest. d.content ∷ rest) (none ds)
loaded_contents (device ∷ devices) (code ∷ codes) = ap (λ rest. device.content ∷ rest) (loaded_contents devices codes)

pub loaded_codes : (devices : List DeviceState) (codes : List (List Bool)) → length codes ≡ length devices → map (λ device. device.code) (loaded devices codes) ≡ codes
loaded_codes [] [] size = refl
loaded_codes [] (code ∷ codes) size = absurd (omega (arith, size))
loaded_codes (device ∷ devices) [] size = absurd (omega (arith, size))
loaded_codes (device ∷ devices) (code ∷ codes) size = ap (λ rest. code ∷ rest) (loaded_codes devices codes (omega (arith, size)))

-- what stages do not touch
pub staged_parts : (devices : List DeviceState) (stages : List (List Bool)) → map (λ device. device.part) (with_stages devices stages) ≡ map (λ device. device.part) devices
staged_parts [] stages = refl
staged_parts (device ∷ devices) [] = refl
staged_parts (device ∷ devices) (stage ∷ stages) = ap (λ rest. device.part ∷ rest) (staged_parts devices stages)

pub staged_codes : (devices : List DeviceState) (stages : List (List Bool)) → map (λ device. device.code) (with_stages devices stages) ≡ map (λ device. device.code) devices
staged_codes [] stages = refl
staged_codes (device ∷ devices) [] = refl
staged_codes (device ∷ devices) (stage ∷ stages) = ap (λ rest. device.code ∷ rest) (staged_codes devices stages)

pub staged_contents : (devices : List DeviceState) (stages : List (List Bool)) → map (λ device. device.content) (with_stages devices stages) ≡ map (λ device. device.content) devices
staged_contents [] stages = refl
staged_contents (device ∷ devices) [] = refl
staged_contents (device ∷ devices) (stage ∷ stages) = ap (λ rest. device.content ∷ rest) (staged_contents devices stages)

-- the codes during a scan are as long as the instruction registers
pub length-codes_from : (group : List ℕ) (codes : List (List Bool)) (from : ℕ) (parts : List DeviceType) → length (codes_from group codes from parts) ≡ length parts
length-codes_from group codes from [] = refl
length-codes_from group codes from (part ∷ parts) = ap suc (length-codes_from group codes (suc from) parts)

pub codes_lengths : (parts : List DeviceType) (group : List ℕ) (codes : List (List Bool)) → IsGroup group (length parts) → CodesFit parts group codes
    → map length (codes_from group codes 0 parts) ≡ map (λ part. part.ir_length) parts
codes_lengths parts group codes is fit = same_entries (map length (codes_from group codes 0 parts)) (map (λ part. part.ir_length) parts)
    (λ i. elim (cases_lt i (length parts)) [ inl lt ↦ inside i (entry_within parts i lt) | inr ge ↦ past i ge ])
  where
    size : length codes ≡ length group
    size = same_length length (λ part. part.ir_length) codes (entries_at parts group) fit ∙ length-entries_at parts group is.within

    long : (i : ℕ) (part : DeviceType) → slice_get parts i ≡ Some part → (o : Option ℕ) → first_place (λ p. p == i) group ≡ o
        → length (code_or o codes (replicate part.ir_length true)) ≡ part.ir_length
    long i part at None e = length-replicate part.ir_length true
    long i part at (Some g) e =
        let here : slice_get group g ≡ Some i = placed group i g e in
        let lt : g < length codes = omega (arith, size, slice_get_within group g i here) in
        same_Some (length (slice_index_or codes g (replicate part.ir_length true))) part.ir_length
        (ap (option_map length) (sym (slice_get-get_or codes g (replicate part.ir_length true) lt)) ∙ sym (slice_get-map length codes g)
        ∙ ap (λ q. slice_get q g) fit ∙ slice_get-map (λ p. p.ir_length) (entries_at parts group) g
        ∙ ap (option_map (λ p. p.ir_length)) (entry_at parts group is.within g i here ∙ at))

    inside : (i : ℕ) → (part : DeviceType) × (slice_get parts i ≡ Some part) → slice_get (map length (codes_from group codes 0 parts)) i ≡ slice_get (map (λ part. part.ir_length) parts) i
    inside i at =
        slice_get-map length (codes_from group codes 0 parts) i ∙ ap (option_map length) (codes_at group codes parts i ∙ ap (option_map (λ part. code_during group codes i (replicate part.ir_length true))) (at.1))
        ∙ ap Some (ap length (code_during_is group codes i (replicate (at.0).ir_length true) size) ∙ long i (at.0) (at.1) (first_place (λ p. p == i) group) refl)
        ∙ sym (slice_get-map (λ part. part.ir_length) parts i ∙ ap (option_map (λ part. part.ir_length)) (at.1))

    past : (i : ℕ) → length parts ≤ i → slice_get (map length (codes_from group codes 0 parts)) i ≡ slice_get (map (λ part. part.ir_length) parts) i
    past i ge = entry_past (map length (codes_from group codes 0 parts)) i (omega (arith, ge, length-map (codes_from group codes 0 parts) length, length-codes_from group codes 0 parts))
        ∙ sym (entry_past (map (λ part. part.ir_length) parts) i (omega (arith, ge, length-map parts (λ part. part.ir_length))))

pub staged_stages : (devices : List DeviceState) (stages : List (List Bool)) → length stages ≡ length devices → dr_stages (with_stages devices stages) ≡ stages
staged_stages [] [] size = refl
staged_stages [] (stage ∷ stages) size = absurd (omega (arith, size))
staged_stages (device ∷ devices) [] size = absurd (omega (arith, size))
staged_stages (device ∷ devices) (stage ∷ stages) size = ap (λ rest. stage ∷ rest) (staged_stages devices stages (omega (arith, size)))

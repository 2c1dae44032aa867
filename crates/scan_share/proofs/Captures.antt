-- A capture of the loaded chain is the capture of the group's private chain, and of nothing else.
use Rattle.std.proofs.Common.{◌≡◌, ◌≤◌, ◌<◌, ℕ, Bool, true, List, length, map, replicate, refl, ap, sym, ◌∙◌, arith, Some, None, inl, inr}
use Rattle.std.specs.declared.option.Option.{Option}
use Rattle.std.specs.Option.{option_map}
use Rattle.std.specs.Prelude.{◌==◌, slice_get}
use Rattle.std.proofs.lemmas.Bool.{cases_lt}
use Rattle.std.proofs.lemmas.List.{length-map}
use Rattle.std.proofs.lemmas.Option.{same_Some, slice_get-map, slice_get_within}
use Rattle.grant_table.specs.Layouts.{first_place}
use Rattle.chain_model.specs.Chains.{ChainState, DeviceState}
use Rattle.chain_model.specs.Cycles.{capture_device, captured_from, counted, dr_stages}
use Rattle.part_model.specs.declared.Net.{Net}
use Rattle.part_model.specs.Parts.{selected}
use Rattle.part_model.specs.Parts.Register.{Bypass}
use Rattle.part_model.proofs.Bypass.{selected-ones}
use Rattle.scan_share.specs.PrivateChains.{entries_at}
use Rattle.scan_share.specs.Scans.{with_contents, code_during, code_list, contents_of, captured_group}
use Rattle.scan_share.proofs.Facts.{LoadedFrom, IsGroup}
use Rattle.scan_share.proofs.Lookups.{same_entries, entry_within, entry_past, length-entries_at, entry_at, placed, content_at, picked, code_or, code_during_is, codes_at, captured_entry, length-captured, length-with_codes}
use Rattle.scan_share.proofs.Geometry.{own_devices, private_of, pair_at, fresh_alike}

pub length-own : (group : List ℕ) (codes : List (List Bool)) (old : ChainState) → IsGroup group (length old.devices) → length (own_devices group codes old) ≡ length group
length-own group codes old is = length-with_codes (entries_at old.devices group) codes ∙ length-entries_at old.devices group is.within

pub as_many : (group : List ℕ) (nets : List Net) (codes : List (List Bool)) (old new : ChainState) → LoadedFrom group nets codes old new → length new.devices ≡ length old.devices
as_many group nets codes old new l = sym (length-map new.devices (λ device. device.part)) ∙ ap length l.parts ∙ length-map old.devices (λ device. device.part)

-- what a capture of the private chain makes of the device at a place of the group
own_entry : {X : Type 0} (f : DeviceState → X) (group : List ℕ) (nets : List Net) (codes : List (List Bool)) (old : ChainState) (g : ℕ) (other : DeviceState)
    → slice_get (own_devices group codes old) g ≡ Some other
    → slice_get (map f (captured_group group nets codes old).devices) g ≡ Some (f (capture_device (private_of group nets codes old) g other))
own_entry f group nets codes old g other is =
    slice_get-map f (captured_from (private_of group nets codes old) 0 (own_devices group codes old)) g
    ∙ ap (option_map f) (captured_entry (private_of group nets codes old) (own_devices group codes old) g ∙ ap (option_map (capture_device (private_of group nets codes old) g)) is)

shared_entry : {X : Type 0} (f : DeviceState → X) (new : ChainState) (place : ℕ) (one : DeviceState) → slice_get new.devices place ≡ Some one
    → slice_get (map f (captured_from new 0 new.devices)) place ≡ Some (f (capture_device new place one))
shared_entry f new place one is =
    slice_get-map f (captured_from new 0 new.devices) place
    ∙ ap (option_map f) (captured_entry new new.devices place ∙ ap (option_map (capture_device new place)) is)

-- the stages
pub stages_alike : (group : List ℕ) (nets : List Net) (codes : List (List Bool)) (old new : ChainState) → LoadedFrom group nets codes old new
    → dr_stages (captured_group group nets codes old).devices ≡ entries_at (dr_stages (captured_from new 0 new.devices)) group
stages_alike group nets codes old new l = same_entries (dr_stages (captured_group group nets codes old).devices) (entries_at (dr_stages (captured_from new 0 new.devices)) group)
    (λ i. elim (cases_lt i (length group)) [ inl lt ↦ inside i (entry_within group i lt) | inr ge ↦ past i ge ])
  where
    count : length (dr_stages (captured_from new 0 new.devices)) ≡ length old.devices
    count = length-map (captured_from new 0 new.devices) (λ device. device.dr_stage) ∙ length-captured new 0 new.devices ∙ as_many group nets codes old new l

    within : (g place : ℕ) → slice_get group g ≡ Some place → place < length (dr_stages (captured_from new 0 new.devices))
    within g place is = omega (arith, count, l.group_is.within g place is)

    inside : (i : ℕ) → (place : ℕ) × (slice_get group i ≡ Some place)
        → slice_get (dr_stages (captured_group group nets codes old).devices) i ≡ slice_get (entries_at (dr_stages (captured_from new 0 new.devices)) group) i
    inside i at =
        let pair = pair_at group nets codes old new l i (at.0) (at.1) in
        own_entry (λ device. device.dr_stage) group nets codes old i (pair.1) (pair.3)
        ∙ ap Some (fresh_alike group nets codes old new l i (at.0) (at.1) (pair.0) (pair.1) (pair.4))
        ∙ sym (entry_at (dr_stages (captured_from new 0 new.devices)) group within i (at.0) (at.1) ∙ shared_entry (λ device. device.dr_stage) new (at.0) (pair.0) (pair.2))

    own_count : length (dr_stages (captured_group group nets codes old).devices) ≡ length group
    own_count = length-map (captured_group group nets codes old).devices (λ device. device.dr_stage)
        ∙ length-captured (private_of group nets codes old) 0 (own_devices group codes old) ∙ length-own group codes old l.group_is

    past : (i : ℕ) → length group ≤ i
        → slice_get (dr_stages (captured_group group nets codes old).devices) i ≡ slice_get (entries_at (dr_stages (captured_from new 0 new.devices)) group) i
    past i ge = entry_past (dr_stages (captured_group group nets codes old).devices) i (omega (arith, ge, own_count))
        ∙ sym (entry_past (entries_at (dr_stages (captured_from new 0 new.devices)) group) i (omega (arith, ge, length-entries_at (dr_stages (captured_from new 0 new.devices)) group within)))

-- a device of no grant, or of another one, is in BYPASS
pub bypassed : (group : List ℕ) (nets : List Net) (codes : List (List Bool)) (old new : ChainState) → LoadedFrom group nets codes old new
    → (place : ℕ) (one : DeviceState) → slice_get new.devices place ≡ Some one → first_place (λ p. p == place) group ≡ None
    → selected one.part one.code ≡ Bypass
bypassed group nets codes old new l place one is none =
    let inside : place < length old.devices = omega (arith, slice_get_within new.devices place one is, as_many group nets codes old new l) in
    let was = entry_within old.devices place inside in
    let was_part : slice_get (map (λ device. device.part) old.devices) place ≡ Some (was.0).part = slice_get-map (λ device. device.part) old.devices place ∙ ap (option_map (λ device. device.part)) (was.1) in
    let code_now : slice_get (code_list new) place ≡ Some one.code = slice_get-map (λ device. device.code) new.devices place ∙ ap (option_map (λ device. device.code)) is in
    let code_is : Some one.code ≡ Some (code_during group codes place (replicate ((was.0).part).ir_length true)) =
    sym code_now ∙ ap (λ q. slice_get q place) l.codes_are ∙ codes_at group codes (map (λ device. device.part) old.devices) place
    ∙ ap (option_map (λ part. code_during group codes place (replicate part.ir_length true))) was_part in
    let ones : one.code ≡ replicate ((was.0).part).ir_length true =
    same_Some one.code (code_during group codes place (replicate ((was.0).part).ir_length true)) code_is
    ∙ code_during_is group codes place (replicate ((was.0).part).ir_length true) l.size ∙ ap (λ o. code_or o codes (replicate ((was.0).part).ir_length true)) none in
    ap (selected one.part) ones ∙ selected-ones one.part ((was.0).part).ir_length

-- the contents
pub contents_alike : (group : List ℕ) (nets : List Net) (codes : List (List Bool)) (old new : ChainState) → LoadedFrom group nets codes old new
    → map (λ device. device.content) (captured_from new 0 new.devices) ≡ with_contents group (contents_of (captured_group group nets codes old)) (contents_of old)
contents_alike group nets codes old new l = same_entries (map (λ device. device.content) (captured_from new 0 new.devices)) (with_contents group (contents_of (captured_group group nets codes old)) (contents_of old))
    (λ i. by i (first_place (λ p. p == i) group) refl ∙ sym (content_at group (contents_of (captured_group group nets codes old)) (contents_of old) l.group_is.apart own_count within i))
  where
    own_count : length (contents_of (captured_group group nets codes old)) ≡ length group
    own_count = length-map (captured_group group nets codes old).devices (λ device. device.content)
        ∙ length-captured (private_of group nets codes old) 0 (own_devices group codes old) ∙ length-own group codes old l.group_is

    within : (g place : ℕ) → slice_get group g ≡ Some place → place < length (contents_of old)
    within g place is = omega (arith, length-map old.devices (λ device. device.content), l.group_is.within g place is)

    stays : (i : ℕ) (one : DeviceState) → slice_get new.devices i ≡ Some one → selected one.part one.code ≡ Bypass
        → slice_get (map (λ device. device.content) (captured_from new 0 new.devices)) i ≡ slice_get (contents_of old) i
    stays i one is bypass =
        shared_entry (λ device. device.content) new i one is
        ∙ (λ k. Some (record one.content { captures = counted (bypass k) one.content.captures }))
        ∙ sym (ap (λ q. slice_get q i) (sym l.contents) ∙ slice_get-map (λ device. device.content) new.devices i ∙ ap (option_map (λ device. device.content)) is)

    past : (i : ℕ) → length new.devices ≤ i → slice_get (map (λ device. device.content) (captured_from new 0 new.devices)) i ≡ slice_get (contents_of old) i
    past i ge = entry_past (map (λ device. device.content) (captured_from new 0 new.devices)) i (omega (arith, ge, length-map (captured_from new 0 new.devices) (λ device. device.content), length-captured new 0 new.devices))
        ∙ sym (entry_past (contents_of old) i (omega (arith, ge, as_many group nets codes old new l, length-map old.devices (λ device. device.content))))

    by : (i : ℕ) (o : Option ℕ) → first_place (λ p. p == i) group ≡ o
        → slice_get (map (λ device. device.content) (captured_from new 0 new.devices)) i ≡ picked (first_place (λ p. p == i) group) (contents_of (captured_group group nets codes old)) (slice_get (contents_of old) i)
    by i None e = elim (cases_lt i (length new.devices)) [
      | inl lt ↦ let at = entry_within new.devices i lt in stays i (at.0) (at.1) (bypassed group nets codes old new l i (at.0) (at.1) e)
      | inr ge ↦ past i ge
    ]
        ∙ ap (λ o. picked o (contents_of (captured_group group nets codes old)) (slice_get (contents_of old) i)) (sym e)
    by i (Some g) e =
        let pair = pair_at group nets codes old new l g i (placed group i g e) in
        shared_entry (λ device. device.content) new i (pair.0) (pair.2)
        ∙ (λ k. Some (record ((pair.4).content k) { captures = counted (selected ((pair.4).part k) ((pair.4).code k)) ((pair.4).content k).captures }))
        ∙ sym (own_entry (λ device. device.content) group nets codes old g (pair.1) (pair.3))
        ∙ ap (λ o. picked o (contents_of (captured_group group nets codes old)) (slice_get (contents_of old) i)) (sym e)

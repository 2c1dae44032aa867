-- What the devices of a group capture on the shared chain is what they capture on their private chain.
use Rattle.std.proofs.Common.{◌≡◌, ◌<◌, ◌-◌, ℕ, suc, Bool, true, false, cond, ◌&&◌, List, [], ◌∷◌, length, map, replicate, refl, ap, sym, ◌∙◌, arith, Some, None, subst}
use Rattle.std.specs.declared.option.Option.{Option}
use Rattle.std.specs.Option.{option_map}
use Rattle.std.specs.Prelude.{◌==◌, slice_get}
use Rattle.std.specs.List.{cons_option, slice_index_or, find}
use Rattle.std.proofs.lemmas.Bool.{eqb-true, eqb-false, eq-eqb, ne_eqb}
use Rattle.std.proofs.lemmas.List.{get_or_default, length-map}
use Rattle.std.proofs.lemmas.Option.{same_Some, slice_get-map, slice_get_within}
use Rattle.tap_states.specs.declared.Tap.TheVariants.{CaptureDr}
use Rattle.grant_table.specs.Layouts.{first_place}
use Rattle.chain_model.specs.Chains.{ChainState, DeviceState, net_to, driven_by, pin_by, pin_values, captured_by, fresh}
use Rattle.scan_bits.specs.Registers.{bit_at}
use Rattle.part_model.specs.declared.Net.{Net}
use Rattle.part_model.specs.Parts.{Register, selected, drives}
use Rattle.part_model.specs.Parts.Register.{Bypass, Boundary, Idcode, Usercode, Named}
use Rattle.scan_share.specs.PrivateChains.{entries_at, place_in, nets_within, net_between}
use Rattle.scan_share.specs.Scans.{with_codes, code_during, code_list, group_chain}
use Rattle.scan_share.proofs.Facts.{Apart, Alike, LoadedFrom, NetsStay}
use Rattle.scan_share.proofs.Lookups.{suc_same, some_none, entry_within, length-entries_at, entry_at, found, code_or, code_during_is, codes_at, with_codes_at}

never : {A : Type 0} → true ≡ false → A
never e = absurd (let q : true ≡ false = e in cc)

-- entries of lists that are one after a map
entry_mapped : {X Y : Type 0} (f : X → Y) (xs ys : List X) (k : ℕ) (x y : X) → map f xs ≡ map f ys → slice_get xs k ≡ Some x → slice_get ys k ≡ Some y → f x ≡ f y
entry_mapped f xs ys k x y same at_x at_y =
    same_Some (f x) (f y) (ap (option_map f) (sym at_x) ∙ sym (slice_get-map f xs k) ∙ ap (λ q. slice_get q k) same ∙ slice_get-map f ys k ∙ ap (option_map f) at_y)

-- the group's devices as its private chain has them
abbrev pub own_devices : List ℕ → List (List Bool) → ChainState → List DeviceState
own_devices group codes old = with_codes (entries_at old.devices group) codes

-- the device at a place of the group, on the shared chain and on the private one
abbrev pub Pair : List ℕ → List (List Bool) → ChainState → ChainState → ℕ → ℕ → Type 0
Pair group codes old new g place = (one : DeviceState) × (other : DeviceState) × (slice_get new.devices place ≡ Some one) × (slice_get (own_devices group codes old) g ≡ Some other) × Alike one other

pub pair_at : (group : List ℕ) (nets : List Net) (codes : List (List Bool)) (old new : ChainState) → LoadedFrom group nets codes old new
    → (g place : ℕ) → slice_get group g ≡ Some place → Pair group codes old new g place
pair_at group nets codes old new l g place is =
    let inside : place < length old.devices = l.group_is.within g place is in
    let count : length new.devices ≡ length old.devices = sym (length-map new.devices (λ device. device.part)) ∙ ap length l.parts ∙ length-map old.devices (λ device. device.part) in
    let was = entry_within old.devices place inside in
    let now = entry_within new.devices place (omega (arith, inside, count)) in
    let was_part : slice_get (map (λ device. device.part) old.devices) place ≡ Some (was.0).part = slice_get-map (λ device. device.part) old.devices place ∙ ap (option_map (λ device. device.part)) (was.1) in
    let code_now : slice_get (code_list new) place ≡ Some (now.0).code = slice_get-map (λ device. device.code) new.devices place ∙ ap (option_map (λ device. device.code)) (now.1) in
    let code_is : Some (now.0).code ≡ Some (code_during group codes place (replicate ((was.0).part).ir_length true)) =
    sym code_now ∙ ap (λ q. slice_get q place) l.codes_are ∙ codes_at group codes (map (λ device. device.part) old.devices) place
    ∙ ap (option_map (λ part. code_during group codes place (replicate part.ir_length true))) was_part in
    let first : first_place (λ p. p == place) group ≡ Some g = found group l.group_is.apart g place is in
    let during : code_during group codes place (replicate ((was.0).part).ir_length true) ≡ slice_index_or codes g (replicate ((was.0).part).ir_length true) =
    code_during_is group codes place (replicate ((was.0).part).ir_length true) l.size ∙ ap (λ o. code_or o codes (replicate ((was.0).part).ir_length true)) first in
    let in_group : g < length group = slice_get_within group g place is in
    let same_length : length codes ≡ length (entries_at old.devices group) = l.size ∙ sym (length-entries_at old.devices group l.group_is.within) in (
      now.0,
      record was.0 { code = slice_index_or codes g (was.0).code },
      now.1,
      with_codes_at (entries_at old.devices group) codes g (was.0) same_length (entry_at old.devices group l.group_is.within g place is ∙ was.1),
      record {
        part = entry_mapped (λ device. device.part) new.devices old.devices place (now.0) (was.0) l.parts (now.1) (was.1);
        code = same_Some (now.0).code (code_during group codes place (replicate ((was.0).part).ir_length true)) code_is ∙ during ∙ get_or_default codes g (replicate ((was.0).part).ir_length true) (was.0).code (omega (arith, in_group, l.size));
        content = entry_mapped (λ device. device.content) new.devices old.devices place (now.0) (was.0) l.contents (now.1) (was.1);
      },
    )

-- the place of a device that counts from 1
pub place_in_suc : (group : List ℕ) (place : ℕ) → place_in group (suc place) ≡ first_place (λ p. p == place) group
place_in_suc group place = λ i. first_place (λ p. suc_same p place i) group

-- the place that a test finds passes it
pub first_found : (test : ℕ → Bool) (group : List ℕ) (g : ℕ) → first_place test group ≡ Some g → (place : ℕ) × (slice_get group g ≡ Some place) × (test place ≡ true)
first_found test [] g is = some_none g (sym is)
first_found test (first ∷ group) g is = by (first_found test group) (test first) refl
  where
    Goal : ℕ → Type 0
    Goal k = (place : ℕ) × (slice_get (first ∷ group) k ≡ Some place) × (test place ≡ true)

    mapped : (o : Option ℕ) → ((j : ℕ) → o ≡ Some j → (place : ℕ) × (slice_get group j ≡ Some place) × (test place ≡ true)) → option_map suc o ≡ Some g → Goal g
    mapped None rec e = some_none g (sym e)
    mapped (Some j) rec e = subst Goal (same_Some (suc j) g e) (rec j refl)

    by : ((j : ℕ) → first_place test group ≡ Some j → (place : ℕ) × (slice_get group j ≡ Some place) × (test place ≡ true)) → (t : Bool) → test first ≡ t → Goal g
    by rec true h =
        let e : Some 0 ≡ Some g = (rw h at is) in
        subst Goal (same_Some 0 g e) (first, refl, h)
    by rec false h = mapped (first_place test group) rec (let e = rw h at is in e)

pub in_group : (group : List ℕ) (device g : ℕ) → place_in group device ≡ Some g → (place : ℕ) × (slice_get group g ≡ Some place) × (suc place ≡ device)
in_group group device g is =
    let f = first_found (λ place. suc place == device) group g is in
    (f.0, f.1, eqb-true (suc (f.0)) device (f.2))

-- what drives a pin is alike on both chains
driven_alike : (one other : DeviceState) (cell : ℕ) (pin : Bool) → Alike one other → driven_by (Some other) cell pin ≡ driven_by (Some one) cell pin
driven_alike one other cell pin a = λ i. cond (drives (sym a.part i) (sym a.code i)) (bit_at (sym a.content i).boundary cell) pin

pin_alike : (group : List ℕ) (codes : List (List Bool)) (old new : ChainState) (from h cell : ℕ) (pin : Bool)
    → ((g place : ℕ) → slice_get group g ≡ Some place → Pair group codes old new g place)
    → place_in group from ≡ Some h
    → driven_by (slice_get (own_devices group codes old) (suc h - 1)) cell pin ≡ driven_by (slice_get new.devices (from - 1)) cell pin
pin_alike group codes old new from h cell pin pairs is =
    let at = in_group group from h is in
    let pair = pairs h (at.0) (at.1) in
    let before : suc h - 1 ≡ h = omega arith in
    let place : from - 1 ≡ at.0 = omega (arith, at.2) in
    ap (λ k. driven_by (slice_get (own_devices group codes old) k) cell pin) before ∙ ap (λ o. driven_by o cell pin) (pair.3)
    ∙ driven_alike (pair.0) (pair.1) cell pin (pair.4)
    ∙ sym (ap (λ k. driven_by (slice_get new.devices k) cell pin) place ∙ ap (λ o. driven_by o cell pin) (pair.2))

abbrev RestPins : List ℕ → List (List Bool) → ChainState → ChainState → List Net → ℕ → ℕ → ℕ → Bool → Type 0
RestPins group codes old new nets g place cell pin = pin_by (own_devices group codes old) (net_to (nets_within group nets) g cell) pin ≡ pin_by new.devices (net_to nets place cell) pin

abbrev NextPins : List ℕ → List (List Bool) → ChainState → ChainState → List Net → ℕ → ℕ → ℕ → Bool → Net → Option ℕ → Option ℕ → Bool → Bool → Type 0
NextPins group codes old new nets g place cell pin net a b t u =
    pin_by (own_devices group codes old) (find (λ n. (n.to_device == suc g) && (n.to_cell == cell)) (cons_option (net_between net a b) (nets_within group nets))) pin
    ≡ pin_by new.devices (cond (t && u) (Some net) (net_to nets place cell)) pin

pub pins_alike : (group : List ℕ) (codes : List (List Bool)) (old new : ChainState)
    → Apart group
    → ((g place : ℕ) → slice_get group g ≡ Some place → Pair group codes old new g place)
    → (nets : List Net) → NetsStay group nets
    → (g place cell : ℕ) (pin : Bool) → slice_get group g ≡ Some place
    → pin_by (own_devices group codes old) (net_to (nets_within group nets) g cell) pin ≡ pin_by new.devices (net_to nets place cell) pin
pins_alike group codes old new apart pairs [] stay g place cell pin is = refl
pins_alike group codes old new apart pairs (net ∷ nets) stay g place cell pin is =
    step (pins_alike group codes old new apart pairs nets (stay.1) g place cell pin is)
    (place_in group net.from_device) (place_in group net.to_device) refl refl (net.to_device == suc place) refl (net.to_cell == cell) refl
  where
    here : (t : Bool) → (net.to_device == suc place) ≡ t → t ≡ true → place_in group net.to_device ≡ Some g
    here t e true_is = ap (place_in group) (eqb-true net.to_device (suc place) (e ∙ true_is)) ∙ place_in_suc group place ∙ found group apart g place is

    hit : RestPins group codes old new nets g place cell pin → (h k : ℕ) → place_in group net.from_device ≡ Some h → k ≡ g → (u : Bool) → (net.to_cell == cell) ≡ u → NextPins group codes old new nets g place cell pin net (Some h) (Some k) true u
    hit rest h k from same true cell_is = rw (eq-eqb (suc k) (suc g) (ap suc same), cell_is) (pin_alike group codes old new net.from_device h net.from_cell pin pairs from)
    hit rest h k from same false cell_is = rw (eq-eqb (suc k) (suc g) (ap suc same), cell_is) rest

    other : (k : ℕ) → place_in group net.to_device ≡ Some k → (net.to_device == suc place) ≡ false → (suc k == suc g) ≡ false
    other k to h = ne_eqb (suc k) (suc g) (λ e.
        let at = in_group group net.to_device k to in
        let same : k ≡ g = omega (arith, e) in
        let place_is : at.0 ≡ place = same_Some (at.0) place (sym (at.1) ∙ ap (slice_get group) same ∙ is) in
        eqb-false net.to_device (suc place) h (sym (at.2) ∙ ap suc place_is))

    step : RestPins group codes old new nets g place cell pin → (a b : Option ℕ) → place_in group net.from_device ≡ a → place_in group net.to_device ≡ b
        → (t : Bool) → (net.to_device == suc place) ≡ t → (u : Bool) → (net.to_cell == cell) ≡ u → NextPins group codes old new nets g place cell pin net a b t u
    step rest a None from to true h u e = some_none g (sym (here true h refl) ∙ to)
    step rest None (Some k) from to true h u e =
        let drives_it = (stay.0) k to in
        some_none (drives_it.0) (sym (drives_it.1) ∙ from)
    step rest (Some h) (Some k) from to true t_is u e = hit rest h k from (same_Some k g (sym to ∙ here true t_is refl)) u e
    step rest None None from to false h u e = rest
    step rest None (Some k) from to false h u e = rest
    step rest (Some a) None from to false h u e = rest
    step rest (Some a) (Some k) from to false h u e = rw (other k to h) rest

-- the group's private chain in Capture-DR
abbrev pub private_of : List ℕ → List Net → List (List Bool) → ChainState → ChainState
private_of group nets codes old = group_chain CaptureDr group nets codes old

pub pin_values_alike : (group : List ℕ) (nets : List Net) (codes : List (List Bool)) (old new : ChainState) → LoadedFrom group nets codes old new
    → (g place : ℕ) → slice_get group g ≡ Some place → (cell : ℕ) (pins : List Bool)
    → pin_values (private_of group nets codes old) g cell pins ≡ pin_values new place cell pins
pin_values_alike group nets codes old new l g place is cell [] = refl
pin_values_alike group nets codes old new l g place is cell (pin ∷ pins) =
    let pin_is : pin_by (own_devices group codes old) (net_to (nets_within group nets) g cell) pin ≡ pin_by new.devices (net_to new.nets place cell) pin =
    pins_alike group codes old new l.group_is.apart (pair_at group nets codes old new l) nets l.stay g place cell pin is
    ∙ ap (λ ns. pin_by new.devices (net_to ns place cell) pin) (sym l.nets_are) in
    λ i. pin_is i ∷ pin_values_alike group nets codes old new l g place is (suc cell) pins i

captured_alike : (group : List ℕ) (nets : List Net) (codes : List (List Bool)) (old new : ChainState) → LoadedFrom group nets codes old new
    → (g place : ℕ) → slice_get group g ≡ Some place → (one other : DeviceState) → Alike one other → (register : Register)
    → captured_by (private_of group nets codes old) g other register ≡ captured_by new place one register
captured_alike group nets codes old new l g place is one other a Bypass = refl
captured_alike group nets codes old new l g place is one other a Boundary =
    pin_values_alike group nets codes old new l g place is 0 other.content.pins ∙ ap (λ c. pin_values new place 0 c.pins) (sym a.content)
captured_alike group nets codes old new l g place is one other a Idcode = ap (λ p. captured_by new place (record one { part = p }) Idcode) (sym a.part)
captured_alike group nets codes old new l g place is one other a Usercode = ap (λ p. p.usercode) (sym a.part)
captured_alike group nets codes old new l g place is one other a (Named at) = ap (λ c. slice_index_or c.named at []) (sym a.content)

-- the stage of a device of the group
pub fresh_alike : (group : List ℕ) (nets : List Net) (codes : List (List Bool)) (old new : ChainState) → LoadedFrom group nets codes old new
    → (g place : ℕ) → slice_get group g ≡ Some place → (one other : DeviceState) → Alike one other
    → fresh (private_of group nets codes old) g other ≡ fresh new place one
fresh_alike group nets codes old new l g place is one other a =
    captured_alike group nets codes old new l g place is one other a (selected other.part other.code)
    ∙ (λ i. captured_by new place one (selected (sym a.part i) (sym a.code i)))

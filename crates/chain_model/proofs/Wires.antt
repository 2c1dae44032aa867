-- What one net more does to the captured boundary registers.
use Rattle.std.proofs.Common.{◌≡◌, ◌≤◌, ◌<◌, ◌+◌, ◌-◌, ◌==◌, ℕ, zero, suc, Bool, true, false, ◌&&◌, cond, List, [], ◌∷◌, length, drop, slice_set, get_or, refl, sym, ◌∙◌, ap, arith}
use Rattle.std.proofs.lemmas.Bool.{eqb-true, eqb-false}
use Rattle.std.proofs.lemmas.List.{length-set}
use Rattle.std.proofs.Math.Seq.{drop-cons}
use Rattle.std.specs.List.{slice_get}
use Rattle.std.specs.declared.option.Option.{Option}
use Rattle.std.specs.declared.option.Option.TheVariants.{Some}
use Rattle.part_model.specs.declared.Net.{Net}
use Rattle.part_model.specs.Parts.{Register, selected}
use Rattle.part_model.specs.Parts.Register.{Boundary}
use Rattle.scan_bits.specs.Registers.{bit_at}
use Rattle.chain_model.specs.Chains.{ChainState, DeviceState, net_to, pin_by, pin_values, captured_by, driven_by}
use Rattle.chain_model.specs.Cycles.{captured_from, capture_device}
use Rattle.chain_model.specs.Devices.{put_where, wired_device, changed_at, wired_to, wired, net_bit, outer_bit, EachFits}

true_of : (b : Bool) → (b ≡ false → ⊥) → b ≡ true
true_of true f = refl
true_of false f = absurd (f refl)

false_of : (b : Bool) → (b ≡ true → ⊥) → b ≡ false
false_of true f = absurd (f refl)
false_of false f = refl

same : (a b : ℕ) → a ≡ b → (a == b) ≡ true
same a b is = true_of (a == b) (λ f. eqb-false a b f is)

other : (a b : ℕ) → (a ≡ b → ⊥) → (a == b) ≡ false
other a b f = false_of (a == b) (λ t. f (eqb-true a b t))

and_false : (a b : Bool) → b ≡ false → (a && b) ≡ false
and_false true b is = is
and_false false b is = refl

false_and : (a b : Bool) → a ≡ false → (a && b) ≡ false
false_and true b is = absurd (cc is)
false_and false b is = refl

both : (a b : Bool) → a ≡ true → b ≡ true → (a && b) ≡ true
both true b a_is b_is = b_is
both false b a_is b_is = absurd (cc a_is)

module _ (chain : ChainState) (net : Net) (ns : List Net) where
  abbrev with_net : ChainState
  with_net = record chain { nets = net ∷ ns }

  abbrev without : ChainState
  without = record chain { nets = ns }

  abbrev test : ℕ → ℕ → Bool
  test place cell = (net.to_device == suc place) && (net.to_cell == cell)

  abbrev chosen : ℕ → ℕ → Bool → Bool → Bool
  chosen place cell pin found = pin_by chain.devices (cond found (Some net) (net_to ns place cell)) pin

  other_pin : (place cell : ℕ) (pin : Bool) → test place cell ≡ false → pin_by chain.devices (net_to (net ∷ ns) place cell) pin ≡ pin_by chain.devices (net_to ns place cell) pin
  other_pin place cell pin is = ap (chosen place cell pin) is

  this_pin : (place cell : ℕ) (pin : Bool) → test place cell ≡ true → pin_by chain.devices (net_to (net ∷ ns) place cell) pin ≡ pin_by chain.devices (Some net) pin
  this_pin place cell pin is = ap (chosen place cell pin) is

  -- a net to another device, or to a cell before
  away : (place cell : ℕ) (pins : List Bool) → (net.to_device == suc place) ≡ false → pin_values with_net place cell pins ≡ pin_values without place cell pins
  away place cell [] is = refl
  away place cell (pin ∷ pins) is =
      λ i. other_pin place cell pin (false_and (net.to_device == suc place) (net.to_cell == cell) is) i ∷ away place (suc cell) pins is i

  behind : (place cell : ℕ) (pins : List Bool) → net.to_cell < cell → pin_values with_net place cell pins ≡ pin_values without place cell pins
  behind place cell [] lt = refl
  behind place cell (pin ∷ pins) lt =
      λ i. other_pin place cell pin (and_false (net.to_device == suc place) (net.to_cell == cell) (other net.to_cell cell (λ e. omega (arith, e, lt)))) i
      ∷ behind place (suc cell) pins (omega (arith, lt)) i

  -- the cell that it leads to
  here : (place cell k : ℕ) (pins : List Bool) → (net.to_device == suc place) ≡ true → net.to_cell ≡ cell + k
      → pin_values with_net place cell pins ≡ slice_set (pin_values without place cell pins) k (pin_by chain.devices (Some net) (bit_at pins k))
  here place cell k [] is at = refl
  here place cell zero (pin ∷ pins) is at =
      λ i. this_pin place cell pin (both (net.to_device == suc place) (net.to_cell == cell) is (same net.to_cell cell (omega (arith, at)))) i
      ∷ behind place (suc cell) pins (omega (arith, at)) i
  here place cell (suc k) (pin ∷ pins) is at =
      λ i. other_pin place cell pin (and_false (net.to_device == suc place) (net.to_cell == cell) (other net.to_cell cell (λ e. omega (arith, e, at)))) i
      ∷ here place (suc cell) k pins is (omega (arith, at)) i

  captured_away : (place : ℕ) (d : DeviceState) (register : Register) → (net.to_device == suc place) ≡ false → captured_by with_net place d register ≡ captured_by without place d register
  captured_away place d Boundary is = away place 0 d.content.pins is
  captured_away place d _ is = refl

  captured_here : (place : ℕ) (d : DeviceState) (register : Register) → (net.to_device == suc place) ≡ true
      → put_where register net.to_cell (pin_by chain.devices (Some net) (bit_at d.content.pins net.to_cell)) (captured_by without place d register) ≡ captured_by with_net place d register
  captured_here place d Boundary is = sym (here place 0 net.to_cell d.content.pins is (omega arith))
  captured_here place d _ is = refl

  abbrev stage_set : ℕ → DeviceState → List Bool → DeviceState
  stage_set place d stage = record (capture_device without place d) { dr_stage = stage }

  -- the devices before the one that it leads to, and those behind
  earlier : (place : ℕ) (ds : List DeviceState) → net.to_device ≤ place → captured_from with_net place ds ≡ captured_from without place ds
  earlier place [] le = refl
  earlier place (d ∷ ds) le =
      λ i. stage_set place d (captured_away place d (selected d.part d.code) (other net.to_device (suc place) (λ e. omega (arith, e, le))) i)
      ∷ earlier (suc place) ds (omega (arith, le)) i

  reached : (place j : ℕ) (ds : List DeviceState) (v : Bool) → net.to_device ≡ suc (place + j)
      → ((d : DeviceState) → slice_get ds j ≡ Some d → v ≡ pin_by chain.devices (Some net) (bit_at d.content.pins net.to_cell))
      → changed_at j (wired_device net.to_cell v) (captured_from without place ds) ≡ captured_from with_net place ds
  reached place j [] v at value = refl
  reached place zero (d ∷ ds) v at value =
      let put = ap (λ (bit : Bool). put_where (selected d.part d.code) net.to_cell bit (captured_by without place d (selected d.part d.code))) (value d refl)
      ∙ captured_here place d (selected d.part d.code) (same net.to_device (suc place) (omega (arith, at))) in
      λ i. stage_set place d (put i) ∷ sym (earlier (suc place) ds (omega (arith, at))) i
  reached place (suc j) (d ∷ ds) v at value =
      λ i. stage_set place d (sym (captured_away place d (selected d.part d.code) (other net.to_device (suc place) (λ e. omega (arith, e, at)))) i)
      ∷ reached (suc place) j ds v (omega (arith, at)) value i

-- captured devices drive what they drove, and their pins are as they were
driven_captured : (chain : ChainState) (place : ℕ) (ds : List DeviceState) (i cell : ℕ) (pin : Bool) → driven_by (slice_get (captured_from chain place ds) i) cell pin ≡ driven_by (slice_get ds i) cell pin
driven_captured chain place [] i cell pin = refl
driven_captured chain place (d ∷ ds) zero cell pin = refl
driven_captured chain place (d ∷ ds) (suc i) cell pin = driven_captured chain (suc place) ds i cell pin

outer_captured : (chain : ChainState) (place : ℕ) (ds : List DeviceState) (i cell : ℕ) → outer_bit (slice_get (captured_from chain place ds) i) cell ≡ outer_bit (slice_get ds i) cell
outer_captured chain place [] i cell = refl
outer_captured chain place (d ∷ ds) zero cell = refl
outer_captured chain place (d ∷ ds) (suc i) cell = outer_captured chain (suc place) ds i cell

net_captured : (chain : ChainState) (ds : List DeviceState) (net : Net) → net_bit (captured_from chain 0 ds) net ≡ net_bit ds net
net_captured chain ds net =
    driven_captured chain 0 ds (net.from_device - 1) net.from_cell (outer_bit (slice_get (captured_from chain 0 ds) (net.to_device - 1)) net.to_cell)
    ∙ ap (driven_by (slice_get ds (net.from_device - 1)) net.from_cell) (outer_captured chain 0 ds (net.to_device - 1) net.to_cell)

put_last : (chain : ChainState) (net : Net) (ns : List Net) (n : ℕ) → net.to_device ≡ n
    → wired_to n net.to_cell (net_bit (captured_from (record chain { nets = ns }) 0 chain.devices) net) (captured_from (record chain { nets = ns }) 0 chain.devices)
    ≡ captured_from (record chain { nets = net ∷ ns }) 0 chain.devices
put_last chain net ns zero is = sym (earlier chain net ns 0 chain.devices (omega (arith, is)))
put_last chain net ns (suc j) is =
    let bare : ChainState = record chain { nets = ns } in
    let e : net.to_device - 1 ≡ j = omega (arith, is) in
    let value : (d : DeviceState) → slice_get chain.devices j ≡ Some d → net_bit (captured_from bare 0 chain.devices) net ≡ pin_by chain.devices (Some net) (bit_at d.content.pins net.to_cell)
    = λ d found. net_captured bare chain.devices net
    ∙ ap (λ (o : Option DeviceState). driven_by (slice_get chain.devices (net.from_device - 1)) net.from_cell (outer_bit o net.to_cell)) (ap (slice_get chain.devices) e ∙ found) in
    reached chain net ns 0 j chain.devices (net_bit (captured_from bare 0 chain.devices) net) (omega (arith, is)) value

-- one net more is put in place
pub put_more : (chain : ChainState) (net : Net) (ns : List Net) (old now : List DeviceState) → chain.nets ≡ net ∷ ns → chain.devices ≡ old
    → now ≡ captured_from (record chain { nets = ns }) 0 old → wired net now ≡ captured_from chain 0 old
put_more chain net ns old now nets_are devices_are is =
    let now_is : now ≡ captured_from (record chain { nets = ns }) 0 chain.devices = is ∙ ap (captured_from (record chain { nets = ns }) 0) (sym devices_are) in
    let all : captured_from (record chain { nets = net ∷ ns }) 0 chain.devices ≡ captured_from chain 0 old
    = λ i. captured_from (record chain { nets = sym nets_are i }) 0 (devices_are i) in
    ap (wired net) now_is ∙ put_last chain net ns net.to_device refl ∙ all

-- a bit that is put in place keeps the lengths
length-put : (register : Register) (cell : ℕ) (bit : Bool) (bits : List Bool) → length (put_where register cell bit bits) ≡ length bits
length-put Boundary cell bit bits = length-set bits cell bit
length-put _ cell bit bits = refl

fits_changed : (j cell : ℕ) (bit : Bool) (ds : List DeviceState) → EachFits ds → EachFits (changed_at j (wired_device cell bit) ds)
fits_changed j cell bit [] fit = tt
fits_changed zero cell bit (d ∷ ds) fit = (record { long = length-put (selected d.part d.code) cell bit d.dr_stage ∙ fit.0.long }, fit.1)
fits_changed (suc j) cell bit (d ∷ ds) fit = (fit.0, fits_changed j cell bit ds fit.1)

fits_to : (n cell : ℕ) (bit : Bool) (ds : List DeviceState) → EachFits ds → EachFits (wired_to n cell bit ds)
fits_to zero cell bit ds fit = fit
fits_to (suc j) cell bit ds fit = fits_changed j cell bit ds fit

pub fits_wired : (net : Net) (ds : List DeviceState) → EachFits ds → EachFits (wired net ds)
fits_wired net ds fit = fits_to net.to_device net.to_cell (net_bit ds net) ds fit

-- a device changed in place
changed_is : (j : ℕ) (f : DeviceState → DeviceState) (ds : List DeviceState) (d v : DeviceState) → v ≡ f (get_or ds j d) → slice_set ds j v ≡ changed_at j f ds
changed_is j f [] d v is = refl
changed_is zero f (x ∷ ds) d v is = λ i. is i ∷ ds
changed_is (suc j) f (x ∷ ds) d v is = ap (λ (rest : List DeviceState). x ∷ rest) (changed_is j f ds d v is)

changed_past : (j : ℕ) (f : DeviceState → DeviceState) (ds : List DeviceState) → length ds ≤ j → changed_at j f ds ≡ ds
changed_past j f [] le = refl
changed_past zero f (x ∷ ds) le = absurd (omega (arith, le))
changed_past (suc j) f (x ∷ ds) le = ap (λ (rest : List DeviceState). x ∷ rest) (changed_past j f ds (omega (arith, le)))

one_less : (n : ℕ) → suc n - 1 ≡ n
one_less n = omega arith

pub wired_at : (n cell : ℕ) (bit : Bool) (ds : List DeviceState) (d v : DeviceState) → 1 ≤ n → v ≡ wired_device cell bit (get_or ds (n - 1) d) → slice_set ds (n - 1) v ≡ wired_to n cell bit ds
wired_at zero cell bit ds d v some is = absurd (omega (arith, some))
wired_at (suc j) cell bit ds d v some is =
    ap (λ (k : ℕ). slice_set ds k v) (one_less j) ∙ changed_is j (wired_device cell bit) ds d v (is ∙ ap (λ (k : ℕ). wired_device cell bit (get_or ds k d)) (one_less j))

pub wired_past : (n cell : ℕ) (bit : Bool) (ds : List DeviceState) → length ds ≤ n - 1 → ds ≡ wired_to n cell bit ds
wired_past zero cell bit ds le = refl
wired_past (suc j) cell bit ds le = sym (changed_past j (wired_device cell bit) ds (omega (arith, le, one_less j)))

pub dropped : (nets : List Net) (at : ℕ) (d : Net) → 1 ≤ at → at ≤ length nets → drop (at - 1) nets ≡ get_or nets (at - 1) d ∷ drop at nets
dropped nets at d some le =
    let e : suc (at - 1) ≡ at = omega (arith, some) in
    drop-cons nets (at - 1) d (omega (arith, some, le)) ∙ (λ i. get_or nets (at - 1) d ∷ drop (e i) nets)

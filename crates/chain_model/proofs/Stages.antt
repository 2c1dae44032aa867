-- The devices of a chain, one after another.
use Rattle.std.proofs.Common.{◌≡◌, ◌≤◌, ◌<◌, ◌-◌, ℕ, zero, suc, Bool, true, List, [], ◌∷◌, ◌++◌, length, map, take, drop, get_or, slice_set, refl, sym, ◌∙◌, ap, subst, arith, append_assoc}
use Rattle.std.specs.List.{slice_get}
use Rattle.std.specs.declared.option.Option.TheVariants.{None, Some}
use Rattle.std.proofs.lemmas.List.{append-nil}
use Rattle.tap_states.specs.declared.Tap.{Tap}
use Rattle.tap_states.specs.declared.Tap.TheVariants.{ShiftDr}
use Rattle.tap_states.specs.States.{next, in_dr_scan}
use Rattle.scan_bits.specs.Registers.{joined, lowest_or}
use Rattle.scan_bits.proofs.Queue.{length-shifted}
use Rattle.chain_model.specs.Chains.{ChainState, DeviceState}
use Rattle.chain_model.specs.Cycles.{captured_from, capture_device, shifted_dr, on_rise}
use Rattle.chain_model.specs.Devices.{EachFits, StageFits, ScanFits}

-- one more is captured
pub next_captured : (chain : ChainState) (ds : List DeviceState) (i j p q : ℕ) (d v : DeviceState) → i < length ds → j ≡ suc i → q ≡ suc p → v ≡ capture_device chain p (get_or ds i d)
    → take j (slice_set ds i v) ++ captured_from chain q (drop j (slice_set ds i v)) ≡ take i ds ++ captured_from chain p (drop i ds)
next_captured chain [] i j p q d v lt j_is q_is is = absurd (omega (arith, lt))
next_captured chain (x ∷ ds) zero j p q d v lt j_is q_is is = rw (j_is, q_is) (λ k. is k ∷ captured_from chain (suc p) ds)
next_captured chain (x ∷ ds) (suc i) j p q d v lt j_is q_is is =
    rw j_is (ap (λ (rest : List DeviceState). x ∷ rest) (next_captured chain ds i (suc i) p q d v (omega (arith, lt)) refl q_is is))

-- and fits
pub next_fits : (ds : List DeviceState) (i j : ℕ) (v : DeviceState) → i < length ds → j ≡ suc i → EachFits (take i ds) → StageFits v → EachFits (take j (slice_set ds i v))
next_fits [] i j v lt j_is fits fit = absurd (omega (arith, lt))
next_fits (x ∷ ds) zero j v lt j_is fits fit = subst (λ (n : ℕ). EachFits (take n (v ∷ ds))) (sym j_is) (fit, tt)
next_fits (x ∷ ds) (suc i) j v lt j_is fits fit =
    subst (λ (n : ℕ). EachFits (take n (x ∷ slice_set ds i v))) (sym j_is) (fits.0, next_fits ds i (suc i) v (omega (arith, lt)) refl fits.1 fit)

-- a shift keeps the lengths
fits_shifted : (tdi : Bool) (ds : List DeviceState) → EachFits ds → EachFits (shifted_dr tdi ds)
fits_shifted tdi [] fits = tt
fits_shifted tdi (d ∷ ds) fits = (record { long = length-shifted d.dr_stage tdi ∙ fits.0.long }, fits_shifted (lowest_or tdi d.dr_stage) ds fits.1)

pub shift_fits : (state : Tap) (chain : ChainState) (is_open tms tdi : Bool) (ds new : List DeviceState) → state ≡ ShiftDr → ScanFits state is_open ds → chain.scan_open ≡ is_open → new ≡ shifted_dr tdi ds
    → ScanFits (next state tms) (on_rise state chain tdi).scan_open new
shift_fits state chain is_open tms tdi ds new state_is fits opened new_is =
    rw state_is (record { stages = λ _ still. subst EachFits (sym new_is) (fits_shifted tdi ds (fits.stages (ap in_dr_scan state_is) (sym opened ∙ still))) })

-- the last stage that has a bit
last_joined : (f : DeviceState → List Bool) (ds : List DeviceState) (k : ℕ) (d : DeviceState) → k < length ds → joined (map f (take (suc k) ds)) ≡ f (get_or ds k d) ++ joined (map f (take k ds))
last_joined f [] k d lt = absurd (omega (arith, lt))
last_joined f (x ∷ ds) zero d lt = sym (append-nil (f x))
last_joined f (x ∷ ds) (suc k) d lt =
    ap (λ (bits : List Bool). bits ++ f x) (last_joined f ds k d (omega (arith, lt))) ∙ append_assoc (f (get_or ds k d)) (joined (map f (take k ds))) (f x)

first_bit : (stage rest : List Bool) (bit : Bool) → slice_get stage 0 ≡ Some bit → lowest_or true (stage ++ rest) ≡ bit
first_bit [] rest bit is = absurd (cc is)
first_bit (x ∷ stage) rest bit is = cc is

no_bit : (stage rest : List Bool) → slice_get stage 0 ≡ None → lowest_or true (stage ++ rest) ≡ lowest_or true rest
no_bit [] rest is = refl
no_bit (x ∷ stage) rest is = absurd (cc is)

pub out_found : (f : DeviceState → List Bool) (ds : List DeviceState) (at : ℕ) (d : DeviceState) (bit : Bool) → 1 ≤ at → at ≤ length ds → slice_get (f (get_or ds (at - 1) d)) 0 ≡ Some bit
    → lowest_or true (joined (map f (take at ds))) ≡ bit
out_found f ds at d bit some le is =
    let e : at ≡ suc (at - 1) = omega (arith, some) in
    ap (λ (n : ℕ). lowest_or true (joined (map f (take n ds)))) e ∙ ap (lowest_or true) (last_joined f ds (at - 1) d (omega (arith, some, le)))
    ∙ first_bit (f (get_or ds (at - 1) d)) (joined (map f (take (at - 1) ds))) bit is

pub out_next : (f : DeviceState → List Bool) (ds : List DeviceState) (at : ℕ) (d : DeviceState) → 1 ≤ at → at ≤ length ds → slice_get (f (get_or ds (at - 1) d)) 0 ≡ None
    → lowest_or true (joined (map f (take at ds))) ≡ lowest_or true (joined (map f (take (at - 1) ds)))
out_next f ds at d some le is =
    let e : at ≡ suc (at - 1) = omega (arith, some) in
    ap (λ (n : ℕ). lowest_or true (joined (map f (take n ds)))) e ∙ ap (lowest_or true) (last_joined f ds (at - 1) d (omega (arith, some, le)))
    ∙ no_bit (f (get_or ds (at - 1) d)) (joined (map f (take (at - 1) ds))) is

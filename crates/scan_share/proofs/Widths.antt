-- How many data bits the devices hold in a scan, and a read-out parted among them.
use Rattle.std.proofs.Common.{◌≡◌, ◌≤◌, ℕ, suc, Bool, List, [], ◌∷◌, ◌++◌, length, map, take, drop, refl, ap, sym, ◌∙◌, arith, length-append, subst}
use Rattle.std.specs.List.{sum_by}
use Rattle.std.proofs.lemmas.List.Sums.{sum_by-cons}
use Rattle.scan_bits.specs.Registers.{joined}
use Rattle.part_model.specs.Parts.{Register, selected, width, length_of}
use Rattle.part_model.specs.Parts.Register.{Bypass, Boundary, Idcode, Usercode, Named}
use Rattle.chain_model.specs.Chains.{ChainState, DeviceState, fresh, captured_by, pin_values}
use Rattle.chain_model.specs.Cycles.{captured_from, dr_stages}
use Rattle.scan_share.specs.PrivateChains.{entries_at}
use Rattle.scan_share.specs.Scans.{parted, widths_during, group_bits}
use Rattle.scan_share.proofs.Facts.{FitAll, FitsDevice}

length-pin_values : (chain : ChainState) (place cell : ℕ) (pins : List Bool) → length (pin_values chain place cell pins) ≡ length pins
length-pin_values chain place cell [] = refl
length-pin_values chain place cell (pin ∷ pins) = ap suc (length-pin_values chain place (suc cell) pins)

captured_length : (chain : ChainState) (place : ℕ) (device : DeviceState) → FitsDevice device.part device.content → (register : Register) → selected device.part device.code ≡ register
    → length (captured_by chain place device register) ≡ length_of device.part register
captured_length chain place device fits Bypass is = refl
captured_length chain place device fits Boundary is = length-pin_values chain place 0 device.content.pins ∙ fits.pins
captured_length chain place device fits Idcode is = fits.idcode
captured_length chain place device fits Usercode is = fits.usercode
captured_length chain place device fits (Named at) is = fits.named device.code at is

-- a stage is as long as its register
pub fresh_length : (chain : ChainState) (place : ℕ) (device : DeviceState) → FitsDevice device.part device.content → length (fresh chain place device) ≡ width device.part device.code
fresh_length chain place device fits = captured_length chain place device fits (selected device.part device.code) refl

pub stage_lengths : (chain : ChainState) (from : ℕ) (devices : List DeviceState) → FitAll devices
    → map length (dr_stages (captured_from chain from devices)) ≡ widths_during (map (λ device. device.part) devices) (map (λ device. device.code) devices)
stage_lengths chain from [] fit = refl
stage_lengths chain from (device ∷ devices) fit = λ i. fresh_length chain from device (fit.0) i ∷ stage_lengths chain (suc from) devices (fit.1) i

-- the bits of stages of these lengths
pub joined_length : (stages : List (List Bool)) → length (joined stages) ≡ sum_by (λ w. w) (map length stages)
joined_length [] = refl
joined_length (stage ∷ stages) = omega (arith, length-append (joined stages) stage, joined_length stages, sum_by-cons (λ w. w) (length stage) (map length stages))

-- at least one bit for a device
pub some_bits : (devices : List DeviceState) → FitAll devices → 1 ≤ length devices → 1 ≤ sum_by (λ w. w) (widths_during (map (λ device. device.part) devices) (map (λ device. device.code) devices))
some_bits [] fit some = absurd (omega (arith, some))
some_bits (device ∷ devices) fit some =
    omega (arith, fit.0.wide device.code, sum_by-cons (λ w. w) (width device.part device.code) (widths_during (map (λ device. device.part) devices) (map (λ device. device.code) devices)))

-- joined stages are parted into the stages
pub parted_joined : (stages : List (List Bool)) (widths : List ℕ) → map length stages ≡ widths → parted widths (joined stages) ≡ stages
parted_joined stages widths is = ap (λ ws. parted ws (joined stages)) (sym is) ∙ by stages
  where
    take-front : (a b : List Bool) → take (length a) (a ++ b) ≡ a
    take-front [] b = refl
    take-front (e ∷ a) b = ap (λ q. e ∷ q) (take-front a b)

    drop-front : (a b : List Bool) → drop (length a) (a ++ b) ≡ b
    drop-front [] b = refl
    drop-front (e ∷ a) b = drop-front a b

    by : (s : List (List Bool)) → parted (map length s) (joined s) ≡ s
    by [] = refl
    by (stage ∷ s) =
        let first : drop (sum_by (λ w. w) (map length s)) (joined s ++ stage) ≡ stage = ap (λ n. drop n (joined s ++ stage)) (sym (joined_length s)) ∙ drop-front (joined s) stage in
        let rest : take (sum_by (λ w. w) (map length s)) (joined s ++ stage) ≡ joined s = ap (λ n. take n (joined s ++ stage)) (sym (joined_length s)) ∙ take-front (joined s) stage in
        λ i. first i ∷ (ap (parted (map length s)) rest ∙ by s) i

-- the group's bits of a read-out
pub group_bits_are : (group : List ℕ) (widths : List ℕ) (stages : List (List Bool)) → map length stages ≡ widths → group_bits group widths (joined stages) ≡ joined (entries_at stages group)
group_bits_are group widths stages is = ap (λ s. joined (entries_at s group)) (parted_joined stages widths is)

-- what a load keeps
pub fit_same : (one other : List DeviceState) → map (λ device. device.part) one ≡ map (λ device. device.part) other → map (λ device. device.content) one ≡ map (λ device. device.content) other → FitAll other → FitAll one
fit_same [] [] parts contents fit = fit
fit_same [] (o ∷ other) parts contents fit = absurd (omega (arith, ap length parts))
fit_same (o ∷ one) [] parts contents fit = absurd (omega (arith, ap length parts))
fit_same (o ∷ one) (d ∷ other) parts contents fit = (
  subst (λ p. FitsDevice p o.content) (sym (ap (first_of d.part) parts)) (subst (λ c. FitsDevice d.part c) (sym (ap (first_of d.content) contents)) (fit.0)),
  fit_same one other (ap rest_of parts) (ap rest_of contents) (fit.1),
)
  where
    first_of : {X : Type 0} → X → List X → X
    first_of x [] = x
    first_of x (y ∷ ys) = y

    rest_of : {X : Type 0} → List X → List X
    rest_of [] = []
    rest_of (y ∷ ys) = ys

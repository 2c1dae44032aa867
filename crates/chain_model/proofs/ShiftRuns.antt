-- Cycles with TMS 0 in Shift-DR, many at once.
use Rattle.std.proofs.Common.{◌≡◌, ◌≤◌, ◌<◌, ◌+◌, ◌*◌, ◌/◌, ◌%◌, ◌^◌, ◌==◌, ℕ, zero, suc, Bool, true, List, [], ◌∷◌, ◌++◌, length, drop, get_or, is_some, refl, sym, ◌∙◌, ap, subst, arith, length-append}
use Rattle.std.specs.List.{slice_get}
use Rattle.std.proofs.Math.Nat.{pow-suc, mod-eq_of_lt}
use Rattle.tap_states.specs.declared.Tap.{Tap}
use Rattle.tap_states.specs.declared.Tap.TheVariants.{ShiftDr}
use Rattle.scan_bits.specs.Words.{bit_value, bits_of, number_of}
use Rattle.scan_bits.specs.Registers.{lowest_or, shifted, shifted_all, shifted_out, joined}
use Rattle.scan_bits.proofs.Queue.{length-shifted, length-shifted_all, length-shifted_out}
use Rattle.scan_bits.proofs.WordLaws.{length-bits_of, bits_of-number_of, number_of-bits_of}
use Rattle.part_model.specs.declared.Net.{Net}
use Rattle.chain_model.specs.Chains.{ChainState, DeviceState}
use Rattle.chain_model.specs.Cycles.{shifted_dr, dr_stages, after_cycles, answers, clocks_of}
use Rattle.chain_model.specs.Devices.{EachFits, ScanFits, run_dr, out_dr}
use Rattle.chain_model.proofs.Rows.{joined-dr}

-- the first shift of a row, and the others
pub next_run : (tdi : Bool) (bits : List Bool) (devices : List DeviceState) → run_dr (tdi ∷ bits) devices ≡ run_dr bits (shifted_dr tdi devices)
next_run tdi bits [] = refl
next_run tdi bits (device ∷ devices) =
    ap (λ (rest : List DeviceState). record device { dr_stage = shifted_all (shifted device.dr_stage tdi) bits } ∷ rest)
    (next_run (lowest_or tdi device.dr_stage) (shifted_out (shifted device.dr_stage tdi) bits) devices)

no_run : (devices : List DeviceState) → run_dr [] devices ≡ devices
no_run [] = refl
no_run (device ∷ devices) = ap (λ (rest : List DeviceState). device ∷ rest) (no_run devices)

lowest-append : (front back : List Bool) (bit : Bool) → lowest_or (lowest_or bit back) front ≡ lowest_or bit (front ++ back)
lowest-append [] back bit = refl
lowest-append (first ∷ front) back bit = refl

pub next_out : (tdi : Bool) (bits : List Bool) (devices : List DeviceState) → out_dr (tdi ∷ bits) devices ≡ lowest_or tdi (joined (dr_stages devices)) ∷ out_dr bits (shifted_dr tdi devices)
next_out tdi bits [] = refl
next_out tdi bits (device ∷ devices) =
    next_out (lowest_or tdi device.dr_stage) (shifted_out (shifted device.dr_stage tdi) bits) devices
    ∙ ap (λ (first : Bool). first ∷ out_dr (shifted_out (shifted device.dr_stage tdi) bits) (shifted_dr (lowest_or tdi device.dr_stage) devices))
    (lowest-append (joined (dr_stages devices)) device.dr_stage tdi)

no_out : (devices : List DeviceState) → out_dr [] devices ≡ []
no_out [] = refl
no_out (device ∷ devices) = no_out devices

lowest-some : (bits : List Bool) (a b : Bool) → 1 ≤ length bits → lowest_or a bits ≡ lowest_or b bits
lowest-some [] a b some = absurd (omega (arith, some))
lowest-some (bit ∷ bits) a b some = refl

some_shifted : (devices : List DeviceState) (tdi : Bool) → 1 ≤ length (joined (dr_stages devices)) → 1 ≤ length (joined (dr_stages (shifted_dr tdi devices)))
some_shifted devices tdi some = omega (arith, some, ap length (joined-dr devices tdi), length-shifted (joined (dr_stages devices)) tdi)

-- a chain in Shift-DR, and one whose TDO is the lowest bit of its stages
abbrev pub shifting : ChainState → ChainState
shifting chain = record chain { state = ShiftDr }

abbrev pub with_out : List DeviceState → ChainState → ChainState
with_out devices chain = record chain { tdo = lowest_or true (joined (dr_stages devices)); devices = devices }

ran_on : (n tdi : ℕ) (devices : List DeviceState) (chain : ChainState) → after_cycles (clocks_of n 0 tdi) (shifting (with_out devices chain)) ≡ shifting (with_out (run_dr (bits_of n tdi) devices) chain)
ran_on zero tdi devices chain = ap (λ (ds : List DeviceState). shifting (with_out ds chain)) (sym (no_run devices))
ran_on (suc n) tdi devices chain =
    ran_on n (tdi / 2) (shifted_dr (tdi % 2 == 1) devices) chain
    ∙ ap (λ (ds : List DeviceState). shifting (with_out ds chain)) (sym (next_run (tdi % 2 == 1) (bits_of n (tdi / 2)) devices))

ran_from : (n tdi : ℕ) (chain : ChainState) → 1 ≤ n → after_cycles (clocks_of n 0 tdi) (shifting chain) ≡ shifting (with_out (run_dr (bits_of n tdi) chain.devices) chain)
ran_from zero tdi chain some = absurd (omega (arith, some))
ran_from (suc n) tdi chain some =
    ran_on n (tdi / 2) (shifted_dr (tdi % 2 == 1) chain.devices) chain
    ∙ ap (λ (ds : List DeviceState). shifting (with_out ds chain)) (sym (next_run (tdi % 2 == 1) (bits_of n (tdi / 2)) chain.devices))

-- the chain after a row of cycles
pub ran : (n tdi : ℕ) (chain : ChainState) → 1 ≤ n → chain.state ≡ ShiftDr → after_cycles (clocks_of n 0 tdi) chain ≡ with_out (run_dr (bits_of n tdi) chain.devices) chain
ran n tdi chain some is =
    (λ i. after_cycles (clocks_of n 0 tdi) (record chain { state = is i })) ∙ ran_from n tdi chain some
    ∙ (λ i. record (with_out (run_dr (bits_of n tdi) chain.devices) chain) { state = sym is i })

answered_on : (n tdi : ℕ) (devices : List DeviceState) (chain : ChainState) → 1 ≤ length (joined (dr_stages devices)) → answers (clocks_of n 0 tdi) (shifting (with_out devices chain)) ≡ out_dr (bits_of n tdi) devices
answered_on zero tdi devices chain some = sym (no_out devices)
answered_on (suc n) tdi devices chain some =
    let bit = tdi % 2 == 1 in
    (λ i. lowest-some (joined (dr_stages devices)) true bit some i ∷ answered_on n (tdi / 2) (shifted_dr bit devices) chain (some_shifted devices bit some) i)
    ∙ sym (next_out bit (bits_of n (tdi / 2)) devices)

answered_from : (n tdi : ℕ) (chain : ChainState) → 1 ≤ n → 1 ≤ length (joined (dr_stages chain.devices)) → answers (clocks_of n 0 tdi) (shifting chain) ≡ chain.tdo ∷ drop 1 (out_dr (bits_of n tdi) chain.devices)
answered_from zero tdi chain one some = absurd (omega (arith, one))
answered_from (suc n) tdi chain one some =
    let bit = tdi % 2 == 1 in
    ap (λ (rest : List Bool). chain.tdo ∷ rest)
    (answered_on n (tdi / 2) (shifted_dr bit chain.devices) chain (some_shifted chain.devices bit some) ∙ sym (ap (λ (bits : List Bool). drop 1 bits) (next_out bit (bits_of n (tdi / 2)) chain.devices)))

-- what a row of cycles answers: TDO as it stands, and then what leaves, but for the first bit
pub answered : (n tdi : ℕ) (chain : ChainState) → 1 ≤ n → chain.state ≡ ShiftDr → 1 ≤ length (joined (dr_stages chain.devices)) → answers (clocks_of n 0 tdi) chain ≡ chain.tdo ∷ drop 1 (out_dr (bits_of n tdi) chain.devices)
answered n tdi chain one is some = (λ i. answers (clocks_of n 0 tdi) (record chain { state = is i })) ∙ answered_from n tdi chain one some

-- a row of shifts keeps the lengths
pub fits_run : (bits : List Bool) (devices : List DeviceState) → EachFits devices → EachFits (run_dr bits devices)
fits_run bits [] fits = tt
fits_run bits (device ∷ devices) fits = (record { long = length-shifted_all device.dr_stage bits ∙ fits.0.long }, fits_run (shifted_out device.dr_stage bits) devices fits.1)

-- what goes through a stage without a bit
pub empty_out : (stage bits : List Bool) → length stage ≡ 0 → shifted_out stage bits ≡ bits
empty_out [] [] none = refl
empty_out [] (bit ∷ bits) none = ap (λ (rest : List Bool). bit ∷ rest) (empty_out [] bits none)
empty_out (first ∷ stage) bits none = absurd (omega (arith, none))

pub empty_stage : (stage bits : List Bool) → length stage ≡ 0 → shifted_all stage bits ≡ stage
empty_stage [] [] none = refl
empty_stage [] (bit ∷ bits) none = empty_stage [] bits none
empty_stage (first ∷ stage) bits none = absurd (omega (arith, none))

-- the bits of the word that left
pub word_out : (stage : List Bool) (n tdi word : ℕ) → word ≡ number_of (shifted_out stage (bits_of n tdi)) → bits_of n word ≡ shifted_out stage (bits_of n tdi)
word_out stage n tdi word is =
    let long : length (shifted_out stage (bits_of n tdi)) ≡ n = length-shifted_out stage (bits_of n tdi) ∙ length-bits_of n tdi in
    (λ i. bits_of (sym long i) (is i)) ∙ bits_of-number_of (shifted_out stage (bits_of n tdi))

some_bit : (stage : List Bool) → is_some (slice_get stage 0) ≡ true → 1 ≤ length stage
some_bit [] is = absurd (cc is)
some_bit (bit ∷ stage) is = omega arith

-- where the last stage has a bit, the joined stages have one
pub some_last : (devices : List DeviceState) (last : ℕ) (d : DeviceState) → last < length devices → length devices ≤ last + 1 → is_some (slice_get (get_or devices last d).dr_stage 0) ≡ true → 1 ≤ length (joined (dr_stages devices))
some_last [] last d lt end is = absurd (omega (arith, lt))
some_last (device ∷ devices) zero d lt end is = omega (arith, length-append (joined (dr_stages devices)) device.dr_stage, some_bit device.dr_stage is)
some_last (device ∷ devices) (suc last) d lt end is =
    omega (arith, length-append (joined (dr_stages devices)) device.dr_stage, some_last devices last d (omega (arith, lt)) (omega (arith, end)) is)

-- the word of a row of cycles
pub run_answers : (n tdi out word : ℕ) (chain : ChainState) → 1 ≤ n → chain.state ≡ ShiftDr → 1 ≤ length (joined (dr_stages chain.devices))
    → bits_of n out ≡ out_dr (bits_of n tdi) chain.devices → out < 2 ^ n → word ≡ out / 2 * 2 + bit_value chain.tdo → word ≡ number_of (answers (clocks_of n 0 tdi) chain)
run_answers zero tdi out word chain one is some bits small word_is = absurd (omega (arith, one))
run_answers (suc n) tdi out word chain one is some bits small word_is =
    let half : out / 2 < 2 ^ n = omega (arith, small, pow-suc 2 n) in
    let rest : number_of (bits_of n (out / 2)) ≡ out / 2 = number_of-bits_of n (out / 2) ∙ mod-eq_of_lt half in
    let left : drop 1 (out_dr (bits_of (suc n) tdi) chain.devices) ≡ bits_of n (out / 2) = ap (λ (bits : List Bool). drop 1 bits) (sym bits) in
    word_is ∙ omega (arith, rest) ∙ sym (ap number_of (answered (suc n) tdi chain one is some ∙ ap (λ (bits : List Bool). chain.tdo ∷ bits) left))

pub run_bound : (n out word bit : ℕ) → 1 ≤ n → out < 2 ^ n → bit < 2 → word ≡ out / 2 * 2 + bit → word < 2 ^ n
run_bound zero out word bit one small two is = absurd (omega (arith, one))
run_bound (suc n) out word bit one small two is = omega (arith, small, two, is, pow-suc 2 n)

-- a chain whose devices made a row of shifts
pub run_after : (n tdi sent : ℕ) (chain : ChainState) (new : List DeviceState) (nets : List Net) (tdo : Bool) → 1 ≤ n → chain.state ≡ ShiftDr → bits_of n sent ≡ bits_of n tdi
    → new ≡ run_dr (bits_of n sent) chain.devices → nets ≡ chain.nets → tdo ≡ lowest_or true (joined (dr_stages new)) → record chain { tdo = tdo; devices = new; nets = nets } ≡ after_cycles (clocks_of n 0 tdi) chain
run_after n tdi sent chain new nets tdo one is sent_is new_is nets_is tdo_is =
    let now : new ≡ run_dr (bits_of n tdi) chain.devices = new_is ∙ ap (λ (bits : List Bool). run_dr bits chain.devices) sent_is in
    let out : tdo ≡ lowest_or true (joined (dr_stages (run_dr (bits_of n tdi) chain.devices))) = tdo_is ∙ ap (λ (ds : List DeviceState). lowest_or true (joined (dr_stages ds))) now in
    (λ i. record chain { tdo = out i; devices = now i; nets = nets_is i }) ∙ sym (ran n tdi chain one is)

pub run_fits : (state : Tap) (is_open : Bool) (bits : List Bool) (devices new : List DeviceState) → new ≡ run_dr bits devices → ScanFits state is_open devices → ScanFits state is_open new
run_fits state is_open bits devices new is fits = record { stages = λ in_scan still. subst EachFits (sym is) (fits_run bits devices (fits.stages in_scan still)) }

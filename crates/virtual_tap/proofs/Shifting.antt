-- Instruction registers, one and one after another.
use Rattle.std.proofs.Common.{◌≡◌, ◌≤◌, ◌<◌, ◌^◌, ◌+◌, ℕ, zero, suc, Bool, List, [], ◌∷◌, ◌++◌, length, map, take, drop, get_or, slice_set, refl, sym, ap, subst, ◌∙◌, arith}
use Rattle.std.proofs.Math.Nat.{mod-eq_of_lt}
use Rattle.scan_bits.specs.BitLists.{BitList}
use Rattle.scan_bits.specs.Words.{bits_of, number_of}
use Rattle.scan_bits.specs.Registers.{bit_at, joined, lowest_or, shifted_all, shifted_out}
use Rattle.scan_bits.proofs.WordLaws.{length-bits_of, bits_of-number_of, bits_of-zero, number_of-bits_of}
use Rattle.scan_bits.proofs.Queue.{length-shifted_all, length-shifted_out}
use Rattle.part_model.specs.Parts.{DeviceType}
use Rattle.virtual_tap.specs.Instructions.{InstructionState, StageFits, SpellCodes, at_power_up, shifted_in, shifted_through, out_of, parts_of, stages_of}

-- ---- one register

nothing_left : {X : Type 0} (n : ℕ) (xs : List X) → length xs ≤ n → drop n xs ≡ []
nothing_left zero [] le = refl
nothing_left (suc n) [] le = refl
nothing_left zero (x ∷ xs) le = absurd (omega (arith, le))
nothing_left (suc n) (x ∷ xs) le = nothing_left n xs (omega (arith, le))

none_behind : (xs : List Bool) → xs ++ [] ≡ xs
none_behind [] = refl
none_behind (x ∷ xs) = ap (λ (l : List Bool). x ∷ l) (none_behind xs)

-- the whole stage is written over
pub rewritten : (part : DeviceType) (old new : BitList) (n value : ℕ) → StageFits part old.bits → n ≡ part.ir_length → new ≡ record old { bits = bits_of n value ++ drop (0 + n) old.bits } → new.bits ≡ bits_of part.ir_length value
rewritten part old new n value fits n_is is =
    ap (λ (list : BitList). list.bits) is
    ∙ ap (λ (rest : List Bool). bits_of n value ++ rest) (nothing_left (0 + n) old.bits (omega (arith, n_is, fits.long)))
    ∙ none_behind (bits_of n value)
    ∙ ap (λ (k : ℕ). bits_of k value) n_is

pub rewritten_fits : (part : DeviceType) (old new : BitList) (n value : ℕ) → StageFits part old.bits → n ≡ part.ir_length → new ≡ record old { bits = bits_of n value ++ drop (0 + n) old.bits } → StageFits part new.bits
rewritten_fits part old new n value fits n_is is = record {
  long = ap (λ (bits : List Bool). length bits) (rewritten part old new n value fits n_is is) ∙ length-bits_of part.ir_length value;
  some = fits.some;
  few = fits.few;
}

pub rewritten_zeros : (part : DeviceType) (old new : BitList) (n : ℕ) → StageFits part old.bits → n ≡ part.ir_length → new ≡ record old { bits = bits_of n 0 ++ drop (0 + n) old.bits } → record { part = part; stage = new.bits } ≡ at_power_up part
rewritten_zeros part old new n fits n_is is = λ i. record { part = part; stage = (rewritten part old new n 0 fits n_is is ∙ bits_of-zero part.ir_length) i }

pub shifted_fits : (part : DeviceType) (old new : BitList) (bits : List Bool) → StageFits part old.bits → new ≡ record old { bits = shifted_all old.bits bits } → StageFits part new.bits
shifted_fits part old new bits fits is = record {
  long = ap (λ (list : BitList). length list.bits) is ∙ length-shifted_all old.bits bits ∙ fits.long;
  some = fits.some;
  few = fits.few;
}

-- ---- one after another

-- the word that leaves a register has the bits that leave it
pub word_out : (stage : List Bool) (n word out : ℕ) → out ≡ number_of (shifted_out stage (bits_of n word)) → bits_of n out ≡ shifted_out stage (bits_of n word)
word_out stage n word out is =
    let long : length (shifted_out stage (bits_of n word)) ≡ n = length-shifted_out stage (bits_of n word) ∙ length-bits_of n word in
    (λ i. bits_of (sym long i) (is i)) ∙ bits_of-number_of (shifted_out stage (bits_of n word))

pub next_shifted : (rs : List InstructionState) (i j : ℕ) (bits out : List Bool) (d v : InstructionState) → i < length rs → j ≡ suc i → v ≡ shifted_in bits (get_or rs i d) → out ≡ shifted_out (get_or rs i d).stage bits
    → take j (slice_set rs i v) ++ shifted_through out (drop j (slice_set rs i v)) ≡ take i rs ++ shifted_through bits (drop i rs)
next_shifted [] i j bits out d v lt j_is is out_is = absurd (omega (arith, lt))
next_shifted (r ∷ rs) zero j bits out d v lt j_is is out_is = rw j_is (λ k. is k ∷ shifted_through (out_is k) rs)
next_shifted (r ∷ rs) (suc i) j bits out d v lt j_is is out_is =
    rw j_is (ap (λ (rest : List InstructionState). r ∷ rest) (next_shifted rs i (suc i) bits out d v (omega (arith, lt)) refl is out_is))

pub next_out : (rs : List InstructionState) (i j : ℕ) (bits out : List Bool) (d v : InstructionState) → i < length rs → j ≡ suc i → out ≡ shifted_out (get_or rs i d).stage bits
    → out_of out (drop j (slice_set rs i v)) ≡ out_of bits (drop i rs)
next_out [] i j bits out d v lt j_is out_is = absurd (omega (arith, lt))
next_out (r ∷ rs) zero j bits out d v lt j_is out_is = rw j_is (λ k. out_of (out_is k) rs)
next_out (r ∷ rs) (suc i) j bits out d v lt j_is out_is = rw j_is (next_out rs i (suc i) bits out d v (omega (arith, lt)) refl out_is)

pub last_out : (rs : List InstructionState) (i n word : ℕ) (out : List Bool) → length rs ≤ i → word < 2 ^ n → out_of (bits_of n word) (drop i rs) ≡ out → word ≡ number_of out
last_out rs i n word out le lt is =
    sym (mod-eq_of_lt lt) ∙ sym (number_of-bits_of n word) ∙ ap (λ (left : List InstructionState). number_of (out_of (bits_of n word) left)) (sym (nothing_left i rs le)) ∙ ap number_of is

-- ---- the bit nearest TDO

lowest_joined : (default : Bool) (front back : List Bool) → lowest_or default (front ++ back) ≡ lowest_or (lowest_or default back) front
lowest_joined default [] back = refl
lowest_joined default (bit ∷ front) back = refl

lowest_there : (default : Bool) (bits : List Bool) → 1 ≤ length bits → lowest_or default bits ≡ bit_at bits 0
lowest_there default [] some = absurd (omega (arith, some))
lowest_there default (bit ∷ bits) some = refl

pub outlet : (rs : List InstructionState) (k : ℕ) (d : InstructionState) (default : Bool) → suc k ≡ length rs → 1 ≤ length (get_or rs k d).stage → lowest_or default (joined (stages_of rs)) ≡ bit_at (get_or rs k d).stage 0
outlet [] k d default last some = absurd (omega (arith, last))
outlet (r ∷ []) zero d default last some = lowest_there default r.stage some
outlet (r ∷ []) (suc k) d default last some = absurd (omega (arith, last))
outlet (r ∷ s ∷ rs) zero d default last some = absurd (omega (arith, last))
outlet (r ∷ s ∷ rs) (suc k) d default last some = lowest_joined default (joined (stages_of (s ∷ rs))) r.stage ∙ outlet (s ∷ rs) k d (lowest_or default r.stage) (omega (arith, last)) some

-- ---- codes

pub next_coded : (code : InstructionState → List Bool) (rs : List InstructionState) (words : List ℕ) (i j w : ℕ) (d : InstructionState) → i < length rs → length words ≡ length rs → j ≡ suc i
    → SpellCodes (parts_of (take i rs)) (take i words) (map code (take i rs)) → bits_of (get_or rs i d).part.ir_length w ≡ code (get_or rs i d) → w < 2 ^ (get_or rs i d).part.ir_length
    → SpellCodes (parts_of (take j rs)) (take j (slice_set words i w)) (map code (take j rs))
next_coded code [] words i j w d lt long j_is coded is bound = absurd (omega (arith, lt))
next_coded code (r ∷ rs) [] i j w d lt long j_is coded is bound = absurd (let e : 0 ≡ suc (length rs) = long in omega (arith, e))
next_coded code (r ∷ rs) (word ∷ words) zero j w d lt long j_is coded is bound =
    subst (λ (n : ℕ). SpellCodes (parts_of (take n (r ∷ rs))) (take n (w ∷ words)) (map code (take n (r ∷ rs)))) (sym j_is) (is, bound, tt)
next_coded code (r ∷ rs) (word ∷ words) (suc i) j w d lt long j_is coded is bound =
    subst (λ (n : ℕ). SpellCodes (parts_of (take n (r ∷ rs))) (take n (word ∷ slice_set words i w)) (map code (take n (r ∷ rs)))) (sym j_is)
    (coded.0, coded.1, next_coded code rs words i (suc i) w d (omega (arith, lt)) (omega (arith, long)) refl coded.2 is bound)

pub all_coded : (code : InstructionState → List Bool) (rs : List InstructionState) (words : List ℕ) (n : ℕ) → length words ≡ length rs → length words ≤ n
    → SpellCodes (parts_of (take n rs)) (take n words) (map code (take n rs)) → SpellCodes (parts_of rs) words (map code rs)
all_coded code [] [] n long le coded = tt
all_coded code [] (word ∷ words) n long le coded = absurd (let e : suc (length words) ≡ 0 = long in omega (arith, e))
all_coded code (r ∷ rs) [] n long le coded = absurd (let e : 0 ≡ suc (length rs) = long in omega (arith, e))
all_coded code (r ∷ rs) (word ∷ words) zero long le coded = absurd (omega (arith, le))
all_coded code (r ∷ rs) (word ∷ words) (suc n) long le coded = (coded.0, coded.1, all_coded code rs words n (omega (arith, long)) (omega (arith, le)) coded.2)

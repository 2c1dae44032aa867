-- Codes of patterns, and what holds of a plan whose codes are not refused.
use Rattle.std.proofs.Common.{◌≡◌, ℕ, zero, suc, ◌-◌, ◌*◌, ◌<◌, ◌≤◌, ◌/◌, ◌%◌, ◌^◌, ◌==◌, nat_lt, Bool, true, false, not, ◌||◌, List, [], ◌∷◌, length, replicate, refl, ap, ◌∙◌, arith}
use Rattle.std.specs.declared.option.Option.{Option}
use Rattle.std.specs.declared.option.Option.TheVariants.{None, Some}
use Rattle.std.proofs.Math.Nat.{pow-suc}
use Rattle.std.proofs.lemmas.Nat.{pow_pos}
use Rattle.std.proofs.lemmas.Nat.Bits.{ones_shr}
use Rattle.std.proofs.lemmas.Bool.{not-false, eqb-true, ltb-false}
use Rattle.scan_bits.specs.Words.{bits_of, number_of}
use Rattle.scan_bits.proofs.WordLaws.{bits_of-number_of}
use Rattle.part_model.specs.declared.Digit.{Digit}
use Rattle.part_model.specs.declared.Digit.TheVariants.{Zero, One, Any}
use Rattle.part_model.specs.declared.Field.TheVariants.{InstructionLength, InstructionOpcode, InstructionCapture, IdcodeRegister, UsercodeRegister}
use Rattle.part_model.specs.declared.plan.PlanRefusal.{PlanRefusal}
use Rattle.part_model.specs.declared.Field.{Field}
use Rattle.part_model.specs.Plans.{PartAttributes, bits_of_pattern, wrong_length, wrong_option, any_of_another_length, captures_01, code_refusal, length_refusal, pattern_refusal, or_else, refuse_if}

positive : (count : ℕ) → 0 < 2 ^ count
positive count = pow_pos count

ones_bits : (count : ℕ) → bits_of count (2 ^ count - 1) ≡ replicate count true
ones_bits zero = refl
ones_bits (suc count) =
    let twice : 2 ^ suc count ≡ 2 * 2 ^ count = rw pow-suc (omega arith) in
    let some : 0 < 2 ^ count = positive count in
    let odd : (2 ^ suc count - 1) % 2 ≡ 1 = omega (arith, twice, some) in
    let half : (2 ^ suc count - 1) / 2 ≡ 2 ^ count - 1 = omega (arith, twice, some) in
    rw (odd, half) (ap (λ bits. true ∷ bits) (ones_bits count))

pub all_ones_are : (count : ℕ) → count ≤ 64 → bits_of count ((2 ^ 64 - 1) / 2 ^ (64 - count)) ≡ replicate count true
all_ones_are count le =
    let shifted : (2 ^ 64 - 1) / 2 ^ (64 - count) ≡ 2 ^ (64 - (64 - count)) - 1 = ones_shr 64 (64 - count) (omega arith) in
    let same : 64 - (64 - count) ≡ count = omega (arith, le) in
    ap (bits_of count) (shifted ∙ ap (λ n. 2 ^ n - 1) same) ∙ ones_bits count

pub all_ones_below : (count : ℕ) → count ≤ 64 → (2 ^ 64 - 1) / 2 ^ (64 - count) < 2 ^ count
all_ones_below count le =
    let shifted : (2 ^ 64 - 1) / 2 ^ (64 - count) ≡ 2 ^ (64 - (64 - count)) - 1 = ones_shr 64 (64 - count) (omega arith) in
    let same : 64 - (64 - count) ≡ count = omega (arith, le) in
    let all : (2 ^ 64 - 1) / 2 ^ (64 - count) ≡ 2 ^ count - 1 = shifted ∙ ap (λ n. 2 ^ n - 1) same in
    omega (arith, all, positive count)

pub length-pattern : (digits : List Digit) → length (bits_of_pattern digits) ≡ length digits
length-pattern [] = refl
length-pattern (Zero ∷ digits) = omega (arith, length-pattern digits)
length-pattern (One ∷ digits) = omega (arith, length-pattern digits)
length-pattern (Any ∷ digits) = omega (arith, length-pattern digits)

pub code_bits : (digits : List Digit) (count code : ℕ) → length digits ≡ count → code ≡ number_of (bits_of_pattern digits) → bits_of count code ≡ bits_of_pattern digits
code_bits digits count code long is = rw (is, ← long, ← length-pattern digits) (bits_of-number_of (bits_of_pattern digits))

pub right_length : (count : ℕ) (pattern : List Digit) → wrong_length count pattern ≡ false → length pattern ≡ count
right_length count pattern is = eqb-true (length pattern) count (not-false (length pattern == count) is)

-- ---- a plan whose codes are not refused

pub record Coded (plan : PartAttributes) : Type 0 where
  pub some : 2 ≤ plan.ir_len
  pub most : plan.ir_len ≤ 64
  pub patterns : any_of_another_length plan.ir_len plan.opcodes ≡ false
  pub capture : length plan.capture ≡ plan.ir_len
  pub idcode : wrong_option plan.idcode ≡ false
  pub usercode : wrong_option plan.usercode ≡ false
  pub ends : captures_01 (bits_of_pattern plan.capture) ≡ true

pub first_none : (first next : Option PlanRefusal) → or_else first next ≡ None → (first ≡ None) × (next ≡ None)
first_none None next is = (refl, is)
first_none (Some refusal) next is = absurd (cc is)

pub refuse_none : (test : Bool) (cause : ℕ) (field : Field) → refuse_if test cause field ≡ None → test ≡ false
refuse_none true cause field is = absurd (cc is)
refuse_none false cause field is = refl

pub both_false : (x y : Bool) → (x || y) ≡ false → (x ≡ false) × (y ≡ false)
both_false true y is = absurd (cc is)
both_false false y is = (refl, is)

pub coded : (plan : PartAttributes) → code_refusal plan ≡ None → Coded plan
coded plan is =
    let a = first_none (length_refusal plan) (or_else (pattern_refusal plan) (refuse_if (not (captures_01 (bits_of_pattern plan.capture))) 3 InstructionCapture)) is in
    let b = first_none (pattern_refusal plan) (refuse_if (not (captures_01 (bits_of_pattern plan.capture))) 3 InstructionCapture) a.1 in
    let range = both_false (nat_lt plan.ir_len 2) (nat_lt 64 plan.ir_len) (refuse_none (nat_lt plan.ir_len 2 || nat_lt 64 plan.ir_len) 1 InstructionLength a.0) in
    let p = first_none (refuse_if (any_of_another_length plan.ir_len plan.opcodes) 2 InstructionOpcode) (or_else (refuse_if (wrong_length plan.ir_len plan.capture) 2 InstructionCapture) (or_else (refuse_if (wrong_option plan.idcode) 2 IdcodeRegister) (refuse_if (wrong_option plan.usercode) 2 UsercodeRegister))) b.0 in
    let q = first_none (refuse_if (wrong_length plan.ir_len plan.capture) 2 InstructionCapture) (or_else (refuse_if (wrong_option plan.idcode) 2 IdcodeRegister) (refuse_if (wrong_option plan.usercode) 2 UsercodeRegister)) p.1 in
    let r = first_none (refuse_if (wrong_option plan.idcode) 2 IdcodeRegister) (refuse_if (wrong_option plan.usercode) 2 UsercodeRegister) q.1 in
    record {
      some = ltb-false plan.ir_len 2 range.0;
      most = ltb-false 64 plan.ir_len range.1;
      patterns = refuse_none (any_of_another_length plan.ir_len plan.opcodes) 2 InstructionOpcode p.0;
      capture = right_length plan.ir_len plan.capture (refuse_none (wrong_length plan.ir_len plan.capture) 2 InstructionCapture q.0);
      idcode = refuse_none (wrong_option plan.idcode) 2 IdcodeRegister r.0;
      usercode = refuse_none (wrong_option plan.usercode) 2 UsercodeRegister r.1;
      ends = not-false (captures_01 (bits_of_pattern plan.capture)) (refuse_none (not (captures_01 (bits_of_pattern plan.capture))) 3 InstructionCapture b.1);
    }

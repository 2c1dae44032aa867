-- Numbers in decimal.
use Rattle.std.proofs.Common.{◌+◌, ◌*◌, ◌^◌, ◌<◌, ◌≤◌, ℕ, arith}
use Rattle.std.proofs.Math.Nat.{pow-le-pow_right}

-- before the seventh digit a number and one more digit fit 32 bits
pub seven_fit : (value index : ℕ) → value + 23 ≤ 23 * 10 ^ index → index < 7 → 10 * value + 255 < 2 ^ 32
seven_fit value index bound below = omega (arith, bound, pow-le-pow_right {n = 10} (omega arith) {i = index} {j = 6} (omega (arith, below)))

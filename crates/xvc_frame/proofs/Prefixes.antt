-- What the code of the front needs: a word as the slices' own test says it, and how small a number is.
use Rattle.std.proofs.Common.{◌≡◌, ◌<◌, ◌≤◌, ◌^◌, arith, ℕ, Bool, ◌&&◌, List, [], ◌∷◌, length, take, refl, ap, nat_eq}
use Rattle.std.proofs.Math.Nat.{pow-le-pow_right}
use Rattle.std.specs.Cmp.Lexicographic.{pointwise}
use Rattle.xvc_frame.specs.Messages.{begins}

pub begins_pointwise : (word bytes : List ℕ) → pointwise nat_eq word (take (length word) bytes) ≡ begins word bytes
begins_pointwise [] bytes = refl
begins_pointwise (letter ∷ word) [] = refl
begins_pointwise (letter ∷ word) (byte ∷ bytes) = ap (λ (b : Bool). nat_eq letter byte && b) (begins_pointwise word bytes)

-- a number of at most three bytes
pub three_bytes : (count number : ℕ) → count ≤ 3 → number < 256 ^ count → number < 16777216
three_bytes count number le lt = omega (arith, lt, pow-le-pow_right {n = 256} (omega arith) {i = count} {j = 3} le)

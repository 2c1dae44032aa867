-- A run of a text that is looked at with more behind it.
use Rattle.std.proofs.Common.{◌≡◌, ℕ, suc, ◌+◌, Bool, true, false, List, [], ◌∷◌, ◌++◌, length, min, cond, arith}
use Rattle.std.specs.List.{prefix_len}

step : (goes_on : Bool) (found count run : ℕ) → min found count ≡ run → min (cond goes_on (1 + found) 0) (suc count) ≡ cond goes_on (1 + run) 0
step false found count run is = omega (arith)
step true found count run is = omega (arith, is)

-- what stands behind the text is not of its run
pub front_run : (test : ℕ → Bool) (text behind : List ℕ) → min (prefix_len test (text ++ behind)) (length text) ≡ prefix_len test text
front_run test [] behind = omega (arith)
front_run test (byte ∷ text) behind = step (test byte) (prefix_len test (text ++ behind)) (length text) (prefix_len test text) (front_run test text behind)

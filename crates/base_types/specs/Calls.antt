-- Calls that are to fail, by their numbers.
use Rattle.std.specs.Prelude.{ℕ, List, Bool, eqb}
use Rattle.std.specs.List.{list_any}
use Rattle.base_types.specs.Counts.{raised}

-- the numbers of the calls that are to fail, counted from 1, and how many calls were made
pub record CallPlan : Type 0 where
  pub fails : List ℕ
  pub made : ℕ

-- one call more was made
abbrev pub after_call : CallPlan → CallPlan
after_call plan = record plan { made = raised plan.made 1 }

-- whether the call of this number is to fail
abbrev pub fails_at : List ℕ → ℕ → Bool
fails_at fails call = list_any (λ fail. eqb fail call) fails

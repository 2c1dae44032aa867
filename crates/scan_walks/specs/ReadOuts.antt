-- What shifts through a chain do to what a cable tells, and what a sink gets of them.
use Rattle.std.specs.Prelude.{ℕ, ◌≡◌, Bool, false, List, ◌++◌, length, replicate}
use Rattle.std.specs.declared.option.Option.{Option}
use Rattle.base_types.specs.Tellings.{Both, TakesFirst}
use Rattle.chain_model.specs.Chains.{ChainState}
use Rattle.chain_model.specs.Cycles.{after_calls, answers}
use Rattle.scan_walks.specs.Walks.{shift_in, calls_for}

-- the chain, where it is told, made the cycles that shift these bits in, in calls of up to 64
abbrev pub ShiftsIn : Option ChainState → Option ChainState → List Bool → Type 0
ShiftsIn before after bits = Both before after (λ old new. new ≡ after_calls (calls_for (length bits)) (shift_in bits) old)

-- so many answers, of those that were told ahead, were taken
pub record TakesSome (before after : Option (List Bool)) (count : ℕ) : Type 0 where
  pub taken : List Bool
  pub counted : length taken ≡ count
  pub is : TakesFirst before after taken

-- a sink took as many bits as zeros were shifted in: those that the chain, where it is told, answered, and that were told ahead;
-- what the sink holds is told by a function of the bits that come behind
pub record ReadsOut (before after : Option ChainState) (ahead ahead_after : Option (List Bool)) (holds holds_after : List Bool → List Bool) (count : ℕ) : Type 0 where
  pub out : List Bool
  pub counted : length out ≡ count
  pub held : (more : List Bool) → holds_after more ≡ holds (out ++ more)
  pub shifted : ShiftsIn before after (replicate count false)
  pub answered : Both before after (λ old new. out ≡ answers (shift_in (replicate count false)) old)
  pub taken : TakesFirst ahead ahead_after out

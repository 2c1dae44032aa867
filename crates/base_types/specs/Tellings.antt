-- What an object may tell of itself, or leave untold: what holds of it before and after a call.
use Rattle.std.specs.Prelude.{◌≡◌, List, ◌++◌}
use Rattle.std.specs.declared.option.Option.{Option}
use Rattle.std.specs.declared.option.Option.TheVariants.{None, Some}

-- this holds of what is told
abbrev pub Told : {X : Type 0} → Option X → (X → Type 0) → Type 0
Told None P = Unit {0}
Told (Some now) P = P now

-- the object tells before the call and after it, and this holds of the two; or it tells neither time
abbrev pub Both : {X : Type 0} → Option X → Option X → (X → X → Type 0) → Type 0
Both None None P = Unit {0}
Both None (Some new) P = ⊥
Both (Some old) None P = ⊥
Both (Some old) (Some new) P = P old new

-- these stood first in the list that was told, and are gone from it
abbrev pub TakesFirst : {X : Type 0} → Option (List X) → Option (List X) → List X → Type 0
TakesFirst before after taken = Both before after (λ old new. old ≡ taken ++ new)

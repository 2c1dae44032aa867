-- The order in which grants wait for the shared chain: first come, first served.
use Rattle.std.specs.Prelude.{ℕ, ◌≡◌, ◌<◌, Bool, true, false, not, ◌==◌, List, [], ◌∷◌, ◌++◌, if◌then◌else◌}
use Rattle.std.specs.List.{list_any, filter}
use Rattle.std.specs.declared.option.Option.{Option}
use Rattle.std.specs.declared.option.Option.TheVariants.{None, Some}

-- a grant is among those that wait
abbrev pub is_among : ℕ → List ℕ → Bool
is_among grant waiting = list_any (λ other. other == grant) waiting

-- those that wait after a grant joined their end, or kept its place
abbrev pub with_waiting : ℕ → List ℕ → List ℕ
with_waiting grant waiting = if is_among grant waiting then waiting else waiting ++ grant ∷ []

-- those that wait without a grant
abbrev pub without : ℕ → List ℕ → List ℕ
without grant waiting = filter (λ other. not (other == grant)) waiting

-- a grant may open a scan: nobody holds the chain, and no other grant waits before it
abbrev pub may_open : Option ℕ → List ℕ → ℕ → Bool
may_open (Some holder) waiting grant = false
may_open None [] grant = true
may_open None (first ∷ rest) grant = first == grant

-- who goes on next: the first that waits for a chain that nobody holds
abbrev pub next_in_line : Option ℕ → List ℕ → Option ℕ
next_in_line (Some holder) waiting = None
next_in_line None [] = None
next_in_line None (first ∷ rest) = Some first

-- there are sixteen grants at most, and none waits twice
abbrev pub IsQueue : List ℕ → Type 0
IsQueue [] = Unit {0}
IsQueue (first ∷ rest) = (first < 16) × (is_among first rest ≡ false) × IsQueue rest

-- Steps with one more behind them.
use Rattle.std.proofs.Common.{◌≡◌, ◌+◌, ℕ, Bool, true, false, not, ◌&&◌, ◌||◌, List, [], ◌∷◌, ◌++◌, nat_eq, ap, ◌∙◌, sym, refl, arith, eq-eqb}
use Rattle.std.specs.List.{list_any}
use Rattle.wire_port.specs.Steps.{Step, opens, opens_once, shuts, taken_from}
use Rattle.wire_port.specs.Steps.Step.{Opened, Took, Gone, Shut}
use Rattle.wire_port.specs.Playing.{opened_in}
use Rattle.wire_port.proofs.Changing.{apart}

pub any_behind : (test : Step → Bool) (steps : List Step) (step : Step) → list_any test (steps ++ step ∷ []) ≡ (list_any test steps || test step)
any_behind test [] step = or_false (test step)
  where
    or_false : (t : Bool) → (t || false) ≡ t
    or_false true = refl
    or_false false = refl
any_behind test (first ∷ steps) step = go (test first) (any_behind test steps step)
  where
    go : (t : Bool) → list_any test (steps ++ step ∷ []) ≡ (list_any test steps || test step) → (t || list_any test (steps ++ step ∷ [])) ≡ ((t || list_any test steps) || test step)
    go true rest = refl
    go false rest = rest

pub shuts_behind : (conn : ℕ) (steps : List Step) (step : Step) → shuts conn (steps ++ step ∷ []) ≡ shuts conn steps + shuts conn (step ∷ [])
shuts_behind conn [] step = omega arith
shuts_behind conn (Opened other port ∷ steps) step = shuts_behind conn steps step
shuts_behind conn (Took other bytes ∷ steps) step = shuts_behind conn steps step
shuts_behind conn (Gone other ∷ steps) step = shuts_behind conn steps step
shuts_behind conn (Shut other ∷ steps) step = go (nat_eq conn other) refl (shuts_behind conn steps step)
  where
    go : (t : Bool) → nat_eq conn other ≡ t → shuts conn (steps ++ step ∷ []) ≡ shuts conn steps + shuts conn (step ∷ []) → shuts conn (Shut other ∷ steps ++ step ∷ []) ≡ shuts conn (Shut other ∷ steps) + shuts conn (step ∷ [])
    go true is rest = rw is (omega (arith, rest))
    go false is rest = rw is rest

pub taken_behind : (conn : ℕ) (steps : List Step) (step : Step) → taken_from conn (steps ++ step ∷ []) ≡ taken_from conn steps + taken_from conn (step ∷ [])
taken_behind conn [] step = omega arith
taken_behind conn (Opened other port ∷ steps) step = taken_behind conn steps step
taken_behind conn (Shut other ∷ steps) step = taken_behind conn steps step
taken_behind conn (Gone other ∷ steps) step = taken_behind conn steps step
taken_behind conn (Took other bytes ∷ steps) step = go (nat_eq conn other) refl (taken_behind conn steps step)
  where
    go : (t : Bool) → nat_eq conn other ≡ t → taken_from conn (steps ++ step ∷ []) ≡ taken_from conn steps + taken_from conn (step ∷ []) → taken_from conn (Took other bytes ∷ steps ++ step ∷ []) ≡ taken_from conn (Took other bytes ∷ steps) + taken_from conn (step ∷ [])
    go true is rest = rw is (omega (arith, rest))
    go false is rest = rw is rest

pub opened_behind : (steps : List Step) (step : Step) → opened_in (steps ++ step ∷ []) ≡ opened_in steps ++ opened_in (step ∷ [])
opened_behind [] step = refl
opened_behind (Opened conn port ∷ steps) step = ap (λ (all : List (ℕ × ℕ)). (conn, port) ∷ all) (opened_behind steps step)
opened_behind (Took conn bytes ∷ steps) step = opened_behind steps step
opened_behind (Gone conn ∷ steps) step = opened_behind steps step
opened_behind (Shut conn ∷ steps) step = opened_behind steps step

-- a step opens none that the steps before it opened
abbrev pub IsNew : Step → List Step → Type 0
IsNew (Opened conn port) steps = list_any (opens conn) steps ≡ false
IsNew _ steps = Unit {0}

new_behind : (conn port : ℕ) (steps : List Step) (step : Step) → IsNew step (Opened conn port ∷ steps) → IsNew step steps
new_behind conn port steps (Opened other at) new = go (nat_eq other conn) new
  where
    go : (t : Bool) → (t || list_any (opens other) steps) ≡ false → list_any (opens other) steps ≡ false
    go true is = absurd (cc is)
    go false is = is
new_behind conn port steps (Took other bytes) new = tt
new_behind conn port steps (Gone other) new = tt
new_behind conn port steps (Shut other) new = tt

other_opens : (conn port : ℕ) (steps : List Step) (step : Step) → IsNew step (Opened conn port ∷ steps) → opens conn step ≡ false
other_opens conn port steps (Opened other at) new = apart conn other (λ same. absurd (cc (sym new ∙ ap (λ (t : Bool). t || list_any (opens other) steps) (ap (λ (n : ℕ). nat_eq other n) same ∙ eq-eqb other other refl))))
other_opens conn port steps (Took other bytes) new = refl
other_opens conn port steps (Gone other) new = refl
other_opens conn port steps (Shut other) new = refl

or_false : (t : Bool) → (t || false) ≡ t
or_false true = refl
or_false false = refl

pub once_behind : (steps : List Step) (step : Step) → opens_once steps ≡ true → IsNew step steps → opens_once (steps ++ step ∷ []) ≡ true
once_behind [] (Opened conn port) once new = refl
once_behind [] (Took conn bytes) once new = refl
once_behind [] (Gone conn) once new = refl
once_behind [] (Shut conn) once new = refl
once_behind (Opened conn port ∷ steps) step once new = go (list_any (opens conn) steps) refl once (λ at. once_behind steps step at (new_behind conn port steps step new))
  where
    any : (t : Bool) → list_any (opens conn) steps ≡ t → list_any (opens conn) (steps ++ step ∷ []) ≡ t
    any t is = any_behind (opens conn) steps step ∙ (λ i. is i || other_opens conn port steps step new i) ∙ or_false t

    go : (t : Bool) → list_any (opens conn) steps ≡ t → (not (list_any (opens conn) steps) && opens_once steps) ≡ true → (opens_once steps ≡ true → opens_once (steps ++ step ∷ []) ≡ true)
        → (not (list_any (opens conn) (steps ++ step ∷ [])) && opens_once (steps ++ step ∷ [])) ≡ true
    go true is at rest = absurd (cc (rw is at at))
    go false is at rest = rw (any false is) (rest (rw is at at))
once_behind (Took conn bytes ∷ steps) step once new = once_behind steps step once (weaker step new)
  where
    weaker : (s : Step) → IsNew s (Took conn bytes ∷ steps) → IsNew s steps
    weaker (Opened other at) is = is
    weaker (Took other more) is = tt
    weaker (Gone other) is = tt
    weaker (Shut other) is = tt
once_behind (Gone conn ∷ steps) step once new = once_behind steps step once (weaker step new)
  where
    weaker : (s : Step) → IsNew s (Gone conn ∷ steps) → IsNew s steps
    weaker (Opened other at) is = is
    weaker (Took other more) is = tt
    weaker (Gone other) is = tt
    weaker (Shut other) is = tt
once_behind (Shut conn ∷ steps) step once new = once_behind steps step once (weaker step new)
  where
    weaker : (s : Step) → IsNew s (Shut conn ∷ steps) → IsNew s steps
    weaker (Opened other at) is = is
    weaker (Took other more) is = tt
    weaker (Gone other) is = tt
    weaker (Shut other) is = tt

-- The words of the commands.
use Rattle.std.specs.Prelude.{◌≢◌, ◌≤◌, ℕ, List, [], ◌∷◌, codes}
use Rattle.std.specs.Fmt.{decimal}

-- `check` of the setup of this name
abbrev pub check_words : List ℕ → List (List ℕ)
check_words name = codes "check" ∷ name ∷ []

-- the words are not `check` of any setup
abbrev pub NoCheck : List (List ℕ) → Type 0
NoCheck words = (name : List ℕ) → words ≢ check_words name

-- `pipe` of the setup of this name, for the grant of this number
abbrev pub pipe_words : List ℕ → ℕ → List (List ℕ)
pipe_words name number = codes "pipe" ∷ name ∷ decimal number ∷ []

-- a number that a grant is asked for by
abbrev pub IsGrantNumber : ℕ → Type 0
IsGrantNumber number = (1 ≤ number) × (number ≤ 99)

-- the words are not `pipe` of any setup and grant
abbrev pub NoPipe : List (List ℕ) → Type 0
NoPipe words = (name : List ℕ) (number : ℕ) → IsGrantNumber number → words ≢ pipe_words name number

-- `serve` of the setup of this name
abbrev pub serve_words : List ℕ → List (List ℕ)
serve_words name = codes "serve" ∷ name ∷ []

-- the words are not `serve` of any setup
abbrev pub NoServe : List (List ℕ) → Type 0
NoServe words = (name : List ℕ) → words ≢ serve_words name

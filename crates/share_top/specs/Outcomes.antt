-- The last line of a command and its status, and the counts of faults that statuses come from.
use Rattle.std.specs.Prelude.{◌≡◌, ◌≢◌, ◌⊎◌, ℕ, ◌≤◌, List}
use Rattle.std.specs.declared.option.Option.{Option}
use Rattle.base_types.specs.Counts.{Rose}
use Rattle.std.specs.Io.KnownBytes.{Appends}
use Rattle.ports.specs.Streams.{AppendsFront}
pub use Rattle.text_lines.specs.Printed.{Grew}

-- the last line went out whole, and the status is its own; or a front of the line went out, and the status is 5, and then the sink's count rose
abbrev pub Tells : (own : ℕ) → (line : List ℕ) → (status : ℕ) → Option (List ℕ) → Option (List ℕ) → ℕ → ℕ → Type 0
Tells own line status before after faults faults' =
    ((status ≡ own) × Appends before after line × (faults' ≡ faults))
    ⊎ ((status ≡ 5) × AppendsFront before after line × Grew faults faults')

-- the statuses of `pipe`
abbrev pub IsPipeStatus : ℕ → Type 0
IsPipeStatus status = (status ≡ 0) ⊎ (status ≡ 1) ⊎ (status ≡ 3) ⊎ (status ≡ 4) ⊎ (status ≡ 5) ⊎ (status ≡ 7) ⊎ (status ≡ 8) ⊎ (status ≡ 9) ⊎ (status ≡ 12)

-- those of `check`
abbrev pub IsCheckStatus : ℕ → Type 0
IsCheckStatus status = (status ≡ 0) ⊎ (status ≡ 3) ⊎ (status ≡ 4) ⊎ (status ≡ 5) ⊎ (status ≡ 9) ⊎ (status ≡ 12)

-- those of words that are no command
abbrev pub IsWordsStatus : ℕ → Type 0
IsWordsStatus status = (status ≡ 2) ⊎ (status ≡ 5)

-- all of them
abbrev pub IsStatus : ℕ → Type 0
IsStatus status = IsPipeStatus status ⊎ (status ≡ 2)

-- a count of faults and the status that stands behind it: the status comes only where the count rose in the call, and with every other one
-- the count stays, save that 5 and 7 may hide it
pub record Counts (fault status before now : ℕ) : Type 0 where
  pub later : before ≤ now
  pub rose : status ≡ fault → Rose before now
  pub kept : status ≢ fault → status ≢ 5 → status ≢ 7 → now ≡ before

-- two counts of faults and the status that stands behind both: the status comes only where one of them rose, and with every other one both
-- stay, save that 5 and 7 may hide it
pub record CountsEither (fault status before now before' now' : ℕ) : Type 0 where
  pub later : (before ≤ now) × (before' ≤ now')
  pub rose : status ≡ fault → Rose before now ⊎ Rose before' now'
  pub kept : status ≢ fault → status ≢ 5 → status ≢ 7 → (now ≡ before) × (now' ≡ before')

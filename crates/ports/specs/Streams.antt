-- What was taken or written over several calls, in whole or in part.
use Rattle.std.specs.Prelude.{ℕ, List, take}
use Rattle.std.specs.declared.option.Option.{Option}
use Rattle.std.specs.Io.KnownBytes.{Appends, Consumes}

-- a front of the text went out
abbrev pub AppendsFront : Option (List ℕ) → Option (List ℕ) → List ℕ → Type 0
AppendsFront old new text = (sent : ℕ) × Appends old new (take sent text)

-- the bytes that were taken stand in the front of the buffer
abbrev pub ConsumesFront : Option (List ℕ) → Option (List ℕ) → List ℕ → Type 0
ConsumesFront old new buffer = (taken : ℕ) × Consumes old new (take taken buffer)

-- A text that goes out whole, or a front of it because the sink failed.
use Rattle.std.specs.Prelude.{◌≡◌, ◌≤◌, ℕ, List}
use Rattle.std.specs.declared.option.Option.{Option}
use Rattle.std.specs.declared.result.Result.{Result}
use Rattle.std.specs.declared.result.Result.TheVariants.{Ok, Err}
use Rattle.std.specs.Io.KnownBytes.{Appends}
use Rattle.ports.specs.Streams.{AppendsFront}
use Rattle.ports.specs.declared.PortFault.{PortFault}
use Rattle.base_types.specs.Counts.{Rose}

-- a count of faults that rose
abbrev pub Grew : ℕ → ℕ → Type 0
Grew before now = (before ≤ now) × Rose before now

-- the text went out, by the bytes sent and the sink's count of faults before and after; or a front of it, and the count rose
abbrev pub Prints : Result (Unit {0}) PortFault → Option (List ℕ) → Option (List ℕ) → List ℕ → ℕ → ℕ → Type 0
Prints (Ok done) sent sent' text faults faults' = Appends sent sent' text × (faults' ≡ faults)
Prints (Err fault) sent sent' text faults faults' = AppendsFront sent sent' text × Grew faults faults'

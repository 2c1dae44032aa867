-- Refusals as the code hands them out, and what was granted before.
use Rattle.std.specs.Prelude.{ℕ, List, [], ◌∷◌, ◌++◌, map}
use Rattle.std.specs.declared.option.Option.{Option}
use Rattle.std.specs.declared.option.Option.TheVariants.{None, Some}
use Rattle.std.specs.declared.result.Result.{Result}
use Rattle.std.specs.declared.result.Result.TheVariants.{Ok, Err}
use Rattle.grant_table.specs.declared.faults.LayoutRefusal.{LayoutRefusal}
use Rattle.grant_table.specs.Faults.{GrantEntry, LayoutFault}

-- the fault that a refusal tells
abbrev pub fault_of : LayoutRefusal → LayoutFault
fault_of refusal = record { cause = refusal.cause; grant = refusal.grant; value = refusal.value }

-- the fault that a check ends in, none where it passes
abbrev pub fault_in : Result (Unit {0}) LayoutRefusal → Option LayoutFault
fault_in (Ok passed) = None
fault_in (Err refusal) = Some (fault_of refusal)

-- the devices of these grants
abbrev pub devices_of : List GrantEntry → List ℕ
devices_of [] = []
devices_of (entry ∷ entries) = entry.devices ++ devices_of entries

-- their ports
abbrev pub ports_of : List GrantEntry → List ℕ
ports_of entries = map (λ entry. entry.port) entries

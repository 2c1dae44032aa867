use Rattle.std.proofs.Common.{◌≡◌, ◌≤◌, replicate}
use Rattle.std.specs.Prelude.{vec_capacity}
use Rattle.part_model.specs.declared.name_index.Slot.TheVariants.{Empty}
use Rattle.part_model.proofs.name_index.NameIndex.new.Given as goal

abbrev pub invariant-loop : goal.invariant-loop
invariant-loop g l = (l.slots.items ≡ replicate l.counter Empty) × (l.count ≤ vec_capacity l.slots)

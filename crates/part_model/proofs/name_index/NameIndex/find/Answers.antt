use Rattle.std.proofs.Common.{arith, length}
use Rattle.std.proofs.lemmas.Bool.{eqb-true}
use Rattle.part_model.specs.NameIndexes.{place, value_of}
use Rattle.part_model.proofs.NameIndexLaws.{nothing_there}
use Rattle.part_model.proofs.name_index.NameIndex.find.Goals as goal

pub returns-then-is_empty : goal.returns-then-is_empty
unfolding value_of
returns-then-is_empty g c = nothing_there c.args.self.now.slots.items (grind (arith, eqb-true (length c.args.self.now.slots.items) 0)) (place c.args.name.now (length c.args.self.now.slots.items)) c.args.name.now

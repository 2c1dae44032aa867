use Rattle.std.proofs.Common.{rules}
use Rattle.part_model.specs.NameIndexes.{value_of}
use Rattle.part_model.proofs.NameIndexLaws.{slot_added}
use Rattle.part_model.proofs.name_index.NameIndex.add.Goals as goal

pub returns-clause-added : goal.returns-clause-added
unfolding value_of
returns-clause-added g c = slot_added c.args.self.now.slots.items c.place-at.result c.index_mut.result.now c.add.new.self c.args.name.now c.args.value (search rules) (search rules) c.index_mut.ensures.value c.in_ok-earlier.ensures.added

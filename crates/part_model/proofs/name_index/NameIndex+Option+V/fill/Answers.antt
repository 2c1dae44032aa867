use Rattle.std.proofs.Common.{rules}
use Rattle.part_model.specs.NameIndexes.{value_of}
use Rattle.part_model.proofs.NameIndexLaws.{slot_filled}
use Rattle.part_model.proofs.name_index.NameIndex+Option+V.fill.Goals as goal

pub returns-clause-filled : goal.returns-clause-filled
unfolding value_of
returns-clause-filled g c = slot_filled c.args.self.now.slots.items c.place-at.result c.index_mut.result.now c.fill.new.self c.args.name.now c.args.value (search rules) (search rules) c.index_mut.ensures.value c.in_ok-stands.ensures.filled

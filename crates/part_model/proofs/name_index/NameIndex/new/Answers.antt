use Rattle.std.proofs.Common.{length}
use Rattle.part_model.specs.NameIndexes.{place, value_of}
use Rattle.part_model.proofs.NameIndexLaws.{none_there}
use Rattle.part_model.proofs.name_index.NameIndex.new.Goals as goal

pub returns : goal.returns
unfolding value_of
returns g c = λ name. none_there c.loop.slots.items c.loop.counter c.loop.invariant.0 (place name (length c.loop.slots.items)) name

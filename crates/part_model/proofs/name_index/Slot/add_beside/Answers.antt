use Rattle.std.proofs.Common.{◌∙◌, sym}
use Rattle.part_model.specs.declared.name_index.Slot.TheVariants.{One, Two}
use Rattle.part_model.specs.NameIndexes.{value_at}
use Rattle.part_model.specs.Parts.{same_name}
use Rattle.part_model.proofs.NameIndexLaws.{known_stays, one_there, first_there, second_there}
use Rattle.part_model.proofs.name_index.Slot.add_beside.Goals as goal

pub returns-then-is_name-clause-added : goal.returns-then-is_name-clause-added
returns-then-is_name-clause-added g c = λ other. rw c.in-One.is (known_stays (value_at (One c.in-One.kept c.in-One.first)) c.args.name.now other c.args.value (one_there (same_name c.args.name.now c.in-One.kept.now) c.in-One.first (sym c.is_name.ensures ∙ c.if-is_name.true)))

pub returns-then-is_name-2-clause-added : goal.returns-then-is_name-2-clause-added
returns-then-is_name-2-clause-added g c = λ other. rw c.in-Two.is (known_stays (value_at (Two c.in-Two.first c.in-Two.first_value c.in-Two.second c.in-Two.second_value)) c.args.name.now other c.args.value (first_there (same_name c.args.name.now c.in-Two.first.now) (same_name c.args.name.now c.in-Two.second.now) c.in-Two.first_value c.in-Two.second_value (sym c.is_name-in-Two.ensures ∙ c.if-is_name-2.true)))

pub returns-then-is_name-3-clause-added : goal.returns-then-is_name-3-clause-added
returns-then-is_name-3-clause-added g c = λ other. rw c.in-Two.is (known_stays (value_at (Two c.in-Two.first c.in-Two.first_value c.in-Two.second c.in-Two.second_value)) c.args.name.now other c.args.value (second_there (same_name c.args.name.now c.in-Two.first.now) (same_name c.args.name.now c.in-Two.second.now) c.in-Two.first_value c.in-Two.second_value (sym c.is_name-in-Two-2.ensures ∙ c.if-is_name-3.true)))

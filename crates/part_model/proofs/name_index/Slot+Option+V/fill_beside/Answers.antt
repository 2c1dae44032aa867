use Rattle.std.proofs.Common.{◌∙◌, sym}
use Rattle.part_model.proofs.NameIndexLaws.{one_if, first_set, second_if}
use Rattle.part_model.proofs.name_index.Slot+Option+V.fill_beside.Goals as goal

pub returns-in-One-clause-filled : goal.returns-in-One-clause-filled
returns-in-One-clause-filled g c = λ other. rw (c.in-One.is, c.fill_if.ensures.filled) (one_if c.in-One.kept.now c.args.name.now other c.in-One.own c.args.value c.is_name.result c.is_name.ensures)

pub returns-then-is_name-clause-filled : goal.returns-then-is_name-clause-filled
returns-then-is_name-clause-filled g c = λ other. rw (c.in-Two.is, c.fill_if-then-is_name.ensures.filled) (first_set c.in-Two.first.now c.in-Two.second.now c.args.name.now other c.in-Two.first_own c.in-Two.second_own c.args.value (sym c.is_name-in-Two.ensures ∙ c.if-is_name.true))

pub returns-else-is_name-clause-filled : goal.returns-else-is_name-clause-filled
returns-else-is_name-clause-filled g c = λ other. rw (c.in-Two.is, c.fill_if-in-Two.ensures.filled) (second_if c.in-Two.first.now c.in-Two.second.now c.args.name.now other c.in-Two.first_own c.in-Two.second_own c.args.value c.is_name-in-Two-2.result
    (sym c.is_name-in-Two.ensures ∙ c.if-is_name.false) c.is_name-in-Two-2.ensures)

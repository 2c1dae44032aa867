use Rattle.std.proofs.Common.{◌∙◌, true, false, sym}
use Rattle.part_model.proofs.NameIndexLaws.{one_if}
use Rattle.part_model.proofs.name_index.Slot+Option+V.fill.Goals as goal

pub returns-then-not-is_name-clause-filled : goal.returns-then-not-is_name-clause-filled
returns-then-not-is_name-clause-filled g c = λ other. rw c.in-One.is (one_if c.in-One.kept.now c.args.name.now other c.in-One.own c.args.value false (sym c.if-not-is_name.true ∙ c.is_name.ensures))

pub returns-else-not-is_name-clause-filled : goal.returns-else-not-is_name-clause-filled
returns-else-not-is_name-clause-filled g c = λ other. rw (c.in-One.is, c.fill_if.ensures.filled) (one_if c.in-One.kept.now c.args.name.now other c.in-One.own c.args.value true (sym c.if-not-is_name.false ∙ c.is_name.ensures))

use Rattle.part_model.proofs.SelectionLaws.{all_selected}
use Rattle.part_model.proofs.selections.registers_of.Goals as goal

pub returns-clause-are : goal.returns-clause-are
returns-clause-are c = all_selected c.args.plan.now.access c.args.plan.now.opcodes c.in_ok-selected.selected.items c.in_ok-selected.ensures.are

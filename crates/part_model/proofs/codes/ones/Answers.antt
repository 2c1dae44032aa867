use Rattle.part_model.proofs.ResetLaws.{all_ones_are, all_ones_below}
use Rattle.part_model.proofs.codes.ones.Goals as goal

pub returns-clause-is : goal.returns-clause-is
returns-clause-is c = all_ones_are c.args.count c.requires.most

pub returns-clause-bound : goal.returns-clause-bound
returns-clause-bound c = all_ones_below c.args.count c.requires.most

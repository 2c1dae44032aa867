use Rattle.part_model.proofs.MaskLaws.{ones_code, ones_bound}
use Rattle.part_model.proofs.patterns.CodePattern.code.Goals as goal

pub returns-clause-is : goal.returns-clause-is
returns-clause-is c = ones_code c.self.inside.count c.self.inside.cares c.self.inside.ones c.args.self.now c.self.invariant c.self.view_is

pub returns-clause-bound : goal.returns-clause-bound
returns-clause-bound c = ones_bound c.self.inside.count c.self.inside.cares c.self.inside.ones c.args.self.now c.self.invariant c.self.view_is

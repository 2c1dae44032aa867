use Rattle.part_model.proofs.MaskLaws.{agreeing_words, differing_words}
use Rattle.part_model.proofs.patterns.CodePattern.matches.Goals as goal

pub returns-then-code-self-eq0 : goal.returns-then-code-self-eq0
returns-then-code-self-eq0 c = agreeing_words c.self.inside.count c.self.inside.cares c.self.inside.ones c.args.self.now c.args.count c.args.code c.self.invariant c.self.view_is c.if-code-self-eq0.true

pub returns-else-code-self-eq0 : goal.returns-else-code-self-eq0
returns-else-code-self-eq0 c = differing_words c.self.inside.count c.self.inside.cares c.self.inside.ones c.args.self.now c.args.count c.args.code c.self.invariant c.self.view_is c.if-code-self-eq0.false

use Rattle.std.proofs.Common.{length, ap, sym, ◌∙◌}
use Rattle.part_model.proofs.PackLaws.{count_is}
use Rattle.part_model.proofs.patterns.CodePattern.len.Goals as goal

pub returns : goal.returns
returns c = sym (count_is c.self.inside.count c.self.inside.cares c.self.inside.ones) ∙ ap length c.self.view_is

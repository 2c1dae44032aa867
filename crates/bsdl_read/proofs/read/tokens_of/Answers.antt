use Rattle.std.proofs.Common.{◌-◌}
use Rattle.bsdl_read.proofs.Going.{rises_within}
use Rattle.bsdl_read.proofs.read.tokens_of.Goals as goal

pub returns-clause-rises : goal.returns-clause-rises
returns-clause-rises c = rw (c.front.ensures, c.behind.ensures, c.saturating_sub.ensures) (rises_within (c.args.value.behind - c.args.value.first) c.args.value.first c.args.tokens.now _ c.requires)

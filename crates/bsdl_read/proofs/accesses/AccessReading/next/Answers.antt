use Rattle.bsdl_read.specs.Accesses.{view}
use Rattle.bsdl_read.proofs.AccessFronts.{name_ends}
use Rattle.bsdl_read.proofs.accesses.AccessReading.next.Goals as goal

pub returns-in-Some-clause-goes : goal.returns-in-Some-clause-goes
returns-in-Some-clause-goes c =
    name_ends (view c.args.self.now) (view c.named.new.self) _ _ _ _ (c.awaits_name.ensures c.if-awaits_name.true) c.in_ok-named.ensures c.in-Some.ensures.is

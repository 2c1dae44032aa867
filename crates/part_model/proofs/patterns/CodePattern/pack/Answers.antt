use Rattle.part_model.proofs.PackLaws.{one_packed}
use Rattle.part_model.proofs.patterns.CodePattern.pack.Goals as goal

pub loop-digit-preserved : goal.loop-digit-preserved
loop-digit-preserved c = rw (c.care_value.ensures, c.one_value.ensures)
    (one_packed c.args.digits.now c.loop-digit.rest.now c.loop-digit.cares c.loop-digit.ones c.in-Some.digit.now c.in-Some.lower.now c.loop-digit.invariant c.in-Some.ensures.cases.0 c.in-Some.ensures.cases.1)

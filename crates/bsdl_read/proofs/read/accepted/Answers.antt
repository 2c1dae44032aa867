use Rattle.std.proofs.Common.{subst, arith}
use Rattle.part_model.specs.declared.plan.PartRefusal.{PartRefusal}
use Rattle.part_model.specs.Plans.{RefusesAs, plan_refusal}
use Rattle.part_model.proofs.CauseLaws.{cause_is_small}
use Rattle.bsdl_read.proofs.read.accepted.Goals as goal

pub overflow_add-result : goal.overflow_add-result
overflow_add-result c =
    let refused = subst (λ (r : PartRefusal). RefusesAs r (plan_refusal c.args.plan)) c.in-Err-Refused.field-0-is c.in-Err-Refused.ensures.refused in
    let small = cause_is_small c.args.plan c.in-Err-Refused.cause c.in-Err-Refused.field refused in
    omega (arith, small)

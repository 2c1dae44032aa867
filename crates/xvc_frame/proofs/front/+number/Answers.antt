use Rattle.std.proofs.Common.{arith, length}
use Rattle.xvc_frame.proofs.Prefixes.{three_bytes}
use Rattle.xvc_frame.proofs.front.+number.Goals as goal

pub overflow_mul-result : goal.overflow_mul-result
overflow_mul-result t c = omega (arith, three_bytes (length c.in-Some.rest.now) c.number.result (omega (arith, c.in-Some.ensures.cases)) c.number.ensures.bound)

pub overflow_add-result : goal.overflow_add-result
overflow_add-result t c = omega (arith, three_bytes (length c.in-Some.rest.now) c.number.result (omega (arith, c.in-Some.ensures.cases)) c.number.ensures.bound)

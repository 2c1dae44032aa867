use Rattle.std.proofs.Common.{arith}
use Rattle.xvc_frame.proofs.Numbers.{are_bytes}
use Rattle.xvc_frame.proofs.frame.put.Goals as goal

pub returns-clause-bytes : goal.returns-clause-bytes
returns-clause-bytes c = are_bytes _ (λ i. omega (arith, c.type_inv.bytes i))

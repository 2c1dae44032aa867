use Rattle.std.proofs.Common.{arith}
use Rattle.xvc_frame.proofs.Numbers.{are_bytes}
use Rattle.xvc_frame.proofs.Steps.{tells_settck}
use Rattle.xvc_frame.proofs.front.settck_step.Goals as goal

pub returns : goal.returns
returns c = rw c.number_at.ensures (tells_settck c.args.vector c.args.held.now (are_bytes c.args.held.now (λ i. omega (arith, c.type_inv.held i))) c.requires.ends c.requires.word (omega arith))

use Rattle.std.proofs.Common.{arith}
use Rattle.xvc_frame.proofs.Numbers.{are_bytes}
use Rattle.xvc_frame.proofs.Steps.{tells_shift}
use Rattle.xvc_frame.proofs.front.shift_step.Goals as goal

pub returns : goal.returns
returns c = rw c.number_at-count.ensures (tells_shift c.args.vector c.args.held.now (are_bytes c.args.held.now (λ i. omega (arith, c.type_inv.held i))) c.requires.ends c.requires.word (omega arith) (omega arith) (omega arith))

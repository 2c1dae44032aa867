use Rattle.std.proofs.Common.{arith}
use Rattle.xvc_frame.proofs.Numbers.{are_bytes}
use Rattle.xvc_frame.proofs.Rooms.{some_wanted}
use Rattle.xvc_frame.proofs.front.wanted.Goals as goal

pub returns-clause-some : goal.returns-clause-some
returns-clause-some c = λ none fits. omega (arith, some_wanted c.args.vector c.args.held.now (are_bytes c.args.held.now (λ i. omega (arith, c.type_inv.held i))) none fits)

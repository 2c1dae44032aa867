use Rattle.std.proofs.Common.{arith}
use Rattle.chain_token.proofs.Orders.{served}
use Rattle.chain_token.proofs.queue.Queue.serve.Goals as goal

pub returns-then-not-is_empty : goal.returns-then-not-is_empty
returns-then-not-is_empty c = rw (← c.self.view_is) (served c.self.inside.grants.items _ c.args.grant c.self.invariant (rw c.self.view_is c.requires) (omega arith) c.remove.ensures.items)

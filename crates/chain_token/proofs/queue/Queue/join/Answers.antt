use Rattle.std.proofs.Common.{arith, sym}
use Rattle.chain_token.proofs.Orders.{has_room, joined}
use Rattle.chain_token.proofs.queue.Queue.join.Goals as goal

pub push-requires : goal.push-requires
push-requires c = (omega arith, has_room c.self.inside.grants.items c.args.grant c.self.invariant c.requires (rw c.self.view_is (sym c.if-not-has.ensures)))

pub invariant_of-self : goal.invariant_of-self
invariant_of-self c = rw c.push.ensures.items (joined c.self.inside.grants.items c.args.grant c.self.invariant c.requires (rw c.self.view_is (sym c.if-not-has.ensures)))

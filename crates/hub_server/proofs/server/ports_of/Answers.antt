use Rattle.hub_server.proofs.Ports.{one_more, ports_more}
use Rattle.hub_server.proofs.server.ports_of.Goals as goal

pub loop-grant-preserved : goal.loop-grant-preserved
loop-grant-preserved c = (
  ports_more c.args.layout.now.grants c.loop-grant.ports.items c.push.new.self.items _ c.loop-grant.grant c.port.result c.loop-grant.invariant.0 c.port.ensures c.push.ensures.items,
  one_more c.loop-grant.ports.items c.push.new.self.items c.loop-grant.grant c.port.result c.loop-grant.invariant.1 c.push.ensures.items,
)

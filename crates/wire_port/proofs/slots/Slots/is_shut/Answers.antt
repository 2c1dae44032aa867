use Rattle.std.proofs.Common.{ap, sym}
use Rattle.wire_port.specs.Links.{LinkView}
use Rattle.wire_port.proofs.Changing.{none_of}
use Rattle.wire_port.proofs.slots.Slots.is_shut.Goals as goal

pub returns-in-None : goal.returns-in-None
returns-in-None c = ap (λ (link : LinkView). link.peer.is_shut) (sym (none_of c.args.self.now.links c.args.conn c.in-None.ensures))

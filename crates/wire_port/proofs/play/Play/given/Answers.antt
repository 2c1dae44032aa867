use Rattle.std.proofs.Common.{ap, sym}
use Rattle.wire_port.specs.Links.{LinkView}
use Rattle.wire_port.proofs.Changing.{none_of}
use Rattle.wire_port.proofs.play.Play.given.Goals as goal

pub returns-in-None : goal.returns-in-None
returns-in-None c = rw (← c.self.view_is) (ap (λ (link : LinkView). link.peer.given) (sym (none_of c.self.inside.slots.links c.args.conn c.in-None.ensures)))

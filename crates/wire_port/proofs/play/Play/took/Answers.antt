use Rattle.std.proofs.Common.{ap, sym, ◌∙◌}
use Rattle.wire_port.specs.Links.{LinkView}
use Rattle.wire_port.proofs.Changing.{none_of}
use Rattle.wire_port.proofs.play.Play.took.Goals as goal

pub returns-in-None : goal.returns-in-None
returns-in-None c = rw (← c.self.view_is) (sym (c.self.invariant.play.taken c.args.conn ∙ ap (λ (link : LinkView). link.taken) (none_of c.self.inside.slots.links c.args.conn c.in-None.ensures)))

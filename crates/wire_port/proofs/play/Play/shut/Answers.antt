use Rattle.std.proofs.Common.{◌∙◌, ap, sym, subst, map, drop}
use Rattle.wire_port.specs.Steps.Step.{Shut}
use Rattle.wire_port.specs.Calls.{IsWire}
use Rattle.wire_port.specs.Links.{LogView, logged, link_shut}
use Rattle.wire_port.specs.Scripts.{line_of}
use Rattle.wire_port.specs.Slots.{SlotsView, changed_link, peers_of}
use Rattle.wire_port.specs.Played.{told_of}
use Rattle.wire_port.proofs.Moves.{shut_now}
use Rattle.wire_port.proofs.Fitting.{fits_changed}
use Rattle.wire_port.proofs.Telling.{is_wire, shut_told, shut_peers}
use Rattle.wire_port.proofs.play.Play.shut.Goals as goal

pub shut-requires-2 : goal.shut-requires-2
shut-requires-2 c = (shut_now c.args.conn (map line_of (drop c.self.inside.played c.self.inside.lines.items)) c.self.inside.log c.self.inside.slots.links c.self.inside.slots.waiting c.self.inside.opened.items (sym (c.self.invariant.play.linked c.args.conn) ∙ (rw (← c.self.view_is) at c.requires.open.opened)) (rw (← c.self.view_is) at c.requires.open.not_shut) c.self.invariant.play).0

pub invariant_of-self : goal.invariant_of-self
invariant_of-self c =
    fits_changed c.self.inside.lines c.self.inside.played c.self.inside.log c.shut-2.new.self (logged (Shut c.args.conn) c.self.inside.log) c.self.inside.slots c.shut.new.self c.self.inside.opened c.self.inside.ports c.args.conn (link_shut)
    c.self.invariant c.shut-2.ensures c.shut.ensures (shut_now c.args.conn (map line_of (drop c.self.inside.played c.self.inside.lines.items)) c.self.inside.log c.self.inside.slots.links c.self.inside.slots.waiting c.self.inside.opened.items (sym (c.self.invariant.play.linked c.args.conn) ∙ (rw (← c.self.view_is) at c.requires.open.opened)) (rw (← c.self.view_is) at c.requires.open.not_shut) c.self.invariant.play).1

pub returns-clause-wire : goal.returns-clause-wire
returns-clause-wire c =
    rw (← c.self.view_is)
    ((λ i. told_of (c.shut-2.ensures i) ((c.shut.ensures i).links)) ∙ shut_told c.args.conn c.self.inside.log c.self.inside.slots.links)

pub returns-clause-peers : goal.returns-clause-peers
returns-clause-peers c =
    rw (← c.self.view_is)
    (ap (λ (slots : SlotsView). peers_of slots.links) c.shut.ensures ∙ shut_peers c.args.conn c.self.inside.slots.links)

pub returns-clause-sound : goal.returns-clause-sound
returns-clause-sound c =
    subst (λ (slots : SlotsView). IsWire (told_of c.shut-2.new.self slots.links)) (sym c.shut.ensures)
    (subst (λ (log : LogView). IsWire (told_of log (changed_link c.args.conn (link_shut) c.self.inside.slots.links))) (sym c.shut-2.ensures)
    (is_wire _ (logged (Shut c.args.conn) c.self.inside.log) (changed_link c.args.conn (link_shut) c.self.inside.slots.links) c.self.inside.slots.waiting c.self.inside.opened.items (shut_now c.args.conn (map line_of (drop c.self.inside.played c.self.inside.lines.items)) c.self.inside.log c.self.inside.slots.links c.self.inside.slots.waiting c.self.inside.opened.items (sym (c.self.invariant.play.linked c.args.conn) ∙ (rw (← c.self.view_is) at c.requires.open.opened)) (rw (← c.self.view_is) at c.requires.open.not_shut) c.self.invariant.play).1))

use Rattle.std.proofs.Common.{◌∙◌, ap, sym, subst, length, map, drop}
use Rattle.wire_port.specs.Offers.{Peer, take_answer}
use Rattle.wire_port.specs.Calls.{IsWire, take_answered}
use Rattle.wire_port.specs.Links.{LogView, link_after_take, log_after_take}
use Rattle.wire_port.specs.Scripts.{line_of}
use Rattle.wire_port.specs.Slots.{SlotsView, changed_link, peers_of}
use Rattle.wire_port.specs.Played.{told_of}
use Rattle.wire_port.proofs.Changing.{peer_is}
use Rattle.wire_port.proofs.Fitting.{fits_changed}
use Rattle.wire_port.proofs.Telling.{is_wire, take_fits, take_told, take_peers}
use Rattle.wire_port.proofs.play.Play.take.Goals as goal

pub after_take-requires-clause-room : goal.after_take-requires-clause-room
after_take-requires-clause-room c = (take_fits c.args.conn (length c.args.buf.now) (take_answered c.take-answer.result c.take-answer.new.buf) (map line_of (drop c.self.inside.played c.self.inside.lines.items)) c.self.inside.log c.self.inside.slots.links c.self.inside.slots.waiting c.self.inside.opened.items c.take-answer.ensures.answer (sym (c.self.invariant.play.linked c.args.conn) ∙ (rw (← c.self.view_is) at c.requires.open.opened)) (rw (← c.self.view_is) at c.requires.open.not_gone) c.self.invariant.play).0

pub invariant_of-self : goal.invariant_of-self
invariant_of-self c =
    fits_changed c.self.inside.lines c.self.inside.played c.self.inside.log c.after_take.new.self (log_after_take c.args.conn (take_answered c.take-answer.result c.take-answer.new.buf) c.self.inside.log) c.self.inside.slots c.take-answer.new.self c.self.inside.opened c.self.inside.ports c.args.conn (link_after_take (take_answered c.take-answer.result c.take-answer.new.buf))
    c.self.invariant c.after_take.ensures c.take-answer.ensures.after (take_fits c.args.conn (length c.args.buf.now) (take_answered c.take-answer.result c.take-answer.new.buf) (map line_of (drop c.self.inside.played c.self.inside.lines.items)) c.self.inside.log c.self.inside.slots.links c.self.inside.slots.waiting c.self.inside.opened.items c.take-answer.ensures.answer (sym (c.self.invariant.play.linked c.args.conn) ∙ (rw (← c.self.view_is) at c.requires.open.opened)) (rw (← c.self.view_is) at c.requires.open.not_gone) c.self.invariant.play).1

pub returns-clause-wire : goal.returns-clause-wire
returns-clause-wire c =
    rw (← c.self.view_is)
    ((λ i. told_of (c.after_take.ensures i) ((c.take-answer.ensures.after i).links)) ∙ take_told c.args.conn (take_answered c.take-answer.result c.take-answer.new.buf) c.self.inside.log c.self.inside.slots.links (sym (c.self.invariant.play.linked c.args.conn) ∙ (rw (← c.self.view_is) at c.requires.open.opened)))

pub returns-clause-peers : goal.returns-clause-peers
returns-clause-peers c =
    rw (← c.self.view_is)
    (ap (λ (slots : SlotsView). peers_of slots.links) c.take-answer.ensures.after ∙ take_peers c.args.conn (take_answered c.take-answer.result c.take-answer.new.buf) c.self.inside.slots.links)

pub returns-clause-sound : goal.returns-clause-sound
returns-clause-sound c =
    subst (λ (slots : SlotsView). IsWire (told_of c.after_take.new.self slots.links)) (sym c.take-answer.ensures.after)
    (subst (λ (log : LogView). IsWire (told_of log (changed_link c.args.conn (link_after_take (take_answered c.take-answer.result c.take-answer.new.buf)) c.self.inside.slots.links))) (sym c.after_take.ensures)
    (is_wire _ (log_after_take c.args.conn (take_answered c.take-answer.result c.take-answer.new.buf) c.self.inside.log) (changed_link c.args.conn (link_after_take (take_answered c.take-answer.result c.take-answer.new.buf)) c.self.inside.slots.links) c.self.inside.slots.waiting c.self.inside.opened.items (take_fits c.args.conn (length c.args.buf.now) (take_answered c.take-answer.result c.take-answer.new.buf) (map line_of (drop c.self.inside.played c.self.inside.lines.items)) c.self.inside.log c.self.inside.slots.links c.self.inside.slots.waiting c.self.inside.opened.items c.take-answer.ensures.answer (sym (c.self.invariant.play.linked c.args.conn) ∙ (rw (← c.self.view_is) at c.requires.open.opened)) (rw (← c.self.view_is) at c.requires.open.not_gone) c.self.invariant.play).1))

pub returns-clause-answer : goal.returns-clause-answer
returns-clause-answer c = rw (← c.self.view_is) (c.take-answer.ensures.answer ∙ ap (λ (peer : Peer). take_answer (length c.args.buf.now) peer) (sym (peer_is c.self.inside.slots.links c.args.conn)))

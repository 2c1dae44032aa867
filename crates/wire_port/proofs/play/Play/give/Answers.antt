use Rattle.std.proofs.Common.{◌∙◌, ap, sym, subst, map, drop}
use Rattle.wire_port.specs.Offers.{limited_answer}
use Rattle.wire_port.specs.Calls.{IsWire, give_answered}
use Rattle.wire_port.specs.Links.{LogView, link_after_give, log_after_give}
use Rattle.wire_port.specs.Scripts.{line_of}
use Rattle.wire_port.specs.Slots.{SlotsView, link_of, changed_link, peers_of}
use Rattle.wire_port.specs.Played.{told_of}
use Rattle.wire_port.proofs.Changing.{peer_is}
use Rattle.wire_port.proofs.Fitting.{fits_changed}
use Rattle.wire_port.proofs.Telling.{is_wire, give_fits, give_told, give_peers}
use Rattle.wire_port.proofs.play.Play.give.Goals as goal

pub after_give-requires : goal.after_give-requires
after_give-requires c = (give_fits c.args.conn c.args.piece.now (give_answered c.give-answer.result c.args.piece.now) (map line_of (drop c.self.inside.played c.self.inside.lines.items)) c.self.inside.log c.self.inside.slots.links c.self.inside.slots.waiting c.self.inside.opened.items (sym (c.self.invariant.play.linked c.args.conn) ∙ (rw (← c.self.view_is) at c.requires.open.opened)) (rw (← c.self.view_is) at c.requires.open.not_gone) c.self.invariant.play).0

pub invariant_of-self : goal.invariant_of-self
invariant_of-self c =
    fits_changed c.self.inside.lines c.self.inside.played c.self.inside.log c.after_give.new.self (log_after_give c.args.conn (give_answered c.give-answer.result c.args.piece.now) c.self.inside.log) c.self.inside.slots c.give-answer.new.self c.self.inside.opened c.self.inside.ports c.args.conn (link_after_give c.args.piece.now (give_answered c.give-answer.result c.args.piece.now))
    c.self.invariant c.after_give.ensures c.give-answer.ensures.after (give_fits c.args.conn c.args.piece.now (give_answered c.give-answer.result c.args.piece.now) (map line_of (drop c.self.inside.played c.self.inside.lines.items)) c.self.inside.log c.self.inside.slots.links c.self.inside.slots.waiting c.self.inside.opened.items (sym (c.self.invariant.play.linked c.args.conn) ∙ (rw (← c.self.view_is) at c.requires.open.opened)) (rw (← c.self.view_is) at c.requires.open.not_gone) c.self.invariant.play).1

pub returns-clause-wire : goal.returns-clause-wire
returns-clause-wire c =
    rw (← c.self.view_is)
    ((λ i. told_of (c.after_give.ensures i) ((c.give-answer.ensures.after i).links)) ∙ give_told c.args.conn (link_of c.self.inside.slots.links c.args.conn).taken c.args.piece.now (give_answered c.give-answer.result c.args.piece.now) c.self.inside.log c.self.inside.slots.links (sym (c.self.invariant.play.linked c.args.conn) ∙ (rw (← c.self.view_is) at c.requires.open.opened)) c.give-answer.ensures.answer)

pub returns-clause-peers : goal.returns-clause-peers
returns-clause-peers c =
    rw (← c.self.view_is)
    (ap (λ (slots : SlotsView). peers_of slots.links) c.give-answer.ensures.after ∙ give_peers c.args.conn c.args.piece.now (give_answered c.give-answer.result c.args.piece.now) c.self.inside.slots.links)

pub returns-clause-sound : goal.returns-clause-sound
returns-clause-sound c =
    subst (λ (slots : SlotsView). IsWire (told_of c.after_give.new.self slots.links)) (sym c.give-answer.ensures.after)
    (subst (λ (log : LogView). IsWire (told_of log (changed_link c.args.conn (link_after_give c.args.piece.now (give_answered c.give-answer.result c.args.piece.now)) c.self.inside.slots.links))) (sym c.after_give.ensures)
    (is_wire _ (log_after_give c.args.conn (give_answered c.give-answer.result c.args.piece.now) c.self.inside.log) (changed_link c.args.conn (link_after_give c.args.piece.now (give_answered c.give-answer.result c.args.piece.now)) c.self.inside.slots.links) c.self.inside.slots.waiting c.self.inside.opened.items (give_fits c.args.conn c.args.piece.now (give_answered c.give-answer.result c.args.piece.now) (map line_of (drop c.self.inside.played c.self.inside.lines.items)) c.self.inside.log c.self.inside.slots.links c.self.inside.slots.waiting c.self.inside.opened.items (sym (c.self.invariant.play.linked c.args.conn) ∙ (rw (← c.self.view_is) at c.requires.open.opened)) (rw (← c.self.view_is) at c.requires.open.not_gone) c.self.invariant.play).1))

pub returns-clause-answer : goal.returns-clause-answer
returns-clause-answer c = rw (← c.self.view_is) (c.give-answer.ensures.answer ∙ (λ i. limited_answer (sym (c.self.invariant.play.taken c.args.conn) i) c.args.piece.now (sym (peer_is c.self.inside.slots.links c.args.conn) i)))

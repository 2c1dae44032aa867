use Rattle.std.proofs.Common.{◌≡◌, ◌∙◌, List, ap, sym, subst, arith, map, drop, length}
use Rattle.wire_port.specs.declared.script.Line.{Line}
use Rattle.wire_port.specs.Scripts.{line_of}
use Rattle.wire_port.specs.Playing.{IsPlay}
use Rattle.wire_port.specs.Played.{lines_behind}
use Rattle.wire_port.proofs.Telling.{is_wire}
use Rattle.wire_port.proofs.Fitting.{one_more_played, fits_next}
use Rattle.wire_port.proofs.play.Play.poll.Goals as goal

pub returns-then-count-clause-sound : goal.returns-then-count-clause-sound
returns-then-count-clause-sound c = is_wire _ c.self.inside.log c.self.inside.slots.links c.self.inside.slots.waiting c.self.inside.opened.items c.self.invariant.play

pub invariant_of-self-2 : goal.invariant_of-self-2
invariant_of-self-2 c =
    let lines : c.split_at.result.1.now ≡ drop c.self.inside.played c.self.inside.lines.items = c.split_at.ensures.back ∙ ap (drop c.self.inside.played) c.deref.ensures.value in
    fits_next c.self.inside.lines c.self.inside.played c.min-self-inside.result c.self.inside.log c.next_line-found.new.log c.self.inside.slots c.next_line-found.new.slots c.self.inside.opened c.next_line-found.new.opened c.self.inside.ports
    c.self.invariant (omega (arith, c.min-self-inside.ensures, c.len.ensures))
    (one_more_played c.self.inside.lines.items c.self.inside.played c.len.result c.min-self-inside.result (c.len.ensures ∙ sym c.deref.ensures.len ∙ ap (λ (l : List Line). length l) c.deref.ensures.value) (omega (arith, c.len.ensures, c.self.invariant.some)) c.min-self-inside.ensures)
    (subst (λ (l : List Line). IsPlay (lines_behind (map line_of l)) c.next_line-found.new.log c.next_line-found.new.slots.links c.next_line-found.new.slots.waiting c.next_line-found.new.opened.items) lines c.next_line-found.ensures.play)
    c.next_line-found.ensures.memory

pub returns-clause-lines : goal.returns-clause-lines
returns-clause-lines c =
    rw (← c.self.view_is)
    (one_more_played c.self.inside.lines.items c.self.inside.played c.len.result c.min-self-inside.result (c.len.ensures ∙ sym c.deref.ensures.len ∙ ap (λ (l : List Line). length l) c.deref.ensures.value) (omega (arith, c.len.ensures, c.self.invariant.some)) c.min-self-inside.ensures)

pub returns-clause-sound : goal.returns-clause-sound
returns-clause-sound c = is_wire _ c.next_line-found.new.log c.next_line-found.new.slots.links c.next_line-found.new.slots.waiting c.next_line-found.new.opened.items c.next_line-found.ensures.play

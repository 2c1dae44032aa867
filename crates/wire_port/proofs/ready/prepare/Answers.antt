use Rattle.std.proofs.Common.{◌≡◌, ◌∷◌, [], ◌++◌, ◌+◌, ◌∙◌, List, ℕ, ap, sym, subst, arith, map, drop, set, get_or, ◌<◌}
use Rattle.wire_port.specs.Offers.{ScriptLine}
use Rattle.wire_port.specs.Offers.ScriptLine.{Open}
use Rattle.wire_port.specs.Links.{LinkView, new_link}
use Rattle.wire_port.specs.Scripts.{line_of}
use Rattle.wire_port.specs.Playing.{Prepared}
use Rattle.wire_port.proofs.Readying.{next_line, skipped, prepared_more, not_open}
use Rattle.wire_port.proofs.ready.prepare.Goals as goal

pub returns-in_ok-push_back : goal.returns-in_ok-push_back
returns-in_ok-push_back c =
    let rest = map line_of (drop (c.args.at + 1) c.args.lines.now) in
    let lines : map line_of (drop c.args.at c.args.lines.now) ≡ Open c.from-place.result c.in-Open.field-1 ∷ rest =
    next_line c.args.lines.now c.args.at c.index-lines-at.result c.requires.within c.index-lines-at.is
    ∙ (λ i. line_of (c.in-Open.is i) ∷ rest) ∙ (λ i. Open (sym c.from-place.ensures i) c.in-Open.field-1 ∷ rest) in
    let below : c.from-place.result < 65536 = omega (arith, c.from-place.ensures) in
    subst (λ (waiting : List LinkView). Prepared (map line_of c.args.lines.now) rest waiting (set c.args.table.now c.from-place.result c.len.result)) (sym c.in_ok-push_back.ensures.items)
    (subst (λ (count : ℕ). Prepared (map line_of c.args.lines.now) rest (c.args.waiting.now.items ++ c.in_ok-link.link ∷ []) (set c.args.table.now c.from-place.result count)) (omega (arith, c.len.ensures))
    (prepared_more (map line_of c.args.lines.now) rest c.from-place.result c.in-Open.field-1 c.args.waiting.now.items c.args.table.now c.args.offers.now c.in_ok-link.link (get_or c.args.offers.now c.from-place.result 0) c.requires.offers below
    (c.requires.offers.each c.from-place.result 0 below ∙ sym (c.requires.offers.each c.from-place.result (get_or c.args.offers.now c.from-place.result 0) below)) (c.in_ok-link.ensures ∙ ap (λ (n : ℕ). new_link n (get_or c.args.offers.now c.from-place.result 0)) (c.from.ensures ∙ sym c.from-place.ensures))
    (subst (λ (left : List ScriptLine). Prepared (map line_of c.args.lines.now) left c.args.waiting.now.items c.args.table.now) lines c.requires.prepared)))

pub returns-in_default : goal.returns-in_default
returns-in_default c =
    skipped (map line_of c.args.lines.now) (map line_of (drop (c.args.at + 1) c.args.lines.now)) (line_of c.index-lines-at.result) c.args.waiting.now.items c.args.table.now (not_open c.index-lines-at.result c.in_default.not-Open)
    (subst (λ (left : List ScriptLine). Prepared (map line_of c.args.lines.now) left c.args.waiting.now.items c.args.table.now) (next_line c.args.lines.now c.args.at c.index-lines-at.result c.requires.within c.index-lines-at.is) c.requires.prepared)

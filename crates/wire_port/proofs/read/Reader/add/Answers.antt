use Rattle.std.proofs.Common.{◌≡◌, ◌∷◌, [], ◌++◌, ◌∙◌, List, map, ap, sym, subst, arith, rules, set}
use Rattle.std.proofs.lemmas.List.{map-append}
use Rattle.wire_port.specs.Offers.{ScriptLine}
use Rattle.wire_port.specs.Scripts.{line_of}
use Rattle.wire_port.specs.Reading.{Tracks}
use Rattle.wire_port.proofs.Standing.{tracked}
use Rattle.wire_port.proofs.read.Reader.add.Goals as goal

pub invariant_of-self-2 : goal.invariant_of-self-2
invariant_of-self-2 c =
    let lines : map line_of c.push.new.self.items ≡ map line_of c.self.inside.lines.items ++ line_of c.args.line ∷ [] = ap (map line_of) c.in_ok-push.ensures.items ∙ map-append line_of _ _ in
    subst (λ (all : List ScriptLine). Tracks (set c.self.inside.stands.items c.from-conn.result c.next_stand-next.result) all) (sym lines)
    (tracked c.self.inside.stands.items _ (line_of c.args.line) c.from-conn.result c.index-stand.result.now _ c.self.invariant (search rules) (omega (arith, c.from-conn.ensures)) c.index-stand.ensures c.next_stand-next.ensures)

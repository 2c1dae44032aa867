use Rattle.std.proofs.Common.{map, ap, subst, sym, List}
use Rattle.wire_port.specs.Offers.{ScriptLine}
use Rattle.wire_port.specs.Scripts.{line_of}
use Rattle.wire_port.specs.Reading.{Tracks}
use Rattle.wire_port.proofs.Standing.{tracked_none}
use Rattle.wire_port.proofs.read.Reader.new.Goals as goal

pub invariant_of-result : goal.invariant_of-result
invariant_of-result c = subst (λ (all : List ScriptLine). Tracks c.in_ok-vec.field-0.items all) (sym (ap (map line_of) c.new.ensures.items)) (tracked_none _ (c.in_ok-vec.ensures.items_if_clones_equal (λ y is. is)))

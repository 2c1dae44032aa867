use Rattle.std.proofs.Common.{ap, arith, map, drop, ◌+◌}
use Rattle.wire_port.specs.Scripts.{line_of}
use Rattle.wire_port.specs.Playing.{sent_on}
use Rattle.wire_port.proofs.Readying.{offered_more, next_line}
use Rattle.wire_port.proofs.ready.add_offers.Goals as goal

pub loop-line-preserved : goal.loop-line-preserved
loop-line-preserved c = λ conn default below.
    omega (
      arith,
      c.in_ok-add_offer.ensures conn default below,
      c.loop-line.invariant conn default below,
      ap (sent_on conn) (next_line c.args.lines.now c.loop-line.line-index c.line-item.result c.loop-line-test.true c.line-item.is),
      offered_more conn (line_of c.line-item.result) (map line_of (drop (c.loop-line.line-index + 1) c.args.lines.now)),
    )

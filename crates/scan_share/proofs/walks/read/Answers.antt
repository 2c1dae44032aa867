use Rattle.scan_share.proofs.Walked.{reads}
use Rattle.scan_share.proofs.walks.read.Goals as goal

pub returns-clause-read : goal.returns-clause-read
returns-clause-read g c =
    reads (g.C.Cable.chain c.args.cable.now) (g.C.Cable.chain c.shift_out.new.cable) (g.C.Cable.chain c.cycles.new.self)
    (g.C.Cable.ahead c.args.cable.now) (g.C.Cable.ahead c.shift_out.new.cable) (g.C.Cable.ahead c.cycles.new.self)
    (g.S.BitSink.holds c.args.sink.now) (g.S.BitSink.holds c.shift_out.new.sink) c.args.count _
    c.in_ok-shift_out.ensures.read c.in_ok-cycles.ensures.clocked c.in_ok-cycles.ensures.ahead

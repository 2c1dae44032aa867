use Rattle.scan_share.proofs.Scanned.{scans_out}
use Rattle.scan_share.proofs.walks.scan_out.Goals as goal

pub returns-clause-scanned : goal.returns-clause-scanned
returns-clause-scanned g c =
    scans_out c.args.is_loaded (g.S.BitSource.left c.args.codes.now) (g.C.Cable.chain c.args.cable.now) (g.C.Cable.chain c.enter.new.cable) (g.C.Cable.chain c.read.new.cable)
    (g.C.Cable.ahead c.args.cable.now) (g.C.Cable.ahead c.enter.new.cable) (g.C.Cable.ahead c.read.new.cable)
    (g.K.BitSink.holds c.args.sink.now) (g.K.BitSink.holds c.read.new.sink) c.args.ir_count c.args.count
    c.requires.codes.1 c.in_ok-enter.ensures.made c.in_ok-enter.ensures.ahead c.in_ok-read.ensures.read

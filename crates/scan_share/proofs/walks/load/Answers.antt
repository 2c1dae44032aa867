use Rattle.scan_bits.specs.Words.{bits_of}
use Rattle.scan_share.proofs.Walked.{loaded, took_more}
use Rattle.scan_share.proofs.walks.load.Goals as goal

pub returns-clause-made : goal.returns-clause-made
returns-clause-made g c =
    loaded (g.S.BitSource.left c.args.codes.now) c.args.count _ _ (g.C.Cable.chain c.args.cable.now) (g.C.Cable.chain c.cycles.new.self) (g.C.Cable.chain c.shift_in.new.cable) (g.C.Cable.chain c.cycles-2.new.self)
    c.requires.whole c.in_ok-cycles.ensures.clocked c.in_ok-shift_in.ensures.shifted c.in_ok-cycles-2.ensures.clocked

pub returns-clause-ahead : goal.returns-clause-ahead
returns-clause-ahead g c =
    took_more (bits_of 4 c.in_ok-cycles.field-0) c.args.count (g.C.Cable.ahead c.args.cable.now) (g.C.Cable.ahead c.cycles.new.self) (g.C.Cable.ahead c.shift_in.new.cable) (g.C.Cable.ahead c.cycles-2.new.self) (bits_of 4 c.in_ok-cycles-2.field-0)
    c.in_ok-cycles.ensures.ahead c.in_ok-shift_in.ensures.ahead c.in_ok-cycles-2.ensures.ahead

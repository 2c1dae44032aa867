use Rattle.scan_share.proofs.Walked.{wrote}
use Rattle.scan_share.proofs.walks.write.Goals as goal

pub returns-clause-made : goal.returns-clause-made
returns-clause-made g c =
    wrote (g.S.BitSource.left c.args.bits.now) c.args.count _ _ (g.C.Cable.chain c.args.cable.now) (g.C.Cable.chain c.cycles.new.self) (g.C.Cable.chain c.shift_in.new.cable) (g.C.Cable.chain c.cycles-2.new.self)
    c.requires.whole c.in_ok-cycles.ensures.clocked c.in_ok-shift_in.ensures.shifted c.in_ok-cycles-2.ensures.clocked

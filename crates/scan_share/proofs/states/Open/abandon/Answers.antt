use Rattle.scan_share.proofs.Rested.{abandoned, abandons_whole, abandons_rest}
use Rattle.scan_share.proofs.states.Open.abandon.Goals as goal

pub returns-in-Ok-cycles-clause-abandoned : goal.returns-in-Ok-cycles-clause-abandoned
returns-in-Ok-cycles-clause-abandoned g c =
    abandoned c.args.layout.now (g.C.Cable.chain c.args.self.cable) (g.C.Cable.chain c.reset.new.self) (g.C.Cable.chain c.cycles.new.self) _ c.reset_codes-line.ensures.parts c.requires.whole
    (rw (← c.self.view_is) c.in-Ok.ensures.reset) c.in-Ok-cycles.ensures.clocked

pub returns-in-Ok-cycles-clause-whole : goal.returns-in-Ok-cycles-clause-whole
returns-in-Ok-cycles-clause-whole g c =
    abandons_whole c.args.layout.now (g.C.Cable.chain c.args.self.cable) (g.C.Cable.chain c.cycles.new.self) (returns-in-Ok-cycles-clause-abandoned g c)

pub invariant_of-result : goal.invariant_of-result
invariant_of-result g c = (
  c.in-Ok-cycles.ensures.devices,
  abandons_rest c.args.layout.now (g.C.Cable.chain c.args.self.cable) (g.C.Cable.chain c.cycles.new.self) _ c.reset_codes-line.ensures.codes (returns-in-Ok-cycles-clause-abandoned g c),
)

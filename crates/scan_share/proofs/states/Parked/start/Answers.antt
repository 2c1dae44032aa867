use Rattle.scan_share.proofs.Rested.{whole_devices, started, starts_whole, starts_rest}
use Rattle.scan_share.proofs.states.Parked.start.Goals as goal

pub cycles-requires-clause-devices : goal.cycles-requires-clause-devices
cycles-requires-clause-devices g c = whole_devices c.args.layout.now (g.C.Cable.chain c.args.cable) c.reset_codes-loaded.ensures.some c.requires.whole

pub returns-in-Ok-clause-started : goal.returns-in-Ok-clause-started
returns-in-Ok-clause-started g c =
    started c.args.layout.now (g.C.Cable.chain c.args.cable) (g.C.Cable.chain c.cycles.new.self) _ c.reset_codes-loaded.ensures.parts c.requires.whole c.requires.reset c.in-Ok.ensures.clocked

pub returns-in-Ok-clause-whole : goal.returns-in-Ok-clause-whole
returns-in-Ok-clause-whole g c =
    starts_whole c.args.layout.now (g.C.Cable.chain c.args.cable) (g.C.Cable.chain c.cycles.new.self)
    (started c.args.layout.now (g.C.Cable.chain c.args.cable) (g.C.Cable.chain c.cycles.new.self) _ c.reset_codes-loaded.ensures.parts c.requires.whole c.requires.reset c.in-Ok.ensures.clocked)

pub invariant_of-result : goal.invariant_of-result
invariant_of-result g c = (
  c.in-Ok.ensures.devices,
  starts_rest c.args.layout.now (g.C.Cable.chain c.args.cable) (g.C.Cable.chain c.cycles.new.self) _ c.reset_codes-loaded.ensures.codes
      (started c.args.layout.now (g.C.Cable.chain c.args.cable) (g.C.Cable.chain c.cycles.new.self) _ c.reset_codes-loaded.ensures.parts c.requires.whole c.requires.reset c.in-Ok.ensures.clocked),
)

use Rattle.std.specs.declared.option.Option.TheVariants.{Some}
use Rattle.wire_port.specs.Played.{wire_of}
use Rattle.serve_tests.proofs.hubs.served.Goals as goal

pub serve-done-requires-clause-open : goal.serve-done-requires-clause-open
serve-done-requires-clause-open c = c.in_ok-hub.ensures.free (Some (wire_of c.args.wire.now.play))

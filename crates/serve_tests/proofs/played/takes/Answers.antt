use Rattle.wire_port.specs.Played.{wire_of}
use Rattle.wire_port.proofs.Opening.{take_keeps}
use Rattle.serve_tests.proofs.played.takes.Goals as goal

pub returns-clause-stays : goal.returns-clause-stays
returns-clause-stays c = take_keeps 1 _ (wire_of c.args.wire.now.play) (wire_of c.take.new.self.play) c.in-Bytes.ensures.told c.requires.is_open

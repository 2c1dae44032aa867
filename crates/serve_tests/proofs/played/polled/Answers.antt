use Rattle.wire_port.specs.Played.{wire_of}
use Rattle.wire_port.proofs.Opening.{poll_keeps}
use Rattle.serve_tests.proofs.played.polled.Goals as goal

pub returns-in-Ok-clause-stays : goal.returns-in-Ok-clause-stays
returns-in-Ok-clause-stays c = poll_keeps 1 c.poll.result (wire_of c.args.wire.now.play) (wire_of c.poll.new.self.play) c.poll.ensures.told

pub returns-in-Err-clause-stays : goal.returns-in-Err-clause-stays
returns-in-Err-clause-stays c = poll_keeps 1 c.poll.result (wire_of c.args.wire.now.play) (wire_of c.poll.new.self.play) c.poll.ensures.told

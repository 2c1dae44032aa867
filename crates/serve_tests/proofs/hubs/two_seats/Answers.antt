use Rattle.hub.proofs.Polling.{free_seats}
use Rattle.serve_tests.proofs.hubs.two_seats.Goals as goal

pub returns-in-Ok-new-clause-free : goal.returns-in-Ok-new-clause-free
returns-in-Ok-new-clause-free c = free_seats c.in-Ok-new.hub.hub c.in-Ok-new.ensures.free

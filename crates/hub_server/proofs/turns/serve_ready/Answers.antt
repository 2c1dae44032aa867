use Rattle.hub.proofs.Polling.{served_tells}
use Rattle.hub_server.proofs.Going.{cable_stops}
use Rattle.hub_server.proofs.turns.serve_ready.Goals as goal

pub returns-in_err-rest-clause-serves : goal.returns-in_err-rest-clause-serves
returns-in_err-rest-clause-serves g c = cable_stops c.from_residual.result c.args.hub.now.hub c.rest.new.self.hub (g.C.Cable.chain c.args.hub.now.cable) (g.C.Cable.chain c.rest.new.self.cable) (g.W.Wire.told c.args.wire.now) (g.W.Wire.told c.rest.new.wire) (g.O.Sink.sent c.args.out.now) c.from_residual.ensures.1

pub returns-clause-sound : goal.returns-clause-sound
returns-clause-sound g c = record {
  fit = c.in_ok-rest.ensures.fit;
  seats = c.in_ok-rest.ensures.«open»;
  tells = served_tells (g.W.Wire.told c.args.wire.now) (g.W.Wire.told c.rest.new.wire) c.requires.sound.tells c.in_ok-rest.ensures.known;
}

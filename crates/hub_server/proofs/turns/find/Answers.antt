use Rattle.hub.proofs.Polling.{polled_seats, polled_tells}
use Rattle.hub_server.proofs.Finding.{opens_in}
use Rattle.hub_server.proofs.turns.find.Goals as goal

pub returns-clause-opens : goal.returns-clause-opens
returns-clause-opens g c = opens_in c.args.hub.now.hub c.poll.result (g.W.Wire.told c.args.wire.now) (g.W.Wire.told c.poll.new.self) c.requires.sound.seats c.requires.sound.tells c.poll.ensures.fresh c.poll.ensures.told

pub returns-clause-sound : goal.returns-clause-sound
returns-clause-sound g c = record {
  fit = c.requires.sound.fit;
  seats = polled_seats c.args.hub.now.hub c.poll.result (g.W.Wire.told c.args.wire.now) (g.W.Wire.told c.poll.new.self) c.requires.sound.seats c.poll.ensures.told;
  tells = polled_tells c.poll.result (g.W.Wire.told c.args.wire.now) (g.W.Wire.told c.poll.new.self) c.requires.sound.tells c.poll.ensures.told;
}

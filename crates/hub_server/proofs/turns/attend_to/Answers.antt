use Rattle.std.proofs.Common.{subst}
use Rattle.std.specs.Io.KnownBytes.{Appends}
use Rattle.hub.proofs.Polling.{served_tells}
use Rattle.hub_server.proofs.Finding.{attended}
use Rattle.hub_server.specs.Told.{ended_lines}
use Rattle.hub_server.proofs.Going.{cable_stops}
use Rattle.hub_server.proofs.turns.attend_to.Goals as goal

pub returns-in_err-turn-clause-serves : goal.returns-in_err-turn-clause-serves
returns-in_err-turn-clause-serves g c before polled = cable_stops c.from_residual.result c.args.hub.now.hub c.turn.new.self.hub (g.C.Cable.chain c.args.hub.now.cable) (g.C.Cable.chain c.turn.new.self.cable) before (g.W.Wire.told c.turn.new.wire) (g.O.Sink.sent c.args.out.now) c.from_residual.ensures.1

pub returns-clause-sound : goal.returns-clause-sound
returns-clause-sound g c = record {
  fit = c.in_ok-turn.ensures.fit;
  seats = c.in_ok-turn.ensures.«open»;
  tells = served_tells (g.W.Wire.told c.args.wire.now) (g.W.Wire.told c.turn.new.wire) c.requires.sound.tells c.in_ok-turn.ensures.known;
}

pub returns-clause-serves : goal.returns-clause-serves
returns-clause-serves g c before polled = attended c.args.hub.now.hub c.turn.new.self.hub (g.C.Cable.chain c.args.hub.now.cable) (g.C.Cable.chain c.turn.new.self.cable) c.args.found before (g.W.Wire.told c.args.wire.now) (g.W.Wire.told c.turn.new.wire)
    (g.O.Sink.sent c.args.out.now) (g.O.Sink.sent c.tell_ended.new.out) polled
    (subst (λ ends. Appends (g.O.Sink.sent c.args.out.now) (g.O.Sink.sent c.tell_ended.new.out) (ended_lines ends)) c.ended.ensures.are c.in_ok-tell_ended.ensures.0)
    c.in_ok-turn.ensures.stands c.in_ok-turn.ensures.ends c.in_ok-turn.ensures.rests

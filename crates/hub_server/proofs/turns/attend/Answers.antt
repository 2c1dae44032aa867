use Rattle.std.proofs.Common.{sym, ◌∙◌}
use Rattle.hub_server.proofs.Finding.{end_stays}
use Rattle.hub_server.proofs.Going.{goes_none, goes_still, poll_stops}
use Rattle.hub_server.proofs.turns.attend.Goals as goal

pub returns-then-over-clause-serves : goal.returns-then-over-clause-serves
returns-then-over-clause-serves g c = goes_none c.args.hub.now.hub (g.C.Cable.chain c.args.hub.now.cable) (g.W.Wire.told c.args.wire.now) (g.O.Sink.sent c.args.out.now)

pub returns-in_err-found-clause-serves : goal.returns-in_err-found-clause-serves
returns-in_err-found-clause-serves g c = poll_stops c.from_residual.result c.args.hub.now.hub (g.C.Cable.chain c.args.hub.now.cable) (g.W.Wire.told c.args.wire.now) (g.W.Wire.told c.find.new.wire) (g.O.Sink.sent c.args.out.now)
    c.from_residual.ensures.1 c.in_err-found.ensures.none

pub returns-then-is_end-clause-serves : goal.returns-then-is_end-clause-serves
returns-then-is_end-clause-serves g c = goes_still c.args.hub.now.hub (g.C.Cable.chain c.args.hub.now.cable) (g.W.Wire.told c.args.wire.now) (g.W.Wire.told c.find.new.wire) (g.O.Sink.sent c.args.out.now)
    (end_stays c.in_ok-found.found (g.W.Wire.told c.args.wire.now) (g.W.Wire.told c.find.new.wire) (sym c.is_end.ensures ∙ c.if-is_end.true) c.in_ok-found.ensures.polled)

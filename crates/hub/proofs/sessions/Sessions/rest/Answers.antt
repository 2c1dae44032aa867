use Rattle.std.proofs.Common.{◌∙◌, ap, arith, length}
use Rattle.hub.proofs.Ends.{ends_then}
use Rattle.hub.proofs.Giving.{keeps_then}
use Rattle.hub.proofs.OnTheWire.{known_then}
use Rattle.hub.proofs.Shutting.{shuts_then}
use Rattle.hub.proofs.Resting.{rests_then}
use Rattle.hub.proofs.Rounds.{below_all, below_more}
use Rattle.hub.proofs.sessions.Sessions.rest.Goals as goal

pub loop-grant-preserved : goal.loop-grant-preserved
loop-grant-preserved g c = record {
  whole = c.in_ok-serve_ready.ensures.whole;
  made = record {
    layout = c.in_ok-serve_ready.ensures.made.layout ∙ c.loop-grant.invariant.made.layout;
    vector = c.in_ok-serve_ready.ensures.made.vector ∙ c.loop-grant.invariant.made.vector;
    trst = c.in_ok-serve_ready.ensures.made.trst ∙ c.loop-grant.invariant.made.trst;
  };
  calm = c.in_ok-serve_ready.ensures.calm;
  conns = c.in_ok-serve_ready.ensures.conns;
  shuts = shuts_then _ c.loop-grant.self.table.hub.ended _ _ _ _ c.loop-grant.invariant.shuts c.in_ok-serve_ready.ensures.shuts;
  known = known_then _ _ _ c.loop-grant.invariant.known c.in_ok-serve_ready.ensures.known;
  rests = rests_then c.args.self.now.table.hub c.loop-grant.self.table.hub c.serve_ready.new.self.table.hub (g.W.Wire.told c.args.wire.now) (g.W.Wire.told c.loop-grant.wire) (g.W.Wire.told c.serve_ready.new.wire) c.loop-grant.invariant.rests c.in_ok-serve_ready.ensures.rests;
  serves = below_more c.loop-grant.grant c.args.self.now.table.hub c.loop-grant.self.table.hub c.serve_ready.new.self.table.hub (g.W.Wire.told c.args.wire.now) (g.W.Wire.told c.loop-grant.wire) (g.W.Wire.told c.serve_ready.new.wire)
      c.loop-grant.invariant.serves c.loop-grant.invariant.known c.in_ok-serve_ready.ensures.known c.in_ok-serve_ready.ensures.serves;
  stands = keeps_then c.args.self.now.table.hub c.loop-grant.self.table.hub c.serve_ready.new.self.table.hub (g.C.Cable.chain c.args.self.now.table.cable) (g.C.Cable.chain c.loop-grant.self.table.cable) (g.C.Cable.chain c.serve_ready.new.self.table.cable) (g.W.Wire.told c.args.wire.now) (g.W.Wire.told c.loop-grant.wire) (g.W.Wire.told c.serve_ready.new.wire) c.loop-grant.invariant.stands c.in_ok-serve_ready.ensures.stands;
  ends = ends_then c.args.self.now.table.hub c.loop-grant.self.table.hub c.serve_ready.new.self.table.hub (g.C.Cable.chain c.args.self.now.table.cable) (g.C.Cable.chain c.loop-grant.self.table.cable) (g.W.Wire.told c.args.wire.now) (g.W.Wire.told c.loop-grant.wire) (g.W.Wire.told c.serve_ready.new.wire) c.loop-grant.invariant.stands c.loop-grant.invariant.ends c.in_ok-serve_ready.ensures.ends;
  door = c.in_ok-serve_ready.ensures.door ∙ c.loop-grant.invariant.door;
  wire_faults = c.in_ok-serve_ready.ensures.faults ∙ c.loop-grant.invariant.wire_faults;
  mark = c.in_ok-serve_ready.ensures.mark ∙ c.loop-grant.invariant.mark;
  trst = c.in_ok-serve_ready.ensures.trst ∙ c.loop-grant.invariant.trst;
  faults = c.in_ok-serve_ready.ensures.cause.kept ∙ c.loop-grant.invariant.faults;
}

pub returns-clause-serves : goal.returns-clause-serves
returns-clause-serves g c = below_all c.loop-grant.grant c.args.self.now.table.hub c.loop-grant.self.table.hub c.args.self.now.gone.items (g.W.Wire.told c.args.wire.now) (g.W.Wire.told c.loop-grant.wire) c.requires.whole
    (omega (arith, c.loop-grant-test.false, c.grants-grant-end.ensures.is, ap (λ layout. length layout.grants) c.layout.ensures)) c.loop-grant.invariant.serves

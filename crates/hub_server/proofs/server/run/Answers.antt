use Rattle.std.proofs.Common.{Bool, refl, ◌∙◌}
use Rattle.hub_server.proofs.Going.{fault_then, goes_none, goes_then, onward_then}
use Rattle.hub_server.proofs.server.run.Goals as goal

pub returns-in_err-over-clause-serves : goal.returns-in_err-over-clause-serves
returns-in_err-over-clause-serves g c = fault_then Bool c.in_err-over.field-0.0 c.from_residual.result c.args.hub.now.hub c.loop.hub.hub c.step.new.hub.hub (g.C.Cable.chain c.args.hub.now.cable) (g.C.Cable.chain c.loop.hub.cable) (g.C.Cable.chain c.step.new.hub.cable)
    (g.W.Wire.told c.args.wire.now) (g.W.Wire.told c.loop.wire) (g.W.Wire.told c.step.new.wire) (g.O.Sink.sent c.args.out.now) (g.O.Sink.sent c.loop.out) (g.O.Sink.sent c.step.new.out)
    c.from_residual.ensures.1 c.loop.invariant.2 c.in_err-over.ensures.serves

pub returns-then-idle-clause-serves : goal.returns-then-idle-clause-serves
returns-then-idle-clause-serves g c = goes_then c.args.hub.now.hub c.loop.hub.hub c.step.new.hub.hub (g.C.Cable.chain c.args.hub.now.cable) (g.C.Cable.chain c.loop.hub.cable) (g.C.Cable.chain c.step.new.hub.cable)
    (g.W.Wire.told c.args.wire.now) (g.W.Wire.told c.loop.wire) (g.W.Wire.told c.step.new.wire) (g.O.Sink.sent c.args.out.now) (g.O.Sink.sent c.loop.out) (g.O.Sink.sent c.step.new.out)
    c.loop.invariant.2 c.in_ok-over.ensures.serves

pub loop-init : goal.loop-init
loop-init g c = (
  tt,
  tt,
  goes_none c.args.hub.now.hub (g.C.Cable.chain c.args.hub.now.cable) (g.W.Wire.told c.args.wire.now) (g.O.Sink.sent c.args.out.now),
  record {
    sound = c.requires.sound;
    made = record { layout = refl; vector = refl; trst = refl };
    kept = record { ports = refl; up = refl; mark = refl };
    up = c.requires.up;
    over_is = c.requires.not_over;
  },
  refl,
  refl,
  refl,
  refl,
  refl,
)

pub loop-preserved : goal.loop-preserved
loop-preserved g c = (
  tt,
  tt,
  goes_then c.args.hub.now.hub c.loop.hub.hub c.step.new.hub.hub (g.C.Cable.chain c.args.hub.now.cable) (g.C.Cable.chain c.loop.hub.cable) (g.C.Cable.chain c.step.new.hub.cable)
      (g.W.Wire.told c.args.wire.now) (g.W.Wire.told c.loop.wire) (g.W.Wire.told c.step.new.wire) (g.O.Sink.sent c.args.out.now) (g.O.Sink.sent c.loop.out) (g.O.Sink.sent c.step.new.out)
      c.loop.invariant.2 c.in_ok-over.ensures.serves,
  onward_then c.args.hub.now.hub c.loop.hub.hub c.step.new.hub.hub (g.W.Wire.told c.loop.wire) (g.W.Wire.told c.step.new.wire) (g.W.Wire.door c.args.wire.now) (g.W.Wire.door c.loop.wire) (g.W.Wire.door c.step.new.wire) c.loop.over c.in_ok-over.over
      c.loop.invariant.3 c.in_ok-over.ensures.sound c.in_ok-over.ensures.made c.in_ok-over.ensures.door c.in_ok-over.ensures.over,
  c.in_ok-over.ensures.mark ∙ c.loop.invariant.4,
  c.in_ok-over.ensures.trst ∙ c.loop.invariant.5,
  c.in_ok-over.ensures.causes.0 ∙ c.loop.invariant.6,
  c.in_ok-over.ensures.causes.1 ∙ c.loop.invariant.7,
  c.in_ok-over.ensures.causes.2 ∙ c.loop.invariant.8,
)

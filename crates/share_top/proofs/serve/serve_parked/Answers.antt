use Rattle.std.proofs.Common.{subst}
use Rattle.share_top.specs.Serves.{ServeCauses, ServesSetup}
use Rattle.share_top.proofs.ServeLaws.{rests_first, sound_first, stands_over}
use Rattle.share_top.proofs.serve.serve_parked.Goals as goal

pub serve_to_end-requires-clause-sound : goal.serve_to_end-requires-clause-sound
serve_to_end-requires-clause-sound g c = sound_first c.in-Ok.hub.hub (g.W.Wire.told c.args.wire.now) c.in-Ok.ensures.none.4 c.in-Ok.ensures.free c.requires.unstepped

pub serve_to_end-requires-clause-rests : goal.serve_to_end-requires-clause-rests
serve_to_end-requires-clause-rests g c = rests_first c.in-Ok.hub.hub (g.W.Wire.told c.args.wire.now) c.in-Ok.ensures.free

pub returns-in-Ok-clause-ran : goal.returns-in-Ok-clause-ran
returns-in-Ok-clause-ran g c =
    subst (λ cable. ServesSetup c.serve_to_end.result.outcome c.args.setup (record { chain = g.B.Cable.chain cable; wire = g.W.Wire.told c.args.wire.now; door = g.W.Wire.door c.args.wire.now; sent = g.O.Sink.sent c.args.out.now })
    (record { chain = g.B.Cable.chain c.serve_to_end.result.bench; wire = g.W.Wire.told c.serve_to_end.new.wire; door = g.W.Wire.door c.serve_to_end.new.wire; sent = g.O.Sink.sent c.serve_to_end.new.out })) c.in-Ok.ensures.cable
    (c.serve_to_end.ensures.ran c.args.setup c.in-Ok.ensures.made.0
    (stands_over g.B.Cable.chain c.args.setup c.requires.whole c.requires.sound c.uses_trst-trst.result c.uses_trst-trst.ensures c.in-Ok.hub c.args.parked.cable (g.W.Wire.told c.args.wire.now) c.in-Ok.ensures.cable
    c.requires.started (g.met.W.Wire.is_wire c.args.wire.now) c.requires.unstepped c.in-Ok.ensures.begins))

pub returns-in-Ok-clause-causes : goal.returns-in-Ok-clause-causes
returns-in-Ok-clause-causes g c = λ shelf.
    subst (λ cable. ServeCauses c.serve_to_end.result.outcome (record { shelf = shelf; poller = g.W.Wire.fault_count c.args.wire.now; cable = g.B.Cable.fault_count cable; sink = g.O.Sink.fault_count c.args.out.now })
    (record { shelf = shelf; poller = g.W.Wire.fault_count c.serve_to_end.new.wire; cable = g.B.Cable.fault_count c.serve_to_end.result.bench; sink = g.O.Sink.fault_count c.serve_to_end.new.out })) c.in-Ok.ensures.cable
    (c.serve_to_end.ensures.causes shelf)

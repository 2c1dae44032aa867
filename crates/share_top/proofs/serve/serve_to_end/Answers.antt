use Rattle.share_top.proofs.ServeLaws.{ended_over, faulted_over}
use Rattle.share_top.proofs.serve.serve_to_end.Goals as goal

pub returns-in-Ok-clause-ran : goal.returns-in-Ok-clause-ran
returns-in-Ok-clause-ran g c = λ setup layout stands.
    ended_over g.B.Cable.chain setup c.args.hub c.serve.new.hub c.finish.result (g.W.Wire.told c.args.wire.now) (g.W.Wire.told c.serve.new.wire) (g.W.Wire.door c.args.wire.now) (g.W.Wire.door c.serve.new.wire)
    (g.O.Sink.sent c.args.out.now) (g.O.Sink.sent c.serve.new.out) c.finish.ensures layout c.serve.ensures.ports c.requires.unstepped stands _ c.requires.rests c.in-Ok.ensures.idle c.in-Ok.ensures.over c.in-Ok.ensures.served

pub returns-in-Err-clause-ran : goal.returns-in-Err-clause-ran
returns-in-Err-clause-ran g c = λ setup layout stands.
    faulted_over g.B.Cable.chain setup c.args.hub c.serve.new.hub c.finish-in-Err.result (g.W.Wire.told c.args.wire.now) (g.W.Wire.told c.serve.new.wire) (g.W.Wire.door c.args.wire.now) (g.W.Wire.door c.serve.new.wire)
    (g.O.Sink.sent c.args.out.now) (g.O.Sink.sent c.serve.new.out) c.finish-in-Err.ensures layout c.serve.ensures.ports c.requires.unstepped stands c.in-Err.fault c.in-Err.ensures.served

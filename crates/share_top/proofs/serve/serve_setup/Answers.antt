use Rattle.std.proofs.Common.{◌≡◌, map}
use Rattle.chain_model.specs.Boards.{placed}
use Rattle.chain_model.specs.Chains.{ChainState, powered}
use Rattle.share_top.proofs.ServeLaws.{serves_before}
use Rattle.share_top.proofs.serve.serve_setup.Goals as goal

pub returns-in-Ok-clause-ran : goal.returns-in-Ok-clause-ran
returns-in-Ok-clause-ran g c =
    serves_before (λ (old new : ChainState). new ≡ powered (map placed c.as_slice.result.now) c.nets.result.now) (g.B.Cable.chain c.args.bench) (g.B.Cable.chain c.assemble.new.self) (g.W.Wire.told c.args.wire.now) (g.W.Wire.door c.args.wire.now) (g.O.Sink.sent c.args.out.now) c.args.setup
    (record { chain = g.B.Cable.chain c.serve_powered.result.bench; wire = g.W.Wire.told c.serve_powered.new.wire; door = g.W.Wire.door c.serve_powered.new.wire; sent = g.O.Sink.sent c.serve_powered.new.out })
    c.in-Ok.ensures.assembled c.serve_powered.result.outcome c.serve_powered.ensures.ran

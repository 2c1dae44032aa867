use Rattle.std.proofs.Common.{◌≡◌, sym, subst}
use Rattle.chain_model.specs.Chains.{ChainState}
use Rattle.scan_share.specs.Scans.{IsWhole, Starts}
use Rattle.share_top.specs.Pipes.{whole_chain}
use Rattle.share_top.proofs.PipeLaws.{told_map}
use Rattle.share_top.proofs.ServeLaws.{serves_before}
use Rattle.share_top.proofs.serve.serve_powered.Goals as goal

pub start-requires-clause-whole : goal.start-requires-clause-whole
start-requires-clause-whole g c =
    told_map (λ (chain : ChainState). chain ≡ whole_chain c.args.setup) (IsWhole c.args.setup.layout) (g.B.Cable.chain c.args.bench) (λ chain is. subst (IsWhole c.args.setup.layout) (sym is) c.requires.sound.chain) c.requires.powered

pub returns-in-Ok-clause-ran : goal.returns-in-Ok-clause-ran
returns-in-Ok-clause-ran g c =
    serves_before (Starts c.args.setup.layout) (g.B.Cable.chain c.args.bench) (g.B.Cable.chain c.in-Ok.parked.cable) (g.W.Wire.told c.args.wire.now) (g.W.Wire.door c.args.wire.now) (g.O.Sink.sent c.args.out.now) c.args.setup
    (record { chain = g.B.Cable.chain c.serve_parked.result.bench; wire = g.W.Wire.told c.serve_parked.new.wire; door = g.W.Wire.door c.serve_parked.new.wire; sent = g.O.Sink.sent c.serve_parked.new.out })
    c.in-Ok.ensures.started c.serve_parked.result.outcome c.serve_parked.ensures.ran

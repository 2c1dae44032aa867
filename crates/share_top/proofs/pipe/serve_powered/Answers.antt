use Rattle.std.proofs.Common.{◌≡◌, sym, subst}
use Rattle.scan_share.specs.Scans.{IsWhole, Starts}
use Rattle.chain_model.specs.Chains.{ChainState}
use Rattle.share_top.specs.Pipes.{whole_chain}
use Rattle.share_top.proofs.PipeLaws.{cut_first, serves_before, told_map}
use Rattle.share_top.proofs.pipe.serve_powered.Goals as goal

pub start-requires-clause-whole : goal.start-requires-clause-whole
start-requires-clause-whole g c =
    told_map (λ (chain : ChainState). chain ≡ whole_chain c.args.setup.now) (IsWhole c.args.setup.now.layout) (g.B.Cable.chain c.args.bench) (λ chain is. subst (IsWhole c.args.setup.now.layout) (sym is) c.requires.sound.chain) c.requires.powered

pub returns-in-Ok-clause-ran : goal.returns-in-Ok-clause-ran
returns-in-Ok-clause-ran g c shape found =
    serves_before (Starts c.args.setup.now.layout) (g.B.Cable.chain c.args.bench) (g.B.Cable.chain c.in-Ok.parked.cable) (g.B.Cable.chain c.serve_parked.result.bench) c.serve_parked.result.outcome c.args.setup.now shape
    (g.I.Source.left c.args.input.now) (g.I.Source.left c.serve_parked.new.input) (g.O.Sink.sent c.args.out.now) (g.O.Sink.sent c.serve_parked.new.out) c.in-Ok.ensures.started (c.serve_parked.ensures.ran shape found)

pub returns-in-Err-clause-ran : goal.returns-in-Err-clause-ran
returns-in-Err-clause-ran g c shape found = cut_first c.args.setup.now shape (g.I.Source.left c.args.input.now) (g.O.Sink.sent c.args.out.now) (g.B.Cable.chain c.args.bench)

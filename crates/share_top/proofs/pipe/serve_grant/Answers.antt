use Rattle.std.proofs.Common.{◌≡◌, ◌∙◌, ap, map, slice_get}
use Rattle.chain_model.specs.Boards.{placed}
use Rattle.chain_model.specs.Chains.{ChainState, powered}
use Rattle.share_top.proofs.PipeLaws.{cut_first, runs_before}
use Rattle.share_top.proofs.pipe.serve_grant.Goals as goal

pub returns-in-Ok-assemble-clause-ran : goal.returns-in-Ok-assemble-clause-ran
returns-in-Ok-assemble-clause-ran g c shape found =
    runs_before (λ (old new : ChainState). new ≡ powered (map placed c.as_slice.result.now) c.nets.result.now) (g.B.Cable.chain c.args.bench) (g.B.Cable.chain c.assemble.new.self) (g.B.Cable.chain c.serve_powered.result.bench) c.serve_powered.result.outcome c.args.setup.now shape
    (g.I.Source.left c.args.input.now) (g.I.Source.left c.serve_powered.new.input) (g.O.Sink.sent c.args.out.now) (g.O.Sink.sent c.serve_powered.new.out) c.in-Ok-assemble.ensures.assembled
    (c.serve_powered.ensures.ran shape (ap (slice_get c.args.setup.now.layout.grants) c.in-Ok.ensures.session.grant_is ∙ found))

pub returns-clause-ran : goal.returns-clause-ran
returns-clause-ran g c shape found = cut_first c.args.setup.now shape (g.I.Source.left c.args.input.now) (g.O.Sink.sent c.args.out.now) (g.B.Cable.chain c.args.bench)

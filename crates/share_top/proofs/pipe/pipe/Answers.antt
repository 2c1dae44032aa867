use Rattle.std.proofs.Common.{◌-◌, ◌∙◌, ap, sym, slice_get, arith}
use Rattle.share_top.proofs.SessionLaws.{grant_there}
use Rattle.share_top.proofs.PipeLaws.{pipe_causes, pipes_of}
use Rattle.share_top.proofs.pipe.pipe.Goals as goal

pub returns-clause-pipes : goal.returns-clause-pipes
returns-clause-pipes g c =
    let there = grant_there c.in-Ok.setup.layout.grants (c.from-grant.result - 1) (omega (arith, c.if-grant-grants.false, c.grants.ensures.is)) in
    let at_number = ap (λ n. slice_get c.in-Ok.setup.layout.grants (n - 1)) (sym c.from-grant.ensures) in
    pipes_of c.serve_grant.result.outcome (g.S.Shelf.files c.args.shelf.now) c.args.name.now c.args.number (g.B.Cable.trst c.args.bench) c.in-Ok.setup there.0
    (g.I.Source.left c.args.input.now) (g.I.Source.left c.serve_grant.new.input) (g.B.Cable.chain c.args.bench) (g.B.Cable.chain c.serve_grant.result.bench) (g.O.Sink.sent c.args.out.now) (g.O.Sink.sent c.serve_grant.new.out)
    (record { said = c.in-Ok.ensures.found; trst_is = c.lacks_trst.ensures.serves c.if-lacks_trst.false; there = at_number ∙ there.1 })
    (c.serve_grant.ensures.ran there.0 there.1)

pub returns-clause-causes : goal.returns-clause-causes
returns-clause-causes g c =
    let there = grant_there c.in-Ok.setup.layout.grants (c.from-grant.result - 1) (omega (arith, c.if-grant-grants.false, c.grants.ensures.is)) in
    pipe_causes c.serve_grant.result.outcome c.in-Ok.setup there.0
    (g.I.Source.left c.args.input.now) (g.I.Source.left c.serve_grant.new.input) (g.B.Cable.chain c.args.bench) (g.B.Cable.chain c.serve_grant.result.bench) (g.O.Sink.sent c.args.out.now) (g.O.Sink.sent c.serve_grant.new.out)
    (record { shelf = g.S.Shelf.fault_count c.args.shelf.now; source = g.I.Source.fault_count c.args.input.now; cable = g.B.Cable.fault_count c.args.bench; sink = g.O.Sink.fault_count c.args.out.now })
    (record { shelf = g.S.Shelf.fault_count c.load_setup.new.shelf; source = g.I.Source.fault_count c.serve_grant.new.input; cable = g.B.Cable.fault_count c.serve_grant.result.bench; sink = g.O.Sink.fault_count c.serve_grant.new.out })
    (c.serve_grant.ensures.ran there.0 there.1) c.in-Ok.ensures.same (c.serve_grant.ensures.causes (g.S.Shelf.fault_count c.args.shelf.now))

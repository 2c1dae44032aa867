use Rattle.std.proofs.Common.{sym, ◌∙◌}
use Rattle.share_top.proofs.CommandLaws.{pipe_ends, runs_same}
use Rattle.share_top.proofs.command.local_command.Goals as goal

pub returns-in-Some-piped_grant-clause-piped : goal.returns-in-Some-piped_grant-clause-piped
returns-in-Some-piped_grant-clause-piped g c = λ name number is words.
    runs_same c.pipe_command.result.status (g.S.Shelf.files c.args.shelf.now) c.in-Some-piped_grant.name.now name c.in-Some-piped_grant.number number (g.B.Cable.trst c.args.bench)
    (g.I.Source.left c.args.input.now) (g.I.Source.left c.pipe_command.new.input) (g.B.Cable.chain c.args.bench) (g.B.Cable.chain c.pipe_command.result.bench) (g.O.Sink.sent c.args.out) (g.O.Sink.sent c.pipe_command.result.out)
    (record { shelf = g.S.Shelf.fault_count c.args.shelf.now; source = g.I.Source.fault_count c.args.input.now; cable = g.B.Cable.fault_count c.args.bench; sink = g.O.Sink.fault_count c.args.out })
    (record { shelf = g.S.Shelf.fault_count c.pipe_command.new.shelf; source = g.I.Source.fault_count c.pipe_command.new.input; cable = g.B.Cable.fault_count c.pipe_command.result.bench; sink = g.O.Sink.fault_count c.pipe_command.result.out })
    c.in-Some-piped_grant.ensures.named.0 is (sym c.in-Some-piped_grant.ensures.named.1 ∙ words) c.pipe_command.ensures.runs

pub returns-in-Some-piped_grant-clause-well : goal.returns-in-Some-piped_grant-clause-well
returns-in-Some-piped_grant-clause-well g c = λ name number setup grant told is words files fits shelf source cable sink.
    pipe_ends c.pipe_command.result.status (g.S.Shelf.files c.args.shelf.now) told name number (g.B.Cable.trst c.args.bench) setup grant
    (g.I.Source.left c.args.input.now) (g.I.Source.left c.pipe_command.new.input) (g.B.Cable.chain c.args.bench) (g.B.Cable.chain c.pipe_command.result.bench) (g.O.Sink.sent c.args.out) (g.O.Sink.sent c.pipe_command.result.out)
    (record { shelf = g.S.Shelf.fault_count c.args.shelf.now; source = g.I.Source.fault_count c.args.input.now; cable = g.B.Cable.fault_count c.args.bench; sink = g.O.Sink.fault_count c.args.out })
    (record { shelf = g.S.Shelf.fault_count c.pipe_command.new.shelf; source = g.I.Source.fault_count c.pipe_command.new.input; cable = g.B.Cable.fault_count c.pipe_command.result.bench; sink = g.O.Sink.fault_count c.pipe_command.result.out })
    files fits
    (runs_same c.pipe_command.result.status (g.S.Shelf.files c.args.shelf.now) c.in-Some-piped_grant.name.now name c.in-Some-piped_grant.number number (g.B.Cable.trst c.args.bench)
    (g.I.Source.left c.args.input.now) (g.I.Source.left c.pipe_command.new.input) (g.B.Cable.chain c.args.bench) (g.B.Cable.chain c.pipe_command.result.bench) (g.O.Sink.sent c.args.out) (g.O.Sink.sent c.pipe_command.result.out)
    (record { shelf = g.S.Shelf.fault_count c.args.shelf.now; source = g.I.Source.fault_count c.args.input.now; cable = g.B.Cable.fault_count c.args.bench; sink = g.O.Sink.fault_count c.args.out })
    (record { shelf = g.S.Shelf.fault_count c.pipe_command.new.shelf; source = g.I.Source.fault_count c.pipe_command.new.input; cable = g.B.Cable.fault_count c.pipe_command.result.bench; sink = g.O.Sink.fault_count c.pipe_command.result.out })
    c.in-Some-piped_grant.ensures.named.0 is (sym c.in-Some-piped_grant.ensures.named.1 ∙ words) c.pipe_command.ensures.runs)
    shelf source cable sink

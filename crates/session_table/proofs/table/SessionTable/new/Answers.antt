use Rattle.std.proofs.Common.{◌∙◌}
use Rattle.session_table.proofs.Starting.{flags_are, hub_free, stands_free, table_free}
use Rattle.session_table.proofs.table.SessionTable.new.Goals as goal

pub invariant_of-result-in-Ok : goal.invariant_of-result-in-Ok
invariant_of-result-in-Ok g c =
    table_free c.args.layout c.args.vector c.args.uses_trst c.in-Ok.seats c.in-Ok.ensures c.new-in-Ok.result c.args.parked c.new-in-Ok.ensures.free c.new-in-Ok.ensures.none (λ cable. g.C.Cable.chain cable) (λ cable. g.C.Cable.trst cable) c.requires.whole c.requires.trst

pub returns-in-Ok-clause-free : goal.returns-in-Ok-clause-free
returns-in-Ok-clause-free g c = hub_free c.args.layout c.args.vector c.args.uses_trst c.in-Ok.seats c.in-Ok.ensures c.new-in-Ok.result c.args.parked c.new-in-Ok.ensures.free c.new-in-Ok.ensures.none

pub returns-in-Ok-clause-ready : goal.returns-in-Ok-clause-ready
returns-in-Ok-clause-ready g c = c.in-Ok.ensures.ready ∙ flags_are c.args.layout.grants

pub returns-in-Ok-clause-stands : goal.returns-in-Ok-clause-stands
returns-in-Ok-clause-stands g c =
    stands_free c.args.layout c.args.vector c.args.uses_trst c.in-Ok.seats c.in-Ok.ensures c.new-in-Ok.result c.args.parked c.new-in-Ok.ensures.free c.new-in-Ok.ensures.none (g.C.Cable.chain c.args.parked.cable) c.requires.whole

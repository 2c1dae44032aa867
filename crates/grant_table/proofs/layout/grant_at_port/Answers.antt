use Rattle.std.proofs.Common.{ap, ◌∙◌, sym}
use Rattle.grant_table.specs.Layouts.{GrantShape}
use Rattle.grant_table.proofs.Ports.{search_starts, search_finds, search_goes_on, search_ends}
use Rattle.grant_table.proofs.layout.grant_at_port.Goals as goal

pub loop-grant-init : goal.loop-grant-init
loop-grant-init c = search_starts c.args.grants.now c.args.port

pub returns-then-kept-port : goal.returns-then-kept-port
returns-then-kept-port c = search_finds c.args.grants.now c.args.port c.loop-grant.grant c.loop-grant.invariant c.index-grants-grant.result c.loop-grant-test.true c.index-grants-grant.is
    (sym (ap (λ (s : GrantShape). s.port) c.kept.view_is) ∙ c.if-kept-port.true)

pub loop-grant-preserved : goal.loop-grant-preserved
loop-grant-preserved c = search_goes_on c.args.grants.now c.args.port c.loop-grant.grant c.loop-grant.invariant c.index-grants-grant.result c.loop-grant-test.true c.index-grants-grant.is
    (λ same. c.if-kept-port.false (ap (λ (s : GrantShape). s.port) c.kept.view_is ∙ same))

pub returns : goal.returns
returns c = search_ends c.args.grants.now c.args.port c.loop-grant.grant c.loop-grant.invariant c.loop-grant-test.false

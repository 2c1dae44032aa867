use Rattle.std.proofs.Common.{◌∙◌, sym, ap, subst, arith, length}
use Rattle.grant_table.specs.Layouts.{LayoutShape, GrantShape, group_of}
use Rattle.grant_table.specs.Faults.{IsLayout}
use Rattle.grant_table.proofs.Shapes.{group_at, group_rises, group_within, group_few, group_low}
use Rattle.grant_table.proofs.layout.Layout.group.Goals as goal

pub returns-clause-is : goal.returns-clause-is
returns-clause-is c =
    c.as_slice.ensures ∙ ap (λ (s : GrantShape). s.group) c.behind-self.view_is
    ∙ sym (group_at c.self.inside.grants.items c.args.grant c.index.result.now (omega (arith, c.requires, ap (λ (l : LayoutShape). length l.grants) c.self.view_is)) c.index.ensures)
    ∙ ap (λ (l : LayoutShape). group_of l.grants c.args.grant) c.self.view_is

pub returns-clause-rising : goal.returns-clause-rising
returns-clause-rising c = group_rises c.args.self.now (subst IsLayout c.self.view_is c.self.invariant.is) c.args.grant c.as_slice.result.now (returns-clause-is c)

pub returns-clause-within : goal.returns-clause-within
returns-clause-within c = group_within c.args.self.now (subst IsLayout c.self.view_is c.self.invariant.is) c.args.grant c.as_slice.result.now (returns-clause-is c)

pub returns-clause-some : goal.returns-clause-some
returns-clause-some c = group_few c.args.self.now (subst IsLayout c.self.view_is c.self.invariant.is) c.args.grant c.as_slice.result.now (returns-clause-is c) c.requires

pub returns-clause-low : goal.returns-clause-low
returns-clause-low c = group_low c.args.self.now (subst IsLayout c.self.view_is c.self.invariant.is) c.args.grant c.as_slice.result.now (returns-clause-is c)

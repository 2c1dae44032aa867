use Rattle.std.proofs.Common.{◌∙◌, arith}
use Rattle.bsdl_read.specs.Accesses.{view}
use Rattle.bsdl_read.proofs.AccessFronts.{register_opens, first_name_ends, entry_closes, entry_joins, still_between}
use Rattle.bsdl_read.proofs.accesses.AccessReading.entries.Goals as goal

pub returns-in_default-front_name-clause-goes : goal.returns-in_default-front_name-clause-goes
returns-in_default-front_name-clause-goes c =
    register_opens (view c.loop-front.self) (view c.opened.new.self) _ _ _ _ c.loop-front.invariant.1 c.in_ok-opened.ensures c.in-Some.ensures.is ∙ c.loop-front.invariant.0

pub returns-then-not-name-clause-goes : goal.returns-then-not-name-clause-goes
returns-then-not-name-clause-goes c =
    first_name_ends (view c.loop-front.self) (view c.opened-then-not-name.new.self) (view c.named.new.self) _ _ _ _ _ c.in-Some-front_name.name.is_last _ c.loop-front.invariant.1 c.in-Some.ensures.is c.in_ok-opened-2.ensures c.in_ok-named.ensures c.if-not-name.true
    c.in-Some-front_name.ensures.is
    ∙ c.loop-front.invariant.0

pub returns-then-not-has_sign-clause-goes : goal.returns-then-not-has_sign-clause-goes
returns-then-not-has_sign-clause-goes c =
    entry_closes (view c.loop-front.self) (view c.entered.new.self) _ _ _ _ _ c.in-Some-front_name.name.is_last _ c.loop-front.invariant.1 c.in-Some.ensures.is c.in_ok-entered.ensures c.if-not-name.false c.in-Some-front_name.ensures.is ∙ c.loop-front.invariant.0

pub loop-front-preserved : goal.loop-front-preserved
loop-front-preserved c =
    let joins = c.has_sign.ensures c.if-not-has_sign.false in (
      entry_joins (view c.loop-front.self) (view c.entered.new.self) _ _ _ _ _ c.in-Some-front_name.name.is_last _ _ c.loop-front.invariant.1 c.in-Some.ensures.is c.in_ok-entered.ensures c.if-not-name.false c.in-Some-front_name.ensures.is joins.is ∙ c.loop-front.invariant.0,
      still_between (view c.loop-front.self) (view c.entered.new.self) _ _ _ c.loop-front.invariant.1 c.in_ok-entered.ensures,
      omega (arith, c.loop-front.invariant.2, c.in-Some.ensures.rises, c.in-Some-front_name.ensures.rises),
      omega (arith, joins.before),
    )

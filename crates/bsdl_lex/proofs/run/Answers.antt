use Rattle.std.proofs.Common.{arith}
use Rattle.bsdl_lex.specs.Tokens.{belongs}
use Rattle.bsdl_lex.proofs.Masks.{step_within, step_ends, step_goes_on}
use Rattle.bsdl_lex.proofs.run.Goals as goal

pub overflow_add-count : goal.overflow_add-count
overflow_add-count c =
    let within = step_within (belongs c.args.class) c.args.text.now c.split_at.result.1.now c.loop-count.count c.leading-more.result c.split_at.ensures.back (omega arith) c.leading-more.ensures in
    omega (arith, within)

pub returns-then-more-lt-LANES-clause-is : goal.returns-then-more-lt-LANES-clause-is
returns-then-more-lt-LANES-clause-is c =
    step_ends (belongs c.args.class) c.args.text.now c.split_at.result.1.now c.loop-count.count c.leading-more.result c.split_at.ensures.back (omega arith) c.leading-more.ensures _ c.loop-count.invariant.1 c.if-more-lt-LANES.true

pub loop-count-preserved : goal.loop-count-preserved
loop-count-preserved c = (
  step_within (belongs c.args.class) c.args.text.now c.split_at.result.1.now c.loop-count.count c.leading-more.result c.split_at.ensures.back (omega arith) c.leading-more.ensures,
  step_goes_on (belongs c.args.class) c.args.text.now c.split_at.result.1.now c.loop-count.count c.leading-more.result c.split_at.ensures.back (omega arith) c.leading-more.ensures _ c.loop-count.invariant.1 (omega arith),
)

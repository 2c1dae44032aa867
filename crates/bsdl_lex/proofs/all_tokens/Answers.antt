use Rattle.std.proofs.Common.{◌+◌, drop, sym, ◌∙◌, arith}
use Rattle.bsdl_lex.specs.declared.Piece.TheVariants.{Gap, Found}
use Rattle.bsdl_lex.specs.Tokens.{lexed_from}
use Rattle.bsdl_lex.proofs.Reading.{blank_passed, went_on, joined, not_none, stays, rises_further, rises_by}
use Rattle.bsdl_lex.proofs.all_tokens.Goals as goal

pub loop-at-preserved-then-is_blank : goal.loop-at-preserved-then-is_blank
loop-at-preserved-then-is_blank c = (
  omega arith,
  rises_further 0 c.loop-at.found.items c.loop-at.at (c.loop-at.at + 1) (omega arith) c.loop-at.invariant.1,
  blank_passed c.loop-at.found.items c.loop-at.at c.args.text.now (lexed_from 0 0 c.args.text.now) (omega arith) (sym c.is_blank.ensures ∙ c.if-is_blank.true) c.loop-at.invariant.2,
)

pub loop-at-preserved-in-Gap : goal.loop-at-preserved-in-Gap
loop-at-preserved-in-Gap c = (
  stays c.loop-at.at c.in-Gap.count c.args.text.now c.split_at.result.1.now c.split_at.ensures.back c.loop-at.invariant.0 c.in-Gap.ensures.bound.1,
  rises_further 0 c.loop-at.found.items c.loop-at.at (c.loop-at.at + c.in-Gap.count) (omega arith) c.loop-at.invariant.1,
  went_on c.loop-at.found.items c.loop-at.at c.args.text.now c.split_at.result.1.now (Gap c.in-Gap.count) (lexed_from 0 0 c.args.text.now) c.split_at.ensures.back c.in-Gap.ensures.is c.in-Gap.ensures.bound c.loop-at.invariant.2,
)

pub loop-at-preserved : goal.loop-at-preserved
loop-at-preserved c = (
  stays c.loop-at.at c.in-Found.count c.args.text.now c.split_at.result.1.now c.split_at.ensures.back c.loop-at.invariant.0 c.in-Found.ensures.bound.1,
  rw c.in_ok-push-in-Found.ensures.items (rises_by 0 c.loop-at.found.items c.loop-at.at (record { kind = c.in-Found.kind; start = c.loop-at.at; end = c.loop-at.at + c.in-Found.count }) (omega arith) (omega (arith, c.in-Found.ensures.bound.0)) c.loop-at.invariant.1),
  rw c.in_ok-push-in-Found.ensures.items (joined c.loop-at.found.items c.in-Found.kind c.loop-at.at c.in-Found.count (lexed_from (c.loop-at.at + c.in-Found.count) 0 (drop (c.loop-at.at + c.in-Found.count) c.args.text.now)) (lexed_from 0 0 c.args.text.now)
      (went_on c.loop-at.found.items c.loop-at.at c.args.text.now c.split_at.result.1.now (Found c.in-Found.kind c.in-Found.count) (lexed_from 0 0 c.args.text.now) c.split_at.ensures.back c.in-Found.ensures.is c.in-Found.ensures.bound c.loop-at.invariant.2)),
)

pub returns-in_err-push-in-Found-clause-none : goal.returns-in_err-push-in-Found-clause-none
returns-in_err-push-in-Found-clause-none c = λ none.
    absurd (not_none c.loop-at.found.items c.loop-at.at c.in-Found.kind c.in-Found.count (lexed_from (c.loop-at.at + c.in-Found.count) 0 (drop (c.loop-at.at + c.in-Found.count) c.args.text.now)) (lexed_from 0 0 c.args.text.now)
    (went_on c.loop-at.found.items c.loop-at.at c.args.text.now c.split_at.result.1.now (Found c.in-Found.kind c.in-Found.count) (lexed_from 0 0 c.args.text.now) c.split_at.ensures.back c.in-Found.ensures.is c.in-Found.ensures.bound c.loop-at.invariant.2)
    none)

use Rattle.std.proofs.Common.{sym, ◌∙◌, ◌-◌, ◌<◌, ◌+◌, ◌≡◌, length, suc, arith}
use Rattle.bsdl_lex.specs.Tokens.{is_digit}
use Rattle.bsdl_read.proofs.Bytes.{nine_digits}
use Rattle.bsdl_read.proofs.Betweens.{one_more, one_digit_more, more_digits}
use Rattle.bsdl_read.proofs.places.number_at.Goals as goal

pub overflow_mul-value : goal.overflow_mul-value
overflow_mul-value c =
    let few : c.loop-stop.stop - c.args.start < 9 = omega (arith, c.loop-stop.invariant.2, c.if-stop-start-eq9.false) in
    let most = nine_digits c.loop-stop.value (c.loop-stop.stop - c.args.start) 9 c.loop-stop.invariant.3 few (omega arith) in
    omega (arith, most)

pub overflow_add-value : goal.overflow_add-value
overflow_add-value c =
    let few : c.loop-stop.stop - c.args.start < 9 = omega (arith, c.loop-stop.invariant.2, c.if-stop-start-eq9.false) in
    let most = nine_digits c.loop-stop.value (c.loop-stop.stop - c.args.start) 9 c.loop-stop.invariant.3 few (omega arith) in
    omega (arith, most, c.digit_value.ensures.bound)

pub loop-stop-preserved : goal.loop-stop-preserved
loop-stop-preserved c =
    let few : c.loop-stop.stop - c.args.start < 9 = omega (arith, c.loop-stop.invariant.2, c.if-stop-start-eq9.false) in
    let next : c.loop-stop.stop + 1 - c.args.start ≡ suc (c.loop-stop.stop - c.args.start) = omega (arith, c.loop-stop.invariant.0) in
    let within : c.loop-stop.stop < length c.args.text.now = omega (arith, c.loop-stop-test.true, c.requires.ends) in (
      omega (arith, c.loop-stop.invariant.0),
      omega (arith, c.loop-stop-test.true),
      omega (arith, few, next),
      more_digits c.loop-stop.value c.digit_value.result _ _ c.loop-stop.invariant.3 c.digit_value.ensures.bound next,
      one_more is_digit c.args.text.now c.args.start c.loop-stop.stop _ c.loop-stop.invariant.0 within c.loop-stop.invariant.4 (sym c.is_digit.ensures ∙ c.if-is_digit.true),
      one_digit_more c.args.text.now c.args.start c.loop-stop.stop _ c.loop-stop.value c.digit_value.result c.loop-stop.invariant.0 within c.loop-stop.invariant.5 c.digit_value.ensures.is,
    )

use Rattle.std.proofs.Common.{arith}
use Rattle.bsdl_read.proofs.Bytes.{nine_digits}
use Rattle.bsdl_read.proofs.contents.number_of.Goals as goal

pub overflow_mul-value : goal.overflow_mul-value
overflow_mul-value c =
    let most = nine_digits c.loop-byte.value c.loop-byte.byte-index _ c.loop-byte.invariant.0 c.loop-byte-test.true c.requires.short in
    omega (arith, most)

pub overflow_add-value : goal.overflow_add-value
overflow_add-value c =
    let most = nine_digits c.loop-byte.value c.loop-byte.byte-index _ c.loop-byte.invariant.0 c.loop-byte-test.true c.requires.short in
    omega (arith, most, c.digit_value.ensures.bound)

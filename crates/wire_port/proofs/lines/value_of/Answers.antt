use Rattle.std.proofs.Common.{arith}
use Rattle.wire_port.proofs.Numbers.{seven_fit}
use Rattle.wire_port.proofs.lines.value_of.Goals as goal

pub overflow_mul-value : goal.overflow_mul-value
overflow_mul-value c = omega (arith, seven_fit c.loop-byte.value c.loop-byte.byte-index c.loop-byte.invariant.bound (omega (arith, c.requires)))

pub overflow_add-value : goal.overflow_add-value
overflow_add-value c = omega (arith, seven_fit c.loop-byte.value c.loop-byte.byte-index c.loop-byte.invariant.bound (omega (arith, c.requires)))

use Rattle.std.proofs.Common.{arith, ◌∙◌, ◌/◌, ◌%◌, ◌^◌}
use Rattle.xvc_frame.proofs.BitWords.{read_at, few_bits}
use Rattle.xvc_frame.proofs.bits.read_bits.Goals as goal

pub overflow_cast-result : goal.overflow_cast-result
overflow_cast-result c = omega (arith, few_bits (c.load.result / 2 ^ (c.args.at % 8)) c.lowest.result c.args.width c.lowest.ensures c.requires.width)

pub returns-clause-value : goal.returns-clause-value
returns-clause-value c = c.lowest.ensures ∙ read_at c.args.bytes.now c.args.at c.args.width c.load.result c.requires.within c.requires.width c.load.ensures

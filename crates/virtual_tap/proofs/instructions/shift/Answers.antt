use Rattle.std.proofs.Common.{◌∙◌, ◌+◌, arith, get_or}
use Rattle.scan_bits.specs.Words.{bits_of}
use Rattle.virtual_tap.specs.Instructions.{out_of}
use Rattle.virtual_tap.proofs.Shifting.{next_shifted, next_out, word_out, last_out}
use Rattle.virtual_tap.proofs.instructions.shift.Goals as goal

pub loop-register-preserved : goal.loop-register-preserved
loop-register-preserved c =
    let bits = bits_of c.args.n c.loop-register.word in
    let stage = (get_or c.loop-register.registers c.loop-register.register-index c.register-item.result).stage in
    let left = word_out stage c.args.n c.loop-register.word c.shift-word.result c.shift-word.ensures.out in
    record {
      after =
          next_shifted c.loop-register.registers c.loop-register.register-index (c.loop-register.register-index + 1) bits (bits_of c.args.n c.shift-word.result) c.register-item.result c.shift-word.new.self
          (omega (arith, c.loop-register-test.true)) (omega arith) c.shift-word.ensures.after left
          ∙ c.loop-register.invariant.after;
      out =
          next_out c.loop-register.registers c.loop-register.register-index (c.loop-register.register-index + 1) bits (bits_of c.args.n c.shift-word.result) c.register-item.result c.shift-word.new.self
          (omega (arith, c.loop-register-test.true)) (omega arith) left
          ∙ c.loop-register.invariant.out;
      bound = λ some. c.shift-word.ensures.bound;
    }

pub returns-clause-out : goal.returns-clause-out
returns-clause-out c some =
    last_out c.loop-register.registers c.loop-register.register-index c.args.n c.loop-register.word (out_of (bits_of c.args.n c.args.tdi) c.args.registers.now) (omega (arith, c.loop-register-test.false))
    (c.loop-register.invariant.bound (omega (arith, c.loop-register-test.false, some))) c.loop-register.invariant.out

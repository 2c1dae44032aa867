use Rattle.std.proofs.Common.{◌∙◌, sym}
use Rattle.scan_bits.specs.Words.{bits_of}
use Rattle.chain_model.proofs.ShiftRuns.{empty_out, empty_stage, word_out}
use Rattle.chain_model.proofs.data_stage.shift_word.Goals as goal

pub returns-then-len-eq0-clause-out : goal.returns-then-len-eq0-clause-out
returns-then-len-eq0-clause-out c = sym (empty_out c.args.stage.now.bits (bits_of c.args.n c.args.tdi) (sym c.len.ensures.count ∙ c.if-len-eq0.true))

pub returns-then-len-eq0-clause-bits : goal.returns-then-len-eq0-clause-bits
returns-then-len-eq0-clause-bits c =
    λ i. record c.args.stage.now { bits = sym (empty_stage c.args.stage.now.bits (bits_of c.args.n c.args.tdi) (sym c.len.ensures.count ∙ c.if-len-eq0.true)) i }

pub returns-clause-out : goal.returns-clause-out
returns-clause-out c = word_out c.args.stage.now.bits c.args.n c.args.tdi c.turn_word.result c.turn_word.ensures.out

use Rattle.std.proofs.Common.{◌∙◌, ap, arith}
use Rattle.part_model.specs.Parts.{length_of}
use Rattle.chain_tests.proofs.Filling.{next_bits, past_words}
use Rattle.chain_tests.proofs.virtual_taps.data_bits.Goals.{then-at-codes, else-at-codes}
use Rattle.chain_tests.proofs.virtual_taps.data_bits.Goals as goal

pub loop-at-preserved : goal.loop-at-preserved
loop-at-preserved c = elim c.if-at-codes.branch [
  | then-at-codes w ↦
      record {
        sum =
            next_bits c.args.layout.now.parts c.group-group.result.now c.args.codes.now c.loop-at.at 0 0 c.loop-at.sum c.if-at-codes.sum w.len_of.result w.part-part.result.now (omega (arith, c.loop-at-test.true))
            (omega (arith, w.if-at-codes.true)) w.part-part.ensures.is (w.len_of.ensures ∙ ap (length_of w.part-part.result.now) w.select.ensures.is) w.sum-is
            ∙ c.loop-at.invariant.sum;
        bound = omega (arith, w.sum-is, w.len_of.type_inv, c.loop-at.invariant.bound);
      }
  | else-at-codes w ↦
      record {
        sum =
            past_words c.args.layout.now.parts c.group-group.result.now c.args.codes.now c.loop-at.at c.loop-at.sum c.if-at-codes.sum (omega (arith, w.if-at-codes.false)) w.sum-is
            ∙ c.loop-at.invariant.sum;
        bound = omega (arith, w.sum-is, c.loop-at.invariant.bound);
      }
]

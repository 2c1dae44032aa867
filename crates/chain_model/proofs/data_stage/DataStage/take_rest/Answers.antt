use Rattle.std.proofs.Common.{◌∙◌, ap, refl, arith}
use Rattle.scan_bits.specs.BitLists.{BitList}
use Rattle.chain_model.proofs.Staged.{word_taken, captured_stands}
use Rattle.chain_model.proofs.data_stage.DataStage.take_rest.Goals as goal

pub loop-self-preserved : goal.loop-self-preserved
loop-self-preserved c = record {
  bits = word_taken c.args.source.now.bits c.loop-self.self.came.bits c.push_word.new.self.bits _ c.loop-self.self.left c.min-n.result c.word-word.result c.len.result (omega (arith, c.min-n.ensures)) c.loop-self.invariant.stands.left
      c.len.ensures.count c.word-word.ensures.bits (ap (λ (came : BitList). came.bits) c.push_word.ensures) c.loop-self.invariant.bits;
  stands = captured_stands c.loop-self.self _ c.args.source.now.bits c.min-n.result c.word-word.result (omega (arith, c.min-n.ensures)) c.loop-self.invariant.stands refl c.push_word.ensures;
  same = record { source = c.loop-self.invariant.same.source; room = ap (λ (came : BitList). came.room) c.push_word.ensures ∙ c.loop-self.invariant.same.room };
}

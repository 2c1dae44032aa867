use Rattle.std.proofs.Common.{◌≡◌, ◌∙◌, ap, arith, length}
use Rattle.scan_bits.specs.BitLists.{BitList}
use Rattle.scan_bits.specs.Words.{bits_of}
use Rattle.scan_bits.proofs.Queue.{length-shifted_all}
use Rattle.chain_model.proofs.Staged.{word_turned}
use Rattle.chain_model.proofs.data_stage.rotate.Goals as goal

pub loop-left-preserved : goal.loop-left-preserved
loop-left-preserved c =
    let long : length c.turn_word.new.self.bits ≡ length c.loop-left.bits.bits
    = ap (λ (list : BitList). length list.bits) c.turn_word.ensures.bits ∙ length-shifted_all c.loop-left.bits.bits (bits_of c.min-n.result c.word-word.result) in
    record {
      turned = word_turned c.loop-left.bits.bits c.turn_word.new.self.bits _ c.loop-left.left c.min-n.result c.word-word.result (omega (arith, c.min-n.ensures)) c.loop-left.invariant.within c.word-word.ensures.bits
          (ap (λ (list : BitList). list.bits) c.turn_word.ensures.bits) c.loop-left.invariant.turned;
      within = omega (arith, long, c.loop-left.invariant.within);
      room = ap (λ (list : BitList). list.room) c.turn_word.ensures.bits ∙ c.loop-left.invariant.room;
    }

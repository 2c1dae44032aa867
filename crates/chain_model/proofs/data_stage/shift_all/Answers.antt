use Rattle.std.proofs.Common.{◌≡◌, ◌≤◌, ◌+◌, ◌∙◌, ap, arith, length}
use Rattle.scan_bits.specs.BitLists.{BitList}
use Rattle.scan_bits.specs.Words.{bits_of}
use Rattle.scan_bits.proofs.Queue.{length-shifted_all}
use Rattle.chain_model.proofs.Staged.{word_shifted}
use Rattle.chain_model.proofs.data_stage.shift_all.Goals as goal

pub loop-at-preserved : goal.loop-at-preserved
loop-at-preserved c =
    let long : length c.turn_word.new.self.bits ≡ length c.loop-at.register.bits
    = ap (λ (list : BitList). length list.bits) c.turn_word.ensures.bits ∙ length-shifted_all c.loop-at.register.bits (bits_of c.min-n.result c.word.result) in
    let within : c.loop-at.at + c.min-n.result ≤ length c.args.bits.now.bits = omega (arith, c.min-n.ensures, c.len-count.ensures.count, c.loop-at-test.true) in
    record {
      shifted = word_shifted c.loop-at.register.bits c.args.bits.now.bits c.turn_word.new.self.bits _ c.loop-at.at c.min-n.result c.word.result within c.word.ensures.bits
          (ap (λ (list : BitList). list.bits) c.turn_word.ensures.bits) c.loop-at.invariant.shifted;
      some = omega (arith, long, c.loop-at.invariant.some);
      within = within;
      room = ap (λ (list : BitList). list.room) c.turn_word.ensures.bits ∙ c.loop-at.invariant.room;
    }

use Rattle.std.proofs.Common.{sym, ◌∙◌, ap}
use Rattle.scan_bits.specs.Words.{number_of}
use Rattle.scan_share.specs.Codes.{reset_word}
use Rattle.scan_share.proofs.CodeWords.{one_filled, number_small}
use Rattle.scan_share.proofs.codes.reset_codes.Goals as goal

pub loop-place-preserved : goal.loop-place-preserved
loop-place-preserved c =
    rw c.push.ensures.items
    (one_filled reset_word c.loop-place.codes.items c.args.layout.now.parts c.loop-place.place c.part.result.now c.reset_code.result c.loop-place.invariant c.part.ensures.is
    (sym (number_small c.part.result.now.ir_length c.reset_code.result c.reset_code.ensures.bound) ∙ ap number_of c.reset_code.ensures.is))

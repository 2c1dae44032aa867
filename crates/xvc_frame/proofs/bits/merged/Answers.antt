use Rattle.std.proofs.Common.{arith, ◌∙◌, ap, ℕ, ◌%◌, ◌^◌}
use Rattle.xvc_frame.proofs.BitWords.{merged_is}
use Rattle.xvc_frame.proofs.bits.merged.Goals as goal

pub returns : goal.returns
returns c =
    merged_is c.args.word c.args.at c.args.width c.args.value c.lowest.result c.lowest-2.result (omega arith) c.requires.at c.requires.width
    (c.lowest.ensures ∙ ap (λ (n : ℕ). n % 2 ^ c.args.width) c.from.ensures) c.lowest-2.ensures

use Rattle.std.proofs.Common.{arith, ◌∙◌, ◌/◌, ◌+◌, ◌-◌}
use Rattle.xvc_frame.proofs.Numbers.{are_bytes}
use Rattle.xvc_frame.proofs.BitWords.{written, to_sixteen}
use Rattle.xvc_frame.proofs.bits.write_bits.Goals as goal

pub returns-clause-bits : goal.returns-clause-bits
returns-clause-bits c =
    written c.args.bytes.now c.args.at c.args.width c.args.value c.load.result c.merged-word.result c.requires.within c.requires.width c.load.ensures
    (c.args.at / 8 + 16 - c.args.at / 8) c.copy_from_slice.new.self (omega arith) (c.copy_from_slice.ensures.after ∙ c.to_le_bytes.ensures ∙ to_sixteen c.merged-word.result) c.merged-word.ensures

pub returns-clause-bytes : goal.returns-clause-bytes
returns-clause-bytes c = are_bytes _ (λ i. omega (arith, c.type_inv.bytes i))

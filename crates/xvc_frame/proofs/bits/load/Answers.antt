use Rattle.std.proofs.Common.{arith}
use Rattle.xvc_frame.proofs.Numbers.{are_bytes}
use Rattle.xvc_frame.proofs.BitWords.{loaded}
use Rattle.xvc_frame.proofs.bits.load.Goals as goal

pub returns : goal.returns
returns c =
    loaded c.args.bytes.now c.in-Some.chunk.now c.args.from c.from_le_bytes.result (are_bytes c.args.bytes.now (λ i. omega (arith, c.type_inv.bytes i))) c.requires
    c.from_le_bytes.ensures c.in-Some.ensures.cases.0

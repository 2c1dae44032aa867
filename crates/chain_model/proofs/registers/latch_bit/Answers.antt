use Rattle.std.proofs.Common.{◌∙◌, ap, arith, List, Bool}
use Rattle.scan_bits.specs.Registers.{bit_at}
use Rattle.chain_model.specs.Devices.{bits_in}
use Rattle.chain_model.proofs.Latches.{latch_captured, latch_past}
use Rattle.chain_model.proofs.registers.latch_bit.Goals as goal

pub returns-then-place-named : goal.returns-then-place-named
returns-then-place-named c content boundary named =
    c.bit_or_zero.ensures ∙ ap (λ (bits : List Bool). bit_at bits c.args.at) (ap bits_in c.index-named-place.is ∙ latch_captured content c.args.named.now c.args.register _ named (omega (arith, c.in_default)) (omega (arith, c.if-place-named.true)))

pub returns-else-place-named : goal.returns-else-place-named
returns-else-place-named c content boundary named =
    latch_past content c.args.named.now c.args.register c.args.at named (omega (arith, c.in_default)) (omega (arith, c.if-place-named.false))

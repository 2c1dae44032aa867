use Rattle.std.proofs.Common.{◌≡◌, ◌∙◌, ◌≤◌, ◌-◌, suc, length, true, sym, ap, arith, subst}
use Rattle.scan_bits.specs.Registers.{bit_at}
use Rattle.virtual_tap.specs.Instructions.{InstructionState}
use Rattle.virtual_tap.proofs.Shifting.{outlet}
use Rattle.virtual_tap.proofs.instructions.lowest.Goals as goal

pub returns : goal.returns
returns c =
    let rs = c.args.registers.now in
    let last : suc (length rs - 1) ≡ length rs = omega (arith, c.if-count-eq0.false) in
    let stage = ap (λ (register : InstructionState). register.stage) c.index-registers-count.is in
    let some : 1 ≤ length c.index-registers-count.result.stage = omega (arith, c.lowest.ensures.fits.long, c.lowest.ensures.fits.some) in
    c.lowest.ensures.is ∙ ap (λ bits. bit_at bits 0) stage ∙ sym (outlet rs (length rs - 1) c.index-registers-count.result true last (subst (λ bits. 1 ≤ length bits) stage some))

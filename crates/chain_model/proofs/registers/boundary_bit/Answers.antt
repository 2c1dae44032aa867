use Rattle.std.proofs.Common.{◌≡◌, ◌+◌, ◌-◌, ◌∙◌, ap, arith, length}
use Rattle.scan_bits.specs.Registers.{bit_at}
use Rattle.chain_model.proofs.Staged.{bit_kept, bit_came}
use Rattle.chain_model.proofs.registers.boundary_bit.Goals as goal

pub returns-then-cell-pins_left : goal.returns-then-cell-pins_left
returns-then-cell-pins_left c =
    let place : c.len-then-cell-pins_left.result + c.args.cell ≡ length c.args.boundary.now.bits + c.args.cell = omega arith in
    c.get.ensures ∙ ap (bit_at c.args.pins.now.bits) place ∙ bit_kept c.args.pins.now.bits c.args.boundary.now.bits c.args.cell c.requires (omega arith)

pub returns : goal.returns
returns c =
    let place : c.args.cell - (c.len.result - c.len-2.result) ≡ c.args.cell - (length c.args.pins.now.bits - length c.args.boundary.now.bits) = omega arith in
    c.bit_or_zero.ensures ∙ ap (bit_at c.args.boundary.now.bits) place ∙ bit_came c.args.pins.now.bits c.args.boundary.now.bits c.args.cell c.requires (omega arith)

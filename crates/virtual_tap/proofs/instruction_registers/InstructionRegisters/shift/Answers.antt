use Rattle.std.proofs.Common.{◌∙◌, ap, sym, length}
use Rattle.std.proofs.lemmas.List.{with_items_is}
use Rattle.scan_bits.specs.Words.{bits_of}
use Rattle.virtual_tap.specs.Instructions.{shifted_through, parts_of}
use Rattle.virtual_tap.proofs.Loaded.{parts_shifted, length-shifted_through, codes_stay, shown_after}
use Rattle.virtual_tap.proofs.instruction_registers.InstructionRegisters.shift.Goals as goal

pub invariant_of-self : goal.invariant_of-self
invariant_of-self c =
    let rs = c.self.inside.registers.items in
    let bits = bits_of c.args.n c.args.tdi in
    let after = c.shift.ensures.after ∙ ap (shifted_through bits) c.deref_mut.ensures.value in
    let long = ap length after ∙ length-shifted_through bits rs ∙ sym c.self.inside.registers.ok.0 in
    let is = with_items_is c.self.inside.registers c.shift.new.registers long ∙ after in
    codes_stay rs _ c.self.inside.codes.items (ap parts_of is ∙ parts_shifted bits rs) c.self.invariant

pub returns-clause-after : goal.returns-clause-after
returns-clause-after c =
    let rs = c.self.inside.registers.items in
    let bits = bits_of c.args.n c.args.tdi in
    let after = c.shift.ensures.after ∙ ap (shifted_through bits) c.deref_mut.ensures.value in
    let long = ap length after ∙ length-shifted_through bits rs ∙ sym c.self.inside.registers.ok.0 in
    let is = with_items_is c.self.inside.registers c.shift.new.registers long ∙ after in
    rw (← c.self.view_is) (shown_after rs _ (shifted_through bits rs) c.self.inside.codes.items is (parts_shifted bits rs))

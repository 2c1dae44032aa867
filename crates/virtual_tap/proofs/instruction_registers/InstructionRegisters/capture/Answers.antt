use Rattle.std.proofs.Common.{◌∙◌, ap, sym, length, map}
use Rattle.std.proofs.lemmas.List.{length-map, with_items_is}
use Rattle.virtual_tap.specs.Instructions.{captured, parts_of}
use Rattle.virtual_tap.proofs.Loaded.{parts_captured, codes_stay, shown_after}
use Rattle.virtual_tap.proofs.instruction_registers.InstructionRegisters.capture.Goals as goal

pub invariant_of-self : goal.invariant_of-self
invariant_of-self c =
    let rs = c.self.inside.registers.items in
    let after = c.capture.ensures ∙ ap (map captured) c.deref_mut.ensures.value in
    let long = ap length after ∙ length-map rs captured ∙ sym c.self.inside.registers.ok.0 in
    let is = with_items_is c.self.inside.registers c.capture.new.registers long ∙ after in
    codes_stay rs _ c.self.inside.codes.items (ap parts_of is ∙ parts_captured rs) c.self.invariant

pub returns : goal.returns
returns c =
    let rs = c.self.inside.registers.items in
    let after = c.capture.ensures ∙ ap (map captured) c.deref_mut.ensures.value in
    let long = ap length after ∙ length-map rs captured ∙ sym c.self.inside.registers.ok.0 in
    let is = with_items_is c.self.inside.registers c.capture.new.registers long ∙ after in
    rw (← c.self.view_is) (shown_after rs _ (map captured rs) c.self.inside.codes.items is (parts_captured rs))

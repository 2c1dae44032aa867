use Rattle.std.proofs.Common.{◌∙◌, ap, sym, subst, length}
use Rattle.std.proofs.lemmas.List.{with_items_is}
use Rattle.scan_share.specs.Scans.{codes_of}
use Rattle.virtual_tap.specs.Instructions.{SpellCodes, parts_of, reset_codes_of}
use Rattle.virtual_tap.proofs.Loaded.{as_many, coded_anew, shown_with}
use Rattle.virtual_tap.proofs.instruction_registers.InstructionRegisters.reset_codes.Goals as goal

pub reset-requires : goal.reset-requires
reset-requires c = ap length c.deref_mut.ensures.value ∙ as_many c.self.inside.registers.items c.self.inside.codes.items (codes_of (parts_of c.self.inside.registers.items) c.self.inside.codes.items) c.self.invariant ∙ sym (ap length c.deref.ensures.value)

pub invariant_of-self : goal.invariant_of-self
invariant_of-self c =
    let rs = c.self.inside.registers.items in
    let coded : SpellCodes (parts_of rs) c.reset.new.codes (reset_codes_of rs) = subst (λ all. SpellCodes (parts_of all) c.reset.new.codes (reset_codes_of all)) c.deref.ensures.value c.reset.ensures in
    let long = as_many rs c.reset.new.codes (reset_codes_of rs) coded ∙ sym (as_many rs c.self.inside.codes.items (codes_of (parts_of rs) c.self.inside.codes.items) c.self.invariant) ∙ sym c.self.inside.codes.ok.0 in
    let is = with_items_is c.self.inside.codes c.reset.new.codes long in
    subst (λ words. SpellCodes (parts_of rs) words (codes_of (parts_of rs) words)) (sym is) (coded_anew (parts_of rs) c.reset.new.codes (reset_codes_of rs) coded)

pub returns : goal.returns
returns c =
    let rs = c.self.inside.registers.items in
    let coded : SpellCodes (parts_of rs) c.reset.new.codes (reset_codes_of rs) = subst (λ all. SpellCodes (parts_of all) c.reset.new.codes (reset_codes_of all)) c.deref.ensures.value c.reset.ensures in
    let long = as_many rs c.reset.new.codes (reset_codes_of rs) coded ∙ sym (as_many rs c.self.inside.codes.items (codes_of (parts_of rs) c.self.inside.codes.items) c.self.invariant) ∙ sym c.self.inside.codes.ok.0 in
    let is = with_items_is c.self.inside.codes c.reset.new.codes long in
    rw (← c.self.view_is) (shown_with rs _ (reset_codes_of rs) (subst (λ words. SpellCodes (parts_of rs) words (reset_codes_of rs)) (sym is) coded))

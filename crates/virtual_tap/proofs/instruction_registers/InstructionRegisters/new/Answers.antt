use Rattle.std.proofs.Common.{subst}
use Rattle.virtual_tap.specs.Instructions.{SpellCodes, parts_of, reset_codes_of}
use Rattle.virtual_tap.proofs.Loaded.{coded_anew, codes_are}
use Rattle.virtual_tap.proofs.instruction_registers.InstructionRegisters.new.Goals as goal

pub invariant_of-result : goal.invariant_of-result
invariant_of-result c =
    let rs = c.in_ok-registers.registers.items in
    let coded : SpellCodes (parts_of rs) c.in_ok-codes.codes.items (reset_codes_of rs) = subst (λ all. SpellCodes (parts_of all) c.in_ok-codes.codes.items (reset_codes_of all)) c.deref.ensures.value c.in_ok-codes.ensures in
    coded_anew (parts_of rs) c.in_ok-codes.codes.items (reset_codes_of rs) coded

pub returns-clause-codes : goal.returns-clause-codes
returns-clause-codes c =
    let rs = c.in_ok-registers.registers.items in
    let coded : SpellCodes (parts_of rs) c.in_ok-codes.codes.items (reset_codes_of rs) = subst (λ all. SpellCodes (parts_of all) c.in_ok-codes.codes.items (reset_codes_of all)) c.deref.ensures.value c.in_ok-codes.ensures in
    codes_are (parts_of rs) c.in_ok-codes.codes.items (reset_codes_of rs) coded

-- Registers by number.
use Rattle.std.proofs.Common.{◌≡◌, ℕ, zero, suc, ◌-◌, ◌<◌, ◌≤◌, List, [], ◌∷◌, length, get_or, ap, arith}
use Rattle.part_model.specs.declared.registers.DataRegister.{DataRegister}
use Rattle.part_model.specs.Parts.{DeviceType, Register, numbered, named_of, named_length, name_in, length_of, register_name}

numbered_named : (reg : ℕ) → 4 ≤ reg → numbered reg ≡ Register.Named (reg - 4)
numbered_named zero le = absurd (omega (arith, le))
numbered_named (suc zero) le = absurd (omega (arith, le))
numbered_named (suc (suc zero)) le = absurd (omega (arith, le))
numbered_named (suc (suc (suc zero))) le = absurd (omega (arith, le))
numbered_named (suc (suc (suc (suc at)))) le = let e : at ≡ suc (suc (suc (suc at))) - 4 = omega arith in ap (λ n. Register.Named n) e

length_at : (registers : List DataRegister) (at : ℕ) (item : DataRegister) → at < length registers → item ≡ get_or registers at item → item.length ≡ named_length (named_of registers) at
length_at [] at item lt is = absurd (omega (arith, lt))
length_at (register ∷ registers) zero item lt is = ap (λ (r : DataRegister). r.length) is
length_at (register ∷ registers) (suc at) item lt is = length_at registers at item (omega (arith, lt)) is

name_at : (registers : List DataRegister) (at : ℕ) (item : DataRegister) → at < length registers → item ≡ get_or registers at item → item.name ≡ name_in (named_of registers) at
name_at [] at item lt is = absurd (omega (arith, lt))
name_at (register ∷ registers) zero item lt is = ap (λ (r : DataRegister). r.name) is
name_at (register ∷ registers) (suc at) item lt is = name_at registers at item (omega (arith, lt)) is

pub length_numbered : (part : DeviceType) (registers : List DataRegister) (reg : ℕ) (item : DataRegister) → part.named ≡ named_of registers → 4 ≤ reg → reg - 4 < length registers → item ≡ get_or registers (reg - 4) item → item.length ≡ length_of part (numbered reg)
length_numbered part registers reg item named le lt is = rw (numbered_named reg le, named) (length_at registers (reg - 4) item lt is)

pub name_numbered : (part : DeviceType) (registers : List DataRegister) (reg : ℕ) (item : DataRegister) → part.named ≡ named_of registers → 4 ≤ reg → reg - 4 < length registers → item ≡ get_or registers (reg - 4) item → item.name ≡ register_name part (numbered reg)
name_numbered part registers reg item named le lt is = rw (numbered_named reg le, named) (name_at registers (reg - 4) item lt is)

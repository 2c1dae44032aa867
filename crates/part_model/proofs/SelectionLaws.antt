-- Opcodes with the registers that they select.
use Rattle.std.proofs.Common.{◌≡◌, ℕ, List, [], ◌∷◌, ◌++◌, map, refl, ap, ◌∙◌, append_assoc}
use Rattle.std.proofs.lemmas.List.{map-append}
use Rattle.part_model.specs.Parts.{Register, numbered}
use Rattle.part_model.specs.Plans.{AccessEntry, OpcodeEntry, opcode_of, register_for, with_registers}

-- one opcode more
pub one_selected : (f : OpcodeEntry → Register) (found : List ℕ) (register : ℕ) (opcode : OpcodeEntry) (rest : List OpcodeEntry) → numbered register ≡ f opcode → map numbered (found ++ register ∷ []) ++ map f rest ≡ map numbered found ++ map f (opcode ∷ rest)
one_selected f found register opcode rest is =
    ap (λ (all : List Register). all ++ map f rest) (map-append numbered found (register ∷ []))
    ∙ append_assoc (map numbered found) (numbered register ∷ []) (map f rest)
    ∙ ap (λ (first : Register). map numbered found ++ first ∷ map f rest) is

pub all_selected : (access : List AccessEntry) (opcodes : List OpcodeEntry) (registers : List ℕ) → map numbered registers ≡ map (λ opcode. register_for access opcode.name) opcodes → with_registers opcodes registers ≡ map (opcode_of access) opcodes
all_selected access [] registers are = refl
all_selected access (opcode ∷ opcodes) [] are = absurd (cc are)
all_selected access (opcode ∷ opcodes) (register ∷ registers) are =
    let first : numbered register ≡ register_for access opcode.name = cc are in
    let rest : map numbered registers ≡ map (λ opcode. register_for access opcode.name) opcodes = cc are in
    λ i. record { name = opcode.name; patterns = opcode.patterns; register = first i } ∷ all_selected access opcodes registers rest i

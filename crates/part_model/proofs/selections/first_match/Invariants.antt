use Rattle.std.proofs.Common.{◌≡◌, ℕ, true, length}
use Rattle.scan_bits.specs.Words.{bits_of}
use Rattle.part_model.specs.Parts.{first_match, instructions_of, all_below}
use Rattle.part_model.proofs.selections.first_match.Given as goal

abbrev pub invariant-loop-opcode : goal.invariant-loop-opcode
invariant-loop-opcode l = (first_match (instructions_of l.rest) (bits_of l.count l.code) ≡ first_match (instructions_of l.opcodes) (bits_of l.count l.code)) × ((bound : ℕ) → all_below bound l.opcodes ≡ true → all_below bound l.rest ≡ true)

abbrev pub decreases-loop-opcode : goal.decreases-loop-opcode
decreases-loop-opcode l = length l.rest

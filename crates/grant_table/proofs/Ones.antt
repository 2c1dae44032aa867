-- All ones as a word.
use Rattle.std.proofs.Common.{◌≡◌, ◌-◌, ◌/◌, ◌^◌, ap, sym, ◌∙◌}
use Rattle.std.proofs.Math.Nat.{mod-eq_of_lt}
use Rattle.scan_bits.specs.Words.{number_of}
use Rattle.scan_bits.proofs.WordLaws.{number_of-bits_of}
use Rattle.part_model.specs.Parts.{DeviceType}
use Rattle.part_model.specs.Plans.{IsPart}
use Rattle.part_model.proofs.ResetLaws.{all_ones_are, all_ones_below}
use Rattle.grant_table.specs.Layouts.{bypass_word}
use Rattle.grant_table.proofs.Sums.{few_bits}

pub ones_word : (part : DeviceType) → IsPart part → (2 ^ 64 - 1) / 2 ^ (64 - part.ir_length) ≡ bypass_word part
ones_word part is =
    let few = few_bits part is in
    sym (number_of-bits_of part.ir_length ((2 ^ 64 - 1) / 2 ^ (64 - part.ir_length)) ∙ mod-eq_of_lt (all_ones_below part.ir_length few))
    ∙ ap number_of (all_ones_are part.ir_length few)

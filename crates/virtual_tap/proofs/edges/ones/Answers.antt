use Rattle.std.proofs.Common.{◌∙◌, ◌/◌, ◌-◌, ◌^◌, sym, ap}
use Rattle.std.proofs.Math.Nat.{mod-eq_of_lt}
use Rattle.scan_bits.specs.Words.{number_of}
use Rattle.scan_bits.proofs.WordLaws.{number_of-bits_of}
use Rattle.part_model.proofs.ResetLaws.{all_ones_are, all_ones_below}
use Rattle.virtual_tap.proofs.edges.ones.Goals as goal

pub returns-clause-is : goal.returns-clause-is
returns-clause-is c =
    let n = c.args.n in
    sym (mod-eq_of_lt (all_ones_below n c.requires.1)) ∙ sym (number_of-bits_of n (18446744073709551615 / 2 ^ (64 - n))) ∙ ap number_of (all_ones_are n c.requires.1)

pub returns-clause-bound : goal.returns-clause-bound
returns-clause-bound c = all_ones_below c.args.n c.requires.1

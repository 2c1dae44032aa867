use Rattle.std.proofs.Common.{◌+◌, ◌≡◌, suc, arith}
use Rattle.scan_bits.specs.Words.{bit_value}
use Rattle.scan_bits.proofs.WordLaws.{bit_value-lt}
use Rattle.part_model.specs.Digits.{is_stated, is_one}
use Rattle.part_model.proofs.PackLaws.{care_below, few_are, more_fits, ones_fit}
use Rattle.part_model.proofs.patterns.CodePattern.with_lowest.Goals as goal

pub overflow_add-result : goal.overflow_add-result
overflow_add-result c = omega (arith, few_are c.self.inside.count c.self.inside.cares c.self.inside.ones c.args.self c.self.view_is c.requires)

pub overflow_mul-result : goal.overflow_mul-result
overflow_mul-result c =
    let few = few_are c.self.inside.count c.self.inside.cares c.self.inside.ones c.args.self c.self.view_is c.requires in
    omega (arith, more_fits c.self.inside.count c.self.inside.cares 0 few c.self.invariant.cares_fit (omega arith))

pub overflow_add-result-2 : goal.overflow_add-result-2
overflow_add-result-2 c =
    let few = few_are c.self.inside.count c.self.inside.cares c.self.inside.ones c.args.self c.self.view_is c.requires in
    omega (arith, c.care_value.ensures, more_fits c.self.inside.count c.self.inside.cares (bit_value (is_stated c.args.digit)) few c.self.invariant.cares_fit (bit_value-lt (is_stated c.args.digit)))

pub overflow_mul-result-2 : goal.overflow_mul-result-2
overflow_mul-result-2 c =
    let few = few_are c.self.inside.count c.self.inside.cares c.self.inside.ones c.args.self c.self.view_is c.requires in
    omega (arith, more_fits c.self.inside.count c.self.inside.ones 0 few (ones_fit c.self.inside.count c.self.inside.cares c.self.inside.ones c.self.invariant) (omega arith))

pub overflow_add-result-3 : goal.overflow_add-result-3
overflow_add-result-3 c =
    let few = few_are c.self.inside.count c.self.inside.cares c.self.inside.ones c.args.self c.self.view_is c.requires in
    omega (arith, c.one_value.ensures, more_fits c.self.inside.count c.self.inside.ones (bit_value (is_one c.args.digit)) few (ones_fit c.self.inside.count c.self.inside.cares c.self.inside.ones c.self.invariant) (bit_value-lt (is_one c.args.digit)))

pub invariant_of-result : goal.invariant_of-result
invariant_of-result c =
    let above : c.self.inside.count + 1 ≡ suc c.self.inside.count = omega arith in
    rw (above, c.care_value.ensures, c.one_value.ensures) (care_below c.args.digit c.self.inside.count c.self.inside.cares c.self.inside.ones c.self.invariant)

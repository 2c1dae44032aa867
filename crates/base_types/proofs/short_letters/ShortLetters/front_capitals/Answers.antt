use Rattle.base_types.proofs.TextLaws.{capitals_are_text, front_of_capitals}
use Rattle.base_types.proofs.short_letters.ShortLetters.front_capitals.Goals as goal

pub invariant_of-result : goal.invariant_of-result
invariant_of-result c =
    let is = front_of_capitals c.args.count c.args.bytes.now _ _ c.in_capitals.ensures c.front.ensures in
    (c.requires.short, ∣ capitals_are_text _ _ is c.requires.ascii ∣₁)

pub returns : goal.returns
returns c = front_of_capitals c.args.count c.args.bytes.now _ _ c.in_capitals.ensures c.front.ensures

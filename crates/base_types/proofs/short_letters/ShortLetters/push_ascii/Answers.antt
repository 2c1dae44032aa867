use Rattle.std.proofs.Common.{rules}
use Rattle.base_types.proofs.TextLaws.{with_letter_is_text}
use Rattle.base_types.proofs.short_letters.ShortLetters.push_ascii.Goals as goal

pub invariant_of-self : goal.invariant_of-self
invariant_of-self c = (search rules, ∣ with_letter_is_text _ _ c.args.letter c.self.invariant.1 (search rules) c.requires.ascii ∣₁)

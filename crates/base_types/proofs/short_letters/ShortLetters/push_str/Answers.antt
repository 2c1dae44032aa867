use Rattle.std.proofs.Common.{◌∙◌, rules}
use Rattle.base_types.proofs.TextLaws.{with_text_is_text}
use Rattle.base_types.proofs.short_letters.ShortLetters.push_str.Goals as goal

pub invariant_of-self : goal.invariant_of-self
invariant_of-self c =
    let written = c.copy_from_slice.ensures.after ∙ c.as_bytes.ensures.value in
    (search rules, ∣ rw written (with_text_is_text _ _ _ c.self.invariant.1 (search rules) c.utf8.text) ∣₁)

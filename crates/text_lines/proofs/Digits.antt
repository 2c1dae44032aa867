-- Numbers of base 16.
use Rattle.std.proofs.Common.{◌≡◌, ℕ, List, ◌++◌, ap, ◌∙◌}
use Rattle.text_lines.specs.Hex.{hex_digits, without_zeros, hex}

pub hex_pushed : (line text digits shown one two : List ℕ) (count number : ℕ) → count ≡ 16 → digits ≡ hex_digits count number → one ≡ line ++ text → shown ≡ without_zeros digits → two ≡ one ++ shown → two ≡ (line ++ text) ++ hex number
unfolding hex
hex_pushed line text digits shown one two count number sixteen digits_are one_is shown_is two_is =
    two_is ∙ (λ i. one_is i ++ (shown_is ∙ ap without_zeros (digits_are ∙ ap (λ n. hex_digits n number) sixteen)) i)

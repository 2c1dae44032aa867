-- Bits taken from a tape, and digits of a code.
use Rattle.std.proofs.Common.{◌≡◌, ◌≤◌, ◌<◌, ◌+◌, ◌-◌, ◌/◌, ◌%◌, ◌==◌, ℕ, suc, Bool, true, false, List, [], ◌∷◌, ◌++◌, length, take, drop, refl, sym, ◌∙◌, ap, arith, append_assoc, length-drop, take-append-drop}
use Rattle.std.proofs.lemmas.List.{length-take-le, drop-drop}
use Rattle.part_model.specs.declared.Digit.{Digit}
use Rattle.part_model.specs.Demo.{digits_of_bits}
use Rattle.scan_bits.specs.Words.{bits_of, number_of}
use Rattle.scan_bits.proofs.WordLaws.{bits_of-number_of}

pub taken_bits : (bits : List Bool) (at end n word : ℕ) → at + n ≤ length bits → end ≡ at + n → word ≡ number_of (take n (drop at bits)) → drop at bits ≡ bits_of n word ++ drop end bits
taken_bits bits at end n word within end_is is =
    let long : length (take n (drop at bits)) ≡ n = length-take-le n (drop at bits) (omega (arith, within, length-drop at bits)) in
    let front : bits_of n word ≡ take n (drop at bits) = (λ i. bits_of (sym long i) (is i)) ∙ bits_of-number_of (take n (drop at bits)) in
    let rest : drop end bits ≡ drop n (drop at bits) = ap (λ (k : ℕ). drop k bits) end_is ∙ sym (drop-drop n at bits) in
    sym ((λ i. front i ++ rest i) ∙ take-append-drop n (drop at bits))

digits_first : (bit : Bool) (bits : List Bool) → digits_of_bits (bit ∷ bits) ≡ digits_of_bits (bit ∷ []) ++ digits_of_bits bits
digits_first true bits = refl
digits_first false bits = refl

-- one digit more of a code
pub next_digit : (digits pushed all : List Digit) (n i rest : ℕ) (d : Digit) → i < n → pushed ≡ digits ++ d ∷ [] → digits_of_bits ((rest % 2 == 1) ∷ []) ≡ d ∷ []
    → digits ++ digits_of_bits (bits_of (n - i) rest) ≡ all → pushed ++ digits_of_bits (bits_of (n - (i + 1)) (rest / 2)) ≡ all
next_digit digits pushed all n i rest d lt pushed_is d_is is =
    let more = digits_of_bits (bits_of (n - (i + 1)) (rest / 2)) in
    let e : suc (n - (i + 1)) ≡ n - i = omega (arith, lt) in
    ap (λ (l : List Digit). l ++ more) pushed_is ∙ append_assoc digits (d ∷ []) more
    ∙ ap (λ (l : List Digit). digits ++ (l ++ more)) (sym d_is) ∙ ap (λ (l : List Digit). digits ++ l) (sym (digits_first (rest % 2 == 1) (bits_of (n - (i + 1)) (rest / 2))))
    ∙ ap (λ (k : ℕ). digits ++ digits_of_bits (bits_of k rest)) e ∙ is

-- Codes that are packed into the words of an instruction scan.
use Rattle.std.proofs.Common.{◌≡◌, ◌≤◌, ◌<◌, ◌+◌, ◌-◌, ◌*◌, ◌%◌, ◌^◌, bit_or, ℕ, Bool, List, ◌++◌, length, take, Some, refl, ap, sym, ◌∙◌, arith, append_assoc, length-append}
use Rattle.std.specs.Prelude.{slice_get}
use Rattle.scan_bits.specs.Words.{bits_of}
use Rattle.scan_bits.specs.Registers.{joined}
use Rattle.scan_bits.proofs.WordLaws.{length-bits_of}
use Rattle.scan_share.proofs.Places.{some_left, stage_before}
use Rattle.scan_share.proofs.Taking.{Taken, taken_more}

-- where a word is not full yet, a code is left for it
pub code_left : (codes : List (List Bool)) (place word done n : ℕ) (all : List Bool) → done < n → n ≤ length all → Taken word done (joined (take place codes)) all → 1 ≤ place
code_left codes place word done n all lt enough was =
    some_left codes place (omega (arith, lt, enough, ap length was.is, length-append (bits_of done word) (joined (take place codes)), length-bits_of done word))

-- a word, with a whole code behind what it has
pub whole_code : (codes : List (List Bool)) (place word done n count bits : ℕ) (all : List Bool) → n ≤ 64 → done < n → n ≤ length all → count ≤ n - done → bits < 2 ^ count
    → slice_get codes (place - 1) ≡ Some (bits_of count bits) → Taken word done (joined (take place codes)) all
    → Taken (bit_or word (bits * 2 ^ done % 2 ^ 64)) (done + count) (joined (take (place - 1) codes)) all
whole_code codes place word done n count bits all few lt enough fits small is was =
    taken_more word done bits count (done + count) n (joined (take place codes)) (joined (take (place - 1) codes)) all few lt fits refl small
    (stage_before codes place (bits_of count bits) (code_left codes place word done n all lt enough was) is) was

-- a word that is filled up with the first bits of a code
pub first_of_code : (codes : List (List Bool)) (place word done n first count bits : ℕ) (code all : List Bool) → n ≤ 64 → done < n → n ≤ length all → first < 2 ^ (n - done)
    → bits_of (n - done) first ++ bits_of count bits ≡ code → slice_get codes (place - 1) ≡ Some code → Taken word done (joined (take place codes)) all
    → Taken (bit_or word (first * 2 ^ done % 2 ^ 64)) n (bits_of count bits ++ joined (take (place - 1) codes)) all
first_of_code codes place word done n first count bits code all few lt enough small parted is was =
    taken_more word done first (n - done) n n (joined (take place codes)) (bits_of count bits ++ joined (take (place - 1) codes)) all few lt (omega arith) (omega (arith, lt)) small
    (sym (append_assoc (bits_of (n - done) first) (bits_of count bits) (joined (take (place - 1) codes)))
    ∙ ap (λ q. q ++ joined (take (place - 1) codes)) parted
    ∙ stage_before codes place code (code_left codes place word done n all lt enough was) is) was

-- a word of the first bits of a code alone
pub front_taken : (word n count bits : ℕ) (code left : List Bool) → word < 2 ^ n → bits_of n word ++ bits_of count bits ≡ code → Taken word n (bits_of count bits ++ left) (code ++ left)
front_taken word n count bits code left small parted =
    record {
      small = small;
      is = sym (append_assoc (bits_of n word) (bits_of count bits) left) ∙ ap (λ q. q ++ left) parted;
    }

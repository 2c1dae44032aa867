-- What stands between places of a text.
use Rattle.std.proofs.Common.{◌≡◌, ℕ, zero, suc, ◌+◌, ◌-◌, ◌*◌, ◌<◌, ◌≤◌, ◌^◌, ◌&&◌, nat_lt, Bool, true, false, length, List, [], ◌∷◌, ◌++◌, take, drop, get_or, min, refl, sym, ap, ◌∙◌, arith, length-drop}
use Rattle.std.specs.List.{list_all, prefix_len}
use Rattle.std.proofs.Math.Seq.{take-add}
use Rattle.std.proofs.Math.Nat.{pow-suc}
use Rattle.std.proofs.lemmas.Bool.{and_from, lt-ltb}
use Rattle.std.proofs.lemmas.List.{drop_more, drop-take, length-take-le}
use Rattle.bsdl_lex.specs.declared.Token.{Token}
use Rattle.bsdl_lex.specs.declared.TokenKind.TheVariants.{Text}
use Rattle.bsdl_lex.specs.Tokens.{is_letter, is_digit, in_word}
use Rattle.bsdl_read.specs.Words.{is_kind}
use Rattle.bsdl_read.specs.Contents.{inside, is_short, number_from}
use Rattle.bsdl_read.specs.Places.{between, IsWord, IsNumber, HasSign}
use Rattle.bsdl_read.proofs.Spans.{passes-snoc}
use Rattle.bsdl_read.proofs.Whole.{name_from}

drop_none : (count : ℕ) → ◌≡◌ {A = List ℕ} (drop count []) []
drop_none zero = refl
drop_none (suc count) = refl

drop-twice : (m n : ℕ) (text : List ℕ) → drop n (drop m text) ≡ drop (m + n) text
drop-twice zero n text = let same : zero + n ≡ n = omega arith in rw same refl
drop-twice (suc m) n [] = drop_none n ∙ sym (drop_none (suc m + n))
drop-twice (suc m) n (byte ∷ text) = let more : suc m + n ≡ suc (m + n) = omega arith in rw more (drop-twice m n text)

pub nothing_between : (text : List ℕ) (place : ℕ) → between text place place ≡ []
nothing_between text place = let none : place - place ≡ 0 = omega arith in rw none refl

pub length-between : (text : List ℕ) (start stop : ℕ) → start ≤ stop → stop ≤ length text → length (between text start stop) ≡ stop - start
length-between text start stop rises ends = length-take-le (stop - start) (drop start text) (omega (arith, length-drop start text, rises, ends))

-- two parts
pub parted : (text : List ℕ) (start stop end : ℕ) → start ≤ stop → stop ≤ end → between text start end ≡ between text start stop ++ between text stop end
parted text start stop end rises ends =
    let all : end - start ≡ (stop - start) + (end - stop) = omega (arith, rises, ends) in
    let there : start + (stop - start) ≡ stop = omega (arith, rises) in
    ap (λ (n : ℕ). take n (drop start text)) all
    ∙ take-add (stop - start) (end - stop) (drop start text)
    ∙ ap (λ (rest : List ℕ). between text start stop ++ take (end - stop) rest) (drop-twice start (stop - start) text ∙ ap (λ (n : ℕ). drop n text) there)

-- the first byte
pub begins_at : (text : List ℕ) (start end : ℕ) (d : ℕ) → start < end → end ≤ length text → between text start end ≡ get_or text start d ∷ between text (start + 1) end
begins_at text start end d before ends =
    let more : end - start ≡ suc (end - (start + 1)) = omega (arith, before) in
    ap (take (end - start)) (drop_more text start d (omega (arith, before, ends))) ∙ ap (λ (n : ℕ). take n (get_or text start d ∷ drop (start + 1) text)) more

one_between : (text : List ℕ) (start : ℕ) (d : ℕ) → start < length text → between text start (start + 1) ≡ get_or text start d ∷ []
one_between text start d before =
    begins_at text start (start + 1) d (omega arith) (omega (arith, before)) ∙ ap (λ (rest : List ℕ). get_or text start d ∷ rest) (nothing_between text (start + 1))

-- the last byte
pub ends_at : (text : List ℕ) (start stop : ℕ) (d : ℕ) → start ≤ stop → stop < length text → between text start (stop + 1) ≡ between text start stop ++ get_or text stop d ∷ []
ends_at text start stop d rises before = parted text start stop (stop + 1) rises (omega arith) ∙ ap (λ (last : List ℕ). between text start stop ++ last) (one_between text stop d before)

pub one_more : (test : ℕ → Bool) (text : List ℕ) (start stop : ℕ) (d : ℕ) → start ≤ stop → stop < length text → list_all test (between text start stop) ≡ true → test (get_or text stop d) ≡ true → list_all test (between text start (stop + 1)) ≡ true
one_more test text start stop d rises before all one = ap (list_all test) (ends_at text start stop d rises before) ∙ passes-snoc test (between text start stop) (get_or text stop d) all one

pub sign_at : (text : List ℕ) (sign start end : ℕ) (d : ℕ) → start < end → end ≤ length text → get_or text start d ≡ sign → HasSign text sign start end
sign_at text sign start end d before ends is = record { before = before; is = begins_at text start end d before ends ∙ ap (λ (byte : ℕ). byte ∷ between text (start + 1) end) is }

front_passes : (test : ℕ → Bool) (bytes : List ℕ) (count : ℕ) → count ≤ prefix_len test bytes → list_all test (take count bytes) ≡ true
front_passes test bytes zero most = refl
front_passes test [] (suc count) most = absurd (omega (arith, most))
front_passes test (byte ∷ bytes) (suc count) most = by (test byte) refl (λ less. front_passes test bytes count less)
  where
    by : (passes : Bool) → test byte ≡ passes → (count ≤ prefix_len test bytes → list_all test (take count bytes) ≡ true) → list_all test (take (suc count) (byte ∷ bytes)) ≡ true
    by true is rest =
        let less : suc count ≤ 1 + prefix_len test bytes = rw is at most in
        and_from (test byte) (list_all test (take count bytes)) is (rest (omega (arith, less)))
    by false is rest = let none : suc count ≤ 0 = rw is at most in absurd (omega (arith, none))

starts_word : (first : ℕ) (more : List ℕ) → is_letter first ≡ true → 0 < prefix_len in_word (first ∷ more)
starts_word first more letter = let is : in_word first ≡ true = rw letter refl in rw is (omega arith)

pub word_at : (text : List ℕ) (start end count stop : ℕ) (d : ℕ) → start < end → end ≤ length text → is_letter (get_or text start d) ≡ true → count ≡ prefix_len in_word (drop start text) → stop ≡ start + min count (end - start)
    → IsWord text start stop
word_at text start end count stop d before ends letter is to =
    let some : 0 < count = rw (is, drop_more text start d (omega (arith, before, ends))) (starts_word (get_or text start d) (drop (start + 1) text) letter) in
    let rises : start < stop = omega (arith, some, before, to) in
    let within : stop ≤ length text = omega (arith, before, ends, to) in
    let all : list_all in_word (between text start stop) ≡ true = front_passes in_word (drop start text) (stop - start) (omega (arith, is, to, before)) in
    record { rises = rises; ends = within; letters = all; has_name = name_from (between text start stop) (get_or text start d) (between text (start + 1) stop) (begins_at text start stop d rises within) letter all }

-- ---- numbers

number-snoc : (value : ℕ) (digits : List ℕ) (digit : ℕ) → number_from value (digits ++ digit ∷ []) ≡ number_from value digits * 10 + (digit - 48)
number-snoc value [] digit = refl
number-snoc value (first ∷ digits) digit = number-snoc (value * 10 + (first - 48)) digits digit

pub one_digit_more : (text : List ℕ) (start stop : ℕ) (d value more : ℕ) → start ≤ stop → stop < length text → value ≡ number_from 0 (between text start stop) → more ≡ get_or text stop d - 48 → value * 10 + more ≡ number_from 0 (between text start (stop + 1))
one_digit_more text start stop d value more rises before is digit =
    ap (λ (n : ℕ). n * 10 + more) is ∙ ap (λ (n : ℕ). number_from 0 (between text start stop) * 10 + n) digit ∙ sym (number-snoc 0 (between text start stop) (get_or text stop d)) ∙ ap (number_from 0) (sym (ends_at text start stop d rises before))

short_from : (digits : List ℕ) → 0 < length digits → length digits < 10 → list_all is_digit digits ≡ true → is_short digits ≡ true
short_from digits some few all =
    and_from (nat_lt 0 (length digits)) (nat_lt (length digits) 10 && list_all is_digit digits) (lt-ltb 0 (length digits) some) (and_from (nat_lt (length digits) 10) (list_all is_digit digits) (lt-ltb (length digits) 10 few) all)

pub number_there : (text : List ℕ) (start stop end value : ℕ) → start < stop → stop ≤ end → end ≤ length text → stop - start < 10 → list_all is_digit (between text start stop) ≡ true → value ≡ number_from 0 (between text start stop) → IsNumber text start stop end value
number_there text start stop end value rises ends within few all is =
    let count : length (between text start stop) ≡ stop - start = length-between text start stop (omega (arith, rises)) (omega (arith, ends, within)) in
    record { rises = rises; ends = ends; short = short_from (between text start stop) (omega (arith, count, rises)) (omega (arith, count, few)) all; is = is }

pub more_digits : (value digit at next : ℕ) → value < 10 ^ at → digit < 10 → next ≡ suc at → value * 10 + digit < 10 ^ next
more_digits value digit at next small less is = let power : 10 ^ next ≡ 10 ^ at * 10 = ap (λ (n : ℕ). 10 ^ n) is ∙ pow-suc 10 at in omega (arith, power, small, less)

-- ---- between quotes

pub inside_is : (text : List ℕ) (token : Token) → is_kind token.kind Text ≡ true → 2 ≤ token.end - token.start → between text (token.start + 1) (token.end - 1) ≡ inside text token
inside_is text token is some =
    let count : token.end - token.start - 1 ≡ 1 + (token.end - 1 - (token.start + 1)) = omega (arith, some) in
    rw is (ap (take (token.end - 1 - (token.start + 1))) (sym (drop-twice token.start 1 text)) ∙ sym (drop-take 1 (token.end - 1 - (token.start + 1)) (drop token.start text)) ∙ ap (λ (n : ℕ). drop 1 (take n (drop token.start text))) (sym count))

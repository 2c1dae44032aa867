-- Texts that are cut into lines, and lines into words.
use Rattle.std.proofs.Common.{◌≡◌, ◌+◌, ℕ, suc, Bool, true, false, not, List, [], ◌∷◌, length, take, drop, ap, ◌∙◌, sym, refl, arith, ◌≢◌}
use Rattle.std.proofs.lemmas.List.{nil_from_length}
use Rattle.std.specs.List.{prefix_len, slice_split, onto_first}
use Rattle.wire_port.specs.Words.{ends_line, is_blank, not_empty, lines_of, words_of}

-- how many bytes stand before the first that separates
abbrev pub before : (ℕ → Bool) → List ℕ → ℕ
before test text = prefix_len (λ byte. not (test byte)) text

-- the parts behind the first
abbrev pub parts_left : (ℕ → Bool) → List ℕ → List (List ℕ)
parts_left test [] = []
parts_left test (byte ∷ rest) = slice_split test rest

drop_next : (count byte : ℕ) (text : List ℕ) → drop (1 + count) (byte ∷ text) ≡ drop count text
drop_next count byte text = let next : 1 + count ≡ suc count = omega arith in rw next refl

take_next : (count byte : ℕ) (text : List ℕ) → take (1 + count) (byte ∷ text) ≡ byte ∷ take count text
take_next count byte text = let next : 1 + count ≡ suc count = omega arith in rw next refl

-- the first part is all up to the first byte that separates
pub cut : (test : ℕ → Bool) (text : List ℕ) → slice_split test text ≡ take (before test text) text ∷ parts_left test (drop (before test text) text)
cut test [] = refl
cut test (byte ∷ text) = go (test byte) refl (cut test text)
  where
    go : (t : Bool) → test byte ≡ t → slice_split test text ≡ take (before test text) text ∷ parts_left test (drop (before test text) text)
        → slice_split test (byte ∷ text) ≡ take (before test (byte ∷ text)) (byte ∷ text) ∷ parts_left test (drop (before test (byte ∷ text)) (byte ∷ text))
    go true is rest = rw is refl
    go false is rest = rw is (rw (take_next (before test text) byte text, drop_next (before test text) byte text) (ap (onto_first byte) rest))

-- bytes that separate, at the front, belong to no word
pub blanks_passed : (test : ℕ → Bool) (text : List ℕ) → not_empty (slice_split test (drop (prefix_len test text) text)) ≡ not_empty (slice_split test text)
blanks_passed test [] = refl
blanks_passed test (byte ∷ text) = go (test byte) refl (blanks_passed test text)
  where
    go : (t : Bool) → test byte ≡ t → not_empty (slice_split test (drop (prefix_len test text) text)) ≡ not_empty (slice_split test text)
        → not_empty (slice_split test (drop (prefix_len test (byte ∷ text)) (byte ∷ text))) ≡ not_empty (slice_split test (byte ∷ text))
    go true is rest = rw is (rw (drop_next (prefix_len test text) byte text) rest)
    go false is rest = rw (is, is) refl

begins : (test : ℕ → Bool) (byte : ℕ) (text : List ℕ) → test byte ≡ false → before test (byte ∷ text) ≢ 0
begins test byte text is none = let at = rw is at none in omega (arith, at)

-- behind them either a word begins or nothing is left
pub no_word : (test : ℕ → Bool) (text : List ℕ) → before test (drop (prefix_len test text) text) ≡ 0 → not_empty (slice_split test (drop (prefix_len test text) text)) ≡ []
no_word test [] none = refl
no_word test (byte ∷ text) none = go (test byte) refl (no_word test text) none
  where
    go : (t : Bool) → test byte ≡ t → (before test (drop (prefix_len test text) text) ≡ 0 → not_empty (slice_split test (drop (prefix_len test text) text)) ≡ [])
        → before test (drop (prefix_len test (byte ∷ text)) (byte ∷ text)) ≡ 0
        → not_empty (slice_split test (drop (prefix_len test (byte ∷ text)) (byte ∷ text))) ≡ []
    go true is rest at = rw is (rw (drop_next (prefix_len test text) byte text) (rest (ap (before test) (sym (drop_next (prefix_len test text) byte text)) ∙ (rw is at at))))
    go false is rest at = absurd (begins test byte text is (rw is at at))

-- behind a word there is nothing, or a byte that separates
pub left_over : (test : ℕ → Bool) (text : List ℕ) → not_empty (parts_left test (drop (before test text) text)) ≡ not_empty (slice_split test (drop (before test text) text))
left_over test [] = refl
left_over test (byte ∷ text) = go (test byte) refl (left_over test text)
  where
    go : (t : Bool) → test byte ≡ t → not_empty (parts_left test (drop (before test text) text)) ≡ not_empty (slice_split test (drop (before test text) text))
        → not_empty (parts_left test (drop (before test (byte ∷ text)) (byte ∷ text))) ≡ not_empty (slice_split test (drop (before test (byte ∷ text)) (byte ∷ text)))
    go true is rest = rw (is, is) refl
    go false is rest = rw is (rw (drop_next (before test text) byte text) rest)

-- a word, and those behind it
pub one_more_word : (test : ℕ → Bool) (text : List ℕ) → (before test text ≢ 0) → not_empty (slice_split test text) ≡ take (before test text) text ∷ not_empty (slice_split test (drop (before test text) text))
one_more_word test [] some = absurd (some refl)
one_more_word test (byte ∷ text) some = go (test byte) refl (cut test text) (left_over test text) some
  where
    go : (t : Bool) → test byte ≡ t → slice_split test text ≡ take (before test text) text ∷ parts_left test (drop (before test text) text)
        → not_empty (parts_left test (drop (before test text) text)) ≡ not_empty (slice_split test (drop (before test text) text)) → (before test (byte ∷ text) ≢ 0)
        → not_empty (slice_split test (byte ∷ text)) ≡ take (before test (byte ∷ text)) (byte ∷ text) ∷ not_empty (slice_split test (drop (before test (byte ∷ text)) (byte ∷ text)))
    go true is first over at = absurd (at (rw is refl))
    go false is first over at =
        rw is (rw (take_next (before test text) byte text, drop_next (before test text) byte text)
        (ap (λ (parts : List (List ℕ)). not_empty (onto_first byte parts)) first ∙ ap (λ (words : List (List ℕ)). (byte ∷ take (before test text) text) ∷ words) over))

-- ---- in the words of the code

pub line_ended : (text front behind rest : List ℕ) (count byte : ℕ) → count ≡ before ends_line text → front ≡ take count text → behind ≡ drop count text → behind ≡ byte ∷ rest → lines_of text ≡ front ∷ lines_of rest
line_ended text front behind rest count byte is front_is behind_is more =
    cut ends_line text ∙ (λ i. (ap (λ (n : ℕ). take n text) (sym is) ∙ sym front_is) i ∷ parts_left ends_line ((ap (λ (n : ℕ). drop n text) (sym is) ∙ sym behind_is ∙ more) i))

pub last_line : (text front behind : List ℕ) (count : ℕ) → count ≡ before ends_line text → front ≡ take count text → behind ≡ drop count text → length behind ≡ 0 → lines_of text ≡ front ∷ []
last_line text front behind count is front_is behind_is none =
    cut ends_line text ∙ (λ i. (ap (λ (n : ℕ). take n text) (sym is) ∙ sym front_is) i ∷ parts_left ends_line ((ap (λ (n : ℕ). drop n text) (sym is) ∙ sym behind_is ∙ nil_from_length behind none) i))

pub words_end : (text rest : List ℕ) (skipped : ℕ) → skipped ≡ prefix_len is_blank text → rest ≡ drop skipped text → before is_blank rest ≡ 0 → words_of text ≡ []
words_end text rest skipped is rest_is none =
    let here : rest ≡ drop (prefix_len is_blank text) text = rest_is ∙ ap (λ (n : ℕ). drop n text) is in
    sym (blanks_passed is_blank text) ∙ no_word is_blank text (ap (before is_blank) (sym here) ∙ none)

pub words_go_on : (text rest word behind : List ℕ) (skipped count : ℕ) → skipped ≡ prefix_len is_blank text → rest ≡ drop skipped text → count ≡ before is_blank rest → (count ≢ 0)
    → word ≡ take count rest → behind ≡ drop count rest → words_of text ≡ word ∷ words_of behind
words_go_on text rest word behind skipped count is rest_is count_is some word_is behind_is =
    let here : rest ≡ drop (prefix_len is_blank text) text = rest_is ∙ ap (λ (n : ℕ). drop n text) is in
    sym (blanks_passed is_blank text) ∙ ap words_of (sym here) ∙ one_more_word is_blank rest (λ none. some (count_is ∙ none))
    ∙ (λ i. (ap (λ (n : ℕ). take n rest) (sym count_is) ∙ sym word_is) i ∷ words_of ((ap (λ (n : ℕ). drop n rest) (sym count_is) ∙ sym behind_is) i))

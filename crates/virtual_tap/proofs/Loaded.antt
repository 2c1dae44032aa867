-- The instruction registers of a group, with their codes.
use Rattle.std.proofs.Common.{◌≡◌, ◌<◌, ◌+◌, ℕ, suc, Bool, List, [], ◌∷◌, ◌++◌, length, map, drop, get_or, refl, sym, ap, subst, ◌∙◌, append_assoc}
use Rattle.std.proofs.lemmas.List.{length-map, drop_more}
use Rattle.std.specs.List.{slice_get, cons_option}
use Rattle.std.specs.declared.option.Option.TheVariants.{Some}
use Rattle.scan_bits.specs.Registers.{shifted_out}
use Rattle.scan_bits.proofs.WordLaws.{length-bits_of}
use Rattle.part_model.specs.Parts.{DeviceType}
use Rattle.part_model.specs.Plans.{IsPart}
use Rattle.scan_share.specs.PrivateChains.{entries_at}
use Rattle.scan_share.specs.Scans.{codes_of}
use Rattle.scan_share.specs.Codes.{AreCodes}
use Rattle.virtual_tap.specs.Views.{EachLength}
use Rattle.virtual_tap.specs.Instructions.{InstructionState, GroupInstructions, SpellCodes, ArePlans, at_power_up, captured, cleared, shifted_through, parts_of}

-- ---- codes

pub coded_length : (parts : List DeviceType) (words : List ℕ) (codes : List (List Bool)) → SpellCodes parts words codes → length words ≡ length parts
coded_length [] [] [] coded = refl
coded_length (part ∷ parts) (word ∷ words) (code ∷ codes) coded = ap suc (coded_length parts words codes coded.2)
coded_length [] [] (code ∷ codes) coded = absurd coded
coded_length [] (word ∷ words) codes coded = absurd coded
coded_length (part ∷ parts) [] codes coded = absurd coded
coded_length (part ∷ parts) (word ∷ words) [] coded = absurd coded

pub codes_are : (parts : List DeviceType) (words : List ℕ) (codes : List (List Bool)) → SpellCodes parts words codes → codes_of parts words ≡ codes
codes_are [] [] [] coded = refl
codes_are (part ∷ parts) (word ∷ words) (code ∷ codes) coded = λ i. coded.0 i ∷ codes_are parts words codes coded.2 i
codes_are [] [] (code ∷ codes) coded = absurd coded
codes_are [] (word ∷ words) codes coded = absurd coded
codes_are (part ∷ parts) [] codes coded = absurd coded
codes_are (part ∷ parts) (word ∷ words) [] coded = absurd coded

-- each word is below 2 to the instruction length
pub words_fit : (parts : List DeviceType) (words : List ℕ) (codes : List (List Bool)) → SpellCodes parts words codes → AreCodes parts words
words_fit [] [] [] coded = tt
words_fit (part ∷ parts) (word ∷ words) (code ∷ codes) coded = (coded.1, words_fit parts words codes coded.2)
words_fit [] [] (code ∷ codes) coded = absurd coded
words_fit [] (word ∷ words) codes coded = absurd coded
words_fit (part ∷ parts) [] codes coded = absurd coded
words_fit (part ∷ parts) (word ∷ words) [] coded = absurd coded

pub each_coded : (parts : List DeviceType) (words : List ℕ) (codes : List (List Bool)) → SpellCodes parts words codes → EachLength parts codes
each_coded [] [] [] coded = tt
each_coded (part ∷ parts) (word ∷ words) (code ∷ codes) coded = (ap length (sym coded.0) ∙ length-bits_of part.ir_length word, each_coded parts words codes coded.2)
each_coded [] [] (code ∷ codes) coded = absurd coded
each_coded [] (word ∷ words) codes coded = absurd coded
each_coded (part ∷ parts) [] codes coded = absurd coded
each_coded (part ∷ parts) (word ∷ words) [] coded = absurd coded

pub as_many : (rs : List InstructionState) (words : List ℕ) (codes : List (List Bool)) → SpellCodes (parts_of rs) words codes → length words ≡ length rs
as_many rs words codes coded = coded_length (parts_of rs) words codes coded ∙ length-map rs (λ (register : InstructionState). register.part)

pub coded_anew : (parts : List DeviceType) (words : List ℕ) (codes : List (List Bool)) → SpellCodes parts words codes → SpellCodes parts words (codes_of parts words)
coded_anew parts words codes coded = subst (SpellCodes parts words) (sym (codes_are parts words codes coded)) coded

-- ---- what the acts keep

pub parts_captured : (rs : List InstructionState) → parts_of (map captured rs) ≡ parts_of rs
parts_captured [] = refl
parts_captured (r ∷ rs) = ap (λ (rest : List DeviceType). r.part ∷ rest) (parts_captured rs)

pub parts_cleared : (rs : List InstructionState) → parts_of (map cleared rs) ≡ parts_of rs
parts_cleared [] = refl
parts_cleared (r ∷ rs) = ap (λ (rest : List DeviceType). r.part ∷ rest) (parts_cleared rs)

pub parts_shifted : (bits : List Bool) (rs : List InstructionState) → parts_of (shifted_through bits rs) ≡ parts_of rs
parts_shifted bits [] = refl
parts_shifted bits (r ∷ rs) = ap (λ (rest : List DeviceType). r.part ∷ rest) (parts_shifted (shifted_out r.stage bits) rs)

pub length-shifted_through : (bits : List Bool) (rs : List InstructionState) → length (shifted_through bits rs) ≡ length rs
length-shifted_through bits [] = refl
length-shifted_through bits (r ∷ rs) = ap suc (length-shifted_through (shifted_out r.stage bits) rs)

-- other registers of the same device types have the same codes
pub codes_stay : (rs now : List InstructionState) (words : List ℕ) → parts_of now ≡ parts_of rs → SpellCodes (parts_of rs) words (codes_of (parts_of rs) words) → SpellCodes (parts_of now) words (codes_of (parts_of now) words)
codes_stay rs now words same coded = subst (λ (parts : List DeviceType). SpellCodes parts words (codes_of parts words)) (sym same) coded

abbrev pub shown : List InstructionState → List ℕ → GroupInstructions
shown rs words = record { registers = rs; codes = codes_of (parts_of rs) words }

pub shown_after : (rs now after : List InstructionState) (words : List ℕ) → now ≡ after → parts_of after ≡ parts_of rs → shown now words ≡ record { registers = after; codes = codes_of (parts_of rs) words }
shown_after rs now after words is same = λ i. record { registers = is i; codes = codes_of ((ap parts_of is ∙ same) i) words }

pub shown_with : (rs : List InstructionState) (words : List ℕ) (codes : List (List Bool)) → SpellCodes (parts_of rs) words codes → shown rs words ≡ record { registers = rs; codes = codes }
shown_with rs words codes coded = λ i. record { registers = rs; codes = codes_are (parts_of rs) words codes coded i }

-- ---- at power-up

parts_more : (rs : List InstructionState) (r : InstructionState) → ArePlans (parts_of rs) → IsPart r.part → ArePlans (parts_of (rs ++ r ∷ []))
parts_more [] r plans plan = (plan, tt)
parts_more (x ∷ rs) r plans plan = (plans.0, parts_more rs r plans.1 plan)

pub next_plans : (rs now : List InstructionState) (r : InstructionState) → now ≡ rs ++ r ∷ [] → ArePlans (parts_of rs) → IsPart r.part → ArePlans (parts_of now)
next_plans rs now r is plans plan = subst (λ (all : List InstructionState). ArePlans (parts_of all)) (sym is) (parts_more rs r plans plan)

pub next_powered : (parts : List DeviceType) (group : List ℕ) (i d : ℕ) (rs now whole : List InstructionState) (part : DeviceType) (r : InstructionState) → i < length group → slice_get parts (get_or group i d) ≡ Some part
    → r ≡ at_power_up part → now ≡ rs ++ r ∷ [] → rs ++ map at_power_up (entries_at parts (drop i group)) ≡ whole → now ++ map at_power_up (entries_at parts (drop (i + 1) group)) ≡ whole
next_powered parts group i d rs now whole part r lt found r_is is before =
    let rest = entries_at parts (drop (i + 1) group) in
    let here : entries_at parts (drop i group) ≡ part ∷ rest = ap (entries_at parts) (drop_more group i d lt) ∙ ap (λ o. cons_option o rest) found in
    ap (λ (all : List InstructionState). all ++ map at_power_up rest) is
    ∙ append_assoc rs (r ∷ []) (map at_power_up rest)
    ∙ ap (λ (x : InstructionState). rs ++ x ∷ map at_power_up rest) r_is
    ∙ ap (λ (ps : List DeviceType). rs ++ map at_power_up ps) (sym here)
    ∙ before

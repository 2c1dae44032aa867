-- The bits of a write and the group's bits of a read-out are those of its devices.
use Rattle.std.proofs.Common.{◌≡◌, ◌≢◌, ◌≤◌, ◌<◌, ◌+◌, ◌-◌, ℕ, zero, suc, Bool, true, false, List, [], ◌∷◌, ◌++◌, length, map, take, drop, replicate, refl, ap, sym, subst, ◌∙◌, arith, length-append, take-append-drop, length-drop, inl, inr, nat_eq}
use Rattle.std.specs.Prelude.{slice_get}
use Rattle.std.specs.List.{All, cons_option}
use Rattle.std.proofs.lemmas.List.{length-replicate, length-take-le}
use Rattle.std.proofs.lemmas.Bool.{eq-eqb, ne_eqb}
use Rattle.std.proofs.lemmas.Bool.Decides.{eqb_tells}
use Rattle.scan_bits.specs.Registers.{joined}
use Rattle.part_model.specs.Parts.{DeviceType, width}
use Rattle.grant_table.specs.Apart.{RisesFrom}
use Rattle.scan_share.specs.Scans.{parted, codes_from, codes_during, code_during, widths_during, group_bits, scan_length}
use Rattle.scan_share.specs.Written.{stages_from, written, group_widths}
use Rattle.scan_share.specs.Rows.{ScanView, IsScanOf, own_codes, own_stages, own_count, woven, chosen}
use Rattle.scan_share.proofs.Lengths.{sum, sum_cons, entries_from, Above, Below, rises_above, raised_below, others_are_ones, passed_codes, one_bit, shifted_entries, from_front}
use Rattle.scan_share.proofs.Places.{own_size, width_count}

-- the ones for registers of these widths
abbrev pub ones_of : List ℕ → List (List Bool)
ones_of widths = map (λ width. replicate width true) widths

-- ---- what is written

-- these bits are woven into zeros
pub record Weaves (places wove bits : List Bool) : Type 0 where
  pub count : own_count places ≡ length bits
  pub is : wove ≡ woven places bits

woven_append : (places more bits rest : List Bool) → own_count places ≡ length bits → woven (places ++ more) (bits ++ rest) ≡ woven places bits ++ woven more rest
woven_append [] more [] rest size = refl
woven_append [] more (bit ∷ bits) rest size = absurd (omega (arith, size))
woven_append (false ∷ places) more bits rest size = ap (λ q. false ∷ q) (woven_append places more bits rest size)
woven_append (true ∷ places) more [] rest size = absurd (omega (arith, size))
woven_append (true ∷ places) more (bit ∷ bits) rest size = ap (λ q. bit ∷ q) (woven_append places more bits rest (omega (arith, size)))

places_append : (places more : List Bool) → own_count (places ++ more) ≡ own_count places + own_count more
places_append [] more = omega arith
places_append (false ∷ places) more = places_append places more
places_append (true ∷ places) more = omega (arith, places_append places more)

places_ones : (n : ℕ) → own_count (replicate n true) ≡ n
places_ones zero = refl
places_ones (suc n) = ap suc (places_ones n)

woven_ones : (bits : List Bool) (n : ℕ) → length bits ≡ n → woven (replicate n true) bits ≡ bits
woven_ones [] zero is = refl
woven_ones [] (suc n) is = absurd (omega (arith, is))
woven_ones (bit ∷ bits) zero is = absurd (omega (arith, is))
woven_ones (bit ∷ bits) (suc n) is = ap (λ q. bit ∷ q) (woven_ones bits n (omega (arith, is)))

append-none : (xs : List Bool) → xs ++ [] ≡ xs
append-none [] = refl
append-none (x ∷ xs) = ap (λ q. x ∷ q) (append-none xs)

weaves_other : (places wove bits : List Bool) → Weaves places wove bits → Weaves (places ++ false ∷ []) (wove ++ false ∷ []) bits
weaves_other places wove bits was = record {
  count = omega (arith, places_append places (false ∷ []), was.count);
  is = ap (λ q. q ++ false ∷ []) was.is ∙ sym (woven_append places (false ∷ []) bits [] was.count) ∙ ap (woven (places ++ false ∷ [])) (append-none bits);
}

weaves_own : (n : ℕ) (places wove bits piece : List Bool) → length piece ≡ n → Weaves places wove bits → Weaves (places ++ replicate n true) (wove ++ piece) (bits ++ piece)
weaves_own n places wove bits piece size was = record {
  count = omega (arith, places_append places (replicate n true), places_ones n, was.count, length-append bits piece, size);
  is = (λ i. was.is i ++ sym (woven_ones piece n size) i) ∙ sym (woven_append places (replicate n true) bits piece was.count);
}

passed_stages : {X : Type 0} (first : ℕ) (group : List ℕ) (piece : List Bool) (pieces : List (List Bool)) (from : ℕ) (xs : List X) → first < from
    → stages_from (first ∷ group) (piece ∷ pieces) from xs ≡ stages_from group pieces from xs
passed_stages first group piece pieces from [] lt = refl
passed_stages first group piece pieces from (x ∷ xs) lt =
    let n : nat_eq first from ≡ false = ne_eqb first from (λ e. omega (arith, e, lt)) in
    rw n (ap (λ rest. code_during group pieces from (false ∷ []) ∷ rest) (passed_stages first group piece pieces (suc from) xs (omega (arith, lt))))

-- the device at the front is another one
weaves_by_other : {X : Type 0} (place : ℕ) (x : X) (xs : List X) (group : List ℕ) (pieces ones : List (List Bool)) (bits : List Bool) → Above (suc place) group
    → Weaves (joined (stages_from group ones (suc place) xs)) (joined (stages_from group pieces (suc place) xs)) bits
    → Weaves (joined (stages_from group ones place (x ∷ xs))) (joined (stages_from group pieces place (x ∷ xs))) bits
weaves_by_other place x xs group pieces ones bits above was =
    rw (others_are_ones group pieces place (false ∷ []) above, others_are_ones group ones place (false ∷ []) above)
    (weaves_other (joined (stages_from group ones (suc place) xs)) (joined (stages_from group pieces (suc place) xs)) bits was)

weaves_by_own : {X : Type 0} (place first n : ℕ) (x : X) (xs : List X) (group : List ℕ) (piece : List Bool) (pieces ones : List (List Bool)) (bits : List Bool) → first ≡ place → length piece ≡ n
    → Weaves (joined (stages_from group ones (suc place) xs)) (joined (stages_from group pieces (suc place) xs)) bits
    → Weaves (joined (stages_from (first ∷ group) (replicate n true ∷ ones) place (x ∷ xs))) (joined (stages_from (first ∷ group) (piece ∷ pieces) place (x ∷ xs))) (bits ++ piece)
weaves_by_own place first n x xs group piece pieces ones bits is size was =
    let here : nat_eq first place ≡ true = eq-eqb first place is in
    rw (here, passed_stages first group piece pieces (suc place) xs (omega (arith, is)), passed_stages first group (replicate n true) ones (suc place) xs (omega (arith, is)))
    (weaves_own n (joined (stages_from group ones (suc place) xs)) (joined (stages_from group pieces (suc place) xs)) bits piece size was)

weaves_from : {X : Type 0} (xs : List X) (place : ℕ) (group ws : List ℕ) (bits : List Bool) → RisesFrom place group → Below (place + length xs) group → length ws ≡ length group → length bits ≡ sum ws
    → Weaves (joined (stages_from group (ones_of ws) place xs)) (joined (stages_from group (parted ws bits) place xs)) bits
weaves_from [] place [] [] bits rises below size long = record { count = sym long; is = refl }
weaves_from [] place [] (w ∷ ws) bits rises below size long = absurd (omega (arith, size))
weaves_from [] place (first ∷ group) ws bits rises below size long = let a : place ≤ first = rises.0 in let b : first < place + 0 = below.0 in absurd (omega (arith, a, b))
weaves_from (x ∷ xs) place [] [] bits rises below size long =
    weaves_by_other place x xs [] [] [] bits _ (weaves_from xs (suc place) [] [] bits _ _ size long)
weaves_from (x ∷ xs) place [] (w ∷ ws) bits rises below size long = absurd (omega (arith, size))
weaves_from (x ∷ xs) place (first ∷ group) [] bits rises below size long = absurd (omega (arith, size))
weaves_from (x ∷ xs) place (first ∷ group) (w ∷ ws) bits rises below size long =
    elim (eqb_tells first place) [
      | inl same ↦
          let is : first ≡ place = same.1 in
          let later : RisesFrom (suc place) group = subst (λ n. RisesFrom (suc n) group) is rises.1 in
          let total : length bits ≡ w + sum ws = long ∙ sum_cons w ws in
          let front : length (take (sum ws) bits) ≡ sum ws = length-take-le (sum ws) bits (omega (arith, total)) in
          subst (λ q. Weaves (joined (stages_from (first ∷ group) (ones_of (w ∷ ws)) place (x ∷ xs))) (joined (stages_from (first ∷ group) (parted (w ∷ ws) bits) place (x ∷ xs))) q)
          (take-append-drop (sum ws) bits)
          (weaves_by_own place first w x xs group (drop (sum ws) bits) (parted ws (take (sum ws) bits)) (ones_of ws) (take (sum ws) bits) is
          (omega (arith, length-drop (sum ws) bits, total))
          (weaves_from xs (suc place) group ws (take (sum ws) bits) later (raised_below place (length xs) group below.1) (omega (arith, size)) front))
      | inr apart ↦
          let a : place ≤ first = rises.0 in
          let n : first ≢ place = apart.1 in
          let later : RisesFrom (suc place) (first ∷ group) = (omega (arith, a, n), rises.1) in
          weaves_by_other place x xs (first ∷ group) (parted (w ∷ ws) bits) (ones_of (w ∷ ws)) bits (rises_above (suc place) (first ∷ group) later)
          (weaves_from xs (suc place) (first ∷ group) (w ∷ ws) bits later (raised_below place (length xs) (first ∷ group) below) size long)
    ]

-- ---- what is read out

-- these are the group's among the bits
pub record Chooses (places own bits : List Bool) : Type 0 where
  pub count : length places ≡ length bits
  pub is : own ≡ chosen places bits

chosen_append : (places more bits rest : List Bool) → length places ≡ length bits → chosen (places ++ more) (bits ++ rest) ≡ chosen places bits ++ chosen more rest
chosen_append [] more [] rest size = refl
chosen_append [] more (bit ∷ bits) rest size = absurd (omega (arith, size))
chosen_append (place ∷ places) more [] rest size = absurd (omega (arith, size))
chosen_append (false ∷ places) more (bit ∷ bits) rest size = chosen_append places more bits rest (omega (arith, size))
chosen_append (true ∷ places) more (bit ∷ bits) rest size = ap (λ q. bit ∷ q) (chosen_append places more bits rest (omega (arith, size)))

chosen_one : (piece : List Bool) → length piece ≡ 1 → chosen (false ∷ []) piece ≡ []
chosen_one [] size = refl
chosen_one (bit ∷ piece) size = refl

chosen_all : (bits : List Bool) (n : ℕ) → length bits ≡ n → chosen (replicate n true) bits ≡ bits
chosen_all [] zero is = refl
chosen_all [] (suc n) is = absurd (omega (arith, is))
chosen_all (bit ∷ bits) zero is = absurd (omega (arith, is))
chosen_all (bit ∷ bits) (suc n) is = ap (λ q. bit ∷ q) (chosen_all bits n (omega (arith, is)))

chooses_other : (places own bits piece : List Bool) → length piece ≡ 1 → Chooses places own bits → Chooses (places ++ false ∷ []) own (bits ++ piece)
chooses_other places own bits piece size was = record {
  count = omega (arith, length-append places (false ∷ []), length-append bits piece, size, was.count);
  is = was.is ∙ sym (append-none (chosen places bits)) ∙ ap (λ q. chosen places bits ++ q) (sym (chosen_one piece size)) ∙ sym (chosen_append places (false ∷ []) bits piece was.count);
}

chooses_own : (n : ℕ) (places own bits piece : List Bool) → length piece ≡ n → Chooses places own bits → Chooses (places ++ replicate n true) (own ++ piece) (bits ++ piece)
chooses_own n places own bits piece size was = record {
  count = omega (arith, length-append places (replicate n true), length-replicate n true, length-append bits piece, size, was.count);
  is = (λ i. was.is i ++ sym (chosen_all piece n size) i) ∙ sym (chosen_append places (replicate n true) bits piece was.count);
}

-- the group's bits among those of the devices from a place on
abbrev OwnFrom : ℕ → List DeviceType → List ℕ → List (List Bool) → List Bool → Type 0
OwnFrom place parts group codes out =
    Chooses (joined (stages_from group (ones_of (widths_during (entries_from place parts group) codes)) place parts))
    (joined (entries_from place (parted (widths_during parts (codes_from group codes place parts)) out) group)) out

abbrev widths_from : ℕ → List DeviceType → List ℕ → List (List Bool) → List ℕ
widths_from place parts group codes = widths_during parts (codes_from group codes place parts)

own_by_other : (place : ℕ) (part : DeviceType) (parts : List DeviceType) (group : List ℕ) (codes : List (List Bool)) (out : List Bool) → Above (suc place) group
    → length out ≡ sum (widths_from place (part ∷ parts) group codes)
    → ((bits : List Bool) → length bits ≡ sum (widths_from (suc place) parts group codes) → OwnFrom (suc place) parts group codes bits)
    → OwnFrom place (part ∷ parts) group codes out
own_by_other place part parts group codes out above long rest =
    let ws = widths_from (suc place) parts group codes in
    let own = widths_during (entries_from (suc place) parts group) codes in
    let total : length out ≡ 1 + sum ws = long
    ∙ ap (λ code. sum (width part code ∷ ws)) (others_are_ones group codes place (replicate part.ir_length true) above)
    ∙ sum_cons (width part (replicate part.ir_length true)) ws ∙ ap (λ n. n + sum ws) (one_bit part part.ir_length) in
    let front : length (take (sum ws) out) ≡ sum ws = length-take-le (sum ws) out (omega (arith, total)) in
    let back : length (drop (sum ws) out) ≡ 1 = omega (arith, length-drop (sum ws) out, total) in
    let entries : entries_from place (part ∷ parts) group ≡ entries_from (suc place) parts group = shifted_entries place part parts group above in
    let pieces : entries_from place (drop (sum ws) out ∷ parted ws (take (sum ws) out)) group ≡ entries_from (suc place) (parted ws (take (sum ws) out)) group
    = shifted_entries place (drop (sum ws) out) (parted ws (take (sum ws) out)) group above in
    let stage : code_during group (ones_of (widths_during (entries_from place (part ∷ parts) group) codes)) place (false ∷ []) ≡ false ∷ []
    = others_are_ones group (ones_of (widths_during (entries_from place (part ∷ parts) group) codes)) place (false ∷ []) above in
    let places : joined (stages_from group (ones_of (widths_during (entries_from place (part ∷ parts) group) codes)) place (part ∷ parts)) ≡ joined (stages_from group (ones_of own) (suc place) parts) ++ false ∷ []
    = (λ i. joined (stages_from group (ones_of (widths_during (entries i) codes)) (suc place) parts) ++ stage i) in
    let whole : Chooses (joined (stages_from group (ones_of own) (suc place) parts) ++ false ∷ []) (joined (entries_from (suc place) (parted ws (take (sum ws) out)) group)) (take (sum ws) out ++ drop (sum ws) out)
    = chooses_other (joined (stages_from group (ones_of own) (suc place) parts)) (joined (entries_from (suc place) (parted ws (take (sum ws) out)) group)) (take (sum ws) out) (drop (sum ws) out) back
    (rest (take (sum ws) out) front) in
    subst (λ q. Chooses q (joined (entries_from place (drop (sum ws) out ∷ parted ws (take (sum ws) out)) group)) out) (sym places)
    (subst (λ q. Chooses (joined (stages_from group (ones_of own) (suc place) parts) ++ false ∷ []) (joined q) out) (sym pieces)
    (subst (λ q. Chooses (joined (stages_from group (ones_of own) (suc place) parts) ++ false ∷ []) (joined (entries_from (suc place) (parted ws (take (sum ws) out)) group)) q) (take-append-drop (sum ws) out) whole))

own_entry : {X : Type 0} (place first : ℕ) (x : X) (xs : List X) (group : List ℕ) → first ≡ place → Above (suc place) group → entries_from place (x ∷ xs) (first ∷ group) ≡ x ∷ entries_from (suc place) xs group
own_entry place first x xs group is above =
    let none : first - place ≡ 0 = omega (arith, is) in
    ap (λ k. cons_option (slice_get (x ∷ xs) k) (entries_from place (x ∷ xs) group)) none ∙ ap (λ q. x ∷ q) (shifted_entries place x xs group above)

own_stage : (place first : ℕ) (part : DeviceType) (parts : List DeviceType) (group : List ℕ) (piece : List Bool) (pieces : List (List Bool)) → first ≡ place
    → stages_from (first ∷ group) (piece ∷ pieces) place (part ∷ parts) ≡ piece ∷ stages_from group pieces (suc place) parts
own_stage place first part parts group piece pieces is =
    let here : nat_eq first place ≡ true = eq-eqb first place is in
    rw here (ap (λ q. piece ∷ q) (passed_stages first group piece pieces (suc place) parts (omega (arith, is))))

own_code : (place first : ℕ) (part : DeviceType) (parts : List DeviceType) (group : List ℕ) (code : List Bool) (codes : List (List Bool)) → first ≡ place
    → codes_from (first ∷ group) (code ∷ codes) place (part ∷ parts) ≡ code ∷ codes_from group codes (suc place) parts
own_code place first part parts group code codes is =
    let here : nat_eq first place ≡ true = eq-eqb first place is in
    rw here (ap (λ q. code ∷ q) (passed_codes first code group codes (suc place) parts (omega (arith, is))))

own_by_own : (place first : ℕ) (part : DeviceType) (parts : List DeviceType) (group : List ℕ) (code : List Bool) (codes : List (List Bool)) (out : List Bool) → first ≡ place → Above (suc place) group
    → length out ≡ sum (widths_from place (part ∷ parts) (first ∷ group) (code ∷ codes))
    → ((bits : List Bool) → length bits ≡ sum (widths_from (suc place) parts group codes) → OwnFrom (suc place) parts group codes bits)
    → OwnFrom place (part ∷ parts) (first ∷ group) (code ∷ codes) out
own_by_own place first part parts group code codes out is above long rest =
    let ws = widths_from (suc place) parts group codes in
    let own = widths_during (entries_from (suc place) parts group) codes in
    let w = width part code in
    let widths : widths_from place (part ∷ parts) (first ∷ group) (code ∷ codes) ≡ w ∷ ws = ap (widths_during (part ∷ parts)) (own_code place first part parts group code codes is) in
    let total : length out ≡ w + sum ws = long ∙ ap sum widths ∙ sum_cons w ws in
    let front : length (take (sum ws) out) ≡ sum ws = length-take-le (sum ws) out (omega (arith, total)) in
    let back : length (drop (sum ws) out) ≡ w = omega (arith, length-drop (sum ws) out, total) in
    let entries : entries_from place (part ∷ parts) (first ∷ group) ≡ part ∷ entries_from (suc place) parts group = own_entry place first part parts group is above in
    let stages : stages_from (first ∷ group) (ones_of (widths_during (entries_from place (part ∷ parts) (first ∷ group)) (code ∷ codes))) place (part ∷ parts) ≡ replicate w true ∷ stages_from group (ones_of own) (suc place) parts
    = ap (λ q. stages_from (first ∷ group) (ones_of (widths_during q (code ∷ codes))) place (part ∷ parts)) entries
    ∙ own_stage place first part parts group (replicate w true) (ones_of own) is in
    let pieces : entries_from place (parted (widths_from place (part ∷ parts) (first ∷ group) (code ∷ codes)) out) (first ∷ group) ≡ drop (sum ws) out ∷ entries_from (suc place) (parted ws (take (sum ws) out)) group
    = ap (λ q. entries_from place (parted q out) (first ∷ group)) widths
    ∙ own_entry place first (drop (sum ws) out) (parted ws (take (sum ws) out)) group is above in
    let whole : Chooses (joined (replicate w true ∷ stages_from group (ones_of own) (suc place) parts)) (joined (drop (sum ws) out ∷ entries_from (suc place) (parted ws (take (sum ws) out)) group)) (take (sum ws) out ++ drop (sum ws) out)
    = chooses_own w (joined (stages_from group (ones_of own) (suc place) parts)) (joined (entries_from (suc place) (parted ws (take (sum ws) out)) group)) (take (sum ws) out) (drop (sum ws) out) back
    (rest (take (sum ws) out) front) in
    subst (λ q. Chooses (joined q) (joined (entries_from place (parted (widths_from place (part ∷ parts) (first ∷ group) (code ∷ codes)) out) (first ∷ group))) out) (sym stages)
    (subst (λ q. Chooses (joined (replicate w true ∷ stages_from group (ones_of own) (suc place) parts)) (joined q) out) (sym pieces)
    (subst (λ q. Chooses (joined (replicate w true ∷ stages_from group (ones_of own) (suc place) parts)) (joined (drop (sum ws) out ∷ entries_from (suc place) (parted ws (take (sum ws) out)) group)) q) (take-append-drop (sum ws) out) whole))

own_from : (parts : List DeviceType) (place : ℕ) (group : List ℕ) (codes : List (List Bool)) (out : List Bool) → RisesFrom place group → Below (place + length parts) group → length codes ≡ length group
    → length out ≡ sum (widths_from place parts group codes) → OwnFrom place parts group codes out
own_from [] place [] codes out rises below size long = record { count = sym long; is = refl }
own_from [] place (first ∷ group) codes out rises below size long = let a : place ≤ first = rises.0 in let b : first < place + 0 = below.0 in absurd (omega (arith, a, b))
own_from (part ∷ parts) place [] codes out rises below size long =
    own_by_other place part parts [] codes out _ long (λ bits is. own_from parts (suc place) [] codes bits _ _ size is)
own_from (part ∷ parts) place (first ∷ group) [] out rises below size long = absurd (omega (arith, size))
own_from (part ∷ parts) place (first ∷ group) (code ∷ codes) out rises below size long =
    elim (eqb_tells first place) [
      | inl same ↦
          let is : first ≡ place = same.1 in
          let later : RisesFrom (suc place) group = subst (λ n. RisesFrom (suc n) group) is rises.1 in
          own_by_own place first part parts group code codes out is (rises_above (suc place) group later) long
          (λ bits e. own_from parts (suc place) group codes bits later (raised_below place (length parts) group below.1) (omega (arith, size)) e)
      | inr apart ↦
          let a : place ≤ first = rises.0 in
          let n : first ≢ place = apart.1 in
          let later : RisesFrom (suc place) (first ∷ group) = (omega (arith, a, n), rises.1) in
          own_by_other place part parts (first ∷ group) (code ∷ codes) out (rises_above (suc place) (first ∷ group) later) long
          (λ bits e. own_from parts (suc place) (first ∷ group) (code ∷ codes) bits later (raised_below place (length parts) (first ∷ group) below) size e)
    ]

-- ---- of a scan

below_from : (most : ℕ) (group : List ℕ) → All (λ place. place < most) group → Below most group
below_from most [] within = _
below_from most (place ∷ group) within = (within 0 0 (omega arith), below_from most group (λ k d lt. within (suc k) d (omega (arith, lt))))

scan_below : (scan : ScanView) → IsScanOf scan.layout scan.group scan.codes → Below (0 + length scan.layout.parts) scan.group
scan_below scan is = subst (λ high. Below high scan.group) (omega arith) (below_from (length scan.layout.parts) scan.group is.within)

-- the bits of a write
pub woven_is_written : (scan : ScanView) (bits : List Bool) → IsScanOf scan.layout scan.group scan.codes → length bits ≡ sum (group_widths scan.layout scan.group (own_codes scan))
    → woven (joined (own_stages scan)) bits ≡ joined (written scan.layout scan.group (own_codes scan) bits)
woven_is_written scan bits is long =
    sym (weaves_from scan.layout.parts 0 scan.group (group_widths scan.layout scan.group (own_codes scan)) bits is.rising (scan_below scan is) (width_count scan is) long).is

-- a scan is as long as its stages
pub stages_long : (scan : ScanView) (out : List Bool) → IsScanOf scan.layout scan.group scan.codes → length out ≡ scan_length scan.layout scan.group (own_codes scan)
    → Chooses (joined (own_stages scan)) (group_bits scan.group (widths_during scan.layout.parts (codes_during scan.layout scan.group (own_codes scan))) out) out
stages_long scan out is long =
    let widths = widths_during scan.layout.parts (codes_during scan.layout scan.group (own_codes scan)) in
    let from : OwnFrom 0 scan.layout.parts scan.group (own_codes scan) out = own_from scan.layout.parts 0 scan.group (own_codes scan) out is.rising (scan_below scan is) (own_size scan is) long in
    subst (λ q. Chooses (joined (stages_from scan.group (ones_of (widths_during q (own_codes scan))) 0 scan.layout.parts)) (group_bits scan.group widths out) out) (from_front scan.layout.parts scan.group)
    (subst (λ q. Chooses (joined (stages_from scan.group (ones_of (widths_during (entries_from 0 scan.layout.parts scan.group) (own_codes scan))) 0 scan.layout.parts)) (joined q) out) (from_front (parted widths out) scan.group) from)

-- the group's bits of a read-out
pub chosen_is_own : (scan : ScanView) (out : List Bool) → IsScanOf scan.layout scan.group scan.codes → length out ≡ scan_length scan.layout scan.group (own_codes scan)
    → chosen (joined (own_stages scan)) out ≡ group_bits scan.group (widths_during scan.layout.parts (codes_during scan.layout scan.group (own_codes scan))) out
chosen_is_own scan out is long = sym (stages_long scan out is long).is

pub scan_length_is : (scan : ScanView) → IsScanOf scan.layout scan.group scan.codes → length (joined (own_stages scan)) ≡ scan_length scan.layout scan.group (own_codes scan)
scan_length_is scan is =
    let count = scan_length scan.layout scan.group (own_codes scan) in
    let zeros : length (replicate count false) ≡ count = length-replicate count false in
    (stages_long scan (replicate count false) is zeros).count ∙ zeros

pub woven_long : (places : List Bool) (m : ℕ) → own_count places ≤ m → length (woven places (replicate m false)) ≡ length places
woven_long [] m le = refl
woven_long (false ∷ places) m le = ap suc (woven_long places m le)
woven_long (true ∷ places) zero le = absurd (omega (arith, le))
woven_long (true ∷ places) (suc m) le = ap suc (woven_long places m (omega (arith, le)))

pub own_count_is : (scan : ScanView) → IsScanOf scan.layout scan.group scan.codes → own_count (joined (own_stages scan)) ≡ sum (group_widths scan.layout scan.group (own_codes scan))
own_count_is scan is =
    let own = sum (group_widths scan.layout scan.group (own_codes scan)) in
    (weaves_from scan.layout.parts 0 scan.group (group_widths scan.layout scan.group (own_codes scan)) (replicate own false) is.rising (scan_below scan is) (width_count scan is) (length-replicate own false)).count
    ∙ length-replicate own false

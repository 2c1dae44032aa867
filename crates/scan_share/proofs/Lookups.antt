-- Entries of lists by their places.
use Rattle.std.proofs.Common.{◌≡◌, ◌≤◌, ◌<◌, ◌+◌, ℕ, zero, suc, Bool, true, false, List, [], ◌∷◌, length, replicate, refl, ap, sym, ◌∙◌, arith, Some, None, inl, inr}
use Rattle.std.specs.declared.option.Option.{Option}
use Rattle.std.specs.Option.{option_map}
use Rattle.std.specs.Prelude.{◌==◌, slice_get, slice_set}
use Rattle.std.specs.List.{slice_index_or}
use Rattle.std.proofs.lemmas.Bool.{eqb-true, eq-eqb, ne_eqb}
use Rattle.std.proofs.lemmas.Bool.Decides.{eqb_tells}
use Rattle.std.proofs.lemmas.Option.{same_Some, none-some}
use Rattle.grant_table.specs.Layouts.{first_place}
use Rattle.chain_model.specs.Chains.{ChainState, DeviceState, Content}
use Rattle.chain_model.specs.Cycles.{capture_device, captured_from}
use Rattle.part_model.specs.Parts.{DeviceType}
use Rattle.scan_share.specs.PrivateChains.{entries_at}
use Rattle.scan_share.specs.Scans.{with_codes, with_contents, code_during, codes_from}
use Rattle.scan_share.specs.Codes.{put_at}
use Rattle.scan_share.proofs.Facts.{Apart}

-- equal numbers, and the next ones
pub suc_same : (i k : ℕ) → (suc i == suc k) ≡ (i == k)
suc_same i k = elim (eqb_tells i k) [ inl h ↦ eq-eqb (suc i) (suc k) (ap suc (h.1)) ∙ sym (h.0) | inr h ↦ ne_eqb (suc i) (suc k) (λ e. h.1 (omega (arith, e))) ∙ sym (h.0) ]

pub some_none : {A B : Type 0} (x : A) → Some x ≡ None → B
some_none x e = absurd (none-some x (sym e))

-- lists are equal where all their entries are
pub same_entries : {X : Type 0} (xs ys : List X) → ((i : ℕ) → slice_get xs i ≡ slice_get ys i) → xs ≡ ys
same_entries [] [] same = refl
same_entries [] (y ∷ ys) same = some_none y (sym (same 0))
same_entries (x ∷ xs) [] same = some_none x (same 0)
same_entries (x ∷ xs) (y ∷ ys) same = λ i. same_Some x y (same 0) i ∷ same_entries xs ys (λ k. same (suc k)) i

-- an entry within a list is there
pub entry_within : {X : Type 0} (xs : List X) (i : ℕ) → i < length xs → (x : X) × (slice_get xs i ≡ Some x)
entry_within [] i lt = absurd (omega (arith, lt))
entry_within (x ∷ xs) zero lt = (x, refl)
entry_within (x ∷ xs) (suc i) lt = entry_within xs i (omega (arith, lt))

pub entry_past : {X : Type 0} (xs : List X) (i : ℕ) → length xs ≤ i → slice_get xs i ≡ None
entry_past [] i le = refl
entry_past (x ∷ xs) zero le = absurd (omega (arith, le))
entry_past (x ∷ xs) (suc i) le = entry_past xs i (omega (arith, le))

-- entries at places of the list
pub length-entries_at : {X : Type 0} (xs : List X) (group : List ℕ) → ((g place : ℕ) → slice_get group g ≡ Some place → place < length xs) → length (entries_at xs group) ≡ length group
length-entries_at xs [] within = refl
length-entries_at xs (place ∷ group) within =
    let found = entry_within xs place (within 0 place refl) in
    rw (found.1) (ap suc (length-entries_at xs group (λ g p. within (suc g) p)))

pub entry_at : {X : Type 0} (xs : List X) (group : List ℕ) → ((g place : ℕ) → slice_get group g ≡ Some place → place < length xs)
    → (g place : ℕ) → slice_get group g ≡ Some place → slice_get (entries_at xs group) g ≡ slice_get xs place
entry_at xs [] within g place is = some_none place (sym is)
entry_at xs (first ∷ group) within zero place is =
    let found = entry_within xs first (within 0 first refl) in
    rw (found.1) (sym (found.1) ∙ ap (slice_get xs) (same_Some first place is))
entry_at xs (first ∷ group) within (suc g) place is =
    let found = entry_within xs first (within 0 first refl) in
    rw (found.1) (entry_at xs group (λ g p. within (suc g) p) g place is)

-- the first place at which a number stands
pub placed : (group : List ℕ) (place g : ℕ) → first_place (λ p. p == place) group ≡ Some g → slice_get group g ≡ Some place
placed [] place g is = some_none g (sym is)
placed (first ∷ group) place g is = by (placed group place) (first == place) refl
  where
    mapped : (o : Option ℕ) (k : ℕ) → ((j : ℕ) → o ≡ Some j → slice_get group j ≡ Some place) → option_map suc o ≡ Some k → slice_get (first ∷ group) k ≡ Some place
    mapped None k rec e = some_none k (sym e)
    mapped (Some j) k rec e = ap (slice_get (first ∷ group)) (sym (same_Some (suc j) k e)) ∙ rec j refl

    by : ((j : ℕ) → first_place (λ p. p == place) group ≡ Some j → slice_get group j ≡ Some place) → (t : Bool) → (first == place) ≡ t → slice_get (first ∷ group) g ≡ Some place
    by rec true h =
        let zero_is : Some 0 ≡ Some g = (rw h at is) in
        ap (slice_get (first ∷ group)) (sym (same_Some 0 g zero_is)) ∙ ap Some (eqb-true first place h)
    by rec false h = mapped (first_place (λ p. p == place) group) g rec (let e = rw h at is in e)

-- in a group no place stands twice, so each is found where it stands
pub found : (group : List ℕ) → Apart group → (g place : ℕ) → slice_get group g ≡ Some place → first_place (λ p. p == place) group ≡ Some g
found [] apart g place is = some_none place (sym is)
found (first ∷ group) apart zero place is = rw (eq-eqb first place (same_Some first place is)) refl
found (first ∷ group) apart (suc g) place is = by (found group (apart.1) g place is) (first == place) refl
  where
    by : first_place (λ p. p == place) group ≡ Some g → (t : Bool) → (first == place) ≡ t → first_place (λ p. p == place) (first ∷ group) ≡ Some (suc g)
    by rest true h =
        let same : first ≡ place = eqb-true first place h in
        some_none g (sym rest ∙ ap (λ q. first_place (λ p. p == q) group) (sym same) ∙ apart.0)
    by rest false h = rw h (ap (option_map suc) rest)

-- set entries
pub set_here : {X : Type 0} (xs : List X) (i : ℕ) (x : X) → i < length xs → slice_get (slice_set xs i x) i ≡ Some x
set_here [] i x lt = absurd (omega (arith, lt))
set_here (y ∷ xs) zero x lt = refl
set_here (y ∷ xs) (suc i) x lt = set_here xs i x (omega (arith, lt))

pub set_there : {X : Type 0} (xs : List X) (i k : ℕ) (x : X) → (i == k) ≡ false → slice_get (slice_set xs i x) k ≡ slice_get xs k
set_there [] i k x other = refl
set_there (y ∷ xs) zero zero x other = absurd (let q : true ≡ false = other in cc)
set_there (y ∷ xs) zero (suc k) x other = refl
set_there (y ∷ xs) (suc i) zero x other = refl
set_there (y ∷ xs) (suc i) (suc k) x other = set_there xs i k x (sym (suc_same i k) ∙ other)

pub length-slice_set : {X : Type 0} (xs : List X) (i : ℕ) (x : X) → length (slice_set xs i x) ≡ length xs
length-slice_set [] i x = refl
length-slice_set (y ∷ xs) zero x = refl
length-slice_set (y ∷ xs) (suc i) x = ap suc (length-slice_set xs i x)

-- contents with those of a group
abbrev pub picked : {X : Type 0} → Option ℕ → List X → Option X → Option X
picked None own other = other
picked (Some g) own other = slice_get own g

pub put_at_at : {X : Type 0} (group : List ℕ) (own all : List X) → Apart group → length own ≡ length group → ((g place : ℕ) → slice_get group g ≡ Some place → place < length all)
    → (i : ℕ) → slice_get (put_at group own all) i ≡ picked (first_place (λ p. p == i) group) own (slice_get all i)
put_at_at [] own all apart size within i = refl
put_at_at (place ∷ group) [] all apart size within i = absurd (omega (arith, size))
put_at_at {X} (place ∷ group) (x ∷ own) all apart size within i =
    by (put_at_at group own (slice_set all place x) (apart.1) (omega (arith, size)) (λ g p e. omega (arith, within (suc g) p e, length-slice_set all place x)) i) (place == i) refl
  where
    stays : (o : Option ℕ) → (place == i) ≡ false → picked o own (slice_get (slice_set all place x) i) ≡ picked (option_map suc o) (x ∷ own) (slice_get all i)
    stays None h = set_there all place i x h
    stays (Some g) h = refl

    by : slice_get (put_at group own (slice_set all place x)) i ≡ picked (first_place (λ p. p == i) group) own (slice_get (slice_set all place x) i)
        → (t : Bool) → (place == i) ≡ t → slice_get (put_at group own (slice_set all place x)) i ≡ picked (first_place (λ p. p == i) (place ∷ group)) (x ∷ own) (slice_get all i)
    by rest true h =
        let same : place ≡ i = eqb-true place i h in
        let none : first_place (λ p. p == i) group ≡ None = ap (λ q. first_place (λ p. p == q) group) (sym same) ∙ apart.0 in
        let here : slice_get (slice_set all place x) i ≡ Some x = ap (slice_get (slice_set all place x)) (sym same) ∙ set_here all place x (within 0 place refl) in
        rest ∙ ap (λ o. picked o own (slice_get (slice_set all place x) i)) none ∙ here ∙ sym (rw h refl)
    by rest false h = rest ∙ stays (first_place (λ p. p == i) group) h ∙ sym (rw h refl)

contents_put : (group : List ℕ) (own all : List Content) → with_contents group own all ≡ put_at group own all
contents_put [] own all = refl
contents_put (place ∷ group) [] all = refl
contents_put (place ∷ group) (content ∷ own) all = contents_put group own (slice_set all place content)

pub content_at : (group : List ℕ) (own all : List Content) → Apart group → length own ≡ length group → ((g place : ℕ) → slice_get group g ≡ Some place → place < length all)
    → (i : ℕ) → slice_get (with_contents group own all) i ≡ picked (first_place (λ p. p == i) group) own (slice_get all i)
content_at group own all apart size within i = ap (λ l. slice_get l i) (contents_put group own all) ∙ put_at_at group own all apart size within i

-- the code of a place during a scan
abbrev pub code_or : Option ℕ → List (List Bool) → List Bool → List Bool
code_or None codes ones = ones
code_or (Some g) codes ones = slice_index_or codes g ones

pub code_during_is : (group : List ℕ) (codes : List (List Bool)) (place : ℕ) (ones : List Bool) → length codes ≡ length group
    → code_during group codes place ones ≡ code_or (first_place (λ p. p == place) group) codes ones
code_during_is [] codes place ones size = refl
code_during_is (first ∷ group) [] place ones size = absurd (omega (arith, size))
code_during_is (first ∷ group) (code ∷ codes) place ones size = by (code_during_is group codes place ones (omega (arith, size))) (first == place) refl
  where
    mapped : (o : Option ℕ) → code_or o codes ones ≡ code_or (option_map suc o) (code ∷ codes) ones
    mapped None = refl
    mapped (Some g) = refl

    by : code_during group codes place ones ≡ code_or (first_place (λ p. p == place) group) codes ones → (t : Bool) → (first == place) ≡ t → code_during (first ∷ group) (code ∷ codes) place ones ≡ code_or (first_place (λ p. p == place) (first ∷ group)) (code ∷ codes) ones
    by rest true h = rw h refl
    by rest false h = rw h (rest ∙ mapped (first_place (λ p. p == place) group))

pub codes_from_at : (group : List ℕ) (codes : List (List Bool)) (from : ℕ) (parts : List DeviceType) (i : ℕ)
    → slice_get (codes_from group codes from parts) i ≡ option_map (λ part. code_during group codes (from + i) (replicate part.ir_length true)) (slice_get parts i)
codes_from_at group codes from [] i = refl
codes_from_at group codes from (part ∷ parts) zero = ap (λ k. Some (code_during group codes k (replicate part.ir_length true))) (omega arith)
codes_from_at group codes from (part ∷ parts) (suc i) = codes_from_at group codes (suc from) parts i ∙ ap (λ k. option_map (λ part. code_during group codes k (replicate part.ir_length true)) (slice_get parts i)) (omega arith)

-- captured devices by place
pub captured_at : (chain : ChainState) (from : ℕ) (devices : List DeviceState) (i : ℕ) → slice_get (captured_from chain from devices) i ≡ option_map (capture_device chain (from + i)) (slice_get devices i)
captured_at chain from [] i = refl
captured_at chain from (device ∷ devices) zero = ap (λ k. Some (capture_device chain k device)) (omega arith)
captured_at chain from (device ∷ devices) (suc i) = captured_at chain (suc from) devices i ∙ ap (λ k. option_map (capture_device chain k) (slice_get devices i)) (omega arith)

pub length-captured : (chain : ChainState) (from : ℕ) (devices : List DeviceState) → length (captured_from chain from devices) ≡ length devices
length-captured chain from [] = refl
length-captured chain from (device ∷ devices) = ap suc (length-captured chain (suc from) devices)

-- devices with codes of their own
pub length-with_codes : (devices : List DeviceState) (codes : List (List Bool)) → length (with_codes devices codes) ≡ length devices
length-with_codes [] codes = refl
length-with_codes (device ∷ devices) [] = refl
length-with_codes (device ∷ devices) (code ∷ codes) = ap suc (length-with_codes devices codes)

pub with_codes_at : (devices : List DeviceState) (codes : List (List Bool)) (i : ℕ) (device : DeviceState) → length codes ≡ length devices → slice_get devices i ≡ Some device
    → slice_get (with_codes devices codes) i ≡ Some (record device { code = slice_index_or codes i device.code })
with_codes_at [] codes i device size is = some_none device (sym is)
with_codes_at (first ∷ devices) [] i device size is = absurd (omega (arith, size))
with_codes_at (first ∷ devices) (code ∷ codes) zero device size is = ap {A = DeviceState} (λ d. Some (record d { code = code })) (same_Some first device is)
with_codes_at (first ∷ devices) (code ∷ codes) (suc i) device size is = with_codes_at devices codes i device (omega (arith, size)) is

-- from the first place on
pub codes_at : (group : List ℕ) (codes : List (List Bool)) (parts : List DeviceType) (i : ℕ)
    → slice_get (codes_from group codes 0 parts) i ≡ option_map (λ part. code_during group codes i (replicate part.ir_length true)) (slice_get parts i)
codes_at group codes parts i = codes_from_at group codes 0 parts i ∙ ap (λ k. option_map (λ part. code_during group codes k (replicate part.ir_length true)) (slice_get parts i)) (omega arith)

pub captured_entry : (chain : ChainState) (devices : List DeviceState) (i : ℕ) → slice_get (captured_from chain 0 devices) i ≡ option_map (capture_device chain i) (slice_get devices i)
captured_entry chain devices i = captured_at chain 0 devices i ∙ ap (λ k. option_map (capture_device chain k) (slice_get devices i)) (omega arith)

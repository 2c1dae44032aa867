-- The groups of a layout without fault.
use Rattle.std.proofs.Common.{◌≡◌, ◌≢◌, ℕ, zero, suc, ◌+◌, ◌-◌, ◌≤◌, ◌<◌, Bool, true, false, not, cond, ◌&&◌, ◌||◌, List, [], ◌∷◌, ◌++◌, map, length, refl, ap, sym, subst, ◌∙◌, arith, inl, inr, ◌⊎◌, Some, None, nat_eq, nat_lt}
use Rattle.std.specs.declared.option.Option.{Option}
use Rattle.std.specs.List.{filter, list_any}
use Rattle.std.specs.Prelude.{slice_get}
use Rattle.std.proofs.lemmas.List.Folds.{list_any-append}
use Rattle.std.proofs.lemmas.Bool.{ltb-false, eqb-true, eq-eqb, eqb-false, cases_lt}
use Rattle.std.proofs.lemmas.Bool.Decides.{eqb_tells}
use Rattle.std.proofs.lemmas.List.{length-map}
use Rattle.grant_table.specs.Layouts.{LayoutShape, GrantShape, group_of, grant_of, grant_at_port}
use Rattle.grant_table.specs.Faults.{GrantEntry, LayoutFault, IsLayout, is_one_of, is_none, places_from, group_for, shape_for, or_fault, fault_if, count_fault, devices_fault, grant_fault, grants_fault, nets_fault, has_net, meets}
use Rattle.part_model.specs.declared.Net.{Net}
use Rattle.grant_table.specs.Apart.{RisesFrom, ComesFrom, KeepsApart}

clash : {A : Type 0} → true ≡ false → A
clash e = absurd (let q : true ≡ false = e in cc)

pub first_true : (a b : Bool) → a ≡ true → (a || b) ≡ true
first_true true b h = refl
first_true false b h = clash (sym h)

pub second_true : (a b : Bool) → b ≡ true → (a || b) ≡ true
second_true true b h = refl
second_true false b h = h

-- ---- faults that don't apply

pub first_none : (a b : Option LayoutFault) → or_fault a b ≡ None → a ≡ None
first_none None b h = refl
first_none (Some f) b h = h

pub second_none : (a b : Option LayoutFault) → or_fault a b ≡ None → b ≡ None
second_none None b h = h
second_none (Some f) b h = absurd (let q : Some f ≡ None = h in cc)

pub not_so : (t : Bool) (cause grant value : ℕ) → fault_if t cause grant value ≡ None → t ≡ false
not_so true cause grant value h = absurd (let q : Some (record { cause = cause; grant = grant; value = value }) ≡ None = h in cc)
not_so false cause grant value h = refl

pub left_false : (a b : Bool) → (a || b) ≡ false → a ≡ false
left_false true b h = h
left_false false b h = refl

pub right_false : (a b : Bool) → (a || b) ≡ false → b ≡ false
right_false true b h = clash h
right_false false b h = h

either : (a b : Bool) → (a || b) ≡ true → (a ≡ true) ⊎ (b ≡ true)
either true b h = inl refl
either false b h = inr h

in_front : (d : ℕ) (xs ys : List ℕ) → is_one_of d (xs ++ ys) ≡ false → is_one_of d xs ≡ false
in_front d xs ys h = left_false (is_one_of d xs) (is_one_of d ys) (sym (list_any-append (λ other. nat_eq other d) xs ys) ∙ h)

in_back : (d : ℕ) (xs ys : List ℕ) → is_one_of d (xs ++ ys) ≡ false → is_one_of d ys ≡ false
in_back d xs ys h = right_false (is_one_of d xs) (is_one_of d ys) (sym (list_any-append (λ other. nat_eq other d) xs ys) ∙ h)

-- ---- the devices of the grants

record Granted (count device : ℕ) (before : List ℕ) : Type 0 where
  some : 1 ≤ device
  within : device ≤ count
  fresh : is_one_of device before ≡ false

devices_granted : (count g : ℕ) (before devices : List ℕ) (d : ℕ) → devices_fault count g before devices ≡ None → is_one_of d devices ≡ true → Granted count d before
devices_granted count g before [] d h i = clash (sym i)
devices_granted count g before (x ∷ xs) d h i = go (either (nat_eq x d) (is_one_of d xs) i) (devices_granted count g (x ∷ before) xs d)
  where
    range : Option LayoutFault
    range = fault_if (nat_eq x 0 || nat_lt count x) 3 g x

    rest : Option LayoutFault
    rest = or_fault (fault_if (is_one_of x before) 2 g x) (devices_fault count g (x ∷ before) xs)

    ranged : (nat_eq x 0 || nat_lt count x) ≡ false
    ranged = not_so (nat_eq x 0 || nat_lt count x) 3 g x (first_none range rest h)

    after : rest ≡ None
    after = second_none range rest h

    here : is_one_of x before ≡ false
    here = not_so (is_one_of x before) 2 g x (first_none (fault_if (is_one_of x before) 2 g x) (devices_fault count g (x ∷ before) xs) after)

    own : Granted count x before
    own = record {
      some = let n : x ≡ 0 → ⊥ = eqb-false x 0 (left_false (nat_eq x 0) (nat_lt count x) ranged) in omega (arith, n);
      within = ltb-false count x (right_false (nat_eq x 0) (nat_lt count x) ranged);
      fresh = here;
    }

    go : (nat_eq x d ≡ true) ⊎ (is_one_of d xs ≡ true) → (devices_fault count g (x ∷ before) xs ≡ None → is_one_of d xs ≡ true → Granted count d (x ∷ before)) → Granted count d before
    go (inl e) rec = subst (λ n. Granted count n before) (eqb-true x d e) own
    go (inr k) rec =
        let more : Granted count d (x ∷ before) = rec (second_none (fault_if (is_one_of x before) 2 g x) (devices_fault count g (x ∷ before) xs) after) k in
        record { some = more.some; within = more.within; fresh = right_false (nat_eq x d) (is_one_of d before) more.fresh }

module _ (count g : ℕ) (before ports : List ℕ) (entry : GrantEntry) (entries : List GrantEntry) (h : grants_fault count g before ports (entry ∷ entries) ≡ None) where
  own_none : grant_fault count g before ports entry ≡ None
  own_none = first_none (grant_fault count g before ports entry) (grants_fault count (suc g) (before ++ entry.devices) (entry.port ∷ ports) entries) h

  rest_none : grants_fault count (suc g) (before ++ entry.devices) (entry.port ∷ ports) entries ≡ None
  rest_none = second_none (grant_fault count g before ports entry) (grants_fault count (suc g) (before ++ entry.devices) (entry.port ∷ ports) entries) h

  abbrev port_faults : Option LayoutFault
  port_faults = or_fault (fault_if (nat_eq entry.port 0) 3 g 0) (fault_if (is_one_of entry.port ports) 4 g entry.port)

  some_device : is_none entry.devices ≡ false
  some_device = not_so (is_none entry.devices) 1 g 0 (first_none (fault_if (is_none entry.devices) 1 g 0) (or_fault (devices_fault count g before entry.devices) port_faults) own_none)

  devices_none : devices_fault count g before entry.devices ≡ None
  devices_none = first_none (devices_fault count g before entry.devices) port_faults (second_none (fault_if (is_none entry.devices) 1 g 0) (or_fault (devices_fault count g before entry.devices) port_faults) own_none)

  port_fresh : is_one_of entry.port ports ≡ false
  port_fresh = not_so (is_one_of entry.port ports) 4 g entry.port
      (second_none (fault_if (nat_eq entry.port 0) 3 g 0) (fault_if (is_one_of entry.port ports) 4 g entry.port)
      (second_none (devices_fault count g before entry.devices) port_faults (second_none (fault_if (is_none entry.devices) 1 g 0) (or_fault (devices_fault count g before entry.devices) port_faults) own_none)))

-- ---- the grants from one on, behind devices and ports that were granted before

-- a grant's devices are in the chain, and were not granted before
granted_at : (count g : ℕ) (before ports : List ℕ) (entries : List GrantEntry) (at : ℕ) (entry : GrantEntry) (d : ℕ)
    → grants_fault count g before ports entries ≡ None → slice_get entries at ≡ Some entry → is_one_of d entry.devices ≡ true → Granted count d before
granted_at count g before ports [] at entry d h e i = absurd (let q : None ≡ Some entry = e in cc)
granted_at count g before ports (own ∷ entries) zero entry d h e i =
    let same : own ≡ entry = cc e in
    devices_granted count g before own.devices d (devices_none count g before ports own entries h) (subst (λ n. is_one_of d n.devices ≡ true) (sym same) i)
granted_at count g before ports (own ∷ entries) (suc at) entry d h e i =
    let more : Granted count d (before ++ own.devices) = granted_at count (suc g) (before ++ own.devices) (own.port ∷ ports) entries at entry d (rest_none count g before ports own entries h) e i in
    record { some = more.some; within = more.within; fresh = in_front d before own.devices more.fresh }

-- each has a device
some_at : (count g : ℕ) (before ports : List ℕ) (entries : List GrantEntry) (at : ℕ) (entry : GrantEntry)
    → grants_fault count g before ports entries ≡ None → slice_get entries at ≡ Some entry → is_none entry.devices ≡ false
some_at count g before ports [] at entry h e = absurd (let q : None ≡ Some entry = e in cc)
some_at count g before ports (own ∷ entries) zero entry h e =
    let same : own ≡ entry = cc e in subst (λ n. is_none n.devices ≡ false) same (some_device count g before ports own entries h)
some_at count g before ports (own ∷ entries) (suc at) entry h e =
    some_at count (suc g) (before ++ own.devices) (own.port ∷ ports) entries at entry (rest_none count g before ports own entries h) e

-- the devices of an earlier one are not those of a later one
apart_at : (count g : ℕ) (before ports : List ℕ) (entries : List GrantEntry) (at behind : ℕ) (one other : GrantEntry) (d : ℕ)
    → grants_fault count g before ports entries ≡ None → at < behind → slice_get entries at ≡ Some one → slice_get entries behind ≡ Some other
    → is_one_of d one.devices ≡ true → is_one_of d other.devices ≡ true → ⊥
apart_at count g before ports [] at behind one other d h lt e f i j = absurd (let q : None ≡ Some one = e in cc)
apart_at count g before ports (own ∷ entries) at zero one other d h lt e f i j = omega (arith, lt)
apart_at count g before ports (own ∷ entries) zero (suc behind) one other d h lt e f i j =
    let same : own ≡ one = cc e in
    let later : Granted count d (before ++ own.devices) = granted_at count (suc g) (before ++ own.devices) (own.port ∷ ports) entries behind other d (rest_none count g before ports own entries h) f j in
    clash (sym (subst (λ n. is_one_of d n.devices ≡ true) (sym same) i) ∙ in_back d before own.devices later.fresh)
apart_at count g before ports (own ∷ entries) (suc at) (suc behind) one other d h lt e f i j =
    apart_at count (suc g) (before ++ own.devices) (own.port ∷ ports) entries at behind one other d (rest_none count g before ports own entries h) (omega (arith, lt)) e f i j

-- ---- the places of a grant

-- what passes a filter passes its test, and stands in the list
passed_by : (p : ℕ → Bool) (y x : ℕ) (ys : List ℕ) (t : Bool) → p y ≡ t → (is_one_of x (filter p ys) ≡ true → (p x ≡ true) × (is_one_of x ys ≡ true))
    → is_one_of x (cond t (y ∷ filter p ys) (filter p ys)) ≡ true → (p x ≡ true) × (is_one_of x (y ∷ ys) ≡ true)
passed_by p y x ys true e rec h =
    elim (either (nat_eq y x) (is_one_of x (filter p ys)) h) [
      | inl same ↦ (subst (λ n. p n ≡ true) (eqb-true y x same) e, first_true (nat_eq y x) (is_one_of x ys) same)
      | inr k ↦ ((rec k).0, second_true (nat_eq y x) (is_one_of x ys) (rec k).1)
    ]
passed_by p y x ys false e rec h = ((rec h).0, second_true (nat_eq y x) (is_one_of x ys) (rec h).1)

passed : (p : ℕ → Bool) (xs : List ℕ) (x : ℕ) → is_one_of x (filter p xs) ≡ true → (p x ≡ true) × (is_one_of x xs ≡ true)
passed p [] x h = clash (sym h)
passed p (y ∷ ys) x h = passed_by p y x ys (p y) refl (passed p ys x) h

-- and what passes the test is left by the filter
left_by : (p : ℕ → Bool) (y x : ℕ) (ys : List ℕ) (t : Bool) → p y ≡ t → p x ≡ true → (is_one_of x ys ≡ true → is_one_of x (filter p ys) ≡ true)
    → is_one_of x (y ∷ ys) ≡ true → is_one_of x (cond t (y ∷ filter p ys) (filter p ys)) ≡ true
left_by p y x ys t e px rec h =
    elim (either (nat_eq y x) (is_one_of x ys) h) [
      | inl same ↦ rw (sym e ∙ ap p (eqb-true y x same) ∙ px) (first_true (nat_eq y x) (is_one_of x (filter p ys)) same)
      | inr k ↦ behind t (rec k)
    ]
  where
    behind : (u : Bool) → is_one_of x (filter p ys) ≡ true → is_one_of x (cond u (y ∷ filter p ys) (filter p ys)) ≡ true
    behind true k = second_true (nat_eq y x) (is_one_of x (filter p ys)) k
    behind false k = k

left_in : (p : ℕ → Bool) (xs : List ℕ) (x : ℕ) → p x ≡ true → is_one_of x xs ≡ true → is_one_of x (filter p xs) ≡ true
left_in p [] x px h = clash (sym h)
left_in p (y ∷ ys) x px h = left_by p y x ys (p y) refl px (left_in p ys x px) h

-- places in a row
in_row : (from count x : ℕ) → is_one_of x (places_from from count) ≡ true → (from ≤ x) × (x < from + count)
in_row from zero x h = clash (sym h)
in_row from (suc count) x h =
    elim (either (nat_eq from x) (is_one_of x (places_from (suc from) count)) h) [
      | inl same ↦ let e : from ≡ x = eqb-true from x same in (omega (arith, e), omega (arith, e))
      | inr k ↦ let i : (suc from ≤ x) × (x < suc from + count) = in_row (suc from) count x k in (omega (arith, i.0), omega (arith, i.1))
    ]

row_has : (from count x : ℕ) → from ≤ x → x < from + count → is_one_of x (places_from from count) ≡ true
row_has from zero x low high = absurd (omega (arith, low, high))
row_has from (suc count) x low high =
    elim (eqb_tells from x) [
      | inl same ↦ first_true (nat_eq from x) (is_one_of x (places_from (suc from) count)) same.0
      | inr other ↦ second_true (nat_eq from x) (is_one_of x (places_from (suc from) count))
          (row_has (suc from) count x (let n : from ≢ x = other.1 in omega (arith, low, n)) (omega (arith, high)))
    ]

rises_lower : (low : ℕ) (xs : List ℕ) → RisesFrom (suc low) xs → RisesFrom low xs
rises_lower low [] h = _
rises_lower low (x ∷ xs) h = (let l : suc low ≤ x = h.0 in omega (arith, l), h.1)

row_rises : (p : ℕ → Bool) (from count : ℕ) → RisesFrom from (filter p (places_from from count))
row_rises p from zero = _
row_rises p from (suc count) = go (p from) (row_rises p (suc from) count)
  where
    go : (t : Bool) → RisesFrom (suc from) (filter p (places_from (suc from) count)) → RisesFrom from (cond t (from ∷ filter p (places_from (suc from) count)) (filter p (places_from (suc from) count)))
    go true r = (omega arith, r)
    go false r = rises_lower from (filter p (places_from (suc from) count)) r

-- the group of a grant, by its entry
abbrev group_by : ℕ → Option GrantEntry → List ℕ
group_by count None = []
group_by count (Some entry) = group_for count entry

group_is : (count : ℕ) (entries : List GrantEntry) (grant : ℕ) → group_of (map (shape_for count) entries) grant ≡ group_by count (slice_get entries grant)
group_is count [] grant = refl
group_is count (entry ∷ entries) zero = refl
group_is count (entry ∷ entries) (suc grant) = group_is count entries grant

-- ---- ports

port_later : (count g : ℕ) (before ports : List ℕ) (entries : List GrantEntry) (at : ℕ) (entry : GrantEntry)
    → grants_fault count g before ports entries ≡ None → slice_get entries at ≡ Some entry → is_one_of entry.port ports ≡ false
port_later count g before ports [] at entry h e = absurd (let q : None ≡ Some entry = e in cc)
port_later count g before ports (own ∷ entries) zero entry h e =
    let same : own ≡ entry = cc e in subst (λ n. is_one_of n.port ports ≡ false) same (port_fresh count g before ports own entries h)
port_later count g before ports (own ∷ entries) (suc at) entry h e =
    right_false (nat_eq own.port entry.port) (is_one_of entry.port ports)
    (port_later count (suc g) (before ++ own.devices) (own.port ∷ ports) entries at entry (rest_none count g before ports own entries h) e)

port_at : (n count g : ℕ) (before ports : List ℕ) (entries : List GrantEntry) (at : ℕ) (entry : GrantEntry)
    → grants_fault count g before ports entries ≡ None → slice_get entries at ≡ Some entry → grant_at_port (map (shape_for n) entries) entry.port ≡ Some at
port_at n count g before ports [] at entry h e = absurd (let q : None ≡ Some entry = e in cc)
port_at n count g before ports (own ∷ entries) zero entry h e =
    let same : own.port ≡ entry.port = let s : own ≡ entry = cc e in ap (λ n. n.port) s in
    rw (eq-eqb own.port entry.port same) refl
port_at n count g before ports (own ∷ entries) (suc at) entry h e =
    let other : nat_eq own.port entry.port ≡ false = left_false (nat_eq own.port entry.port) (is_one_of entry.port ports)
    (port_later count (suc g) (before ++ own.devices) (own.port ∷ ports) entries at entry (rest_none count g before ports own entries h) e) in
    let rest : grant_at_port (map (shape_for n) entries) entry.port ≡ Some at =
    port_at n count (suc g) (before ++ own.devices) (own.port ∷ ports) entries at entry (rest_none count g before ports own entries h) e in
    rw (other, rest) refl

-- ---- nets

from_not : (t : Bool) → not t ≡ false → t ≡ true
from_not true h = refl
from_not false h = clash h

and_first : (a b : Bool) → (a && b) ≡ true → a ≡ true
and_first true b h = refl
and_first false b h = h

and_second : (a b : Bool) → (a && b) ≡ true → b ≡ true
and_second true b h = h
and_second false b h = clash (sym h)

net_granted : (entries : List GrantEntry) (p : ℕ) (before nets : List Net) (at : ℕ) (net : Net)
    → nets_fault entries p before nets ≡ None → slice_get nets at ≡ Some net → list_any (has_net net) entries ≡ true
net_granted entries p before [] at net h e = absurd (let q : None ≡ Some net = e in cc)
net_granted entries p before (own ∷ nets) zero net h e =
    let same : own ≡ net = cc e in
    let rest : Option LayoutFault = or_fault (fault_if (list_any (meets own) before) 7 0 p) (nets_fault entries (suc p) (own ∷ before) nets) in
    subst (λ n. list_any (has_net n) entries ≡ true) same
    (from_not (list_any (has_net own) entries) (not_so (not (list_any (has_net own) entries)) 6 0 p (first_none (fault_if (not (list_any (has_net own) entries)) 6 0 p) rest h)))
net_granted entries p before (own ∷ nets) (suc at) net h e =
    let rest : Option LayoutFault = or_fault (fault_if (list_any (meets own) before) 7 0 p) (nets_fault entries (suc p) (own ∷ before) nets) in
    net_granted entries (suc p) (own ∷ before) nets at net
    (second_none (fault_if (list_any (meets own) before) 7 0 p) (nets_fault entries (suc p) (own ∷ before) nets) (second_none (fault_if (not (list_any (has_net own) entries)) 6 0 p) rest h)) e

-- the entry that has both devices of a net
record Found (net : Net) (entries : List GrantEntry) : Type 0 where
  at : ℕ
  entry : GrantEntry
  is : slice_get entries at ≡ Some entry
  from : is_one_of net.from_device entry.devices ≡ true
  to : is_one_of net.to_device entry.devices ≡ true

found : (net : Net) (entries : List GrantEntry) → list_any (has_net net) entries ≡ true → Found net entries
found net [] h = clash (sym h)
found net (entry ∷ entries) h =
    elim (either (has_net net entry) (list_any (has_net net) entries) h) [
      | inl own ↦ record { at = 0; entry = entry; is = refl; from = and_first (is_one_of net.from_device entry.devices) (is_one_of net.to_device entry.devices) own; to = and_second (is_one_of net.from_device entry.devices) (is_one_of net.to_device entry.devices) own }
      | inr more ↦ let f : Found net entries = found net entries more in record { at = suc f.at; entry = f.entry; is = f.is; from = f.from; to = f.to }
    ]

some_same : (one two : GrantEntry) → Some one ≡ Some two → one ≡ two
some_same one two h = cc h

never : (t : Bool) → (t ≡ true → ⊥) → t ≡ false
never true h = absurd (h refl)
never false h = refl

present : (entries : List GrantEntry) (at : ℕ) → at < length entries → slice_get entries at ≡ None → ⊥
present [] at lt e = omega (arith, lt)
present (entry ∷ entries) zero lt e = let q : Some entry ≡ None = e in cc
present (entry ∷ entries) (suc at) lt e = present entries at (omega (arith, lt)) e

abbrev shape_by : ℕ → Option GrantEntry → Option GrantShape
shape_by count None = None
shape_by count (Some entry) = Some (shape_for count entry)

shape_is : (count : ℕ) (entries : List GrantEntry) (grant : ℕ) → slice_get (map (shape_for count) entries) grant ≡ shape_by count (slice_get entries grant)
shape_is count [] grant = refl
shape_is count (entry ∷ entries) zero = refl
shape_is count (entry ∷ entries) (suc grant) = shape_is count entries grant

-- ---- the whole

module _ (layout : LayoutShape) (is : IsLayout layout) where
  granted : grants_fault (length layout.parts) 1 [] [] is.entries ≡ None
  granted =
      let nets : Option LayoutFault = or_fault (fault_if (nat_lt 4096 (length layout.nets)) 8 0 (length layout.nets)) (nets_fault is.entries 1 [] layout.nets) in
      let grants : Option LayoutFault = or_fault (grants_fault (length layout.parts) 1 [] [] is.entries) nets in
      first_none (grants_fault (length layout.parts) 1 [] [] is.entries) nets
      (second_none (count_fault 16 (length is.entries)) grants
      (second_none (count_fault 32 (length layout.parts)) (or_fault (count_fault 16 (length is.entries)) grants) is.faultless))

  shapes : layout.grants ≡ map (shape_for (length layout.parts)) is.entries
  shapes = ap (λ l. l.grants) is.made

  group : (grant : ℕ) → group_of layout.grants grant ≡ group_by (length layout.parts) (slice_get is.entries grant)
  group grant = ap (λ l. group_of l grant) shapes ∙ group_is (length layout.parts) is.entries grant

  rises_by : (o : Option GrantEntry) → RisesFrom 0 (group_by (length layout.parts) o)
  rises_by None = _
  rises_by (Some entry) = row_rises (λ place. is_one_of (suc place) entry.devices) 0 (length layout.parts)

  within_by : (o : Option GrantEntry) (place : ℕ) → is_one_of place (group_by (length layout.parts) o) ≡ true → place < length layout.parts
  within_by None place h = clash (sym h)
  within_by (Some entry) place h =
      let in_it : is_one_of place (places_from 0 (length layout.parts)) ≡ true = (passed (λ p. is_one_of (suc p) entry.devices) (places_from 0 (length layout.parts)) place h).1 in
      let low : place < 0 + length layout.parts = (in_row 0 (length layout.parts) place in_it).1 in
      omega (arith, low)

  some_by : (devices : List ℕ) (entry : GrantEntry) (grant : ℕ) → slice_get is.entries grant ≡ Some entry → entry.devices ≡ devices → is_none devices ≡ false → group_for (length layout.parts) entry ≢ []
  some_by [] entry grant e d n empty = clash n
  some_by (device ∷ devices) entry grant e d n empty =
      let own : is_one_of device entry.devices ≡ true = rw d (first_true (nat_eq device device) (is_one_of device devices) (eq-eqb device device refl)) in
      let g : Granted (length layout.parts) device [] = granted_at (length layout.parts) 1 [] [] is.entries grant entry device granted e own in
      let back : suc (device - 1) ≡ device = omega (arith, g.some) in
      let left : is_one_of (device - 1) (group_for (length layout.parts) entry) ≡ true =
      left_in (λ place. is_one_of (suc place) entry.devices) (places_from 0 (length layout.parts)) (device - 1) (rw back own)
      (row_has 0 (length layout.parts) (device - 1) (omega arith) (omega (arith, g.some, g.within))) in
      clash (sym left ∙ ap (is_one_of (device - 1)) empty)

  some_at_by : (o : Option GrantEntry) (grant : ℕ) → slice_get is.entries grant ≡ o → grant < length is.entries → group_by (length layout.parts) o ≢ []
  some_at_by None grant e lt = absurd (present is.entries grant lt e)
  some_at_by (Some entry) grant e lt = some_by entry.devices entry grant e refl (some_at (length layout.parts) 1 [] [] is.entries grant entry granted e)

  apart_by : (o u : Option GrantEntry) (grant other place : ℕ) → slice_get is.entries grant ≡ o → slice_get is.entries other ≡ u → grant ≢ other
      → is_one_of place (group_by (length layout.parts) o) ≡ true → is_one_of place (group_by (length layout.parts) u) ≡ true → ⊥
  apart_by None u grant other place e f n h k = clash (sym h)
  apart_by (Some one) None grant other place e f n h k = clash (sym k)
  apart_by (Some one) (Some two) grant other place e f n h k =
      let first : is_one_of (suc place) one.devices ≡ true = (passed (λ p. is_one_of (suc p) one.devices) (places_from 0 (length layout.parts)) place h).0 in
      let second : is_one_of (suc place) two.devices ≡ true = (passed (λ p. is_one_of (suc p) two.devices) (places_from 0 (length layout.parts)) place k).0 in
      elim (cases_lt grant other) [
        | inl lt ↦ apart_at (length layout.parts) 1 [] [] is.entries grant other one two (suc place) granted lt e f first second
        | inr ge ↦ apart_at (length layout.parts) 1 [] [] is.entries other grant two one (suc place) granted (omega (arith, ge, n)) f e second first
      ]

  port_by : (o : Option GrantEntry) (grant : ℕ) (shape : GrantShape) → slice_get is.entries grant ≡ o → shape_by (length layout.parts) o ≡ Some shape → grant_of layout shape.port ≡ Some grant
  port_by None grant shape e s = absurd (let q : None ≡ Some shape = s in cc)
  port_by (Some entry) grant shape e s =
      let same : shape_for (length layout.parts) entry ≡ shape = cc s in
      let port : entry.port ≡ shape.port = ap (λ n. n.port) same in
      ap (λ l. grant_at_port l shape.port) shapes ∙ sym (ap (grant_at_port (map (shape_for (length layout.parts)) is.entries)) port)
      ∙ port_at (length layout.parts) (length layout.parts) 1 [] [] is.entries grant entry granted e

  netted : nets_fault is.entries 1 [] layout.nets ≡ None
  netted =
      let many : Option LayoutFault = fault_if (nat_lt 4096 (length layout.nets)) 8 0 (length layout.nets) in
      let nets : Option LayoutFault = or_fault many (nets_fault is.entries 1 [] layout.nets) in
      let grants : Option LayoutFault = or_fault (grants_fault (length layout.parts) 1 [] [] is.entries) nets in
      second_none many (nets_fault is.entries 1 [] layout.nets)
      (second_none (grants_fault (length layout.parts) 1 [] [] is.entries) nets
      (second_none (count_fault 16 (length is.entries)) grants
      (second_none (count_fault 32 (length layout.parts)) (or_fault (count_fault 16 (length is.entries)) grants) is.faultless)))

  -- a device of two entries is of one
  one_entry : (grant other d : ℕ) (one two : GrantEntry) → slice_get is.entries grant ≡ Some one → slice_get is.entries other ≡ Some two
      → is_one_of d one.devices ≡ true → is_one_of d two.devices ≡ true → grant ≡ other
  one_entry grant other d one two e f h k =
      elim (eqb_tells grant other) [
        | inl same ↦ same.1
        | inr apart ↦ let n : grant ≢ other = apart.1 in elim (cases_lt grant other) [
          | inl lt ↦ absurd (apart_at (length layout.parts) 1 [] [] is.entries grant other one two d granted lt e f h k)
          | inr ge ↦ absurd (apart_at (length layout.parts) 1 [] [] is.entries other grant two one d granted (omega (arith, ge, n)) f e k h)
        ]
      ]

  nets_by : (o : Option GrantEntry) (grant place : ℕ) (net : Net) → slice_get is.entries grant ≡ o → Found net is.entries → suc place ≡ net.to_device
      → is_one_of place (group_by (length layout.parts) o) ≡ true → ComesFrom (group_by (length layout.parts) o) net
  nets_by None grant place net e f t h = clash (sym h)
  nets_by (Some one) grant place net e f t h =
      let to : is_one_of (suc place) one.devices ≡ true = (passed (λ p. is_one_of (suc p) one.devices) (places_from 0 (length layout.parts)) place h).0 in
      let same : grant ≡ f.at = one_entry grant f.at net.to_device one f.entry e f.is (subst (λ d. is_one_of d one.devices ≡ true) t to) f.to in
      let entry : f.entry ≡ one = some_same f.entry one (sym f.is ∙ ap (slice_get is.entries) (sym same) ∙ e) in
      let from : is_one_of net.from_device one.devices ≡ true = subst (λ n. is_one_of net.from_device n.devices ≡ true) entry f.from in
      let g : Granted (length layout.parts) net.from_device [] = granted_at (length layout.parts) 1 [] [] is.entries grant one net.from_device granted e from in
      let back : suc (net.from_device - 1) ≡ net.from_device = omega (arith, g.some) in
      record {
        place = net.from_device - 1;
        is = back;
        within = left_in (λ p. is_one_of (suc p) one.devices) (places_from 0 (length layout.parts)) (net.from_device - 1) (rw back from)
            (row_has 0 (length layout.parts) (net.from_device - 1) (omega arith) (omega (arith, g.some, g.within)));
      }

  pub keeps_apart : KeepsApart layout
  keeps_apart = record {
    rising = λ grant. rw (group grant) (rises_by (slice_get is.entries grant));
    within = λ grant place h. within_by (slice_get is.entries grant) place (ap (is_one_of place) (sym (group grant)) ∙ h);
    some = λ grant lt empty. some_at_by (slice_get is.entries grant) grant refl (let n : length layout.grants ≡ length is.entries = ap length shapes ∙ length-map is.entries (shape_for (length layout.parts)) in omega (arith, lt, n)) (sym (group grant) ∙ empty);
    apart = λ grant other place n h. never (is_one_of place (group_of layout.grants other))
        (λ k. apart_by (slice_get is.entries grant) (slice_get is.entries other) grant other place refl refl n (ap (is_one_of place) (sym (group grant)) ∙ h) (ap (is_one_of place) (sym (group other)) ∙ k));
    port = λ grant shape s. port_by (slice_get is.entries grant) grant shape refl (sym (shape_is (length layout.parts) is.entries grant) ∙ ap (λ l. slice_get l grant) (sym shapes) ∙ s);
    nets = λ grant place at net e t h. subst (λ group. ComesFrom group net) (sym (group grant))
        (nets_by (slice_get is.entries grant) grant place net refl (found net is.entries (net_granted is.entries 1 [] layout.nets at net netted e)) t (ap (is_one_of place) (sym (group grant)) ∙ h));
  }

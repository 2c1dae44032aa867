-- The checks of grants and nets, one after another.
use Rattle.std.proofs.Common.{◌≡◌, ℕ, zero, suc, ◌+◌, ◌≤◌, ◌<◌, ◌==◌, ◌||◌, nat_lt, not, Bool, true, false, List, [], ◌∷◌, ◌++◌, length, take, drop, refl, ap, sym, ◌∙◌, arith, append_assoc, Some, None, get_or}
use Rattle.std.specs.declared.option.Option.{Option}
use Rattle.std.specs.List.{list_any}
use Rattle.std.proofs.lemmas.Bool.{ne_eqb}
use Rattle.std.proofs.lemmas.List.{drop_more, drop_all, take_more}
use Rattle.std.proofs.lemmas.List.Folds.{list_any-append, list_any_more}
use Rattle.part_model.specs.declared.Net.{Net}
use Rattle.grant_table.specs.Faults.{GrantEntry, LayoutFault, is_one_of, is_none, or_fault, fault_if, devices_fault, grant_fault, grants_fault, nets_fault, has_net, meets}
use Rattle.grant_table.specs.Refusals.{devices_of, ports_of}

-- ---- faults in order

pub fault_first : (first next : Option LayoutFault) (fault : LayoutFault) → first ≡ Some fault → or_fault first next ≡ Some fault
fault_first first next fault is = ap (λ f. or_fault f next) is

pub fault_next : (first next : Option LayoutFault) → first ≡ None → or_fault first next ≡ next
fault_next first next is = ap (λ f. or_fault f next) is

-- ---- what was granted before

or_assoc : (a b c : Bool) → (a || (b || c)) ≡ ((a || b) || c)
or_assoc true b c = refl
or_assoc false b c = refl

or_swap : (a b c : Bool) → (a || (b || c)) ≡ ((b || a) || c)
or_swap true true c = refl
or_swap true false c = refl
or_swap false true c = refl
or_swap false false c = refl

pub any_devices : (device : ℕ) (entries : List GrantEntry) → list_any (λ entry. is_one_of device entry.devices) entries ≡ is_one_of device (devices_of entries)
any_devices device [] = refl
any_devices device (entry ∷ entries) =
    ap (λ b. is_one_of device entry.devices || b) (any_devices device entries) ∙ sym (list_any-append (λ other. other == device) entry.devices (devices_of entries))

pub any_ports : (port : ℕ) (entries : List GrantEntry) → list_any (λ entry. entry.port == port) entries ≡ is_one_of port (ports_of entries)
any_ports port [] = refl
any_ports port (entry ∷ entries) = ap (λ b. (entry.port == port) || b) (any_ports port entries)

devices_of-append : (xs ys : List GrantEntry) → devices_of (xs ++ ys) ≡ devices_of xs ++ devices_of ys
devices_of-append [] ys = refl
devices_of-append (entry ∷ xs) ys = ap (λ l. entry.devices ++ l) (devices_of-append xs ys) ∙ sym (append_assoc entry.devices (devices_of xs) (devices_of ys))

-- ---- the devices of a grant

-- the devices before a place passed; the others decide
pub record DevicesTried (count grant : ℕ) (before devices : List ℕ) (at : ℕ) : Type 0 where
  pub seen : List ℕ
  pub are : (device : ℕ) → is_one_of device seen ≡ (is_one_of device (take at devices) || is_one_of device before)
  pub left : devices_fault count grant seen (drop at devices) ≡ devices_fault count grant before devices

pub devices_start : (count grant : ℕ) (before devices : List ℕ) → DevicesTried count grant before devices 0
devices_start count grant before devices = record { seen = before; are = λ device. refl; left = refl }

module _ (count grant : ℕ) (before devices : List ℕ) (at : ℕ) (so : DevicesTried count grant before devices at) where
  pub devices_end : length devices ≤ at → None ≡ devices_fault count grant before devices
  devices_end end = ap (devices_fault count grant so.seen) (sym (drop_all at devices end)) ∙ so.left

  module _ (device : ℕ) (lt : at < length devices) (item : device ≡ get_or devices at device) where
    abbrev second : Option LayoutFault
    second = or_fault (fault_if (is_one_of device so.seen) 2 grant device) (devices_fault count grant (device ∷ so.seen) (drop (at + 1) devices))

    here : or_fault (fault_if (device == 0 || nat_lt count device) 3 grant device) second ≡ devices_fault count grant before devices
    here = ap (devices_fault count grant so.seen) (sym (drop_more devices at device lt ∙ ap (λ d. d ∷ drop (at + 1) devices) (sym item))) ∙ so.left

    taken : is_one_of device so.seen ≡ (is_one_of device (take at devices) || is_one_of device before)
    taken = so.are device

    pub device_outside : true ≡ (device == 0 || nat_lt count device) → fault_if true 3 grant device ≡ devices_fault count grant before devices
    device_outside test = ap (λ t. or_fault (fault_if t 3 grant device) second) test ∙ here

    module _ (inside : false ≡ (device == 0 || nat_lt count device)) where
      then : second ≡ devices_fault count grant before devices
      then = ap (λ t. or_fault (fault_if t 3 grant device) second) inside ∙ here

      pub device_taken : true ≡ (is_one_of device (take at devices) || is_one_of device before) → fault_if true 2 grant device ≡ devices_fault count grant before devices
      device_taken test = ap (λ t. or_fault (fault_if t 2 grant device) (devices_fault count grant (device ∷ so.seen) (drop (at + 1) devices))) (test ∙ sym taken) ∙ then

      pub device_passes : false ≡ (is_one_of device (take at devices) || is_one_of device before) → DevicesTried count grant before devices (at + 1)
      device_passes test = record {
        seen = device ∷ so.seen;
        are = λ other. ap (λ b. (device == other) || b) (so.are other) ∙ or_swap (device == other) (is_one_of other (take at devices)) (is_one_of other before)
            ∙ ap (λ b. b || is_one_of other before) (sym (list_any_more (λ d. d == other) devices at device lt ∙ ap (λ d. is_one_of other (take at devices) || (d == other)) (sym item)));
        left = ap (λ t. or_fault (fault_if t 2 grant device) (devices_fault count grant (device ∷ so.seen) (drop (at + 1) devices))) (test ∙ sym taken) ∙ then;
      }

-- ---- the grants

-- the grants before a place passed; the others decide
pub record GrantsTried (count : ℕ) (grants : List GrantEntry) (at : ℕ) : Type 0 where
  pub ports : List ℕ
  pub are : (port : ℕ) → is_one_of port ports ≡ is_one_of port (ports_of (take at grants))
  pub left : grants_fault count (at + 1) (devices_of (take at grants)) ports (drop at grants) ≡ grants_fault count 1 [] [] grants

pub grants_start : (count : ℕ) (grants : List GrantEntry) → GrantsTried count grants 0
grants_start count grants = record { ports = []; are = λ port. refl; left = refl }

module _ (count : ℕ) (grants : List GrantEntry) (at : ℕ) (so : GrantsTried count grants at) where
  pub grants_end : length grants ≤ at → None ≡ grants_fault count 1 [] [] grants
  grants_end end = ap (grants_fault count (at + 1) (devices_of (take at grants)) so.ports) (sym (drop_all at grants end)) ∙ so.left

  module _ (entry : GrantEntry) (lt : at < length grants) (item : entry ≡ get_or grants at entry) where
    abbrev own : Option LayoutFault
    own = grant_fault count (at + 1) (devices_of (take at grants)) (ports_of (take at grants)) entry

    abbrev rest : Option LayoutFault
    rest = grants_fault count (suc (at + 1)) (devices_of (take at grants) ++ entry.devices) (entry.port ∷ so.ports) (drop (at + 1) grants)

    abbrev port_after : Bool → Option LayoutFault
    port_after test = or_fault (fault_if (is_none entry.devices) 1 (at + 1) 0)
        (or_fault (devices_fault count (at + 1) (devices_of (take at grants)) entry.devices)
        (or_fault (fault_if (entry.port == 0) 3 (at + 1) 0) (fault_if test 4 (at + 1) entry.port)))

    grant_here : or_fault own rest ≡ grants_fault count 1 [] [] grants
    grant_here =
        ap (λ t. or_fault (port_after t) rest) (sym (so.are entry.port))
        ∙ ap (grants_fault count (at + 1) (devices_of (take at grants)) so.ports) (sym (drop_more grants at entry lt ∙ ap (λ e. e ∷ drop (at + 1) grants) (sym item))) ∙ so.left

    pub grant_faulty : (fault : LayoutFault) → Some fault ≡ own → Some fault ≡ grants_fault count 1 [] [] grants
    grant_faulty fault is = ap (λ f. or_fault f rest) is ∙ grant_here

    whole : take (at + 1) grants ≡ take at grants ++ entry ∷ []
    whole = take_more grants at entry lt ∙ ap (λ e. take at grants ++ e ∷ []) (sym item)

    pub grant_passes : None ≡ own → GrantsTried count grants (at + 1)
    grant_passes is = record {
      ports = entry.port ∷ so.ports;
      are = λ port. ap (λ b. (entry.port == port) || b) (so.are port ∙ sym (any_ports port (take at grants)))
          ∙ ends (entry.port == port) (list_any (λ e. e.port == port) (take at grants))
          ∙ sym (list_any_more (λ e. e.port == port) grants at entry lt ∙ ap (λ e. list_any (λ e. e.port == port) (take at grants) || (e.port == port)) (sym item))
          ∙ any_ports port (take (at + 1) grants);
      left =
          (λ i. grants_fault count (number i) (devices i) (entry.port ∷ so.ports) (drop (at + 1) grants))
          ∙ ap (λ f. or_fault f rest) is ∙ grant_here;
    }
      where
        ends : (a b : Bool) → (a || b) ≡ (b || a)
        ends true true = refl
        ends true false = refl
        ends false true = refl
        ends false false = refl

        number : (at + 1) + 1 ≡ suc (at + 1)
        number = omega arith

        devices : devices_of (take (at + 1) grants) ≡ devices_of (take at grants) ++ entry.devices
        devices = ap devices_of whole ∙ devices_of-append (take at grants) (entry ∷ []) ∙ ap (λ l. devices_of (take at grants) ++ l) (nothing entry.devices)
          where
            nothing : (xs : List ℕ) → xs ++ [] ≡ xs
            nothing [] = refl
            nothing (x ∷ xs) = ap (λ l. x ∷ l) (nothing xs)

-- ---- the nets

-- the nets before a place passed; the others decide
pub record NetsTried (entries : List GrantEntry) (nets : List Net) (at : ℕ) : Type 0 where
  pub seen : List Net
  pub are : (net : Net) → list_any (meets net) seen ≡ list_any (meets net) (take at nets)
  pub left : nets_fault entries (at + 1) seen (drop at nets) ≡ nets_fault entries 1 [] nets

pub nets_start : (entries : List GrantEntry) (nets : List Net) → NetsTried entries nets 0
nets_start entries nets = record { seen = []; are = λ net. refl; left = refl }

module _ (entries : List GrantEntry) (nets : List Net) (at : ℕ) (so : NetsTried entries nets at) where
  pub nets_end : length nets ≤ at → None ≡ nets_fault entries 1 [] nets
  nets_end end = ap (nets_fault entries (at + 1) so.seen) (sym (drop_all at nets end)) ∙ so.left

  module _ (net : Net) (lt : at < length nets) (item : net ≡ get_or nets at net) where
    abbrev met : Option LayoutFault
    met = or_fault (fault_if (list_any (meets net) so.seen) 7 0 (at + 1)) (nets_fault entries (suc (at + 1)) (net ∷ so.seen) (drop (at + 1) nets))

    net_here : or_fault (fault_if (not (list_any (has_net net) entries)) 6 0 (at + 1)) met ≡ nets_fault entries 1 [] nets
    net_here = ap (nets_fault entries (at + 1) so.seen) (sym (drop_more nets at net lt ∙ ap (λ n. n ∷ drop (at + 1) nets) (sym item))) ∙ so.left

    pub net_strays : false ≡ list_any (has_net net) entries → fault_if true 6 0 (at + 1) ≡ nets_fault entries 1 [] nets
    net_strays test = ap (λ t. or_fault (fault_if (not t) 6 0 (at + 1)) met) test ∙ net_here

    module _ (stays : true ≡ list_any (has_net net) entries) where
      next : met ≡ nets_fault entries 1 [] nets
      next = ap (λ t. or_fault (fault_if (not t) 6 0 (at + 1)) met) stays ∙ net_here

      pub net_meets : true ≡ list_any (meets net) (take at nets) → fault_if true 7 0 (at + 1) ≡ nets_fault entries 1 [] nets
      net_meets test = ap (λ t. or_fault (fault_if t 7 0 (at + 1)) (nets_fault entries (suc (at + 1)) (net ∷ so.seen) (drop (at + 1) nets))) (test ∙ sym (so.are net)) ∙ next

      pub net_passes : false ≡ list_any (meets net) (take at nets) → NetsTried entries nets (at + 1)
      net_passes test = record {
        seen = net ∷ so.seen;
        are = λ other. ap (λ b. meets other net || b) (so.are other) ∙ turn (meets other net) (list_any (meets other) (take at nets))
            ∙ sym (list_any_more (meets other) nets at net lt ∙ ap (λ n. list_any (meets other) (take at nets) || meets other n) (sym item));
        left = ap (λ n. nets_fault entries n (net ∷ so.seen) (drop (at + 1) nets)) number
            ∙ ap (λ t. or_fault (fault_if t 7 0 (at + 1)) (nets_fault entries (suc (at + 1)) (net ∷ so.seen) (drop (at + 1) nets))) (test ∙ sym (so.are net)) ∙ next;
      }
        where
          turn : (a b : Bool) → (a || b) ≡ (b || a)
          turn true true = refl
          turn true false = refl
          turn false true = refl
          turn false false = refl

          number : (at + 1) + 1 ≡ suc (at + 1)
          number = omega arith

same_at : {X : Type 0} (xs : List X) (at : ℕ) (d e : X) → at < length xs → get_or xs at d ≡ get_or xs at e
same_at [] at d e lt = absurd (omega (arith, lt))
same_at (x ∷ xs) zero d e lt = refl
same_at (x ∷ xs) (suc at) d e lt = same_at xs at d e (omega (arith, lt))

pub net_passes_at : (entries : List GrantEntry) (nets : List Net) (at : ℕ) (default : Net) → NetsTried entries nets at → at < length nets → true ≡ list_any (has_net (get_or nets at default)) entries
    → false ≡ list_any (meets (get_or nets at default)) (take at nets) → NetsTried entries nets (at + 1)
net_passes_at entries nets at default so lt stays apart = net_passes entries nets at so (get_or nets at default) lt (same_at nets at default (get_or nets at default) lt) stays apart

-- ---- one grant

module _ (count number : ℕ) (earlier : List GrantEntry) (entry : GrantEntry) (devices : List ℕ) (some : false ≡ (length entry.devices == 0)) (same : devices ≡ entry.devices)
    (apart : None ≡ devices_fault count number (devices_of earlier) devices) (port : entry.port ≡ 0 → ⊥) where
  abbrev by_port : Bool → Bool → Bool → Option LayoutFault
  by_port empty no_port taken = or_fault (fault_if empty 1 number 0)
      (or_fault (devices_fault count number (devices_of earlier) entry.devices)
      (or_fault (fault_if no_port 3 number 0) (fault_if taken 4 number entry.port)))

  empty_is : (xs : List ℕ) → false ≡ (length xs == 0) → false ≡ is_none xs
  empty_is [] h = h
  empty_is (x ∷ xs) h = refl

  pub by_port_is : (taken : Bool) → taken ≡ list_any (λ other. other.port == entry.port) earlier → fault_if taken 4 number entry.port ≡ grant_fault count number (devices_of earlier) (ports_of earlier) entry
  by_port_is taken is =
      ap (λ f. or_fault f (fault_if taken 4 number entry.port)) (apart ∙ ap (devices_fault count number (devices_of earlier)) same)
      ∙ (λ i. by_port (empty_is entry.devices some i) (sym (ne_eqb entry.port 0 port) i) ((is ∙ any_ports entry.port earlier) i))

pub item_at : (xs : List ℕ) (at x : ℕ) → at < length xs → x ≡ get_or xs at 0 → x ≡ get_or xs at x
item_at xs at x lt is = is ∙ same_at xs at 0 x lt

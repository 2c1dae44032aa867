-- The lines of `check`.
use Rattle.std.proofs.Common.{◌≡◌, ℕ, zero, suc, ◌+◌, ◌*◌, ◌^◌, ◌≤◌, ◌<◌, Bool, List, [], ◌∷◌, ◌++◌, length, drop, refl, ap, sym, subst, ◌∙◌, arith, append_assoc, Some, None, get_or}
use Rattle.std.specs.declared.option.Option.{Option}
use Rattle.std.specs.List.{sum_by, filter_map, cons_option, flat_map, All}
use Rattle.std.specs.Prelude.{slice_get, codes}
use Rattle.std.specs.Fmt.{decimal}
use Rattle.std.specs.Option.{option_map}
use Rattle.std.proofs.Math.Nat.{mod-eq_of_lt}
use Rattle.std.proofs.lemmas.Option.{get_or_from_slice_get}
use Rattle.std.proofs.lemmas.List.{drop_more, drop_all, append-nil}
use Rattle.std.proofs.lemmas.List.Sums.{sum_by-cons}
use Rattle.scan_bits.specs.Words.{bits_of, number_of}
use Rattle.part_model.specs.declared.Net.{Net}
use Rattle.part_model.specs.Parts.{DeviceType}
use Rattle.grant_table.specs.declared.Protocol.{Protocol}
use Rattle.grant_table.specs.Layouts.{LayoutShape, GrantShape, group_of, longest_of}
use Rattle.base_types.specs.Tellings.{Told}
use Rattle.scan_bits.proofs.WordLaws.{number_of-bits_of}
use Rattle.text_lines.specs.Hex.{hex, hex_digits}
use Rattle.share_top.specs.Checks.{group_bits, grant_text, device_list, net_line, net_lines, grant_line, grant_lines, device_line, device_lines}

-- ---- the instruction bits of a group

abbrev pub ir_length : DeviceType → ℕ
ir_length part = part.ir_length

-- the places before one are summed up
pub record BitsSummed (parts : List DeviceType) (group : List ℕ) (at bits : ℕ) : Type 0 where
  pub is : bits + sum_by ir_length (filter_map (slice_get parts) (drop at group)) ≡ sum_by ir_length (filter_map (slice_get parts) group)
  pub most : bits ≤ 2 ^ 32 * at

pub bits_more : (parts : List DeviceType) (group : List ℕ) (at bits place : ℕ) (part : DeviceType) (more : ℕ) → BitsSummed parts group at bits → at < length group → place ≡ get_or group at place
    → slice_get parts place ≡ Some part → more ≡ part.ir_length → more < 2 ^ 32 → BitsSummed parts group (at + 1) (bits + more)
bits_more parts group at bits place part more so lt item there more_is few =
    let rest : drop at group ≡ place ∷ drop (at + 1) group = drop_more group at place lt ∙ ap (λ p. p ∷ drop (at + 1) group) (sym item) in
    let found : filter_map (slice_get parts) (drop at group) ≡ part ∷ filter_map (slice_get parts) (drop (at + 1) group) =
    ap (filter_map (slice_get parts)) rest ∙ ap (λ o. cons_option o (filter_map (slice_get parts) (drop (at + 1) group))) there in
    let split : sum_by ir_length (filter_map (slice_get parts) (drop at group)) ≡ part.ir_length + sum_by ir_length (filter_map (slice_get parts) (drop (at + 1) group)) =
    ap (sum_by ir_length) found ∙ sum_by-cons ir_length part (filter_map (slice_get parts) (drop (at + 1) group)) in
    record { is = omega (arith, so.is, split, more_is); most = omega (arith, so.most, few) }

-- ---- the lines of nets

pub net_lines_more : (nets : List Net) (at : ℕ) (default : Net) → at < length nets → net_lines (at + 1) (drop at nets) ≡ net_line (at + 1) (get_or nets at default) ++ net_lines (at + 1 + 1) (drop (at + 1) nets)
net_lines_more nets at default lt = ap (net_lines (at + 1)) (drop_more nets at default lt)

pub net_lines_end : (nets : List Net) (at : ℕ) → length nets ≤ at → net_lines (at + 1) (drop at nets) ≡ []
net_lines_end nets at end = ap (net_lines (at + 1)) (drop_all at nets end)

pub grant_lines_more : (layout : LayoutShape) (grants : List GrantShape) (at : ℕ) (grant : GrantShape) → at < length grants → grant ≡ get_or grants at grant
    → grant_lines layout (at + 1) (drop at grants) ≡ grant_line layout (at + 1) grant ++ grant_lines layout (at + 1 + 1) (drop (at + 1) grants)
grant_lines_more layout grants at grant lt item = ap (grant_lines layout (at + 1)) (drop_more grants at grant lt ∙ ap (λ n. n ∷ drop (at + 1) grants) (sym item))

pub grant_lines_end : (layout : LayoutShape) (grants : List GrantShape) (at : ℕ) → length grants ≤ at → grant_lines layout (at + 1) (drop at grants) ≡ []
grant_lines_end layout grants at end = ap (grant_lines layout (at + 1)) (drop_all at grants end)

pub device_lines_more : (names : List (List ℕ)) (parts : List DeviceType) (at : ℕ) (default : List ℕ) (part : DeviceType) → at < length names → at < length parts → slice_get parts at ≡ Some part
    → device_lines (at + 1) (drop at names) (drop at parts) ≡ device_line (at + 1) (get_or names at default) part ++ device_lines (at + 1 + 1) (drop (at + 1) names) (drop (at + 1) parts)
device_lines_more names parts at default part named lt there =
    λ i. device_lines (at + 1) (drop_more names at default named i) ((drop_more parts at part lt ∙ ap (λ n. n ∷ drop (at + 1) parts) (get_or_from_slice_get parts at part part there)) i)

pub device_lines_end : (names : List (List ℕ)) (parts : List DeviceType) (at : ℕ) → length names ≤ at → device_lines (at + 1) (drop at names) (drop at parts) ≡ []
device_lines_end names parts at end = ap (λ n. device_lines (at + 1) n (drop at parts)) (drop_all at names end)

-- ---- the list of devices

abbrev pub listed : ℕ → List ℕ
listed place = codes "," ++ decimal (place + 1)

-- the first places of a group stand behind what stood there before
pub record Listing (before group line : List ℕ) (at : ℕ) : Type 0 where
  pub is : line ++ flat_map listed (drop (at + 1) group) ≡ before ++ device_list group
  pub room : length line ≤ length before + 21 * (at + 1)

-- ---- codes as numbers

code_number : (count code : ℕ) (bits : List Bool) → bits_of count code ≡ bits → code < 2 ^ count → number_of bits ≡ code
code_number count code bits is few = ap number_of (sym is) ∙ number_of-bits_of count code ∙ mod-eq_of_lt few

pub code_shown : (count code : ℕ) (bits : List Bool) → bits_of count code ≡ bits → code < 2 ^ count → hex code ≡ hex (number_of bits)
code_shown count code bits is few = ap hex (sym (code_number count code bits is few))

pub code_digits : (code number : ℕ) → code < 2 ^ 32 → number ≡ code → hex_digits 8 number ≡ hex_digits 8 (number_of (bits_of 32 code))
code_digits code number few same = ap (hex_digits 8) (same ∙ sym (code_number 32 code (bits_of 32 code) refl few))

-- ---- the list of devices, one after another

module _ (before group rest : List ℕ) (first : ℕ) (split : group ≡ first ∷ rest) where
  pub low_rest : All (λ place. place < 32) group → (at : ℕ) → at < length rest → get_or rest at 0 < 32
  low_rest low at lt = subst (All (λ place. place < 32)) split low (suc at) 0 (omega (arith, lt))

  pub listing_starts : (line : List ℕ) → line ≡ (before ++ []) ++ decimal (first + 1) → length line ≤ length before + 0 + 20 → Listing before group line 0
  listing_starts line is room = record {
    is = (λ i. is i ++ flat_map listed (drop 1 (split i)))
        ∙ append_assoc (before ++ []) (decimal (first + 1)) (flat_map listed rest)
        ∙ ap (λ b. b ++ device_list (first ∷ rest)) (append-nil before) ∙ ap (λ g. before ++ device_list g) (sym split);
    room = omega (arith, room);
  }

  left_is : (at : ℕ) → drop (at + 1) group ≡ drop at rest
  left_is at = (λ i. drop (step i) (split i))
    where
      step : at + 1 ≡ suc at
      step = omega arith

  pub listing_more : (line new : List ℕ) (at : ℕ) → at < length rest → new ≡ (line ++ codes ",") ++ decimal (get_or rest at 0 + 1) → length new ≤ length line + 1 + 20 → Listing before group line at → Listing before group new (at + 1)
  listing_more line new at lt is room so = record {
    is = (λ i. is i ++ flat_map listed (left_is (at + 1) i))
        ∙ append_assoc (line ++ codes ",") (decimal (get_or rest at 0 + 1)) (flat_map listed (drop (at + 1) rest))
        ∙ append_assoc line (codes ",") (decimal (get_or rest at 0 + 1) ++ flat_map listed (drop (at + 1) rest))
        ∙ ap (λ l. line ++ flat_map listed l) (sym (left_is at ∙ drop_more rest at 0 lt)) ∙ so.is;
    room = omega (arith, room, so.room);
  }

  pub listing_ends : (line : List ℕ) (at : ℕ) → length rest ≤ at → Listing before group line at → line ≡ before ++ device_list group
  listing_ends line at end so = sym (append-nil line) ∙ ap (λ l. line ++ flat_map listed l) (sym (left_is at ∙ drop_all at rest end)) ∙ so.is

-- ---- the line of a grant of a layout

present : (grants : List GrantShape) (at : ℕ) → at < length grants → (shape : GrantShape) × (slice_get grants at ≡ Some shape)
present [] at lt = absurd (omega (arith, lt))
present (shape ∷ grants) zero lt = (shape, refl)
present (shape ∷ grants) (suc at) lt = present grants at (omega (arith, lt))

group_is : (grants : List GrantShape) (at : ℕ) (shape : GrantShape) → slice_get grants at ≡ Some shape → group_of grants at ≡ shape.group
group_is [] at shape is = absurd (let q : None ≡ Some shape = is in cc)
group_is (own ∷ grants) zero shape is = let same : own ≡ shape = cc is in ap (λ s. s.group) same
group_is (own ∷ grants) (suc at) shape is = group_is grants at shape is

pub grant_told : (layout : LayoutShape) (at : ℕ) (text : List ℕ) (protocol : Protocol) (port : ℕ) (group : List ℕ) (bits most number : ℕ) → text ≡ grant_text number protocol port group bits most → number ≡ at + 1
    → option_map (λ (s : GrantShape). s.protocol) (slice_get layout.grants at) ≡ Some protocol → option_map (λ (s : GrantShape). s.port) (slice_get layout.grants at) ≡ Some port
    → group ≡ group_of layout.grants at → bits ≡ group_bits layout (group_of layout.grants at) → most ≡ longest_of layout (group_of layout.grants at)
    → Told (slice_get layout.grants at) (λ shape. text ≡ grant_line layout (at + 1) shape)
grant_told layout at text protocol port group bits most number text_is number_is protocol_is port_is is bits_are most_is = go (slice_get layout.grants at) refl protocol_is port_is
  where
    go : (o : Option GrantShape) → slice_get layout.grants at ≡ o → option_map (λ (s : GrantShape). s.protocol) o ≡ Some protocol → option_map (λ (s : GrantShape). s.port) o ≡ Some port → Told o (λ shape. text ≡ grant_line layout (at + 1) shape)
    go None there p q = tt
    go (Some shape) there p q =
        let same : group_of layout.grants at ≡ shape.group = group_is layout.grants at shape there in
        let protocol_same : protocol ≡ shape.protocol = cc p in
        let port_same : port ≡ shape.port = cc q in
        text_is ∙ (λ i. grant_text (number_is i) (protocol_same i) (port_same i) ((is ∙ same) i) ((bits_are ∙ ap (group_bits layout) same) i) ((most_is ∙ ap (longest_of layout) same) i))

-- the line of the grant at a place
pub record GrantLine (layout : LayoutShape) (grants : List GrantShape) (at : ℕ) (text : List ℕ) : Type 0 where
  pub shape : GrantShape
  pub is : shape ≡ get_or grants at shape
  pub text_is : text ≡ grant_line layout (at + 1) shape

pub line_of_grant : (layout : LayoutShape) (grants : List GrantShape) (at : ℕ) (text : List ℕ) → at < length grants → Told (slice_get grants at) (λ shape. text ≡ grant_line layout (at + 1) shape) → GrantLine layout grants at text
line_of_grant layout grants at text lt told =
    let there = present grants at lt in
    record {
      shape = there.0;
      is = sym (get_or_from_slice_get grants at there.0 there.0 there.1);
      text_is = subst (λ o. Told o (λ shape. text ≡ grant_line layout (at + 1) shape)) there.1 told;
    }

-- ---- names

pub name_at : (names : List (List ℕ)) (at : ℕ) (name default : List ℕ) → at < length names → name ≡ get_or names at name → name ≡ get_or names at default
name_at [] at name default lt is = absurd (omega (arith, lt))
name_at (first ∷ names) zero name default lt is = is
name_at (first ∷ names) (suc at) name default lt is = name_at names at name default (omega (arith, lt)) is

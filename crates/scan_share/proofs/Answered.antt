-- What a capture leaves, with the list that it fills.
use Rattle.std.proofs.Common.{◌≡◌, ◌≢◌, ◌≤◌, ℕ, Bool, true, false, List, [], ◌∷◌, ◌++◌, length, ap, sym, subst, ◌∙◌}
use Rattle.std.specs.declared.option.Option.{Option}
use Rattle.std.proofs.lemmas.List.{append-nil}
use Rattle.base_types.specs.Tellings.{Told, Both}
use Rattle.scan_bits.specs.Registers.{joined}
use Rattle.chain_model.specs.Chains.{ChainState}
use Rattle.grant_table.specs.Kept.{AllParts}
use Rattle.grant_table.specs.Layouts.{LayoutShape, group_of}
use Rattle.scan_share.specs.PrivateChains.{entries_at}
use Rattle.scan_share.specs.Scans.{Captures, IsReadOut, IsWhole, codes_during, group_bits, scan_length, widths_during}
use Rattle.scan_share.specs.Codes.{AreCodes}
use Rattle.scan_share.specs.Rows.{ScanView, chosen, own_codes, scan_codes}
use Rattle.scan_share.specs.Laws.{IsGroup, own_bits}
use Rattle.scan_share.specs.Parts.{ScansOut}
use Rattle.scan_share.specs.Views.{AsksAtMost, RestsWith, OpenWith, IsLoadedFor, codes_for, own_width, capture_calls}
use Rattle.scan_share.proofs.Ready.{scan_is}
use Rattle.scan_share.proofs.OwnWidths.{own_long}
use Rattle.scan_share.proofs.Scanned.{CaptureFacts, capture_facts}

-- the bits of a list, and those that are chosen of more
abbrev pub with_chosen : List Bool → List Bool → List Bool → List Bool
with_chosen bits places more = bits ++ chosen places more

none_chosen : (bits places : List Bool) → with_chosen bits places [] ≡ bits
none_chosen bits [] = append-nil bits
none_chosen bits (place ∷ places) = append-nil bits

pub record CaptureLeft (layout : LayoutShape) (grant : ℕ) (words wanted : List ℕ) (a c : Option ChainState) (x z : Option (List Bool)) (into : List Bool) : Type 0 where
  pub captured : Both a c (Captures layout (group_of layout.grants grant) (codes_for layout grant words) into)
  pub read : Both x z (λ before after. IsReadOut layout (group_of layout.grants grant) (codes_for layout grant words) before after into)
  pub long : length into ≡ own_width layout grant words
  pub whole : Told c (IsWhole layout)
  pub held : Told c (OpenWith wanted)
  pub asked : Both a c (AsksAtMost (capture_calls layout grant words))

pub capture_left : (layout : LayoutShape) (grant : ℕ) (words loaded wanted : List ℕ) (same : Bool) (bits : List Bool) (count : ℕ) (a c : Option ChainState) (x z : Option (List Bool)) (before places into rest : List Bool)
    → AllParts layout.parts → 1 ≤ length layout.parts → IsGroup layout (group_of layout.grants grant) → AreCodes (entries_at layout.parts (group_of layout.grants grant)) words
    → bits ≡ joined (codes_during layout (group_of layout.grants grant) (codes_for layout grant words)) → count ≡ scan_length layout (group_of layout.grants grant) (codes_for layout grant words)
    → IsLoadedFor layout grant words wanted → (same ≡ true → loaded ≡ wanted) → (same ≡ false → loaded ≢ wanted)
    → Told a (IsWhole layout) → Told a (RestsWith loaded) → ScansOut same bits a c x z (with_chosen before places) (with_chosen into rest) count
    → ((out : List Bool) → length out ≡ scan_length layout (group_of layout.grants grant) (codes_for layout grant words) → with_chosen before places out ≡ own_bits layout (group_of layout.grants grant) (codes_for layout grant words) out)
    → CaptureLeft layout grant words wanted a c x z into
capture_left layout grant words loaded wanted same bits count a c x z before places into rest parts some is are bits_are count_is wanted_is equal other whole rests scanned kept =
    record {
      captured = subst (λ b. Both a c (Captures layout group codes b)) (sym into_is) facts.reads.captures;
      read = subst (λ b. Both x z (λ old new. IsReadOut layout group codes old new b)) (sym into_is) facts.reads.read;
      long = ap length into_is ∙ own_long layout group codes facts.reads.out (scan_is layout (group_of layout.grants grant) words parts some is are) facts.reads.counted;
      whole = facts.whole;
      held = facts.held;
      asked = facts.asked;
    }
  where
    group : List ℕ
    group = group_of layout.grants grant

    codes : List (List Bool)
    codes = codes_for layout grant words

    facts : CaptureFacts layout grant words wanted a c x z (with_chosen before places) (with_chosen into rest)
    facts = capture_facts layout grant words loaded wanted same bits count a c x z (with_chosen before places) (with_chosen into rest) parts some is are bits_are count_is wanted_is equal other whole rests scanned

    into_is : into ≡ own_bits layout (group_of layout.grants grant) (codes_for layout grant words) facts.reads.out
    into_is = sym (none_chosen into rest) ∙ facts.reads.held [] ∙ ap (with_chosen before places) (append-nil facts.reads.out) ∙ kept facts.reads.out facts.reads.counted

-- what the sink of a grant keeps, behind a list without bits
pub kept_by : (layout : LayoutShape) (grant : ℕ) (words : List ℕ) (scan : ScanView) (group : List ℕ) (before places : List Bool)
    → scan ≡ record { layout = layout; group = group; codes = words } → group ≡ group_of layout.grants grant → before ≡ []
    → ((out : List Bool) → length out ≡ scan_length scan.layout scan.group (own_codes scan) → chosen places out ≡ group_bits scan.group (widths_during scan.layout.parts (scan_codes scan)) out)
    → (out : List Bool) → length out ≡ scan_length layout (group_of layout.grants grant) (codes_for layout grant words)
    → with_chosen before places out ≡ own_bits layout (group_of layout.grants grant) (codes_for layout grant words) out
kept_by layout grant words scan group before places scan_is group_is empty read out long =
    ap (λ b. with_chosen b places out) empty
    ∙ subst (λ (s : ScanView). (bits : List Bool) → length bits ≡ scan_length s.layout s.group (own_codes s) → chosen places bits ≡ group_bits s.group (widths_during s.layout.parts (scan_codes s)) bits)
    (scan_is ∙ (λ i. record { layout = layout; group = group_is i; codes = words })) read out long

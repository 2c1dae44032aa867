-- The shared chain beside the private chain of a seat, while a scan of the grant is opened and closed.
use Rattle.std.proofs.Common.{◌≡◌, ◌≤◌, ◌<◌, ◌-◌, ◌==◌, ℕ, List, [], ◌∷◌, map, length, refl, ap, sym, ◌∙◌, subst, arith, Some, None, inl, inr, slice_get, set}
use Rattle.std.specs.declared.option.Option.{Option}
use Rattle.std.proofs.lemmas.Bool.{cases_lt}
use Rattle.std.proofs.lemmas.List.{length-map}
use Rattle.base_types.specs.Counts.{raised}
use Rattle.chain_model.specs.Chains.{ChainState, Content}
use Rattle.tap_states.specs.declared.Tap.{Tap}
use Rattle.grant_table.specs.Layouts.{LayoutShape, first_place}
use Rattle.grant_table.specs.Kept.{AllParts}
use Rattle.scan_share.specs.PrivateChains.{entries_at, nets_within}
use Rattle.scan_share.specs.Scans.{code_list, contents_of, types_of, with_contents, group_chain, IsWhole, IsMadeOf}
use Rattle.scan_share.proofs.Facts.{IsGroup}
use Rattle.scan_share.proofs.Lookups.{same_entries, entry_past, length-entries_at, entry_at, found, content_at, picked, placed, entry_within, length-slice_set}
use Rattle.scan_share.proofs.Kept.{entries_map, entries_each}
use Rattle.scan_share.proofs.MadeOf.{all_sound}
use Rattle.client_session.specs.Seats.{Seat, advanced}
use Rattle.client_session.specs.Turns.{Turn}
use Rattle.client_session.specs.Paces.{IsSeatOver}
use Rattle.client_session.specs.Sessions.{DeskView, Serves}
use Rattle.client_session.specs.Going.{Follows}
use Rattle.client_session.proofs.Kept.{advanced_over}
use Rattle.client_session.proofs.Alike.{Agree, coded_parts, coded_codes, coded_contents}

-- ---- contents of a group among those of all

picked_past : {X : Type 0} (o : Option ℕ) (one two : List X) (other : Option X) → picked o one (picked o two other) ≡ picked o one other
picked_past None one two other = refl
picked_past (Some g) one two other = refl

module _ (group : List ℕ) (own : List Content) (all : List Content) (is : IsGroup group (length all)) (size : length own ≡ length group) where
  length-with : length (with_contents group own all) ≡ length all
  length-with = go group own all
    where
      go : (g : List ℕ) (o a : List Content) → length (with_contents g o a) ≡ length a
      go [] o a = refl
      go (place ∷ g) [] a = refl
      go (place ∷ g) (x ∷ o) a = go g o (set a place x) ∙ length-slice_set a place x

  pub entries_with : entries_at (with_contents group own all) group ≡ own
  entries_with = same_entries (entries_at (with_contents group own all) group) own (λ i. elim (cases_lt i (length group)) [ inl lt ↦ inside i (entry_within group i lt) | inr ge ↦ past i ge ])
    where
      within : (g place : ℕ) → slice_get group g ≡ Some place → place < length (with_contents group own all)
      within g place at = omega (arith, is.within g place at, length-with)

      inside : (i : ℕ) → (place : ℕ) × (slice_get group i ≡ Some place) → slice_get (entries_at (with_contents group own all) group) i ≡ slice_get own i
      inside i at =
          entry_at (with_contents group own all) group within i at.0 at.1
          ∙ content_at group own all is.apart size is.within at.0
          ∙ ap (λ o. picked o own (slice_get all at.0)) (found group is.apart i at.0 at.1)

      past : (i : ℕ) → length group ≤ i → slice_get (entries_at (with_contents group own all) group) i ≡ slice_get own i
      past i ge = entry_past (entries_at (with_contents group own all) group) i (omega (arith, ge, length-entries_at (with_contents group own all) group within)) ∙ sym (entry_past own i (omega (arith, ge, size)))

  pub with_twice : (before : List Content) → length before ≡ length group → with_contents group own (with_contents group before all) ≡ with_contents group own all
  with_twice before count = same_entries (with_contents group own (with_contents group before all)) (with_contents group own all) (λ i.
      content_at group own (with_contents group before all) is.apart size (λ g place at. omega (arith, is.within g place at, long)) i
      ∙ ap (picked (first_place (λ p. p == i) group) own) (content_at group before all is.apart count is.within i)
      ∙ picked_past (first_place (λ p. p == i) group) own before (slice_get all i)
      ∙ sym (content_at group own all is.apart size is.within i))
    where
      long : length (with_contents group before all) ≡ length all
      long = go group before all
        where
          go : (g : List ℕ) (o a : List Content) → length (with_contents g o a) ≡ length a
          go [] o a = refl
          go (place ∷ g) [] a = refl
          go (place ∷ g) (x ∷ o) a = go g o (set a place x) ∙ length-slice_set a place x

  -- what the group holds already changes nothing
  pub with_same : own ≡ entries_at all group → with_contents group own all ≡ all
  with_same same = same_entries (with_contents group own all) all (λ i. content_at group own all is.apart size is.within i ∙ by i (first_place (λ p. p == i) group) refl)
    where
      by : (i : ℕ) (o : Option ℕ) → first_place (λ p. p == i) group ≡ o → picked o own (slice_get all i) ≡ slice_get all i
      by i None e = refl
      by i (Some g) e = ap (λ xs. slice_get xs g) same ∙ entry_at all group is.within g i (placed group i g e)

-- ---- a desk that serves a turn

module _ (layout : LayoutShape) (group : List ℕ) (grant : ℕ) (is : IsGroup group (length layout.parts)) where
  length-contents : (chain : ChainState) → IsWhole layout chain → length (contents_of chain) ≡ length layout.parts
  length-contents chain whole = length-map chain.devices (λ d. d.content) ∙ sym (length-map chain.devices (λ d. d.part)) ∙ ap length whole.parts_are

  among : (chain : ChainState) → IsWhole layout chain → IsGroup group (length (contents_of chain))
  among chain whole = record { within = λ g place at. omega (arith, is.within g place at, length-contents chain whole); apart = is.apart }

  -- the seat's chain has a device for each place of the group
  own_count : (chain : ChainState) → IsMadeOf (entries_at layout.parts group) (nets_within group layout.nets) chain → length (contents_of chain) ≡ length group
  own_count chain made =
      length-map chain.devices (λ d. d.content) ∙ sym (length-map chain.devices (λ d. d.part)) ∙ ap length made.parts_are ∙ length-entries_at layout.parts group is.within

  -- the group's devices on the shared chain, with the seat's codes, agree with the seat's devices
  pub agree : (state : Tap) (desk : DeskView) (turn : Turn) → Serves layout group grant desk turn → Agree (group_chain state group layout.nets (code_list turn.seat.chain) desk.chain) turn.seat.chain
  agree state desk turn serves =
      let own = entries_at desk.chain.devices group in
      let chain = turn.seat.chain in
      let made = serves.over.made in
      let parts : map (λ d. d.part) own ≡ types_of chain = entries_map (λ d. d.part) desk.chain.devices group ∙ ap (λ ps. entries_at ps group) serves.whole.parts_are ∙ sym made.parts_are in
      let size : length (code_list chain) ≡ length own =
      length-map chain.devices (λ d. d.code) ∙ sym (length-map chain.devices (λ d. d.part)) ∙ ap length (sym parts) ∙ length-map own (λ d. d.part) in
      record {
        nets = sym made.nets_are;
        parts = coded_parts own (code_list chain) ∙ parts;
        codes = coded_codes own (code_list chain) size;
        contents = coded_contents own (code_list chain) ∙ entries_map (λ d. d.content) desk.chain.devices group ∙ serves.contents;
      }

  -- a desk that was changed for the grant, and serves the next turn
  pub follows_on : (base_desk desk desk_new : DeskView) (base turn next : Turn) → Follows layout group grant base_desk base desk turn
      → ((holder : ℕ) → desk.holder ≡ Some holder → holder ≡ grant) → Serves layout group grant desk_new next
      → contents_of desk_new.chain ≡ with_contents group (contents_of next.seat.chain) (contents_of desk.chain)
      → IsWhole layout base_desk.chain → turn.cost ≤ next.cost → desk_new.chain.made ≤ raised desk.chain.made (next.cost - turn.cost)
      → Follows layout group grant base_desk base desk_new next
  follows_on base_desk desk desk_new base turn next follows own serves contents whole due made = record {
    serves = serves;
    others =
        contents ∙ ap (with_contents group (contents_of next.seat.chain)) follows.others
        ∙ with_twice group (contents_of next.seat.chain) (contents_of base_desk.chain) (among base_desk.chain whole) (own_count next.seat.chain serves.over.made)
        (contents_of turn.seat.chain) (own_count turn.seat.chain follows.serves.over.made);
    held = λ holder at other. absurd (other (own holder (follows.held holder at other)));
    untouched = λ holder at other. absurd (other (own holder (follows.held holder at other)));
    due = omega (arith, follows.due);
    made = omega (arith, follows.due, follows.made, made);
  }

  -- where a call begins
  pub follows_none : (desk : DeskView) (turn : Turn) → Serves layout group grant desk turn → Follows layout group grant desk turn desk turn
  follows_none desk turn serves = record {
    serves = serves;
    others = sym (with_same group (contents_of turn.seat.chain) (contents_of desk.chain) (among desk.chain serves.whole) (own_count turn.seat.chain serves.over.made) (sym serves.contents));
    held = λ holder at other. at;
    untouched = λ holder at other. (refl, refl);
    due = omega arith;
    made = omega (arith, serves.counted);
  }

  -- the seat after a step is still over the group
  pub over_on : AllParts layout.parts → (seat : Seat) → IsSeatOver seat.protocol (entries_at layout.parts group) (nets_within group layout.nets) seat
      → IsSeatOver (advanced seat).protocol (entries_at layout.parts group) (nets_within group layout.nets) (advanced seat)
  over_on parts seat over =
      let next = advanced_over (entries_at layout.parts group) (nets_within group layout.nets) (entries_each _ layout.parts group (all_sound layout.parts parts)) seat.protocol seat over in
      subst (λ p. IsSeatOver p (entries_at layout.parts group) (nets_within group layout.nets) (advanced seat)) (sym next.protocol_is) next

  -- what the group's devices hold after a change
  pub entries_after : (desk : DeskView) (turn : Turn) (new : Seat) → Serves layout group grant desk turn → IsMadeOf (entries_at layout.parts group) (nets_within group layout.nets) new.chain
      → (chain : ChainState) → contents_of chain ≡ with_contents group (contents_of new.chain) (contents_of desk.chain) → entries_at (contents_of chain) group ≡ contents_of new.chain
  entries_after desk turn new serves made chain contents =
      ap (λ all. entries_at all group) contents ∙ entries_with group (contents_of new.chain) (contents_of desk.chain) (among desk.chain serves.whole) (own_count new.chain made)

  -- and where they hold what they held
  pub held_still : (desk : DeskView) (turn : Turn) (new : Seat) → Serves layout group grant desk turn → contents_of new.chain ≡ contents_of turn.seat.chain
      → (chain : ChainState) → contents_of chain ≡ contents_of desk.chain → contents_of chain ≡ with_contents group (contents_of new.chain) (contents_of desk.chain)
  held_still desk turn new serves same chain contents =
      contents
      ∙ sym (with_same group (contents_of turn.seat.chain) (contents_of desk.chain) (among desk.chain serves.whole) (own_count turn.seat.chain serves.over.made) (sym serves.contents))
      ∙ ap (λ own. with_contents group own (contents_of desk.chain)) (sym same)

-- A table stays fit where a reply was given.
use Rattle.std.proofs.Common.{◌≡◌, ◌≤◌, ℕ, Bool, true, List, map, length, refl, ap, sym, ◌∙◌, subst, arith, inl, inr}
use Rattle.std.specs.Prelude.{vec_capacity}
use Rattle.std.specs.declared.option.Option.{Option}
use Rattle.std.specs.List.{slice_index_or, slice_set}
use Rattle.std.proofs.lemmas.Bool.Decides.{eqb_tells}
use Rattle.std.proofs.lemmas.List.{get_or-set_other, length-set}
use Rattle.base_types.specs.Tellings.{Told}
use Rattle.chain_model.specs.Chains.{ChainState}
use Rattle.chain_token.specs.declared.token.Token.{Token}
use Rattle.chain_token.specs.Waiting.{IsQueue, is_among}
use Rattle.grant_table.specs.Apart.{KeepsApart}
use Rattle.grant_table.specs.Faults.{IsLayout}
use Rattle.grant_table.specs.Kept.{AllParts}
use Rattle.grant_table.specs.Layouts.{LayoutShape, group_of}
use Rattle.scan_share.specs.PrivateChains.{entries_at}
use Rattle.scan_share.specs.Scans.{IsWhole}
use Rattle.scan_share.specs.Views.{ParkedView, OpenView}
use Rattle.client_session.specs.Sessions.{is_in_line, is_taken}
use Rattle.client_session.specs.Desks.{IsDesk, cable_of}
use Rattle.plays.proofs.Lists.{own_or_same}
use Rattle.session_table.specs.declared.Ended.{Ended}
use Rattle.session_table.specs.declared.seats.Seat.{Seat as Entry}
use Rattle.session_table.specs.declared.seats.Seats.{Seats}
use Rattle.session_table.specs.declared.table.Slot.{Slot}
use Rattle.session_table.specs.declared.table.Slot.TheVariants.{Free}
use Rattle.session_table.specs.declared.table.Slot.TheVariants as slots
use Rattle.session_table.specs.AtDesk.{EntryAtDesk, EntryFits, MayServe, Replies, SeatsFit, entry, no_entry, session_at}
use Rattle.session_table.specs.Fits.{SlotServes, TableFits}

module _ (grant : ℕ) (reply : List ℕ) (old new : Seats) (replies : Replies grant reply old new) where
  abbrev changed : Entry
  changed = record (entry old grant) { session = record (entry old grant).session { view = record (session_at old grant) { reply = reply } } }

  -- all but the reply stays
  keeps : {A : Type 0} (f : Entry → A) → f changed ≡ f (entry old grant) → (other : ℕ) → f (entry new other) ≡ f (entry old other)
  keeps f same other = ap (λ xs. f (slice_index_or xs other no_entry)) replies.list ∙ elim (eqb_tells other grant) [
    | inl e ↦ subst (λ g. f (slice_index_or (slice_set old.list.items grant changed) g no_entry) ≡ f (entry old g)) (sym e.1) (elim (own_or_same old.list.items grant changed no_entry) [
      | inl own ↦ ap f own ∙ same
      | inr back ↦ ap f back
    ])
    | inr n ↦ ap f (get_or-set_other old.list.items grant other changed no_entry n.1)
  ]

  long : length new.list.items ≡ length old.list.items
  long = ap length replies.list ∙ length-set old.list.items grant changed

  fits_still : SeatsFit old → SeatsFit new
  fits_still fits = record {
    is = subst (λ l. IsLayout l) (sym replies.else_same.layout) fits.is;
    apart = subst (λ l. KeepsApart l) (sym replies.else_same.layout) fits.apart;
    parts = subst (λ (l : LayoutShape). AllParts l.parts) (sym replies.else_same.layout) fits.parts;
    count = long ∙ fits.count ∙ ap (λ (l : LayoutShape). length l.grants) (sym replies.else_same.layout);
    flags = ap (λ (v : _). length v.items) replies.ready ∙ fits.flags ∙ ap (λ (l : LayoutShape). length l.grants) (sym replies.else_same.layout);
    few = omega (arith, fits.few, long);
    room = subst (λ (v : _). 16 ≤ vec_capacity v) (sym replies.ended) fits.room;
    each = λ other below.
        let at = fits.each other (omega (arith, below, long)) in
        subst (λ l. EntryFits l new.uses_trst other (entry new other)) (sym replies.else_same.layout)
        (subst (λ t. EntryFits old.layout t other (entry new other)) (sym replies.else_same.trst) (record {
          grant_is = keeps (λ (e : Entry). e.session.grant) refl other ∙ at.grant_is;
          layout_is = ap (λ g. entries_at old.layout.parts (group_of old.layout.grants g)) (keeps (λ (e : Entry). e.session.grant) refl other) ∙ at.layout_is ∙ sym (keeps (λ (e : Entry). e.session.parts) refl other);
          trst_is = keeps (λ (e : Entry). e.session.view.uses_trst) refl other ∙ at.trst_is;
        }));
    once = subst (λ (v : _). IsQueue (map (λ (e : Ended). e.grant) v.items)) (sym replies.ended) fits.once;
    free = λ other among. ap is_taken (keeps (λ (e : Entry). e.session.view.stand) refl other) ∙ fits.free other (subst (λ (v : _). is_among other (map (λ (e : Ended). e.grant) v.items) ≡ true) replies.ended among);
  }

  may_still : {C : Type 0} (desk : Token (ParkedView C) (OpenView C)) (told : Option ChainState) (trst : Bool) → MayServe old desk told trst → MayServe new desk told trst
  may_still desk told trst may = record {
    fits = fits_still may.fits;
    at_desk = record {
      each = λ other below.
          let at = may.at_desk.each other (omega (arith, below, long)) in
          subst (λ l. EntryAtDesk l other (session_at new other) desk) (sym replies.else_same.layout) (record {
            fit = keeps (λ (e : Entry). e.session.view.spent) refl other ∙ at.fit;
            desk_is = subst (λ t. IsDesk old.layout other t desk) (sym (keeps (λ (e : Entry). e.session.view.tap) refl other)) at.desk_is;
            line = at.line ∙ ap is_in_line (sym (keeps (λ (e : Entry). e.session.view.stand) refl other));
          });
      within = λ other among. omega (arith, may.at_desk.within other among, long);
    };
    whole = subst (λ l. Told told (IsWhole l)) (sym replies.else_same.layout) may.whole;
    trst = λ uses. may.trst (sym replies.else_same.trst ∙ uses);
  }

  pub fit_still : {C : Type 0} (slot : Slot C) (chain : C → Option ChainState) (trst : C → Bool) → TableFits old slot chain trst → TableFits new slot chain trst
  fit_still slot chain trst fits = record {
    flags = ap (λ (v : _). length v.items) replies.ready ∙ fits.flags ∙ sym long;
    serves = by slot fits.serves;
  }
    where
      by : (s : Slot _) → SlotServes old s chain trst → SlotServes new s chain trst
      by slots.Out serves = tt
      by (Free desk) serves = may_still desk (chain (cable_of desk.side)) (trst (cable_of desk.side)) serves
      by (slots.Broken broken) serves = tt

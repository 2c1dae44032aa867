-- A session begins.
use Rattle.std.proofs.Common.{◌≡◌, ◌≢◌, ◌≤◌, ◌<◌, ℕ, zero, suc, Bool, true, false, List, [], ◌∷◌, map, length, refl, ap, sym, ◌∙◌, subst, arith, inl, inr, Some}
use Rattle.std.specs.Prelude.{vec_capacity}
use Rattle.std.specs.declared.option.Option.{Option}
use Rattle.std.specs.List.{slice_index_or, slice_set}
use Rattle.std.proofs.lemmas.Bool.{eq-eqb}
use Rattle.std.proofs.lemmas.Bool.Decides.{eqb_tells}
use Rattle.std.proofs.lemmas.List.{get_or-set_same, get_or-set_other, length-set}
use Rattle.base_types.specs.Tellings.{Told}
use Rattle.chain_model.specs.Chains.{ChainState}
use Rattle.chain_token.specs.declared.token.Side.{Side}
use Rattle.chain_token.specs.declared.token.Side.TheVariants as sides
use Rattle.chain_token.specs.declared.token.Token.{Token}
use Rattle.chain_token.specs.Tokens.{holder, holder_of}
use Rattle.chain_token.specs.Waiting.{IsQueue, is_among}
use Rattle.grant_table.specs.Apart.{KeepsApart}
use Rattle.grant_table.specs.Faults.{IsLayout}
use Rattle.grant_table.specs.Kept.{AllParts}
use Rattle.grant_table.specs.Layouts.{LayoutShape, group_of}
use Rattle.scan_share.specs.PrivateChains.{entries_at}
use Rattle.scan_share.specs.Scans.{IsWhole}
use Rattle.scan_share.specs.Views.{ParkedView, OpenView}
use Rattle.client_session.specs.declared.Stand.{Stand}
use Rattle.client_session.specs.Turns.{is_holder}
use Rattle.client_session.specs.Sessions.{is_in_line}
use Rattle.client_session.specs.Desks.{SideFits, cable_of}
use Rattle.plays.proofs.Lists.{false_true}
use Rattle.session_table.specs.declared.Ended.{Ended}
use Rattle.session_table.specs.declared.seats.Seat.{Seat as Entry}
use Rattle.session_table.specs.declared.seats.Seats.{Seats}
use Rattle.session_table.specs.declared.table.Slot.{Slot}
use Rattle.session_table.specs.declared.table.Slot.TheVariants.{Free}
use Rattle.session_table.specs.declared.table.Slot.TheVariants as slots
use Rattle.session_table.specs.Tables.{TableView, view_at}
use Rattle.session_table.specs.Shown.{holder_in, is_broken, is_out, seat_view, session_end, waiting_in}
use Rattle.session_table.specs.AtDesk.{Begins, EntryAtDesk, EntryFits, MayServe, SeatsFit, entry, no_entry, session_at, stands_at}
use Rattle.session_table.specs.Fits.{SlotServes, TableFits}
use Rattle.session_table.proofs.Telling.{inside_of, map_set, same_cable, view_in, view_of}

pub any_default : {A : Type 0} (xs : List A) (i : ℕ) (a b : A) → i < length xs → slice_index_or xs i a ≡ slice_index_or xs i b
any_default [] i a b lt = absurd (omega (arith, lt))
any_default (x ∷ xs) zero a b lt = refl
any_default (x ∷ xs) (suc i) a b lt = any_default xs i a b (omega (arith, lt))

module _ (grant conn : ℕ) (old new : Seats) (begins : Begins grant conn old new) where
  abbrev begun : Entry
  begun = record { session = (entry new grant).session; conn = conn }

  pub other_begun : (other : ℕ) → other ≢ grant → entry new other ≡ entry old other
  other_begun other n = ap (λ xs. slice_index_or xs other no_entry) begins.list ∙ get_or-set_other old.list.items grant other begun no_entry n

  pub conn_begun : grant < length old.list.items → (entry new grant).conn ≡ conn
  conn_begun lt = ap (λ xs. (slice_index_or xs grant no_entry).conn) begins.list ∙ ap (λ (e : Entry). e.conn) (get_or-set_same old.list.items grant begun no_entry lt)

  pub long_begun : length new.list.items ≡ length old.list.items
  long_begun = ap length begins.list ∙ length-set old.list.items grant begun

  flags_begun : length new.ready.items ≡ length old.ready.items
  flags_begun = ap length begins.ready ∙ length-set old.ready.items grant true

  -- each entry, where it holds of the one that begins and of all others
  for_each : (P : ℕ → Entry → Type 0) → P grant (entry new grant) → (other : ℕ) → P other (entry old other) → P other (entry new other)
  for_each P own other before = elim (eqb_tells other grant) [
    | inl e ↦ subst (λ g. P g (entry new g)) (sym e.1) own
    | inr n ↦ subst (P other) (sym (other_begun other n.1)) before
  ]

  module _ (lt : grant < length old.list.items) where
    fits_begun : SeatsFit old → old.ended.items ≡ [] → SeatsFit new
    fits_begun fits none = record {
      is = subst (λ l. IsLayout l) (sym begins.else_same.layout) fits.is;
      apart = subst (λ l. KeepsApart l) (sym begins.else_same.layout) fits.apart;
      parts = subst (λ (l : LayoutShape). AllParts l.parts) (sym begins.else_same.layout) fits.parts;
      count = long_begun ∙ fits.count ∙ ap (λ (l : LayoutShape). length l.grants) (sym begins.else_same.layout);
      flags = flags_begun ∙ fits.flags ∙ ap (λ (l : LayoutShape). length l.grants) (sym begins.else_same.layout);
      few = omega (arith, fits.few, long_begun);
      room = subst (λ (v : _). 16 ≤ vec_capacity v) (sym begins.ended) fits.room;
      each = λ other below.
          subst (λ l. EntryFits l new.uses_trst other (entry new other)) (sym begins.else_same.layout)
          (subst (λ t. EntryFits old.layout t other (entry new other)) (sym begins.else_same.trst)
          (for_each (EntryFits old.layout old.uses_trst) own other (fits.each other (omega (arith, below, long_begun)))));
      once = subst (λ (v : _). IsQueue (map (λ (e : Ended). e.grant) v.items)) (sym begins.ended) fits.once;
      free = λ other among. false_true (sym (ap (λ (v : _). is_among other (map (λ (e : Ended). e.grant) v.items)) begins.ended ∙ ap (λ xs. is_among other (map (λ (e : Ended). e.grant) xs)) none) ∙ among);
    }
      where
        own : EntryFits old.layout old.uses_trst grant (entry new grant)
        own =
            let at = fits.each grant lt in
            record {
              grant_is = begins.kept.grant ∙ at.grant_is;
              layout_is = ap (λ g. entries_at old.layout.parts (group_of old.layout.grants g)) begins.kept.grant ∙ at.layout_is ∙ sym begins.kept.parts;
              trst_is = begins.kept.uses_trst ∙ at.trst_is;
            }

    may_begun : {C : Type 0} (desk : Token (ParkedView C) (OpenView C)) (told : Option ChainState) (trst : Bool) → stands_at old grant ≡ Stand.Free → old.ended.items ≡ [] → MayServe old desk told trst → MayServe new desk told trst
    may_begun desk told trst free none may = record {
      fits = fits_begun may.fits none;
      at_desk = record {
        each = λ other below.
            subst (λ l. EntryAtDesk l other (session_at new other) desk) (sym begins.else_same.layout)
            (for_each (λ g e. EntryAtDesk old.layout g e.session.view desk) own other (may.at_desk.each other (omega (arith, below, long_begun))));
        within = λ other among. omega (arith, may.at_desk.within other among, long_begun);
      };
      whole = subst (λ l. Told told (IsWhole l)) (sym begins.else_same.layout) may.whole;
      trst = λ uses. may.trst (sym begins.else_same.trst ∙ uses);
    }
      where
        at : EntryAtDesk old.layout grant (session_at old grant) desk
        at = may.at_desk.each grant lt

        not_held : is_holder (holder desk) grant ≡ false
        not_held = at.desk_is.holds ∙ begins.closed

        side : (s : Side _ _) → desk.side ≡ s → SideFits old.layout grant (session_at new grant).tap.codes s
        side (sides.Free parked) e = tt
        side (sides.Held held h) e = λ same. false_true (sym not_held ∙ ap (λ x. is_holder (holder_of x) grant) e ∙ held_by h same)
          where
            held_by : (h : ℕ) → h ≡ grant → is_holder (Some h) grant ≡ true
            held_by h same = eq-eqb h grant same

        own : EntryAtDesk old.layout grant (session_at new grant) desk
        own = record {
          fit = begins.fit;
          desk_is = record { holds = not_held ∙ sym begins.shut; fits = side desk.side refl };
          line = at.line ∙ ap is_in_line free ∙ ap is_in_line (sym begins.going);
        }

    pub table_begun : {C : Type 0} (slot : Slot C) (chain : C → Option ChainState) (trst : C → Bool) → stands_at old grant ≡ Stand.Free → old.ended.items ≡ [] → TableFits old slot chain trst → TableFits new slot chain trst
    table_begun slot chain trst free none fits = record {
      flags = flags_begun ∙ fits.flags ∙ sym long_begun;
      serves = by slot fits.serves;
    }
      where
        by : (s : Slot _) → SlotServes old s chain trst → SlotServes new s chain trst
        by slots.Out serves = tt
        by (Free desk) serves = may_begun desk (chain (cable_of desk.side)) (trst (cable_of desk.side)) free none serves
        by (slots.Broken broken) serves = tt

none_ended : (xs : List Ended) → map session_end xs ≡ [] → xs ≡ []
none_ended [] e = refl
none_ended (x ∷ xs) e = absurd (let q : session_end x ∷ map session_end xs ≡ [] = e in cc)

module _ {C : Type 0} (now : TableView C) (old new : Seats) (slot : Slot C) (there later : is_out slot ≡ false) (view_is : view_in old slot there ≡ now) where
  pub none_yet : now.hub.ended ≡ [] → old.ended.items ≡ []
  none_yet none = none_ended old.ended.items (ap (λ (t : TableView C). t.hub.ended) view_is ∙ none)

  pub seats_of : (chain : C → Option ChainState) (trst : C → Bool) → TableFits old slot chain trst → now.hub.broken ≡ false → SeatsFit old
  seats_of chain trst fits fit = by slot refl there (ap (λ (t : TableView C). t.hub.broken) view_is ∙ fit) fits.serves
    where
      by : (s : Slot C) → slot ≡ s → is_out s ≡ false → is_broken slot ≡ false → SlotServes old slot chain trst → SeatsFit old
      by slots.Out e out b serves = absurd (let q : true ≡ false = out in cc)
      by (Free desk) e out b serves = (subst (λ x. SlotServes old x chain trst) e serves).fits
      by (slots.Broken broken) e out b serves = absurd (let q : true ≡ false = sym (ap is_broken e) ∙ b in cc)

  module _ (grant conn : ℕ) (begins : Begins grant conn old new) (lt : grant < length now.hub.seats) where
    pub begun_view : view_at (view_in new slot later).hub grant ≡ record { session = session_at new grant; conn = conn }
    begun_view = view_of new slot grant ∙ (λ i. record { session = session_at new grant; conn = conn_begun grant conn old new begins (inside_of now old slot there view_is grant lt) i })

    pub begins_view : view_in new slot later ≡ record now { hub = record now.hub { seats = slice_set now.hub.seats grant (view_at (view_in new slot later).hub grant); ready = slice_set now.hub.ready grant true } }
    begins_view =
        (λ i. record {
          hub = record {
            layout = begins.else_same.layout i;
            vector = begins.else_same.vector i;
            uses_trst = begins.else_same.trst i;
            seats = seats_are i;
            holder = holder_in slot;
            waiting = waiting_in slot;
            joins = begins.else_same.joins i;
            ready = begins.ready i;
            ended = map session_end ((begins.ended i).items);
            broken = is_broken slot;
          };
          cable = same_cable slot later there i;
        })
        ∙ ap (λ (t : TableView C). record t { hub = record t.hub { seats = slice_set t.hub.seats grant (view_at (view_in new slot later).hub grant); ready = slice_set t.hub.ready grant true } }) view_is
      where
        seats_are : map seat_view new.list.items ≡ slice_set (map seat_view old.list.items) grant (view_at (view_in new slot later).hub grant)
        seats_are =
            ap (map seat_view) begins.list ∙ map_set old.list.items grant (record { session = (entry new grant).session; conn = conn })
            ∙ ap (slice_set (map seat_view old.list.items) grant) (sym begun_view)

-- A table before the first step.
use Rattle.std.proofs.Common.{◌≡◌, ◌≤◌, ◌<◌, ◌+◌, ◌-◌, ℕ, zero, suc, Bool, true, false, List, [], ◌∷◌, ◌++◌, map, length, replicate, refl, ap, sym, ◌∙◌, subst, arith, inl, inr, Some, None, append_assoc, length-append, slice_get}
use Rattle.std.specs.declared.option.Option.{Option}
use Rattle.std.specs.Option.{option_map}
use Rattle.std.specs.List.{slice_index_or}
use Rattle.std.proofs.lemmas.Bool.{cases_lt}
use Rattle.std.proofs.lemmas.List.{length-map}
use Rattle.base_types.specs.Tellings.{Told}
use Rattle.part_model.specs.Parts.{DeviceType}
use Rattle.chain_model.specs.Chains.{ChainState, Placed}
use Rattle.chain_token.specs.declared.token.Side.TheVariants as sides
use Rattle.chain_token.specs.declared.token.Token.{Token}
use Rattle.chain_token.specs.Tokens.{holder_of, waiting}
use Rattle.chain_token.specs.Waiting.{IsQueue, is_among}
use Rattle.grant_table.specs.Apart.{KeepsApart}
use Rattle.grant_table.specs.Faults.{IsLayout}
use Rattle.grant_table.specs.Kept.{AllParts}
use Rattle.grant_table.specs.declared.Protocol.{Protocol}
use Rattle.grant_table.specs.Layouts.{GrantShape, LayoutShape, group_of}
use Rattle.scan_share.specs.PrivateChains.{entries_at, nets_within, private_chain}
use Rattle.scan_share.specs.Scans.{IsWhole}
use Rattle.scan_share.specs.Views.{ParkedView, OpenView}
use Rattle.client_session.specs.declared.Stand.{Stand}
use Rattle.client_session.specs.Seats.{Seat, IsFinished}
use Rattle.client_session.specs.Private.{free_seat}
use Rattle.client_session.specs.Paces.{IsSeatOver}
use Rattle.client_session.specs.Turns.{is_holder}
use Rattle.client_session.specs.Sessions.{Shows, is_in_line}
use Rattle.client_session.specs.Desks.{SideFits, cable_of}
use Rattle.plays.specs.Plays.{Setting, boards_of, no_seat, placed, seat_at, seat_of, start}
use Rattle.plays.proofs.Lists.{false_true}
use Rattle.plays.proofs.Over.{each_seat_over}
use Rattle.session_table.specs.declared.Ended.{Ended}
use Rattle.session_table.specs.declared.seats.Seat.{Seat as Entry}
use Rattle.session_table.specs.declared.seats.Seats.{Seats}
use Rattle.session_table.specs.declared.table.Slot.TheVariants.{Free}
use Rattle.session_table.specs.Tables.{IsBetweenSteps, IsFew, SeatShown, StandsOn, reply_at, stand_at}
use Rattle.session_table.specs.Shown.{FreshOn, hub_of, seat_view}
use Rattle.session_table.specs.AtDesk.{AreFree, EachIsFree, EntryAtDesk, EntryFits, IsFreeEntry, SeatsFit, entry, no_entry, session_at, stands_at}
use Rattle.session_table.specs.Fits.{TableFits}
use Rattle.session_table.proofs.Telling.{reply_of, stand_of, view_of}

pub one_more : (xs total : List Bool) (n k : ℕ) → k < n → xs ++ replicate (n - k) false ≡ total → (xs ++ false ∷ []) ++ replicate (n - (k + 1)) false ≡ total
one_more xs total n k lt is =
    append_assoc xs (false ∷ []) (replicate (n - (k + 1)) false)
    ∙ (let e : suc (n - (k + 1)) ≡ n - k = omega (arith, lt) in ap (λ m. xs ++ replicate m false) e) ∙ is

index_front : (xs : List Entry) (x : Entry) (i : ℕ) → i < length xs → slice_index_or (xs ++ x ∷ []) i no_entry ≡ slice_index_or xs i no_entry
index_front [] x i lt = absurd (omega (arith, lt))
index_front (y ∷ xs) x zero lt = refl
index_front (y ∷ xs) x (suc i) lt = index_front xs x i (omega (arith, lt))

index_last : (xs : List Entry) (x : Entry) (i : ℕ) → i ≡ length xs → slice_index_or (xs ++ x ∷ []) i no_entry ≡ x
index_last [] x zero e = refl
index_last [] x (suc i) e = absurd (omega (arith, e))
index_last (y ∷ xs) x zero e = absurd (omega (arith, e))
index_last (y ∷ xs) x (suc i) e = index_last xs x i (omega (arith, e))

index_past : (xs : List Entry) (i : ℕ) → length xs ≤ i → slice_index_or xs i no_entry ≡ no_entry
index_past [] i le = refl
index_past (y ∷ xs) zero le = absurd (omega (arith, le))
index_past (y ∷ xs) (suc i) le = index_past xs i (omega (arith, le))

pub each_more : (layout : LayoutShape) (vector : ℕ) (uses_trst : Bool) (list new : List Entry) (one : Entry) (n : ℕ) → length list ≡ n → new ≡ list ++ one ∷ [] → EachIsFree layout vector uses_trst list → IsFreeEntry layout vector uses_trst n one
    → EachIsFree layout vector uses_trst new
each_more layout vector uses_trst list new one n size is each last grant lt =
    subst (λ xs. IsFreeEntry layout vector uses_trst grant (slice_index_or xs grant no_entry)) (sym is) (elim (cases_lt grant n) [
      | inl below ↦ subst (IsFreeEntry layout vector uses_trst grant) (sym (index_front list one grant (omega (arith, below, size)))) (each grant (omega (arith, below, size)))
      | inr past ↦
          (let long = ap length is ∙ length-append list (one ∷ []) in
          let at : grant ≡ n = omega (arith, lt, past, size, long) in
          subst (IsFreeEntry layout vector uses_trst grant) (sym (index_last list one grant (at ∙ sym size))) (subst (λ g. IsFreeEntry layout vector uses_trst g one) (sym at) last))
    ])

long_replicate : (n : ℕ) → length (replicate n false) ≡ n
long_replicate zero = refl
long_replicate (suc n) = ap suc (long_replicate n)

pub flags_are : (grants : List GrantShape) → replicate (length grants) false ≡ map (λ (shape : GrantShape). false) grants
flags_are [] = refl
flags_are (shape ∷ grants) = ap (λ xs. false ∷ xs) (flags_are grants)

bare : List DeviceType → List Placed
bare [] = []
bare (part ∷ parts) = record { part = part; pins = [] } ∷ bare parts

bare_parts : (parts : List DeviceType) → map (λ (board : Placed). board.part) (bare parts) ≡ parts
unfolding bare
bare_parts [] = refl
bare_parts (part ∷ parts) = ap (λ xs. part ∷ xs) (bare_parts parts)

placed_parts : (parts : List DeviceType) (pins : List (List Bool)) → map (λ (board : Placed). board.part) (placed parts pins) ≡ parts
placed_parts [] pins = refl
placed_parts (part ∷ parts) [] = ap (λ rest. part ∷ rest) (placed_parts parts [])
placed_parts (part ∷ parts) (row ∷ pins) = ap (λ rest. part ∷ rest) (placed_parts parts pins)

module _ (layout : LayoutShape) (vector : ℕ) (uses_trst : Bool) (seats : Seats) (are : AreFree layout vector uses_trst seats) where
  free_fits : SeatsFit seats
  free_fits = record {
    is = subst (λ l. IsLayout l) (sym are.layout_is) are.is;
    apart = subst (λ l. KeepsApart l) (sym are.layout_is) are.apart;
    parts = subst (λ (l : LayoutShape). AllParts l.parts) (sym are.layout_is) are.parts;
    count = are.count ∙ ap (λ (l : LayoutShape). length l.grants) (sym are.layout_is);
    flags = ap length are.ready ∙ long_replicate (length layout.grants) ∙ ap (λ (l : LayoutShape). length l.grants) (sym are.layout_is);
    few = omega (arith, are.few, are.count);
    room = are.room;
    each = λ grant lt. subst (λ l. EntryFits l seats.uses_trst grant (entry seats grant)) (sym are.layout_is) (own grant (are.each grant lt));
    once = subst (λ xs. IsQueue (map (λ (e : Ended). e.grant) xs)) (sym are.none) tt;
    free = λ grant among. false_true (ap (λ xs. is_among grant (map (λ (e : Ended). e.grant) xs)) (sym are.none) ∙ among);
  }
    where
      own : (grant : ℕ) → IsFreeEntry layout vector uses_trst grant (entry seats grant) → EntryFits layout seats.uses_trst grant (entry seats grant)
      own grant e = record {
        grant_is = e.grant_is;
        layout_is = ap (λ g. entries_at layout.parts (group_of layout.grants g)) e.grant_is ∙ sym e.parts_are;
        trst_is = e.trst_is ∙ sym are.trst_is;
      }

  pub stand_free : (grant : ℕ) → (stands_at seats grant ≡ Stand.Free) × ((session_at seats grant).reply ≡ [])
  stand_free grant = elim (cases_lt grant (length seats.list.items)) [
    | inl lt ↦ ((are.each grant lt).free, (are.each grant lt).reply)
    | inr ge ↦ (ap (λ (e : Entry). e.session.view.stand) (index_past seats.list.items grant ge), ap (λ (e : Entry). e.session.view.reply) (index_past seats.list.items grant ge))
  ]

  module _ {C : Type 0} (desk : Token (ParkedView C) (OpenView C)) (parked : ParkedView C) (side_is : desk.side ≡ sides.Free parked) (none : waiting desk ≡ []) where
    pub hub_free : (grant : ℕ) → (stand_at (hub_of seats (Free desk)) grant ≡ Stand.Free) × (reply_at (hub_of seats (Free desk)) grant ≡ [])
    hub_free grant = (stand_of seats (Free desk) grant ∙ (stand_free grant).0, reply_of seats (Free desk) grant ∙ (stand_free grant).1)

    own_desk : (grant : ℕ) → IsFreeEntry layout vector uses_trst grant (entry seats grant) → EntryAtDesk seats.layout grant (session_at seats grant) desk
    own_desk grant e = record {
      fit = e.fit;
      desk_is = record {
        holds = ap (λ s. is_holder (holder_of s) grant) side_is ∙ sym (e.shows (bare layout.parts) (bare_parts layout.parts)).tap.scan;
        fits = subst (SideFits seats.layout grant (session_at seats grant).tap.codes) (sym side_is) tt;
      };
      line = ap (is_among grant) none ∙ ap is_in_line (sym e.free);
    }

    pub table_free : (chain : C → Option ChainState) (trst : C → Bool) → Told (chain parked.cable) (IsWhole layout) → (uses_trst ≡ true → trst parked.cable ≡ true) → TableFits seats (Free desk) chain trst
    table_free chain trst whole uses = record {
      flags = ap length are.ready ∙ long_replicate (length layout.grants) ∙ sym are.count;
      serves = record {
        fits = free_fits;
        at_desk = record {
          each = λ grant lt. own_desk grant (are.each grant lt);
          within = λ grant among. false_true (ap (is_among grant) (sym none) ∙ among);
        };
        whole = subst (λ s. Told (chain (cable_of s)) (IsWhole seats.layout)) (sym side_is) (subst (λ l. Told (chain parked.cable) (IsWhole l)) (sym are.layout_is) whole);
        trst = λ u. ap (λ s. trst (cable_of s)) side_is ∙ uses (sym are.trst_is ∙ u);
      };
    }

    pub stands_free : (told : Option ChainState) → Told told (IsWhole layout) → (setting : Setting) → FreshOn setting layout vector uses_trst told → StandsOn setting (hub_of seats (Free desk)) (λ grant. []) told (start setting)
    stands_free None whole setting fresh = absurd fresh
    stands_free (Some chain) whole setting fresh = record {
      layout = are.layout_is ∙ fresh.layout_is;
      vector = are.vector_is ∙ fresh.vector_is;
      trst = are.trst_is ∙ fresh.trst_is;
      fit = refl;
      holder = ap holder_of side_is;
      waiting = none;
      joins = are.joins;
      seats = λ grant lt. subst (λ v. SeatShown v false (seat_at (start setting) grant) []) (sym (view_of seats (Free desk) grant)) (shown grant (are.each grant (let e = ap (λ (l : LayoutShape). length l.grants) fresh.layout_is in omega (arith, lt, are.count, e))));
      holds = fresh.holds;
      whole = subst (λ l. IsWhole l chain) fresh.layout_is whole;
      made = omega (arith, fresh.made);
      scan = fresh.parked;
      between = between_start;
    }
      where
        seat_start : (grants : List GrantShape) (grant : ℕ) (p : Protocol) → option_map (λ (shape : GrantShape). shape.protocol) (slice_get grants grant) ≡ Some p
            → slice_index_or (map (seat_of setting) grants) grant no_seat ≡ free_seat p setting.uses_trst setting.vector (private_chain (boards_of setting) (group_of grants grant) setting.layout.nets)
        seat_start [] grant p e = absurd (let q : None ≡ Some p = e in cc)
        seat_start (shape ∷ grants) zero p e = (let q : shape.protocol ≡ p = cc e in ap (λ r. free_seat r setting.uses_trst setting.vector (private_chain (boards_of setting) shape.group setting.layout.nets)) q)
        seat_start (shape ∷ grants) (suc grant) p e = seat_start grants grant p e

        each_seat : (P : Seat → Type 0) → ((shape : GrantShape) → P (seat_of setting shape)) → P no_seat → (grants : List GrantShape) (grant : ℕ) → P (slice_index_or (map (seat_of setting) grants) grant no_seat)
        each_seat P here out [] grant = out
        each_seat P here out (shape ∷ grants) zero = here shape
        each_seat P here out (shape ∷ grants) (suc grant) = each_seat P here out grants grant

        shown : (grant : ℕ) → IsFreeEntry layout vector uses_trst grant (entry seats grant) → SeatShown (seat_view (entry seats grant)) false (seat_at (start setting) grant) []
        shown grant e = record {
          shows = subst (λ s. Shows (session_at seats grant) false s []) (sym same) (e.shows (boards_of setting) (placed_parts setting.layout.parts setting.pins ∙ ap (λ (l : LayoutShape). l.parts) (sym fresh.layout_is)));
          conn = λ going. false_true (sym (ap (λ (s : Seat). s.going) same) ∙ going);
        }
          where
            same : seat_at (start setting) grant ≡ free_seat (session_at seats grant).protocol uses_trst vector (private_chain (boards_of setting) (group_of layout.grants grant) layout.nets)
            same =
                seat_start setting.layout.grants grant (session_at seats grant).protocol (ap (λ (l : LayoutShape). option_map (λ (shape : GrantShape). shape.protocol) (slice_get l.grants grant)) (sym fresh.layout_is) ∙ e.protocol_is)
                ∙ (λ i. free_seat (session_at seats grant).protocol (sym fresh.trst_is i) (sym fresh.vector_is i) (private_chain (boards_of setting) (group_of (sym fresh.layout_is i).grants grant) (sym fresh.layout_is i).nets))

        over_start : (grant : ℕ) → IsSeatOver (seat_at (start setting) grant).protocol (entries_at setting.layout.parts (group_of setting.layout.grants grant)) (nets_within (group_of setting.layout.grants grant) setting.layout.nets) (seat_at (start setting) grant)
        over_start grant =
            let over = each_seat_over setting fresh.fit [] grant in
            subst (λ p. IsSeatOver p (entries_at setting.layout.parts (group_of setting.layout.grants grant)) (nets_within (group_of setting.layout.grants grant) setting.layout.nets) (seat_at (start setting) grant)) (sym over.1.protocol_is) over.1

        between_start : IsBetweenSteps setting (start setting)
        between_start = record {
          under_way = record {
            seats = length-map setting.layout.grants (seat_of setting);
            over = over_start;
            few = λ grant. each_seat IsFew (λ shape. record { acts = omega arith; bytes = omega arith }) (record { acts = omega arith; bytes = omega arith }) setting.layout.grants grant;
            scans = λ grant. each_seat (λ s. false ≡ s.chain.scan_open) (λ shape. refl) refl setting.layout.grants grant;
          };
          calm = record {
            waits = λ grant w. false_true w;
            rests = λ grant. inl (each_seat IsFinished (λ shape. refl) refl setting.layout.grants grant);
          };
          none = refl;
        }

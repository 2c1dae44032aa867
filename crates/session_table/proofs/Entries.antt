-- The entries of all grants, after one of their sessions was called.
use Rattle.std.proofs.Common.{◌≡◌, ◌≢◌, ◌<◌, ◌||◌, ℕ, zero, suc, Bool, true, false, List, [], ◌∷◌, ◌++◌, map, length, refl, ap, sym, ◌∙◌, subst, arith, inl, inr, ◌⊎◌, Some, None}
use Rattle.std.specs.declared.option.Option.{Option}
use Rattle.std.specs.List.{slice_index_or, slice_set}
use Rattle.std.proofs.lemmas.Bool.{eqb-true}
use Rattle.std.proofs.lemmas.Bool.Decides.{eqb_tells}
use Rattle.std.proofs.lemmas.List.{get_or-set_same, get_or-set_other, length-set, append-nil}
use Rattle.base_types.specs.Tellings.{Told}
use Rattle.chain_model.specs.Chains.{ChainState}
use Rattle.chain_token.specs.declared.token.Side.{Side}
use Rattle.chain_token.specs.declared.token.Side.TheVariants.{Free, Held}
use Rattle.chain_token.specs.declared.token.Token.{Token}
use Rattle.chain_token.specs.Tokens.{holder, holder_of, waiting}
use Rattle.chain_token.specs.Waiting.{IsQueue, is_among}
use Rattle.chain_token.proofs.Orders.{has_room, joined}
use Rattle.grant_table.specs.Apart.{KeepsApart}
use Rattle.grant_table.specs.Faults.{IsLayout}
use Rattle.grant_table.specs.Kept.{AllParts}
use Rattle.grant_table.specs.Layouts.{LayoutShape, group_of}
use Rattle.scan_share.specs.PrivateChains.{entries_at}
use Rattle.client_session.specs.Stores.{IsOfLayout}
use Rattle.scan_share.specs.Scans.{IsWhole}
use Rattle.scan_share.specs.Views.{ParkedView, OpenView}
use Rattle.client_session.specs.declared.Stand.{Stand}
use Rattle.client_session.specs.declared.Stop.{Stop}
use Rattle.client_session.specs.Turns.{is_holder}
use Rattle.client_session.specs.Sessions.{SessionView, is_here, is_in_line, is_leaving, is_taken, stand_after}
use Rattle.client_session.specs.Desks.{KeepsOthers, SideFits}
use Rattle.plays.proofs.Lists.{among-append, among-without_other, not_eq, false_true}
use Rattle.session_table.specs.declared.Ended.{Ended}
use Rattle.session_table.specs.declared.seats.Seat.{Seat}
use Rattle.session_table.specs.declared.seats.Seats.{Seats}
use Rattle.session_table.specs.Tables.{StaysSo}
use Rattle.session_table.specs.Shown.{session_end}
use Rattle.session_table.specs.AtDesk.{AreAtDesk, EachEndedThere, EndsMore, EntryAtDesk, EntryFits, KeepsSeats, LineWent, MayServe, NotesStop, OneWent, OnlySession, OthersStay, SeatsFit, ended_grants, ends_by, entry, no_entry, session_at, stands_at}

-- ---- entries

pub other_entry : (grant other : ℕ) (old new : Seats) → OnlySession grant old new → other ≢ grant → entry new other ≡ entry old other
other_entry grant other old new only n =
    ap (λ xs. slice_index_or xs other no_entry) only.list ∙ get_or-set_other old.list.items grant other (record (entry old grant) { session = (entry new grant).session }) no_entry n

pub own_conn : (grant : ℕ) (old new : Seats) → OnlySession grant old new → grant < length old.list.items → (entry new grant).conn ≡ (entry old grant).conn
own_conn grant old new only lt =
    ap (λ xs. (slice_index_or xs grant no_entry).conn) only.list ∙ ap (λ (e : Seat). e.conn) (get_or-set_same old.list.items grant (record (entry old grant) { session = (entry new grant).session }) no_entry lt)

pub length_list : (grant : ℕ) (old new : Seats) → OnlySession grant old new → length new.list.items ≡ length old.list.items
length_list grant old new only = ap length only.list ∙ length-set old.list.items grant (record (entry old grant) { session = (entry new grant).session })

map-set : {A B : Type 0} (f : A → B) (xs : List A) (i : ℕ) (a d : A) → f a ≡ f (slice_index_or xs i d) → map f (slice_set xs i a) ≡ map f xs
map-set f [] i a d e = refl
map-set f (x ∷ xs) zero a d e = ap (λ y. y ∷ map f xs) e
map-set f (x ∷ xs) (suc i) a d e = ap (λ ys. f x ∷ ys) (map-set f xs i a d e)

pub kept_seats : (grant : ℕ) (old new : Seats) → OnlySession grant old new → KeepsSeats old new
kept_seats grant old new only = record {
  layout = only.layout;
  vector = only.vector;
  trst = only.trst;
  conns = ap (map (λ (e : Seat). e.conn)) only.list ∙ map-set (λ (e : Seat). e.conn) old.list.items grant (record (entry old grant) { session = (entry new grant).session }) no_entry refl;
  flags = ap (λ (v : _). length v.items) only.ready;
}

pub kept_noted : (grant : ℕ) (waited : Bool) (stop : Stop) (old mid new : Seats) → OnlySession grant old mid → NotesStop grant waited stop mid new → KeepsSeats old new
kept_noted grant waited stop old mid new only noted =
    let kept = kept_seats grant old mid only in
    record {
      layout = noted.layout ∙ kept.layout;
      vector = noted.vector ∙ kept.vector;
      trst = noted.trst ∙ kept.trst;
      conns = ap (λ (v : _). map (λ (e : Seat). e.conn) v.items) noted.list ∙ kept.conns;
      flags = ap (λ (v : _). length v.items) noted.ready ∙ kept.flags;
    }

-- ---- the desk, for the other grants

module _ {C : Type 0} (grant : ℕ) (desk next : Token (ParkedView C) (OpenView C)) (others : KeepsOthers grant desk next) where
  pub others_among : (other : ℕ) → other ≢ grant → is_among other (waiting next) ≡ is_among other (waiting desk)
  others_among other n = sym (among-without_other other grant (waiting next) n) ∙ ap (is_among other) others.line ∙ among-without_other other grant (waiting desk) n

  not_true : (a b : Bool) → (a ≡ true → b ≡ true) → (b ≡ true → a ≡ true) → a ≡ b
  not_true true b f g = sym (f refl)
  not_true false true f g = g refl
  not_true false false f g = refl

  is_some_holder : (o : Option ℕ) (other : ℕ) → is_holder o other ≡ true → o ≡ Some other
  is_some_holder None other h = false_true h
  is_some_holder (Some h) other e = ap Some (eqb-true h other e)

  pub others_hold : (other : ℕ) → other ≢ grant → is_holder (holder next) other ≡ is_holder (holder desk) other
  others_hold other n = not_true (is_holder (holder next) other) (is_holder (holder desk) other)
      (λ h. ap (λ s. is_holder (holder_of s) other) (sym (others.gained other (is_some_holder (holder next) other h) n)) ∙ h)
      (λ h. ap (λ s. is_holder (holder_of s) other) (others.held other (is_some_holder (holder desk) other h) n) ∙ h)

  others_fit : (layout : LayoutShape) (codes : List (List Bool)) (other : ℕ) → other ≢ grant → SideFits layout other codes desk.side → SideFits layout other codes next.side
  others_fit layout codes other n fits = by next.side refl
    where
      by : (s : Side (ParkedView C) (OpenView C)) → next.side ≡ s → SideFits layout other codes s
      by (Free parked) e = tt
      by (Held held h) e = λ same.
          let before : next.side ≡ desk.side = others.gained other (ap holder_of e ∙ ap Some same) n in
          subst (λ s. SideFits layout other codes s) (sym before ∙ e) fits same

  pub others_at_desk : (layout : LayoutShape) (other : ℕ) (view : SessionView) → other ≢ grant → EntryAtDesk layout other view desk → EntryAtDesk layout other view next
  others_at_desk layout other view n at = record {
    fit = at.fit;
    desk_is = record { holds = others_hold other n ∙ at.desk_is.holds; fits = others_fit layout view.tap.codes other n at.desk_is.fits };
    line = others_among other n ∙ at.line;
  }

pub in_line_taken : (s : Stand) → is_in_line s ≡ true → is_taken s ≡ true
in_line_taken Stand.Free h = h
in_line_taken Stand.Going h = refl
in_line_taken Stand.Waits h = refl
in_line_taken Stand.Leaving h = refl

pub here_taken : (s : Stand) → is_here s ≡ true → is_taken s ≡ true
here_taken Stand.Free h = h
here_taken Stand.Going h = refl
here_taken Stand.Waits h = refl
here_taken Stand.Leaving h = refl

-- ---- what ended

not_taken : {A : Type 0} (b : Bool) → b ≡ true → b ≡ false → A
not_taken b t f = false_true (sym f ∙ t)

-- a session that is open is not among those that ended
pub fresh : (grant : ℕ) (seats : Seats) → SeatsFit seats → is_taken (stands_at seats grant) ≡ true → is_among grant (ended_grants seats) ≡ false
fresh grant seats fits taken = by (is_among grant (ended_grants seats)) refl
  where
    by : (b : Bool) → is_among grant (ended_grants seats) ≡ b → is_among grant (ended_grants seats) ≡ false
    by false e = e
    by true e = not_taken (is_taken (stands_at seats grant)) taken (fits.free grant e)

length-map_ended : (xs : List Ended) → length (map (λ (e : Ended). e.grant) xs) ≡ length xs
length-map_ended [] = refl
length-map_ended (x ∷ xs) = ap suc (length-map_ended xs)

-- and finds room
pub room_left : (grant : ℕ) (seats : Seats) → SeatsFit seats → grant < length seats.list.items → is_taken (stands_at seats grant) ≡ true → length seats.ended.items < 16
room_left grant seats fits lt taken =
    let few : grant < 16 = omega (arith, lt, fits.few) in
    omega (arith, has_room (ended_grants seats) grant fits.once few (fresh grant seats fits taken), length-map_ended seats.ended.items)

-- also after its call
pub room_still : (grant : ℕ) (old mid : Seats) → OnlySession grant old mid → SeatsFit old → grant < length old.list.items → is_taken (stands_at old grant) ≡ true → length mid.ended.items < 16
room_still grant old mid only fits lt taken = let r = room_left grant old fits lt taken in omega (arith, r, ap (λ (v : _). length v.items) only.ended)

pub map-append_ended : {A : Type 0} (f : Ended → A) (xs ys : List Ended) → map f (xs ++ ys) ≡ map f xs ++ map f ys
map-append_ended f [] ys = refl
map-append_ended f (x ∷ xs) ys = ap (λ zs. f x ∷ zs) (map-append_ended f xs ys)

or_cases : (a b : Bool) → (a || b) ≡ true → (a ≡ true) ⊎ (b ≡ true)
or_cases true b h = inl refl
or_cases false b h = inr h

module _ (grant : ℕ) (waited : Bool) (stop : Stop) (old mid new : Seats) (only : OnlySession grant old mid) (noted : NotesStop grant waited stop mid new) where
  ended_is : ended_grants new ≡ ended_grants old ++ map (λ (e : Ended). e.grant) (ends_by grant (entry mid grant).conn stop)
  ended_is =
      ap (map (λ (e : Ended). e.grant)) noted.ended
      ∙ map-append_ended (λ (e : Ended). e.grant) mid.ended.items (ends_by grant (entry mid grant).conn stop)
      ∙ ap (λ (v : _). map (λ (e : Ended). e.grant) v.items ++ map (λ (e : Ended). e.grant) (ends_by grant (entry mid grant).conn stop)) only.ended

  pub new_entry : (other : ℕ) → entry new other ≡ entry mid other
  new_entry other = ap (λ (v : _). slice_index_or v.items other no_entry) noted.list

  pub new_other : (other : ℕ) → other ≢ grant → entry new other ≡ entry old other
  new_other other n = new_entry other ∙ other_entry grant other old mid only n

  module _ (fits : SeatsFit old) (lt : grant < length old.list.items) (taken : is_taken (stands_at old grant) ≡ true) (gone : Bool) (stands : stands_at mid grant ≡ stand_after stop gone) where
    once_new : IsQueue (ended_grants new)
    once_new = subst IsQueue (sym ended_is) (by stop)
      where
        by : (s : Stop) → IsQueue (ended_grants old ++ map (λ (e : Ended). e.grant) (ends_by grant (entry mid grant).conn s))
        by Stop.Done = subst IsQueue (sym (append-nil (ended_grants old))) fits.once
        by Stop.Waits = subst IsQueue (sym (append-nil (ended_grants old))) fits.once
        by (Stop.Ended end) = joined (ended_grants old) grant fits.once (omega (arith, lt, fits.few)) (fresh grant old fits taken)

    free_new : (other : ℕ) → is_among other (ended_grants new) ≡ true → is_taken (stands_at new other) ≡ false
    free_new other h = elim (eqb_tells other grant) [
      | inl e ↦ own e.1 stop refl
      | inr n ↦ ap (λ (x : Seat). is_taken x.session.view.stand) (new_other other n.1) ∙ fits.free other (before n.1)
    ]
      where
        own_stand : is_taken (stands_at new grant) ≡ is_taken (stand_after stop gone)
        own_stand = ap (λ (x : Seat). is_taken x.session.view.stand) (new_entry grant) ∙ ap is_taken stands

        own : other ≡ grant → (s : Stop) → stop ≡ s → is_taken (stands_at new other) ≡ false
        own e (Stop.Ended end) is = ap (λ g. is_taken (stands_at new g)) e ∙ own_stand ∙ ap (λ x. is_taken (stand_after x gone)) is
        own e Stop.Done is = absurd (let q : false ≡ true = sym (fresh grant old fits taken) ∙ among_old Stop.Done is refl e in cc)
          where
            among_old : (s : Stop) → stop ≡ s → map (λ (x : Ended). x.grant) (ends_by grant (entry mid grant).conn s) ≡ [] → other ≡ grant → is_among grant (ended_grants old) ≡ true
            among_old s is none e =
                ap (is_among grant) (sym (append-nil (ended_grants old))) ∙ ap (λ xs. is_among grant (ended_grants old ++ xs)) (sym none) ∙ ap (λ x. is_among grant (ended_grants old ++ map (λ (y : Ended). y.grant) (ends_by grant (entry mid grant).conn x))) (sym is)
                ∙ ap (is_among grant) (sym ended_is) ∙ ap (λ g. is_among g (ended_grants new)) (sym e) ∙ h
        own e Stop.Waits is = absurd (let q : false ≡ true = sym (fresh grant old fits taken) ∙ among_old Stop.Waits is refl e in cc)
          where
            among_old : (s : Stop) → stop ≡ s → map (λ (x : Ended). x.grant) (ends_by grant (entry mid grant).conn s) ≡ [] → other ≡ grant → is_among grant (ended_grants old) ≡ true
            among_old s is none e =
                ap (is_among grant) (sym (append-nil (ended_grants old))) ∙ ap (λ xs. is_among grant (ended_grants old ++ xs)) (sym none) ∙ ap (λ x. is_among grant (ended_grants old ++ map (λ (y : Ended). y.grant) (ends_by grant (entry mid grant).conn x))) (sym is)
                ∙ ap (is_among grant) (sym ended_is) ∙ ap (λ g. is_among g (ended_grants new)) (sym e) ∙ h

        before : other ≢ grant → is_among other (ended_grants old) ≡ true
        before n = elim (or_cases (is_among other (ended_grants old)) (is_among other (map (λ (x : Ended). x.grant) (ends_by grant (entry mid grant).conn stop)))
            (sym (among-append other (ended_grants old) (map (λ (x : Ended). x.grant) (ends_by grant (entry mid grant).conn stop))) ∙ ap (is_among other) (sym ended_is) ∙ h)) [
              | inl a ↦ a
              | inr b ↦ none stop b
            ]
          where
            none : (s : Stop) → is_among other (map (λ (x : Ended). x.grant) (ends_by grant (entry mid grant).conn s)) ≡ true → is_among other (ended_grants old) ≡ true
            none Stop.Done b = false_true b
            none Stop.Waits b = false_true b
            none (Stop.Ended end) b = false_true (sym (rw (not_eq grant other (λ k. n (sym k))) refl) ∙ b)

    each_new : (other : ℕ) → other < length new.list.items → EntryFits new.layout new.uses_trst other (entry new other)
    each_new other below =
        let before : other < length old.list.items = omega (arith, below, ap (λ (v : _). length v.items) noted.list, length_list grant old mid only) in
        let same_layout = noted.layout ∙ only.layout in
        let same_trst = noted.trst ∙ only.trst in
        elim (eqb_tells other grant) [
          | inl e ↦ own e.1
          | inr n ↦ subst (λ x. EntryFits new.layout new.uses_trst other x) (sym (new_other other n.1)) (subst (λ l. EntryFits l new.uses_trst other (entry old other)) (sym same_layout) (subst (λ t. EntryFits old.layout t other (entry old other)) (sym same_trst) (fits.each other before)))
        ]
      where
        own : other ≡ grant → EntryFits new.layout new.uses_trst other (entry new other)
        own e =
            let at = fits.each grant lt in
            subst (λ g. EntryFits new.layout new.uses_trst g (entry new g)) (sym e)
            (subst (λ x. EntryFits new.layout new.uses_trst grant x) (sym (new_entry grant)) (record {
              grant_is = only.kept.grant ∙ at.grant_is;
              layout_is = subst (λ l. IsOfLayout l (entry mid grant).session) (sym (noted.layout ∙ only.layout))
                  (ap (λ g. entries_at old.layout.parts (group_of old.layout.grants g)) only.kept.grant ∙ at.layout_is ∙ sym only.kept.parts);
              trst_is = only.kept.uses_trst ∙ at.trst_is ∙ sym (noted.trst ∙ only.trst);
            }))

    pub fits_new : SeatsFit new
    fits_new = record {
      is = subst (λ l. IsLayout l) (sym (noted.layout ∙ only.layout)) fits.is;
      apart = subst (λ l. KeepsApart l) (sym (noted.layout ∙ only.layout)) fits.apart;
      parts = subst (λ (l : LayoutShape). AllParts l.parts) (sym (noted.layout ∙ only.layout)) fits.parts;
      count = ap (λ (v : _). length v.items) noted.list ∙ length_list grant old mid only ∙ fits.count ∙ ap (λ (l : LayoutShape). length l.grants) (sym (noted.layout ∙ only.layout));
      flags = ap (λ (v : _). length v.items) (noted.ready ∙ only.ready) ∙ fits.flags ∙ ap (λ (l : LayoutShape). length l.grants) (sym (noted.layout ∙ only.layout));
      few = omega (arith, fits.few, ap (λ (v : _). length v.items) noted.list, length_list grant old mid only);
      room = noted.room;
      each = each_new;
      once = once_new;
      free = free_new;
    }

  module _ {C : Type 0} (desk next : Token (ParkedView C) (OpenView C)) (lt : grant < length old.list.items) (here : EntryAtDesk old.layout grant (session_at mid grant) next) (others : KeepsOthers grant desk next) (at : AreAtDesk old desk) where
    at_desk_new : AreAtDesk new next
    at_desk_new = record {
      each = λ other below.
          let before : other < length old.list.items = omega (arith, below, ap (λ (v : _). length v.items) noted.list, length_list grant old mid only) in
          subst (λ l. EntryAtDesk l other (session_at new other) next) (sym (noted.layout ∙ only.layout))
          (elim (eqb_tells other grant) [
            | inl e ↦ subst (λ g. EntryAtDesk old.layout g (session_at new g) next) (sym e.1) (subst (λ (x : Seat). EntryAtDesk old.layout grant x.session.view next) (sym (new_entry grant)) here)
            | inr n ↦ subst (λ (x : Seat). EntryAtDesk old.layout other x.session.view next) (sym (new_other other n.1)) (others_at_desk grant desk next others old.layout other (session_at old other) n.1 (at.each other before))
          ]);
      within = λ other among.
          let long : length new.list.items ≡ length old.list.items = ap (λ (v : _). length v.items) noted.list ∙ length_list grant old mid only in
          elim (eqb_tells other grant) [
            | inl e ↦ omega (arith, e.1, lt, long)
            | inr n ↦ omega (arith, at.within other (sym (others_among grant desk next others other n.1) ∙ among), long)
          ];
    }

    pub may_new : (told : Option ChainState) (before after : Bool) → MayServe old desk told before → (gone : Bool) → stands_at mid grant ≡ stand_after stop gone → is_taken (stands_at old grant) ≡ true
        → (now : Option ChainState) → Told now (IsWhole old.layout) → after ≡ before → MayServe new next now after
    may_new told before after may gone stands taken now whole same = record {
      fits = fits_new may.fits lt taken gone stands;
      at_desk = at_desk_new;
      whole = subst (λ l. Told now (IsWhole l)) (sym (noted.layout ∙ only.layout)) whole;
      trst = λ uses. same ∙ may.trst (sym (noted.trst ∙ only.trst) ∙ uses);
    }

  -- ---- what became of the sessions

  ends_new : (gone : Bool) → stands_at mid grant ≡ stand_after stop gone → grant < length old.list.items → is_taken (stands_at old grant) ≡ true → EndsMore old new
  ends_new gone stands lt taken = record {
    more = map session_end (ends_by grant (entry mid grant).conn stop);
    ended = ap (map session_end) noted.ended ∙ map-append_ended session_end mid.ended.items (ends_by grant (entry mid grant).conn stop)
        ∙ ap (λ (v : _). map session_end v.items ++ map session_end (ends_by grant (entry mid grant).conn stop)) only.ended;
    each = by stop refl;
  }
    where
      by : (s : Stop) → stop ≡ s → EachEndedThere old new (map session_end (ends_by grant (entry mid grant).conn s))
      by Stop.Done is = tt
      by Stop.Waits is = tt
      by (Stop.Ended end) is = (
        record {
          there = lt;
          open_before = taken;
          free = ap (λ (x : Seat). is_taken x.session.view.stand) (new_entry grant) ∙ ap is_taken stands ∙ ap (λ x. is_taken (stand_after x gone)) is;
          conn = own_conn grant old mid only lt;
        },
        tt,
      )

  pub others_stay : OthersStay grant old new
  others_stay other n = ap (λ (x : Seat). x.session.view) (new_other other n)

  -- an event of the grant's session
  pub one_went : (gone : Bool) → stands_at mid grant ≡ stand_after stop gone → grant < length old.list.items → is_taken (stands_at old grant) ≡ true → (stands_at mid grant ≡ Stand.Going → gone ≡ false) → OneWent grant gone old new
  one_went gone stands lt taken here = record {
    own = λ up. ap (λ (x : Seat). is_leaving x.session.view.stand) (new_entry grant) ∙ own stop refl (ap (λ (x : Seat). is_taken x.session.view.stand) (sym (new_entry grant)) ∙ up);
    others = others_stay;
    ends = ends_new gone stands lt taken;
  }
    where
      leaves : (g : Bool) → is_leaving (stand_after Stop.Waits g) ≡ g
      leaves true = refl
      leaves false = refl

      own : (s : Stop) → stop ≡ s → is_taken (stands_at mid grant) ≡ true → is_leaving (stands_at mid grant) ≡ gone
      own Stop.Done is up =
          let going = stands ∙ ap (λ x. stand_after x gone) is in
          ap is_leaving going ∙ sym (here going)
      own Stop.Waits is up = ap is_leaving (stands ∙ ap (λ x. stand_after x gone) is) ∙ leaves gone
      own (Stop.Ended end) is up = false_true (sym (ap is_taken (stands ∙ ap (λ x. stand_after x gone) is)) ∙ up)

  -- the first in line goes on
  pub line_went : stands_at mid grant ≡ stand_after stop (is_leaving (stands_at old grant)) → grant < length old.list.items → is_in_line (stands_at old grant) ≡ true → (stands_at mid grant ≡ Stand.Going → is_leaving (stands_at old grant) ≡ false) → LineWent old new
  line_went stands lt waits here =
      let taken = in_line_taken (stands_at old grant) waits in
      let one = one_went (is_leaving (stands_at old grant)) stands lt taken here in
      record {
        line = λ other. elim (eqb_tells other grant) [
          | inl e ↦ subst (λ g. StaysSo (stands_at old g) (stands_at new g)) (sym e.1) (λ up. (taken, one.own up))
          | inr n ↦ subst (λ (v : SessionView). StaysSo (stands_at old other) v.stand) (sym (one.others other n.1)) (λ up. (up, refl))
        ];
        others = λ other h. elim (eqb_tells other grant) [
          | inl e ↦ not_taken (is_in_line (stands_at old grant)) waits (subst (λ g. is_in_line (stands_at old g) ≡ false) e.1 h)
          | inr n ↦ one.others other n.1
        ];
        ends = one.ends;
      }

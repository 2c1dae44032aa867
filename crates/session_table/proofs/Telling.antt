-- What a table shows, beside its sessions and its desk.
use Rattle.std.proofs.Common.{◌≡◌, ◌≢◌, ◌<◌, ℕ, zero, suc, Bool, true, false, List, [], ◌∷◌, ◌++◌, map, length, drop, refl, ap, sym, ◌∙◌, subst, arith, Some, None, append_assoc, cond, inl, inr}
use Rattle.std.specs.declared.option.Option.{Option}
use Rattle.std.specs.List.{slice_index_or, slice_set}
use Rattle.std.proofs.lemmas.Bool.{eq-eqb}
use Rattle.std.proofs.lemmas.Bool.Decides.{eqb_tells}
use Rattle.std.proofs.lemmas.List.{get_or-set_other, get_or-set_same, length-map}
use Rattle.plays.proofs.Lists.{not_eq}
use Rattle.chain_model.specs.Chains.{ChainState}
use Rattle.chain_token.specs.declared.token.Token.{Token}
use Rattle.chain_token.specs.Tokens.{holder, waiting}
use Rattle.grant_table.specs.Layouts.{LayoutShape}
use Rattle.scan_share.specs.Views.{ParkedView, OpenView, BrokenView}
use Rattle.client_session.specs.declared.Stand.{Stand}
use Rattle.client_session.specs.Seats.{finished, replies_now}
use Rattle.client_session.specs.Desks.{cable_of}
use Rattle.client_session.specs.Sessions.{IsPrefix, is_in_line, is_leaving, is_taken}
use Rattle.plays.specs.Plays.{Setting, Play, SeatChange, SessionEnd, after_change, next_in_line, seat_at, with_seat, is_waiting}
use Rattle.plays.specs.Outcomes.{OnceEach}
use Rattle.plays.specs.Schedule.{went_on}
use Rattle.plays.specs.Stands.{HubView, SeatView}
use Rattle.plays.proofs.Serving.{next_is}
use Rattle.chain_token.specs.Waiting.{IsQueue}
use Rattle.session_table.specs.declared.Ended.{Ended}
use Rattle.session_table.specs.declared.seats.Seat.{Seat as Entry}
use Rattle.session_table.specs.declared.seats.Seats.{Seats}
use Rattle.session_table.specs.declared.table.Slot.{Slot}
use Rattle.session_table.specs.declared.table.Slot.TheVariants.{Free}
use Rattle.session_table.specs.declared.table.Slot.TheVariants as slots
use Rattle.session_table.specs.Tables.{EachHasEnded, FollowsPlays, HasEndedNow, IsCalm, KeepsTable, RepliesFronts, SeatShown, StandsOn, StaysSo, TableView, WentOn, no_view, ready_then, reply_at, stand_at, view_at, with_given, with_reply}
use Rattle.std.specs.declared.result.Result.{Result}
use Rattle.std.specs.declared.result.Result.TheVariants.{Ok, Err}
use Rattle.std.specs.Prelude.{IfOk, IsErr, IsOk, OnErr, OnOk}
use Rattle.session_table.specs.Fits.{SlotServes, TableFits}
use Rattle.session_table.specs.Shown.{Settles, cable_in, holder_in, hub_of, is_broken, is_out, seat_view, session_end, waiting_in}
use Rattle.session_table.specs.AtDesk.{EachEndedThere, EndedThere, KeepsSeats, MayServe, NothingElse, Replies, SeatsFit, SeatsWent, SetsReady, entry, no_entry, session_at, stands_at}
use Rattle.session_table.specs.Going.{AttendsOn, Fronts, MovedOn}
use Rattle.session_table.proofs.Passing.{kept_length}

view_map : (xs : List Entry) (i : ℕ) → slice_index_or (map seat_view xs) i no_view ≡ seat_view (slice_index_or xs i no_entry)
view_map [] i = refl
view_map (x ∷ xs) zero = refl
view_map (x ∷ xs) (suc i) = view_map xs i

map_conns : (xs : List Entry) → map (λ (v : SeatView). v.conn) (map seat_view xs) ≡ map (λ (e : Entry). e.conn) xs
map_conns [] = refl
map_conns (x ∷ xs) = ap (λ ys. x.conn ∷ ys) (map_conns xs)

conn_map : (xs : List Entry) (i : ℕ) → slice_index_or (map (λ (e : Entry). e.conn) xs) i 0 ≡ (slice_index_or xs i no_entry).conn
conn_map [] i = refl
conn_map (x ∷ xs) zero = refl
conn_map (x ∷ xs) (suc i) = conn_map xs i

module _ {C : Type 0} (seats : Seats) (slot : Slot C) where
  pub view_of : (grant : ℕ) → view_at (hub_of seats slot) grant ≡ seat_view (entry seats grant)
  view_of grant = view_map seats.list.items grant

  pub stand_of : (grant : ℕ) → stand_at (hub_of seats slot) grant ≡ stands_at seats grant
  stand_of grant = ap (λ (v : SeatView). v.session.stand) (view_of grant)

  pub reply_of : (grant : ℕ) → reply_at (hub_of seats slot) grant ≡ (session_at seats grant).reply
  reply_of grant = ap (λ (v : SeatView). v.session.reply) (view_of grant)

  pub length_of : length (hub_of seats slot).seats ≡ length seats.list.items
  length_of = length-map seats.list.items seat_view

-- none ended twice, and so none did in a call
grants_of : (xs : List Ended) → map (λ (s : SessionEnd). s.grant) (map session_end xs) ≡ map (λ (e : Ended). e.grant) xs
grants_of [] = refl
grants_of (x ∷ xs) = ap (λ ys. x.grant ∷ ys) (grants_of xs)

queue_once : (xs : List ℕ) → IsQueue xs → OnceEach xs
queue_once [] q = tt
queue_once (x ∷ xs) q = (q.1, queue_once xs q.2)

once_back : (xs more : List SessionEnd) → IsQueue (map (λ (s : SessionEnd). s.grant) (xs ++ more)) → OnceEach (map (λ (s : SessionEnd). s.grant) more)
once_back [] more q = queue_once (map (λ (s : SessionEnd). s.grant) more) q
once_back (x ∷ xs) more q = once_back xs more q.2

module _ {C : Type 0} (old new : Seats) (before after : Slot C) where
  pub kept_table : KeepsSeats old new → KeepsTable (hub_of old before) (hub_of new after)
  kept_table kept = record {
    layout = kept.layout;
    vector = kept.vector;
    trst = kept.trst;
    conns = map_conns new.list.items ∙ kept.conns ∙ sym (map_conns old.list.items);
    ready = kept.flags;
  }

  ended_now : (one : SessionEnd) → EndedThere old new one → HasEndedNow (hub_of old before) (hub_of new after) one
  ended_now one there = record {
    there = (let l = length_of old before in let t = there.there in omega (arith, t, l));
    open_before = ap is_taken (stand_of old before one.grant) ∙ there.open_before;
    free = is_free (stand_at (hub_of new after) one.grant) (ap is_taken (stand_of new after one.grant) ∙ there.free);
    conn = there.conn ∙ ap (λ (v : SeatView). v.conn) (sym (view_of old before one.grant));
  }
    where
      is_free : (s : Stand) → is_taken s ≡ false → s ≡ Stand.Free
      is_free Stand.Free h = refl
      is_free Stand.Going h = absurd (let q : true ≡ false = h in cc)
      is_free Stand.Waits h = absurd (let q : true ≡ false = h in cc)
      is_free Stand.Leaving h = absurd (let q : true ≡ false = h in cc)

  each_now : (more : List SessionEnd) → EachEndedThere old new more → EachHasEnded (hub_of old before) (hub_of new after) more
  each_now [] each = tt
  each_now (one ∷ more) each = (ended_now one each.0, each_now more each.1)

  pub went_table : KeepsSeats old new → SeatsFit new → (grant : ℕ) (gone : Bool) → SeatsWent grant gone old new → WentOn grant gone (hub_of old before) (hub_of new after)
  went_table kept fits grant gone went = record {
    own = λ up. ap is_leaving (stand_of new after grant) ∙ went.own (ap is_taken (sym (stand_of new after grant)) ∙ up);
    line = λ other n. subst (λ s. StaysSo s (stand_at (hub_of new after) other)) (sym (stand_of old before other)) (subst (λ s. StaysSo (stands_at old other) s) (sym (stand_of new after other)) (went.line other n));
    others = λ other n h. view_of new after other ∙ same other n h ∙ sym (view_of old before other);
    ends = went.ends.more;
    ended = went.ends.ended;
    each = each_now went.ends.more went.ends.each;
    once = once_back (map session_end old.ended.items) went.ends.more (subst (λ xs. IsQueue (map (λ (s : SessionEnd). s.grant) xs)) went.ends.ended (subst IsQueue (sym (grants_of new.ended.items)) fits.once));
    ready = λ other n going.
        let now = went.ready other n (sym (stand_of new after other) ∙ going) in
        let line : is_in_line (stands_at old other) ≡ is_in_line (stand_at (hub_of old before) other) = ap is_in_line (sym (stand_of old before other)) in
        record { went = λ h. now.went (line ∙ h); stayed = λ h. now.stayed (line ∙ h) };
  }
    where
      conn_same : (other : ℕ) → (entry new other).conn ≡ (entry old other).conn
      conn_same other = sym (conn_map new.list.items other) ∙ ap (λ xs. slice_index_or xs other 0) kept.conns ∙ conn_map old.list.items other

      same : (other : ℕ) → other ≢ grant → is_in_line (stand_at (hub_of old before) other) ≡ false → seat_view (entry new other) ≡ seat_view (entry old other)
      same other n h = λ i. record { session = went.others other n (ap is_in_line (sym (stand_of old before other)) ∙ h) i; conn = conn_same other i }

-- ---- the play

module _ {C : Type 0} (setting : Setting) (seats : Seats) (desk : Token (ParkedView C) (OpenView C)) (given : ℕ → List ℕ) (play : Play) where
  pub attends_of : (told : Option ChainState) → StandsOn setting (hub_of seats (Free desk)) given told play → AttendsOn setting seats desk given told play
  attends_of None stands = stands
  attends_of (Some chain) stands = record {
    layout = stands.layout;
    vector = stands.vector;
    trst = stands.trst;
    holder_is = stands.holder;
    waiting_is = stands.waiting;
    joins = stands.joins;
    shown = λ grant inside. subst (λ v. SeatShown v (is_waiting play grant) (seat_at play grant) (given grant)) (view_of seats (Free desk) grant) (stands.seats grant inside);
    contents = stands.holds;
    whole = stands.whole;
    made = stands.made;
    scan = stands.scan;
    under_way = stands.between.under_way;
  }

  pub calm_of : (told : Option ChainState) → StandsOn setting (hub_of seats (Free desk)) given told play → IsCalm play
  calm_of None stands = absurd stands
  calm_of (Some chain) stands = stands.between.calm

  pub none_of : (told : Option ChainState) → StandsOn setting (hub_of seats (Free desk)) given told play → next_in_line play.holder play.waiting ≡ None
  none_of None stands = absurd stands
  none_of (Some chain) stands = stands.between.none

  pub stands_on : (told : Option ChainState) → AttendsOn setting seats desk given told play → IsCalm play → next_in_line play.holder play.waiting ≡ None → StandsOn setting (hub_of seats (Free desk)) given told play
  stands_on None att calm none = att
  stands_on (Some chain) att calm none = record {
    layout = att.layout;
    vector = att.vector;
    trst = att.trst;
    fit = refl;
    holder = att.holder_is;
    waiting = att.waiting_is;
    joins = att.joins;
    seats = λ grant inside. subst (λ v. SeatShown v (is_waiting play grant) (seat_at play grant) (given grant)) (sym (view_of seats (Free desk) grant)) (att.shown grant inside);
    holds = att.contents;
    whole = att.whole;
    made = att.made;
    scan = att.scan;
    between = record { under_way = att.under_way; calm = calm; none = none };
  }

drop_ends : (xs more : List SessionEnd) → drop (length xs) (xs ++ more) ≡ more
drop_ends [] more = refl
drop_ends (x ∷ xs) more = drop_ends xs more

module _ {C : Type 0} (old new : Seats) (desk next : Token (ParkedView C) (OpenView C)) (told now : Option ChainState) (change : Play → SeatChange) where
  pub follows : ((setting : Setting) (given : ℕ → List ℕ) (play : Play) → AttendsOn setting old desk given told play → IsCalm play → next_in_line play.holder play.waiting ≡ None → MovedOn setting old new next given now play (change play))
      → FollowsPlays (hub_of old (Free desk)) (hub_of new (Free next)) told now change
  follows moved = λ setting given play stands.
      let m = moved setting given play (attends_of setting old desk given play told stands) (calm_of setting old desk given play told stands) (none_of setting old desk given play told stands) in
      let more : drop (length play.ends) (after_change setting play (Some (change play))).ends ≡ m.ends.more = ap (drop (length play.ends)) m.ends.ends ∙ drop_ends play.ends m.ends.more in
      record {
        stands = stands_on setting new next given (after_change setting play (Some (change play))) now m.attends m.calm m.none;
        ended = m.ends.ended ∙ ap (λ xs. map session_end old.ended.items ++ xs) (sym more);
        ready = m.ready ∙ ap (λ xs. ready_then (went_on setting play (Some (change play))) xs old.ready.items) (sym more);
      }

module _ {C : Type 0} (old new : Seats) (desk : Token (ParkedView C) (OpenView C)) (after : Slot C) (told : Option ChainState) (change : Play → SeatChange) where
  pub fronts_table : SeatsFit old → KeepsSeats old new → ((setting : Setting) (given : ℕ → List ℕ) (play : Play) → AttendsOn setting old desk given told play → IsCalm play → Fronts new given (with_seat (change play).grant (change play).seat play))
      → RepliesFronts (hub_of old (Free desk)) (hub_of new after) told change
  fronts_table fits kept fronts = λ setting given play stands grant inside.
      subst (λ r. IsPrefix (given grant ++ r) (replies_now (finished (seat_at (with_seat (change play).grant (change play).seat play) grant)))) (sym (reply_of new after grant))
      (fronts setting given play (attends_of setting old desk given play told stands) (calm_of setting old desk given play told stands) grant (below setting given play told stands grant inside))
    where
      below : (setting : Setting) (given : ℕ → List ℕ) (play : Play) (o : Option ChainState) → StandsOn setting (hub_of old (Free desk)) given o play → (grant : ℕ) → grant < length setting.layout.grants → grant < length new.list.items
      below setting given play None stands grant inside = absurd stands
      below setting given play (Some chain) stands grant inside = (let e = ap (λ (l : LayoutShape). length l.grants) stands.layout in omega (arith, inside, e, fits.count, kept_length old new kept))

-- ---- a call of the table

abbrev pub view_in : {C : Type 0} → (seats : Seats) → (slot : Slot C) → is_out slot ≡ false → TableView C
view_in seats slot there = record { hub = hub_of seats slot; cable = cable_in slot there }

on_ok : {T E P : Type 0} (result : Result T E) → P → OnOk result P
on_ok (Ok value) p = p
on_ok (Err error) p = tt

on_err : {T E P : Type 0} (result : Result T E) → P → OnErr result P
on_err (Ok value) p = tt
on_err (Err error) p = p

no_ok : {T E : Type 0} (P : Type 0) (result : Result T E) → IsErr result → OnOk result P
no_ok P (Ok value) h = absurd (let q : false ≡ true = h in cc)
no_ok P (Err error) h = tt

no_err : {T E : Type 0} (P : Type 0) (result : Result T E) → IsOk result → OnErr result P
no_err P (Ok value) h = tt
no_err P (Err error) h = absurd (let q : false ≡ true = h in cc)

module _ {C E : Type 0} (chain : C → Option ChainState) (before : TableView C) (old new : Seats) (slot after : Slot C) (there : is_out slot ≡ false) (later : is_out after ≡ false) (desk : Token (ParkedView C) (OpenView C))
    (view_is : view_in old slot there ≡ before) (slot_is : slot ≡ Free desk) (result : Result (Token (ParkedView C) (OpenView C)) (BrokenView C)) (answer : Result (Unit {0}) E) (settles : Settles result after answer) where
  pub kept_call : KeepsSeats old new → KeepsTable before.hub (hub_of new after)
  kept_call kept = subst (λ (t : TableView C). KeepsTable t.hub (hub_of new after)) view_is (kept_table old new slot after kept)

  pub went_call : (trst : C → Bool) (grant : ℕ) (gone : Bool) → KeepsSeats old new → IfOk result (λ next. MayServe new next (chain (cable_of next.side)) (trst (cable_of next.side))) → OnOk result (SeatsWent grant gone old new) → OnOk answer (WentOn grant gone before.hub (hub_of new after))
  went_call trst grant gone kept may went = by result settles may went
    where
      by : (r : Result (Token (ParkedView C) (OpenView C)) (BrokenView C)) → Settles r after answer → IfOk r (λ next. MayServe new next (chain (cable_of next.side)) (trst (cable_of next.side))) → OnOk r (SeatsWent grant gone old new) → OnOk answer (WentOn grant gone before.hub (hub_of new after))
      by (Ok next) s m w = on_ok answer (subst (λ (t : TableView C). WentOn grant gone t.hub (hub_of new after)) view_is (went_table old new slot after kept m.fits grant gone w))
      by (Err broken) s m w = no_ok _ answer s.1

  -- the view before the call is that of the desk
  from_desk : (P : HubView → C → Type 0) → P (hub_of old (Free desk)) (cable_of desk.side) → P before.hub before.cable
  from_desk P p = subst (λ (t : TableView C). P t.hub t.cable) view_is (subst (λ s. (out : is_out s ≡ false) → P (hub_of old s) (cable_in s out)) (sym slot_is) (λ out. p) there)

  pub follows_call : (change : Play → SeatChange)
      → IfOk result (λ next. (setting : Setting) (given : ℕ → List ℕ) (play : Play) → AttendsOn setting old desk given (chain (cable_of desk.side)) play → IsCalm play → next_in_line play.holder play.waiting ≡ None → MovedOn setting old new next given (chain (cable_of next.side)) play (change play))
      → OnOk answer (FollowsPlays before.hub (hub_of new after) (chain before.cable) (chain (cable_in after later)) change)
  follows_call change moved = by result settles moved
    where
      by : (r : Result (Token (ParkedView C) (OpenView C)) (BrokenView C)) → Settles r after answer
          → IfOk r (λ next. (setting : Setting) (given : ℕ → List ℕ) (play : Play) → AttendsOn setting old desk given (chain (cable_of desk.side)) play → IsCalm play → next_in_line play.holder play.waiting ≡ None → MovedOn setting old new next given (chain (cable_of next.side)) play (change play))
          → OnOk answer (FollowsPlays before.hub (hub_of new after) (chain before.cable) (chain (cable_in after later)) change)
      by (Ok next) s m = on_ok answer
          (subst (λ a. (out : is_out a ≡ false) → FollowsPlays before.hub (hub_of new a) (chain before.cable) (chain (cable_in a out)) change) (sym s.0)
          (λ out. from_desk (λ hub cable. FollowsPlays hub (hub_of new (Free next)) (chain cable) (chain (cable_of next.side)) change)
          (follows old new desk next (chain (cable_of desk.side)) (chain (cable_of next.side)) change m)) later)
      by (Err broken) s m = no_ok _ answer s.1

  pub failed_call : (change : Play → SeatChange) → SeatsFit old → KeepsSeats old new
      → OnErr result ((setting : Setting) (given : ℕ → List ℕ) (play : Play) → AttendsOn setting old desk given (chain (cable_of desk.side)) play → IsCalm play → Fronts new given (with_seat (change play).grant (change play).seat play))
      → OnErr answer (RepliesFronts before.hub (hub_of new after) (chain before.cable) change)
  failed_call change fits kept failed = by result settles failed
    where
      by : (r : Result (Token (ParkedView C) (OpenView C)) (BrokenView C)) → Settles r after answer
          → OnErr r ((setting : Setting) (given : ℕ → List ℕ) (play : Play) → AttendsOn setting old desk given (chain (cable_of desk.side)) play → IsCalm play → Fronts new given (with_seat (change play).grant (change play).seat play))
          → OnErr answer (RepliesFronts before.hub (hub_of new after) (chain before.cable) change)
      by (Ok next) s f = no_err _ answer s.1
      by (Err broken) s f = on_err answer (from_desk (λ hub cable. RepliesFronts hub (hub_of new after) (chain cable) change) (fronts_table old new desk after (chain (cable_of desk.side)) change fits kept f))

  -- the sessions may be served at that desk
  pub serves_there : (trst : C → Bool) → TableFits old slot chain trst → MayServe old desk (chain (cable_of desk.side)) (trst (cable_of desk.side))
  serves_there trst fits = subst (λ s. SlotServes old s chain trst) slot_is fits.serves

  -- where something holds of the desk
  pub went_call_if : (trst : C → Bool) (grant : ℕ) (gone : Bool) (P : Option ℕ → List ℕ → Type 0) → KeepsSeats old new → IfOk result (λ next. MayServe new next (chain (cable_of next.side)) (trst (cable_of next.side))) → (P (holder desk) (waiting desk) → OnOk result (SeatsWent grant gone old new)) → P before.hub.holder before.hub.waiting → OnOk answer (WentOn grant gone before.hub (hub_of new after))
  went_call_if trst grant gone P kept may went p = went_call trst grant gone kept may (went (from_desk (λ hub cable. P hub.holder hub.waiting → P (holder desk) (waiting desk)) (λ q. q) p))

-- ---- what a table's calls need of a grant

module _ {C : Type 0} (now : TableView C) (seats : Seats) (slot : Slot C) (there : is_out slot ≡ false) (view_is : view_in seats slot there ≡ now) (grant : ℕ) where
  pub inside_of : grant < length now.hub.seats → grant < length seats.list.items
  inside_of lt = let e = ap (λ (t : TableView C). length t.hub.seats) view_is in let l = length_of seats slot in omega (arith, lt, e, l)

  pub reply_is : (session_at seats grant).reply ≡ reply_at now.hub grant
  reply_is = sym (reply_of seats slot grant) ∙ ap (λ (t : TableView C). reply_at t.hub grant) view_is

  pub stand_is : stands_at seats grant ≡ stand_at now.hub grant
  stand_is = sym (stand_of seats slot grant) ∙ ap (λ (t : TableView C). stand_at t.hub grant) view_is

  pub session_is : session_at seats grant ≡ (view_at now.hub grant).session
  session_is = sym (ap (λ (v : SeatView). v.session) (view_of seats slot grant)) ∙ ap (λ (t : TableView C). (view_at t.hub grant).session) view_is

  pub unspent_of : (chain : C → Option ChainState) (trst : C → Bool) → TableFits seats slot chain trst → now.hub.broken ≡ false → grant < length now.hub.seats → (session_at seats grant).spent ≡ false
  unspent_of chain trst fits fit lt = by slot refl there (ap (λ (t : TableView C). t.hub.broken) view_is ∙ fit) fits.serves
    where
      by : (s : Slot C) → slot ≡ s → is_out s ≡ false → is_broken slot ≡ false → SlotServes seats slot chain trst → (session_at seats grant).spent ≡ false
      by slots.Out e out b serves = absurd (let q : true ≡ false = out in cc)
      by (Free desk) e out b serves = ((subst (λ x. SlotServes seats x chain trst) e serves).at_desk.each grant (inside_of lt)).fit
      by (slots.Broken broken) e out b serves = absurd (let q : true ≡ false = sym (ap is_broken e) ∙ b in cc)

  -- who goes on next is in line
  pub next_waits : (desk : Token (ParkedView C) (OpenView C)) → slot ≡ Free desk → (chain : C → Option ChainState) (trst : C → Bool) → TableFits seats slot chain trst
      → next_in_line (holder desk) (waiting desk) ≡ Some grant → is_in_line (stand_at now.hub grant) ≡ true
  next_waits desk slot_is chain trst fits next =
      let at = (subst (λ s. SlotServes seats s chain trst) slot_is fits.serves).at_desk in
      let among = (next_is (holder desk) (waiting desk) grant next).0 in
      ap is_in_line (sym stand_is) ∙ sym (at.each grant (at.within grant among)).line ∙ among

-- ---- calls that change what is shown

pub same_cable : {C : Type 0} (slot : Slot C) (one other : is_out slot ≡ false) → cable_in slot one ≡ cable_in slot other
same_cable slots.Out one other = absurd (let q : true ≡ false = one in cc)
same_cable (Free desk) one other = refl
same_cable (slots.Broken broken) one other = refl

pub map_set : (xs : List Entry) (i : ℕ) (a : Entry) → map seat_view (slice_set xs i a) ≡ slice_set (map seat_view xs) i (seat_view a)
map_set [] i a = refl
map_set (x ∷ xs) zero a = refl
map_set (x ∷ xs) (suc i) a = ap (λ ys. seat_view x ∷ ys) (map_set xs i a)

module _ {C : Type 0} (now : TableView C) (old new : Seats) (slot : Slot C) (there later : is_out slot ≡ false) (view_is : view_in old slot there ≡ now) where
  pub forgets : NothingElse old new → new.list ≡ old.list → new.ready ≡ old.ready → new.ended.items ≡ [] → view_in new slot later ≡ record now { hub = record now.hub { ended = [] } }
  forgets only list ready ended =
      (λ i. record {
        hub = record {
          layout = only.layout i;
          vector = only.vector i;
          uses_trst = only.trst i;
          seats = map seat_view ((list i).items);
          holder = holder_in slot;
          waiting = waiting_in slot;
          joins = only.joins i;
          ready = (ready i).items;
          ended = map session_end (ended i);
          broken = is_broken slot;
        };
        cable = same_cable slot later there i;
      })
      ∙ ap (λ (t : TableView C). record t { hub = record t.hub { ended = [] } }) view_is

  pub sets_view : (grant : ℕ) (flag : Bool) → SetsReady grant flag old new → view_in new slot later ≡ record now { hub = record now.hub { ready = slice_set now.hub.ready grant flag } }
  sets_view grant flag sets =
      (λ i. record {
        hub = record {
          layout = sets.else_same.layout i;
          vector = sets.else_same.vector i;
          uses_trst = sets.else_same.trst i;
          seats = map seat_view ((sets.list i).items);
          holder = holder_in slot;
          waiting = waiting_in slot;
          joins = sets.else_same.joins i;
          ready = sets.ready i;
          ended = map session_end ((sets.ended i).items);
          broken = is_broken slot;
        };
        cable = same_cable slot later there i;
      })
      ∙ ap (λ (t : TableView C). record t { hub = record t.hub { ready = slice_set t.hub.ready grant flag } }) view_is

  pub replies_view : (grant : ℕ) (reply : List ℕ) → Replies grant reply old new → view_in new slot later ≡ record now { hub = with_reply grant reply now.hub }
  replies_view grant reply replies =
      (λ i. record {
        hub = record {
          layout = replies.else_same.layout i;
          vector = replies.else_same.vector i;
          uses_trst = replies.else_same.trst i;
          seats = seats_are i;
          holder = holder_in slot;
          waiting = waiting_in slot;
          joins = replies.else_same.joins i;
          ready = (replies.ready i).items;
          ended = map session_end ((replies.ended i).items);
          broken = is_broken slot;
        };
        cable = same_cable slot later there i;
      })
      ∙ ap (λ (t : TableView C). record t { hub = with_reply grant reply t.hub }) view_is
    where
      seats_are : map seat_view new.list.items ≡ slice_set (map seat_view old.list.items) grant (record (view_at (hub_of old slot) grant) { session = record (view_at (hub_of old slot) grant).session { reply = reply } })
      seats_are =
          ap (map seat_view) replies.list ∙ map_set old.list.items grant (record (entry old grant) { session = record (entry old grant).session { view = record (session_at old grant) { reply = reply } } })
          ∙ ap (λ (v : SeatView). slice_set (map seat_view old.list.items) grant (record v { session = record v.session { reply = reply } })) (sym (view_of old slot grant))

-- a reply was given, or thrown away, from its front
module _ (setting : Setting) (table : HubView) (given : ℕ → List ℕ) (play : Play) (grant : ℕ) (front back : List ℕ) where
  abbrev new_view : SeatView
  new_view = record (view_at table grant) { session = record (view_at table grant).session { reply = back } }

  given_shown : front ++ back ≡ reply_at table grant → (waits : Bool) → SeatShown (view_at table grant) waits (seat_at play grant) (given grant)
      → SeatShown (record (view_at table grant) { session = record (view_at table grant).session { reply = back } }) waits (seat_at play grant) (given grant ++ front)
  given_shown whole waits shown = record {
    shows = record {
      protocol = shown.shows.protocol;
      uses_trst = shown.shows.uses_trst;
      vector = shown.shows.vector;
      stand = shown.shows.stand;
      here = shown.shows.here;
      tap = shown.shows.tap;
      tck = shown.shows.tck;
      trst = shown.shows.trst;
      unused = shown.shows.unused;
      used = shown.shows.used;
      acts = shown.shows.acts;
      sampled = shown.shows.sampled;
      replies = append_assoc (given grant) front back ∙ ap (λ r. given grant ++ r) whole ∙ shown.shows.replies;
      fit = shown.shows.fit;
    };
    conn = shown.conn;
  }

  pub given_stands : front ++ back ≡ reply_at table grant → grant < length table.seats → (told : Option ChainState) → StandsOn setting table given told play → StandsOn setting (with_reply grant back table) (with_given grant (given grant ++ front) given) told play
  given_stands whole lt None stands = stands
  given_stands whole lt (Some chain) stands = record {
    layout = stands.layout;
    vector = stands.vector;
    trst = stands.trst;
    fit = stands.fit;
    holder = stands.holder;
    waiting = stands.waiting;
    joins = stands.joins;
    seats = λ other inside. elim (eqb_tells other grant) [
      | inl e ↦ subst (λ g. SeatShown (view_at (with_reply grant back table) g) (is_waiting play g) (seat_at play g) (with_given grant (given grant ++ front) given g)) (sym e.1)
          (subst (λ v. SeatShown v (is_waiting play grant) (seat_at play grant) (with_given grant (given grant ++ front) given grant)) (sym (get_or-set_same table.seats grant new_view no_view lt))
          (subst (λ (b : Bool). SeatShown new_view (is_waiting play grant) (seat_at play grant) (cond b (given grant ++ front) (given grant))) (sym (eq-eqb grant grant refl))
          (given_shown whole (is_waiting play grant) (stands.seats grant (subst (λ k. k < length setting.layout.grants) e.1 inside)))))
      | inr n ↦
          subst (λ v. SeatShown v (is_waiting play other) (seat_at play other) (with_given grant (given grant ++ front) given other)) (sym (get_or-set_other table.seats grant other new_view no_view n.1))
          (subst (λ (b : Bool). SeatShown (view_at table other) (is_waiting play other) (seat_at play other) (cond b (given grant ++ front) (given other))) (sym (not_eq other grant n.1))
          (stands.seats other inside))
    ];
    holds = stands.holds;
    whole = stands.whole;
    made = stands.made;
    scan = stands.scan;
    between = stands.between;
  }

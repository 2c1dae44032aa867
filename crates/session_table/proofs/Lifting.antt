-- One grant's call, beside the play of all.
use Rattle.std.proofs.Common.{◌≡◌, ◌≢◌, ◌<◌, ℕ, zero, suc, Bool, true, false, List, [], ◌∷◌, ◌++◌, map, length, drop, refl, ap, sym, ◌∙◌, subst, arith, inl, inr, Some, None}
use Rattle.std.specs.declared.option.Option.{Option}
use Rattle.std.specs.List.{slice_set}
use Rattle.std.proofs.lemmas.Bool.Decides.{eqb_tells}
use Rattle.std.proofs.lemmas.List.{get_or-set_same, get_or-set_other, length-set}
use Rattle.chain_model.specs.Chains.{ChainState}
use Rattle.chain_token.specs.declared.token.Side.{Side}
use Rattle.chain_token.specs.declared.token.Side.TheVariants.{Free, Held}
use Rattle.chain_token.specs.declared.token.Token.{Token}
use Rattle.chain_token.specs.Tokens.{holder, holder_of, waiting}
use Rattle.chain_token.specs.Waiting.{is_among}
use Rattle.grant_table.specs.Apart.{KeepsApart}
use Rattle.grant_table.specs.Layouts.{LayoutShape, group_of}
use Rattle.scan_share.specs.PrivateChains.{entries_at, nets_within}
use Rattle.scan_share.specs.Scans.{IsOpenFor, code_list}
use Rattle.scan_share.specs.Views.{ParkedView, OpenView, codes_for}
use Rattle.client_session.specs.declared.Stop.{Stop}
use Rattle.client_session.specs.Seats.{EndedSession, Seat}
use Rattle.client_session.specs.Turns.{Turn, gone_on, is_holder}
use Rattle.client_session.specs.Paces.{IsSeatOver}
use Rattle.client_session.specs.Sessions.{Came, KeepsChain, Serves, Shows, stop_with}
use Rattle.client_session.specs.Desks.{SideFits, desk_of, scan_on}
use Rattle.plays.specs.Plays.{Setting, Play, after_turn, go, is_waiting, new_ends, no_seat, seat_at, turn_at, with_seat}
use Rattle.plays.specs.Stands.{ChainStands}
use Rattle.plays.proofs.Turning.{go_turn}
use Rattle.plays.proofs.Lists.{false_true}
use Rattle.session_table.specs.declared.seats.Seat.{Seat as Entry}
use Rattle.session_table.specs.declared.seats.Seats.{Seats}
use Rattle.session_table.specs.Tables.{IsFew, IsUnderWay, SeatShown}
use Rattle.session_table.specs.Shown.{seat_view, session_end}
use Rattle.session_table.specs.AtDesk.{AreAtDesk, EntryAtDesk, NotesStop, SeatsFit, WentAtDesk, ends_by, entry, joins_by, session_at}
use Rattle.session_table.specs.Going.{Attends, EndsAlike, GoneOn}
use Rattle.session_table.proofs.Entries.{map-append_ended, new_entry, new_other, others_among, others_hold, own_conn}
use Rattle.session_table.proofs.Contents.{group_holds, holds_on, holds_seats}
use Rattle.session_table.proofs.TurnLaws.{AfterTurn, after_gone_on, cost_grows, few_turn}

set_twice : {A : Type 0} (xs : List A) (i : ℕ) (a b : A) → slice_set (slice_set xs i a) i b ≡ slice_set xs i b
set_twice [] i a b = refl
set_twice (x ∷ xs) zero a b = refl
set_twice (x ∷ xs) (suc i) a b = ap (λ ys. x ∷ ys) (set_twice xs i a b)

-- ---- the desk serves the grant's turn

module _ {C : Type 0} (setting : Setting) (grant : ℕ) (seats : Seats) (desk : Token (ParkedView C) (OpenView C)) (given : ℕ → List ℕ) (chain : ChainState) (play : Play) where
  pub serves_now : SeatsFit seats → AreAtDesk seats desk → grant < length seats.list.items → Attends setting seats (holder desk) (waiting desk) given chain play
      → Serves setting.layout (group_of setting.layout.grants grant) grant (desk_of setting.layout desk chain) (turn_at play grant)
  serves_now fits at lt att = record {
    whole = att.whole;
    over = att.under_way.over grant;
    counted = omega (arith, att.made);
    holder = att.holder_is;
    waiting = att.waiting_is;
    holds = att.under_way.scans grant;
    contents = group_holds setting apart grant chain att.whole play there att.contents (att.under_way.over grant).made;
    keeps = by desk.side refl;
  }
    where
      apart : KeepsApart setting.layout
      apart = subst (λ l. KeepsApart l) att.layout fits.apart

      below : grant < length setting.layout.grants
      below = let e = ap (λ (l : LayoutShape). length l.grants) att.layout in omega (arith, lt, fits.count, e)

      there : grant < length play.seats
      there = omega (arith, below, att.under_way.seats)

      here : EntryAtDesk seats.layout grant (session_at seats grant) desk
      here = at.each grant lt

      by : (s : Side (ParkedView C) (OpenView C)) → desk.side ≡ s → KeepsChain setting.layout (group_of setting.layout.grants grant) grant (holder desk) (desk_of setting.layout desk chain) (seat_at play grant)
      by (Free parked) e =
          let none : holder desk ≡ None = ap holder_of e in
          subst (λ o. KeepsChain setting.layout (group_of setting.layout.grants grant) grant o (desk_of setting.layout desk chain) (seat_at play grant)) (sym none)
          (ap (scan_on setting.layout) e, subst (λ o. ChainStands setting play o chain) (sym att.holder_is ∙ none) att.scan)
      by (Held held h) e =
          let some : holder desk ≡ Some h = ap holder_of e in
          subst (λ o. KeepsChain setting.layout (group_of setting.layout.grants grant) grant o (desk_of setting.layout desk chain) (seat_at play grant)) (sym some)
          (λ same.
          let scan = subst (λ s. SideFits seats.layout grant (session_at seats grant).tap.codes s) e here.desk_is.fits same in
          let codes = (att.shown grant below).shows.tap.codes in
          record {
            scan = ap (scan_on setting.layout) e ∙ (λ i. Some (record { grant = scan.grant_is i; codes = (ap (λ l. codes_for l held.grant held.codes) (sym att.layout) ∙ ap (λ g. codes_for seats.layout g held.codes) scan.grant_is ∙ scan.codes_are ∙ codes) i }));
            chain_open = subst (λ g. IsOpenFor setting.layout (group_of setting.layout.grants g) (code_list (seat_at play g).chain) chain) same (subst (λ o. ChainStands setting play o chain) (sym att.holder_is ∙ some) att.scan);
          })

-- ---- the call

module _ {C : Type 0} (setting : Setting) (grant : ℕ) (old mid new : Seats) (desk next : Token (ParkedView C) (OpenView C)) (given : ℕ → List ℕ) (before after : ChainState) (play : Play) (seat : Seat) (stop : Stop) (waited : Bool)
    (fits : SeatsFit old) (lt : grant < length old.list.items) (went : WentAtDesk grant old mid desk next) (noted : NotesStop grant waited stop mid new)
    (att : Attends setting old (holder desk) (waiting desk) given before play) where
  abbrev first : Turn
  first = record (turn_at play grant) { seat = seat }

  abbrev turn : Turn
  turn = gone_on setting.layout grant first

  -- the play after the turn
  abbrev then : Play
  then = record {
    seats = slice_set play.seats grant turn.seat;
    holder = turn.holder;
    waiting = turn.waiting;
    ends = play.ends ++ new_ends grant (drop (length seat.past) turn.seat.past);
    joins = turn.joins;
    cost = turn.cost;
  }

  below : grant < length setting.layout.grants
  below = let e = ap (λ (l : LayoutShape). length l.grants) att.layout in omega (arith, lt, fits.count, e)

  there : grant < length play.seats
  there = let l = below in omega (arith, l, att.under_way.seats)

  goes_then : go setting grant (with_seat grant seat play) ≡ then
  goes_then =
      let own : seat_at (with_seat grant seat play) grant ≡ seat = get_or-set_same play.seats grant seat no_seat there in
      go_turn setting grant (with_seat grant seat play) (let l = there in omega (arith, l, length-set play.seats grant seat))
      ∙ ap (λ s. after_turn grant (with_seat grant seat play) (gone_on setting.layout grant (record (turn_at play grant) { seat = s }))) own
      ∙ (λ i. record {
        seats = set_twice play.seats grant seat turn.seat i;
        holder = turn.holder;
        waiting = turn.waiting;
        ends = play.ends ++ new_ends grant (drop (length (own i).past) turn.seat.past);
        joins = turn.joins;
        cost = turn.cost;
      })

  own_seat : seat_at then grant ≡ turn.seat
  own_seat = get_or-set_same play.seats grant turn.seat no_seat there

  other_seat : (other : ℕ) → other ≢ grant → seat_at then other ≡ seat_at play other
  other_seat other n = get_or-set_other play.seats grant other turn.seat no_seat n

  module _ (came : Came setting.layout grant (session_at mid grant) (given grant) (desk_of setting.layout desk before) (desk_of setting.layout next after) first stop)
      (joins : turn.joins ≡ joins_by waited stop play.joins) (chain_is : seat.chain ≡ (seat_at play grant).chain) (conn_is : seat.conn ≡ (seat_at play grant).conn) (going_is : seat.going ≡ (seat_at play grant).going) (few : IsFew seat) where
    serves : Serves setting.layout (group_of setting.layout.grants grant) grant (desk_of setting.layout next after) turn
    serves = came.goes.serves

    conn_still : seat.going ≡ true → (entry new grant).conn ≡ seat.conn
    conn_still going =
        ap (λ (e : Entry). e.conn) (new_entry grant waited stop old mid new went.only noted grant) ∙ own_conn grant old mid went.only lt
        ∙ (att.shown grant below).conn (sym going_is ∙ going) ∙ sym conn_is

    shown_then : (other : ℕ) → other < length setting.layout.grants → SeatShown (seat_view (entry new other)) (is_waiting then other) (seat_at then other) (given other)
    shown_then other inside = elim (eqb_tells other grant) [
      | inl e ↦ subst (λ g. SeatShown (seat_view (entry new g)) (is_waiting then g) (seat_at then g) (given g)) (sym e.1)
          (subst (λ s. SeatShown (seat_view (entry new grant)) (is_waiting then grant) s (given grant)) (sym own_seat) (record {
            shows = subst (λ (x : Entry). Shows x.session.view (is_waiting then grant) turn.seat (given grant)) (sym (new_entry grant waited stop old mid new went.only noted grant)) came.shows;
            conn = λ going. own_conn_is going (after_gone_on setting.layout grant first);
          }))
      | inr n ↦ subst (λ x. SeatShown (seat_view x) (is_waiting then other) (seat_at then other) (given other)) (sym (new_other grant waited stop old mid new went.only noted other n.1))
          (subst (λ b. SeatShown (seat_view (entry old other)) b (seat_at then other) (given other)) (sym (waits_same other n.1))
          (subst (λ s. SeatShown (seat_view (entry old other)) (is_waiting play other) s (given other)) (sym (other_seat other n.1)) (att.shown other inside)))
    ]
      where
        waits_same : (k : ℕ) → k ≢ grant → is_waiting then k ≡ is_waiting play k
        waits_same k n = ap (is_among k) (sym serves.waiting) ∙ others_among grant desk next went.others k n ∙ ap (is_among k) att.waiting_is

        own_conn_is : turn.seat.going ≡ true → AfterTurn turn.seat seat → (entry new grant).conn ≡ turn.seat.conn
        own_conn_is going (inl on) = conn_still (sym on.going ∙ going) ∙ sym on.conn
        own_conn_is going (inr off) = false_true (sym off.free ∙ going)

    scan_then : ChainStands setting then turn.holder after
    scan_then = by turn.holder refl
      where
        by : (o : Option ℕ) → turn.holder ≡ o → ChainStands setting then o after
        by None e = (subst (λ h. KeepsChain setting.layout (group_of setting.layout.grants grant) grant h (desk_of setting.layout next after) turn.seat) (serves.holder ∙ e) serves.keeps).1
        by (Some h) e = elim (eqb_tells h grant) [
          | inl k ↦ subst (λ g. IsOpenFor setting.layout (group_of setting.layout.grants g) (code_list (seat_at then g).chain) after) (sym k.1)
              (subst (λ (s : Seat). IsOpenFor setting.layout (group_of setting.layout.grants grant) (code_list s.chain) after) (sym own_seat)
              (subst (λ x. KeepsChain setting.layout (group_of setting.layout.grants grant) grant x (desk_of setting.layout next after) turn.seat) (serves.holder ∙ e) serves.keeps k.1).chain_open)
          | inr n ↦
              (let side = went.others.gained h (serves.holder ∙ e) n.1 in
              let was : holder desk ≡ Some h = ap holder_of (sym side) ∙ serves.holder ∙ e in
              let same = (came.goes.untouched h was n.1).0 in
              subst (λ c. IsOpenFor setting.layout (group_of setting.layout.grants h) (code_list (seat_at then h).chain) c) (sym same)
              (subst (λ (s : Seat). IsOpenFor setting.layout (group_of setting.layout.grants h) (code_list s.chain) before) (sym (other_seat h n.1))
              (subst (λ o. ChainStands setting play o before) (sym att.holder_is ∙ was) att.scan)))
        ]

    under_way_then : IsUnderWay setting then
    under_way_then = record {
      seats = length-set play.seats grant turn.seat ∙ att.under_way.seats;
      over = λ other. elim (eqb_tells other grant) [
        | inl e ↦ subst (λ g. OverAt g (seat_at then g)) (sym e.1) (subst (OverAt grant) (sym own_seat) over_own)
        | inr n ↦ subst (OverAt other) (sym (other_seat other n.1)) (att.under_way.over other)
      ];
      few = λ other. elim (eqb_tells other grant) [
        | inl e ↦ subst (λ g. IsFew (seat_at then g)) (sym e.1) (subst IsFew (sym own_seat) (few_turn setting.layout grant first few))
        | inr n ↦ subst IsFew (sym (other_seat other n.1)) (att.under_way.few other)
      ];
      scans = λ other. elim (eqb_tells other grant) [
        | inl e ↦ subst (λ g. is_holder turn.holder g ≡ (seat_at then g).chain.scan_open) (sym e.1) (serves.holds ∙ ap (λ (s : Seat). s.chain.scan_open) (sym own_seat))
        | inr n ↦ ap (λ o. is_holder o other) (sym serves.holder) ∙ others_hold grant desk next went.others other n.1 ∙ ap (λ o. is_holder o other) att.holder_is ∙ att.under_way.scans other
            ∙ ap (λ (s : Seat). s.chain.scan_open) (sym (other_seat other n.1))
      ];
    }
      where
        OverAt : ℕ → Seat → Type 0
        OverAt g s = IsSeatOver s.protocol (entries_at setting.layout.parts (group_of setting.layout.grants g)) (nets_within (group_of setting.layout.grants g) setting.layout.nets) s

        over_own : OverAt grant turn.seat
        over_own = serves.over

    attends_then : Attends setting new (holder next) (waiting next) given after then
    attends_then = record {
      layout = noted.layout ∙ went.only.layout ∙ att.layout;
      vector = noted.vector ∙ went.only.vector ∙ att.vector;
      trst = noted.trst ∙ went.only.trst ∙ att.trst;
      holder_is = serves.holder;
      waiting_is = serves.waiting;
      joins = noted.joins ∙ ap (joins_by waited stop) (went.only.joins ∙ att.joins) ∙ sym joins;
      shown = shown_then;
      contents = holds_seats setting after (with_seat grant turn.seat play) then refl
          (holds_on setting (subst (λ l. KeepsApart l) att.layout fits.apart) grant before att.whole play turn.seat after there att.contents serves.over.made came.goes.others);
      whole = serves.whole;
      made = (let grows = cost_grows setting.layout grant first in omega (arith, came.goes.made, att.made, grows));
      scan = scan_then;
      under_way = under_way_then;
    }

    ends_then : EndsAlike old new play then
    ends_then = record {
      more = new_ends grant (drop (length seat.past) turn.seat.past);
      ended = ap (map session_end) noted.ended ∙ map-append_ended session_end mid.ended.items (ends_by grant (entry mid grant).conn stop)
          ∙ ap (λ (v : _). map session_end v.items ++ map session_end (ends_by grant (entry mid grant).conn stop)) went.only.ended
          ∙ ap (λ xs. map session_end old.ended.items ++ xs) (same (after_gone_on setting.layout grant first));
      ends = refl;
    }
      where
        none_by : (b : Bool) → map session_end (ends_by grant (entry mid grant).conn (stop_with b [])) ≡ []
        none_by true = refl
        none_by false = refl

        drop_whole : (xs : List EndedSession) → drop (length xs) xs ≡ []
        drop_whole [] = refl
        drop_whole (x ∷ xs) = drop_whole xs

        drop_front : (xs ys : List EndedSession) → drop (length xs) (xs ++ ys) ≡ ys
        drop_front [] ys = refl
        drop_front (x ∷ xs) ys = drop_front xs ys

        same : AfterTurn turn.seat seat → map session_end (ends_by grant (entry mid grant).conn stop) ≡ new_ends grant (drop (length seat.past) turn.seat.past)
        same (inl on) =
            let past : drop (length seat.past) turn.seat.past ≡ [] = ap (drop (length seat.past)) on.past ∙ drop_whole seat.past in
            ap (λ s. map session_end (ends_by grant (entry mid grant).conn s)) (came.goes.stops ∙ ap (stop_with (is_among grant turn.waiting)) past)
            ∙ none_by (is_among grant turn.waiting) ∙ ap (new_ends grant) (sym past)
        same (inr off) =
            let past : drop (length seat.past) turn.seat.past ≡ off.one ∷ [] = ap (drop (length seat.past)) off.past ∙ drop_front seat.past (off.one ∷ []) in
            ap (λ s. map session_end (ends_by grant (entry mid grant).conn s)) (came.goes.stops ∙ ap (stop_with (is_among grant turn.waiting)) past)
            ∙ ap (λ c. record { grant = grant; conn = c; end = off.one.end } ∷ []) (ap (λ (e : Entry). e.conn) (sym (new_entry grant waited stop old mid new went.only noted grant)) ∙ conn_still off.went ∙ sym off.conn)
            ∙ ap (new_ends grant) (sym past)

    pub gone_on_then : GoneOn setting old new next given (Some after) play (go setting grant (with_seat grant seat play))
    gone_on_then = subst (λ p. GoneOn setting old new next given (Some after) play p) (sym goes_then) (record { attends = attends_then; ends = ends_then })

-- A grant by itself at the desk: its session uses bytes that come, and ends where its peer is gone.
use Rattle.std.proofs.Common.{◌≡◌, ℕ, Bool, true, false, cond, List, [], ◌∷◌, ◌++◌, length, drop, refl, ap, sym, ◌∙◌, subst, arith, append_assoc, inl, inr, Some, None}
use Rattle.std.specs.declared.option.Option.{Option}
use Rattle.std.proofs.lemmas.List.{append-nil, length-map}
use Rattle.chain_model.specs.Chains.{ChainState}
use Rattle.chain_token.specs.declared.token.Token.{Token}
use Rattle.grant_table.specs.Layouts.{LayoutShape, group_of}
use Rattle.scan_share.specs.PrivateChains.{entries_at, nets_within}
use Rattle.scan_share.specs.Scans.{IsMadeOf, IsWhole, contents_of, with_contents}
use Rattle.scan_share.specs.Views.{ParkedView, OpenView}
use Rattle.scan_share.proofs.Facts.{IsGroup}
use Rattle.scan_share.proofs.Groups.{group_of_laws}
use Rattle.scan_share.proofs.Lookups.{length-entries_at}
use Rattle.client_session.specs.declared.Stand.{Stand}
use Rattle.client_session.specs.declared.Stop.{Stop}
use Rattle.client_session.specs.Seats.{Seat, EndedSession, IsFinished, finished, ended, most_bytes, replies_now, steps_left}
use Rattle.client_session.specs.Seats as seats
use Rattle.client_session.specs.Private.{received}
use Rattle.client_session.specs.Turns.{Turn, gone_on, is_among}
use Rattle.client_session.specs.Laws.{IsByItself}
use Rattle.client_session.specs.Sessions.{Came, DeskView, IsPrefix, RepliedBefore, Serves, SessionView, Shows, is_in_line, stand_of, stop_with}
use Rattle.client_session.specs.Desks.{IsSound, desk_of}
use Rattle.client_session.specs.Calls.{CameOn, ServedBy}
use Rattle.client_session.proofs.Itself.{none_waits}
use Rattle.client_session.proofs.Shared.{with_same, with_twice}
use Rattle.lone_session.specs.Serving.{EndedSo, after_bytes}
use Rattle.lone_session.specs.Steps.{Closed, FedTo, Reached, Reaches}
use Rattle.lone_session.proofs.Seats.{Steps, dropped_input, ended_input, after_finished, finished_drop, many_steps, none_taken, piece_taken}

-- ---- devices of the others

module _ (layout : LayoutShape) (group : List ℕ) (grant : ℕ) (is : IsGroup group (length layout.parts)) where
  among : (chain : ChainState) → IsWhole layout chain → IsGroup group (length (contents_of chain))
  among chain whole =
      let long : length (contents_of chain) ≡ length layout.parts = length-map chain.devices (λ d. d.content) ∙ sym (length-map chain.devices (λ d. d.part)) ∙ ap length whole.parts_are in
      record { within = λ g place at. omega (arith, is.within g place at, long); apart = is.apart }

  own_count : (chain : ChainState) → IsMadeOf (entries_at layout.parts group) (nets_within group layout.nets) chain → length (contents_of chain) ≡ length group
  own_count chain made =
      length-map chain.devices (λ d. d.content) ∙ sym (length-map chain.devices (λ d. d.part)) ∙ ap length made.parts_are ∙ length-entries_at layout.parts group is.within

  others_none : (desk : DeskView) (turn : Turn) → Serves layout group grant desk turn → contents_of desk.chain ≡ with_contents group (contents_of turn.seat.chain) (contents_of desk.chain)
  others_none desk turn serves = sym (with_same group (contents_of turn.seat.chain) (contents_of desk.chain) (among desk.chain serves.whole) (own_count turn.seat.chain serves.over.made) (sym serves.contents))

  others_more : (base desk new : DeskView) (turn next : Turn) → IsWhole layout base.chain → Serves layout group grant desk turn → Serves layout group grant new next
      → contents_of desk.chain ≡ with_contents group (contents_of turn.seat.chain) (contents_of base.chain)
      → contents_of new.chain ≡ with_contents group (contents_of next.seat.chain) (contents_of desk.chain)
      → contents_of new.chain ≡ with_contents group (contents_of next.seat.chain) (contents_of base.chain)
  others_more base desk new turn next whole first second before after =
      after ∙ ap (with_contents group (contents_of next.seat.chain)) before
      ∙ with_twice group (contents_of next.seat.chain) (contents_of base.chain) (among base.chain whole) (own_count next.seat.chain second.over.made) (contents_of turn.seat.chain) (own_count turn.seat.chain first.over.made)

-- ---- where a call stops

drop_past : {X : Type 0} (past rest : List X) → drop (length past) (past ++ rest) ≡ rest
drop_past [] rest = refl
drop_past (x ∷ past) rest = drop_past past rest

stops_on : (waits : Bool) (old new : List EndedSession) → waits ≡ false → new ≡ old → stop_with waits (drop (length old) new) ≡ Stop.Done
stops_on waits old new none same = ap (stop_with waits) (ap (drop (length old)) (same ∙ sym (append-nil old)) ∙ drop_past old []) ∙ ap (λ w. stop_with w []) none

stops_ended : (waits : Bool) (old new : List EndedSession) (last : EndedSession) → new ≡ old ++ last ∷ [] → stop_with waits (drop (length old) new) ≡ Stop.Ended last.end
stops_ended waits old new last is = ap (stop_with waits) (ap (drop (length old)) is ∙ drop_past old (last ∷ []))

going_seat : (seat : Seat) (stand : Stand) → stand ≡ Stand.Going → stand ≡ stand_of false seat → seat.going ≡ true
going_seat seat stand going is = by seat.going (sym going ∙ is)
  where
    by : (g : Bool) → Stand.Going ≡ cond g Stand.Going Stand.Free → g ≡ true
    by true h = refl
    by false h = absurd (let q : Stand.Going ≡ Stand.Free = h in cc)

pub last_of : (past : List EndedSession) (one : EndedSession) → seats.last_replies (past ++ one ∷ []) ≡ one.replies
last_of [] one = refl
last_of (x ∷ []) one = refl
last_of (x ∷ y ∷ more) one = last_of (y ∷ more) one

replies_going : (seat : Seat) → seat.going ≡ true → replies_now seat ≡ seat.replies
replies_going seat g = rw g refl

replies_free : (seat : Seat) → seat.going ≡ false → replies_now seat ≡ seats.last_replies seat.past
replies_free seat g = rw g refl

-- another view with the replies given
emptied : (view : SessionView) (seat : Seat) (given : List ℕ) → Shows view false seat given → Shows (record view { reply = [] }) false seat (given ++ view.reply)
emptied view seat given shows = record {
  protocol = shows.protocol;
  uses_trst = shows.uses_trst;
  vector = shows.vector;
  stand = shows.stand;
  here = shows.here;
  tap = shows.tap;
  tck = shows.tck;
  trst = shows.trst;
  unused = shows.unused;
  used = shows.used;
  acts = shows.acts;
  sampled = shows.sampled;
  replies = append-nil (given ++ view.reply) ∙ shows.replies;
  fit = shows.fit;
}

-- ---- one call

front_of : (given reply replies : List ℕ) → IsPrefix (given ++ reply) replies → IsPrefix given replies
front_of given reply replies front = (reply ++ front.0, sym (append_assoc given reply front.0) ∙ front.1)

-- what `gone` comes to
abbrev pub DropsTo : {C : Type 0} → Stop → LayoutShape → ℕ → DeskView → Token (ParkedView C) (OpenView C) → Option ChainState → Turn → (taken replies : List ℕ) → Type 0
DropsTo (Stop.Ended end) layout grant base desk told start taken replies = Closed layout grant base desk told start taken replies end
DropsTo Stop.Done layout grant base desk told start taken replies = ⊥
DropsTo Stop.Waits layout grant base desk told start taken replies = ⊥

module _ {C : Type 0} (layout : LayoutShape) (grant : ℕ) (sound : IsSound layout grant) (view new_view : SessionView) (base : DeskView) (start : Turn) (taken replies : List ℕ) (desk next : Token (ParkedView C) (OpenView C)) (going : view.stand ≡ Stand.Going) (before after : ChainState)
    (r : Reaches layout grant view base (desk_of layout desk before) start taken replies) where
  abbrev group : List ℕ
  group = group_of layout.grants grant

  is_group : IsGroup (group_of layout.grants grant) (length layout.parts)
  is_group = group_of_laws layout (group_of layout.grants grant) sound.group_is

  seat_going : r.turn.seat.going ≡ true
  seat_going = going_seat r.turn.seat view.stand going r.shows.stand

  seat_here : r.turn.seat.gone ≡ false
  seat_here = r.shows.here refl

  module _ (piece : List ℕ) where
    abbrev fed : Turn
    fed = record r.turn { seat = received piece r.turn.seat }

    module _ (stop : Stop) (came : Came layout grant new_view replies (desk_of layout desk before) (desk_of layout next after) (record r.turn { seat = received piece r.turn.seat }) stop) where
      alone : ((gone_on layout grant fed).seat ≡ finished fed.seat) × IsByItself grant (gone_on layout grant fed)
      alone = let all = none_waits layout grant fed (record { waiting = r.itself.waiting; holder = r.itself.holder }) in (all.seat, all.itself)

      none_wait : is_among grant (gone_on layout grant fed).waiting ≡ false
      none_wait = ap (is_among grant) alone.1.waiting

      seat_is : (gone_on layout grant fed).seat ≡ after_bytes (taken ++ piece) start.seat
      seat_is = alone.0 ∙ piece_taken start.seat r.turn.seat taken piece r.seat seat_going seat_here r.conn

      others : contents_of after ≡ with_contents (group_of layout.grants grant) (contents_of (gone_on layout grant fed).seat.chain) (contents_of base.chain)
      others = others_more layout (group_of layout.grants grant) grant is_group base (desk_of layout desk before) (desk_of layout next after) r.turn (gone_on layout grant fed) r.old_whole r.serves came.goes.serves r.others came.goes.others

      went : Steps (gone_on layout grant fed).seat fed.seat
      went = subst (λ s. Steps s fed.seat) (sym alone.0) (many_steps (steps_left fed.seat) fed.seat seat_going seat_here)

      fed_by : Steps (gone_on layout grant fed).seat fed.seat → FedTo stop layout grant new_view base next (Some after) start (taken ++ piece) (replies ++ new_view.reply)
      fed_by (inl on) =
          let stops : stop ≡ Stop.Done = came.goes.stops ∙ stops_on (is_among grant (gone_on layout grant fed).waiting) r.turn.seat.past (gone_on layout grant fed).seat.past none_wait on.past in
          subst (λ st. FedTo st layout grant new_view base next (Some after) start (taken ++ piece) (replies ++ new_view.reply)) (sym stops) (record {
            turn = gone_on layout grant fed;
            seat = seat_is;
            conn = on.conn ∙ r.conn;
            past = on.past ∙ r.past;
            shows = emptied new_view (gone_on layout grant fed).seat replies (subst (λ w. Shows new_view w (gone_on layout grant fed).seat replies) none_wait came.shows);
            serves = came.goes.serves;
            itself = alone.1;
            old_whole = r.old_whole;
            others = others;
          })
      fed_by (inr off) =
          let stops : stop ≡ Stop.Ended off.how = came.goes.stops ∙ stops_ended (is_among grant (gone_on layout grant fed).waiting) r.turn.seat.past (gone_on layout grant fed).seat.past (record { conn = r.turn.seat.conn; replies = off.replies; end = off.how }) off.past in
          let said : replies ++ new_view.reply ≡ off.replies =
          came.shows.replies ∙ replies_free (gone_on layout grant fed).seat off.free ∙ ap seats.last_replies off.past
          ∙ last_of r.turn.seat.past (record { conn = r.turn.seat.conn; replies = off.replies; end = off.how }) in
          let past : EndedSo off.how (replies ++ new_view.reply) start.seat (gone_on layout grant fed).seat =
          off.past ∙ (λ i. r.past i ++ record { conn = r.conn i; replies = sym said i; end = off.how } ∷ []) in
          subst (λ st. FedTo st layout grant new_view base next (Some after) start (taken ++ piece) (replies ++ new_view.reply)) (sym stops) (
            record {
              next = gone_on layout grant fed;
              seat = ended_input start.seat (gone_on layout grant fed).seat (taken ++ piece) seat_is off.free;
              past = past;
              serves = came.goes.serves;
              itself = alone.1;
              others = others;
            },
            off.own,
          )

      pub fed_to : FedTo stop layout grant new_view base next (Some after) start (taken ++ piece) (replies ++ new_view.reply)
      fed_to = fed_by went

    pub fed_front : RepliedBefore new_view replies fed.seat → IsPrefix replies (replies_now (after_bytes (taken ++ piece) start.seat))
    fed_front failed =
        subst (λ s. IsPrefix replies (replies_now s)) (piece_taken start.seat r.turn.seat taken piece r.seat seat_going seat_here r.conn)
        (front_of replies new_view.reply (replies_now (finished fed.seat)) failed.1)

  module _ (none : view.reply ≡ []) (stop : Stop) (came : Came layout grant new_view replies (desk_of layout desk before) (desk_of layout next after) (record r.turn { seat = record r.turn.seat { gone = true } }) stop) where
    abbrev left : Turn
    left = record r.turn { seat = record r.turn.seat { gone = true } }

    left_alone : ((gone_on layout grant left).seat ≡ finished left.seat) × IsByItself grant (gone_on layout grant left)
    left_alone = let all = none_waits layout grant left (record { waiting = r.itself.waiting; holder = r.itself.holder }) in (all.seat, all.itself)

    seat_done : IsFinished r.turn.seat
    seat_done = subst IsFinished (sym r.seat) (after_finished start.seat taken)

    pub drops_to : DropsTo stop layout grant base next (Some after) start taken replies
    drops_to =
        let drop = finished_drop r.turn.seat seat_done seat_going in
        let is : (gone_on layout grant left).seat ≡ ended drop.0 left.seat = left_alone.0 ∙ drop.1 in
        let last : EndedSession = record { conn = r.turn.seat.conn; replies = r.turn.seat.replies; end = drop.0 } in
        let past : (gone_on layout grant left).seat.past ≡ r.turn.seat.past ++ last ∷ [] = ap (λ (s : Seat). s.past) is in
        let stops : stop ≡ Stop.Ended drop.0 = came.goes.stops ∙ stops_ended (is_among grant (gone_on layout grant left).waiting) r.turn.seat.past (gone_on layout grant left).seat.past last past in
        let said : r.turn.seat.replies ≡ replies = sym (replies_going r.turn.seat seat_going) ∙ sym r.shows.replies ∙ ap (λ l. replies ++ l) none ∙ append-nil replies in
        subst (λ st. DropsTo st layout grant base next (Some after) start taken replies) (sym stops) (record {
          next = gone_on layout grant left;
          seat = left_alone.0 ∙ dropped_input start.seat r.turn.seat taken r.seat seat_going r.conn;
          past = past ∙ (λ i. r.past i ++ record { conn = r.conn i; replies = said i; end = drop.0 } ∷ []);
          serves = came.goes.serves;
          itself = left_alone.1;
          others = others_more layout (group_of layout.grants grant) grant is_group base (desk_of layout desk before) (desk_of layout next after) r.turn (gone_on layout grant left) r.old_whole r.serves came.goes.serves r.others came.goes.others;
        })

-- ---- over every cable

module _ {C : Type 0} (layout : LayoutShape) (grant : ℕ) (sound : IsSound layout grant) (view new_view : SessionView) (base : DeskView) (start : Turn) (taken replies : List ℕ) (desk next : Token (ParkedView C) (OpenView C)) (going : view.stand ≡ Stand.Going) where
  pub feeds : (before after : Option ChainState) (piece : List ℕ) (stop : Stop) → Reached layout grant view base desk before start taken replies
      → ((given : List ℕ) (turn : Turn) → Shows view false turn.seat given → ServedBy layout grant desk before turn → CameOn layout grant new_view given desk next before after (record turn { seat = received piece turn.seat }) stop)
      → FedTo stop layout grant new_view base next after start (taken ++ piece) (replies ++ new_view.reply)
  feeds None after piece stop r came = absurd r
  feeds (Some before) None piece stop r came = absurd (came replies r.turn r.shows r.serves)
  feeds (Some before) (Some after) piece stop r came =
      fed_to layout grant sound view new_view base start taken replies desk next going before after r piece stop (came replies r.turn r.shows r.serves)

  pub feeds_front : (before : Option ChainState) (piece : List ℕ) → Reached layout grant view base desk before start taken replies
      → ((given : List ℕ) (turn : Turn) → Shows view false turn.seat given → ServedBy layout grant desk before turn → RepliedBefore new_view given (received piece turn.seat))
      → IsPrefix replies (replies_now (after_bytes (taken ++ piece) start.seat))
  feeds_front None piece r failed = absurd r
  feeds_front (Some before) piece r failed =
      fed_front layout grant sound view new_view base start taken replies desk desk going before before r piece (failed replies r.turn r.shows r.serves)

  pub drops : (before after : Option ChainState) (stop : Stop) → view.reply ≡ [] → Reached layout grant view base desk before start taken replies
      → ((given : List ℕ) (turn : Turn) → Shows view (is_in_line view.stand) turn.seat given → ServedBy layout grant desk before turn → CameOn layout grant new_view given desk next before after (record turn { seat = record turn.seat { gone = true } }) stop)
      → DropsTo stop layout grant base next after start taken replies
  drops None after stop none r came = absurd r
  drops (Some before) None stop none r came = absurd (came replies r.turn (subst (λ w. Shows view w r.turn.seat replies) (sym (ap is_in_line going)) r.shows) r.serves)
  drops (Some before) (Some after) stop none r came =
      drops_to layout grant sound view new_view base start taken replies desk next going before after r none stop (came replies r.turn (subst (λ w. Shows view w r.turn.seat replies) (sym (ap is_in_line going)) r.shows) r.serves)

-- the replies so far are those of the bytes so far
pub reached_front : {C : Type 0} (layout : LayoutShape) (grant : ℕ) (view : SessionView) (base : DeskView) (desk : Token (ParkedView C) (OpenView C)) (told : Option ChainState) (start : Turn) (taken replies front : List ℕ)
    → view.stand ≡ Stand.Going → view.reply ≡ [] → Reached layout grant view base desk told start taken replies → IsPrefix front replies → IsPrefix front (replies_now (after_bytes taken start.seat))
reached_front layout grant view base desk None start taken replies front going none r is = absurd r
reached_front layout grant view base desk (Some chain) start taken replies front going none r is =
    subst (IsPrefix front) (sym (append-nil replies) ∙ ap (λ l. replies ++ l) (sym none) ∙ r.shows.replies ∙ ap replies_now r.seat) is

-- where a session begins
pub reaches_none : {C : Type 0} (layout : LayoutShape) (grant : ℕ) (sound : IsSound layout grant) (view : SessionView) (desk : Token (ParkedView C) (OpenView C)) (chain : ChainState) (start : Turn)
    → view.stand ≡ Stand.Going → Shows view false start.seat [] → IsFinished start.seat → Serves layout (group_of layout.grants grant) grant (desk_of layout desk chain) start → IsByItself grant start
    → Reaches layout grant view (desk_of layout desk chain) (desk_of layout desk chain) start [] []
reaches_none layout grant sound view desk chain start going shows done serves itself = record {
  turn = start;
  seat = none_taken start.seat done (going_seat start.seat view.stand going shows.stand) (shows.here refl);
  conn = refl;
  past = refl;
  shows = shows;
  serves = serves;
  itself = itself;
  old_whole = serves.whole;
  others = others_none layout (group_of layout.grants grant) grant (group_of_laws layout (group_of layout.grants grant) sound.group_is) (desk_of layout desk chain) start serves;
}

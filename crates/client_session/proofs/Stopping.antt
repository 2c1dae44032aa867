-- Where a call of a session stops: it rests, waits, or ends there, and the grant goes on no further.
use Rattle.std.proofs.Common.{◌≡◌, ◌≢◌, ◌≤◌, ◌<◌, ◌+◌, ℕ, zero, suc, Bool, true, false, cond, List, [], ◌∷◌, ◌++◌, drop, length, refl, ap, sym, ◌∙◌, subst, arith, nat_le, Some, None}
use Rattle.std.specs.declared.option.Option.{Option}
use Rattle.std.proofs.lemmas.Bool.{le-leb, leb-true}
use Rattle.std.proofs.lemmas.List.{append-nil}
use Rattle.chain_model.specs.Chains.{ChainState}
use Rattle.chain_token.specs.declared.token.Token.{Token}
use Rattle.chain_token.specs.Tokens.{waiting}
use Rattle.grant_table.specs.Layouts.{LayoutShape}
use Rattle.scan_share.specs.Views.{ParkedView, OpenView}
use Rattle.client_session.specs.declared.End.{End}
use Rattle.client_session.specs.declared.Stand.{Stand}
use Rattle.client_session.specs.declared.Stop.{Stop}
use Rattle.client_session.specs.declared.progress.Progress.{Progress}
use Rattle.client_session.specs.Seats.{Seat, EndedSession, next_in, load_next, step_of, without_message, advanced, ended, taken, most_bytes, gone_end, opens_next, last_replies, rises_next}
use Rattle.client_session.specs.Seats.Next.{Nothing}
use Rattle.client_session.specs.Turns.{Turn, is_among, advanced_turn, advanced_turns, freeing_cost, may_open}
use Rattle.client_session.specs.Sessions.{DeskView, SessionView, Shows, stand_of, stop_with}
use Rattle.client_session.specs.Stores.{KeepsProgress, view_of}
use Rattle.client_session.specs.Going.{EndsNext}
use Rattle.client_session.specs.Desks.{Attends, StepsTo}
use Rattle.client_session.specs.Calls.{ComesTo, EndsSo, HasLeft, KeepsSettings, RestsThere, ShowsSeat, StopsThere, WaitsThere}
use Rattle.client_session.proofs.Resting.{as_is, idle_step}
use Rattle.client_session.proofs.Quietly.{advanced_turns-add, no_rise_next}
use Rattle.virtual_tap.specs.Views.{StandsFor}

never : {A : Type 0} → false ≡ true → A
never e = absurd (let q : false ≡ true = e in cc)

not_le : (m n : ℕ) → n < m → nat_le m n ≡ false
not_le m n lt = go (nat_le m n) refl
  where
    go : (t : Bool) → nat_le m n ≡ t → t ≡ false
    go true h = absurd (omega (arith, leb-true m n h))
    go false h = refl

-- ---- a seat without a whole message

pub rest_advances : (seat : Seat) → seat.going ≡ true → seat.acts ≡ [] → next_in seat.protocol seat ≡ Nothing → advanced seat ≡ without_message seat
rest_advances seat g a n = (λ i. cond (g i) (step_of (a i) seat) seat) ∙ ap (λ next. load_next next seat) n

rest_long : (seat : Seat) → most_bytes ≤ taken seat → without_message seat ≡ ended (End.Long most_bytes) seat
rest_long seat full = rw (le-leb most_bytes (taken seat) full) refl

rest_stays : (seat : Seat) → taken seat < most_bytes → seat.gone ≡ false → without_message seat ≡ seat
rest_stays seat few here = rw (not_le most_bytes (taken seat) few, here) refl

rest_leaves : (seat : Seat) → taken seat < most_bytes → seat.gone ≡ true → without_message seat ≡ ended (gone_end seat.used seat.unused) seat
rest_leaves seat few gone = rw (not_le most_bytes (taken seat) few, gone) refl

gone_between : (used : ℕ) (unused : List ℕ) → length unused ≡ 0 → gone_end used unused ≡ End.Gone used
gone_between used [] h = refl
gone_between used (byte ∷ more) h = absurd (let q : suc (length more) ≡ 0 = h in omega arith)

gone_within : (used : ℕ) (unused : List ℕ) → 1 ≤ length unused → gone_end used unused ≡ End.Cut (used + length unused)
gone_within used [] h = absurd (omega arith)
gone_within used (byte ∷ more) h = refl

module _ (progress : Progress) (grant : ℕ) (given : List ℕ) (turn : Turn) (keeps : KeepsProgress progress) (rest : RestsThere progress grant given turn) where
  abbrev seat : Seat
  seat = turn.seat

  taken_is : taken seat ≡ progress.taken
  taken_is = (λ i. sym rest.shows.used i + length (sym rest.shows.unused i)) ∙ sym keeps.taken

  goes : advanced seat ≡ without_message seat
  goes = rest_advances seat rest.shows.tap.going rest.none rest.nothing

  pub ends_long : most_bytes ≤ progress.taken → advanced seat ≡ ended (End.Long most_bytes) seat
  ends_long full = goes ∙ rest_long seat (omega (arith, full, taken_is))

  pub stays_here : progress.taken < most_bytes → seat.gone ≡ false → advanced seat ≡ seat
  stays_here few here = goes ∙ rest_stays seat (omega (arith, few, taken_is)) here

  pub ends_gone : progress.taken < most_bytes → seat.gone ≡ true → progress.taken ≡ progress.used → advanced seat ≡ ended (End.Gone progress.used) seat
  ends_gone few gone all =
      goes ∙ rest_leaves seat (omega (arith, few, taken_is)) gone
      ∙ ap (λ end. ended end seat) (gone_between seat.used seat.unused (omega (arith, all, keeps.taken, ap length rest.shows.unused)) ∙ ap End.Gone (sym rest.shows.used))

  pub ends_cut : progress.taken < most_bytes → seat.gone ≡ true → progress.taken ≢ progress.used → advanced seat ≡ ended (End.Cut progress.taken) seat
  ends_cut few gone some =
      goes ∙ rest_leaves seat (omega (arith, few, taken_is)) gone
      ∙ ap (λ end. ended end seat) (gone_within seat.used seat.unused (least (length seat.unused) (λ none. some (omega (arith, keeps.taken, ap length rest.shows.unused, none)))) ∙ ap End.Cut taken_is)
    where
      least : (n : ℕ) → (n ≢ 0) → 1 ≤ n
      least zero h = absurd (h refl)
      least (suc n) h = omega arith

  -- the end is the next step
  pub rest_ends : (end : End) → advanced seat ≡ ended end seat → EndsSo end progress grant given turn
  rest_ends end is = record {
    tap = rest.shows.tap;
    replies = rest.shows.replies;
    opens = no_rise_next seat (ap (λ acts. rises_next acts seat) rest.none);
    ends = is;
    cost = λ width. ap (λ acts. freeing_cost acts width) rest.none;
  }

-- ---- what is shown there

stands_going : (waits : Bool) (seat : Seat) → seat.going ≡ true → stand_of waits seat ≡ cond waits (cond seat.gone Stand.Leaving Stand.Waits) Stand.Going
stands_going waits seat g = rw g refl

pub shows_on : (progress : Progress) (grant : ℕ) (given : List ℕ) (turn : Turn) (waits : Bool) (stand : Stand) → ShowsSeat progress grant given turn → stand ≡ cond waits (cond turn.seat.gone Stand.Leaving Stand.Waits) Stand.Going
    → (waits ≡ false → turn.seat.gone ≡ false) → Shows (view_of progress stand false) waits turn.seat given
shows_on progress grant given turn waits stand shows stand_is here = record {
  protocol = shows.tap.protocol;
  uses_trst = shows.tap.uses_trst;
  vector = shows.tap.vector;
  stand = stand_is ∙ sym (stands_going waits turn.seat shows.tap.going);
  here = here;
  tap = shows.tap.stands;
  tck = shows.tap.tck;
  trst = shows.tap.trst;
  unused = shows.unused;
  used = shows.used;
  acts = shows.acts;
  sampled = shows.sampled;
  replies = shows.replies ∙ sym (rw shows.tap.going refl);
  fit = refl;
}

last_of : (past : List EndedSession) (one : EndedSession) → last_replies (past ++ one ∷ []) ≡ one.replies
last_of [] one = refl
last_of (x ∷ []) one = refl
last_of (x ∷ y ∷ more) one = last_of (y ∷ more) one

drop_past : {X : Type 0} (past rest : List X) → drop (length past) (past ++ rest) ≡ rest
drop_past [] rest = refl
drop_past (x ∷ past) rest = drop_past past rest

pub shows_left : (old new : Progress) (grant : ℕ) (given : List ℕ) (turn : Turn) (end : End) (waits : Bool) → EndsSo end old grant given turn → KeepsSettings old new → HasLeft old new
    → StandsFor new.tap.view (ended end turn.seat).chain → Shows (view_of new Stand.Free false) waits (ended end turn.seat) given
shows_left old new grant given turn end waits ends same left stands = record {
  protocol = same.protocol ∙ ends.tap.protocol;
  uses_trst = same.uses_trst ∙ ends.tap.uses_trst;
  vector = same.vector ∙ ends.tap.vector;
  stand = refl;
  here = λ h. refl;
  tap = stands;
  tck = left.ended.1;
  trst = left.ended.2;
  unused = left.unused;
  used = left.used;
  acts = left.acts;
  sampled = left.sampled new.tap.view.tdo;
  replies = ap (λ r. given ++ r) left.reply ∙ ends.replies ∙ sym (last_of turn.seat.past (record { conn = turn.seat.conn; replies = turn.seat.replies; end = end }));
  fit = refl;
}

-- ---- where it stops

pub ends_next : (end : End) (progress : Progress) (grant : ℕ) (given : List ℕ) (turn : Turn) → EndsSo end progress grant given turn → EndsNext progress.tap grant turn
ends_next end progress grant given turn ends = record {
  holds = ends.tap.holds;
  types = ends.tap.types;
  stands = ends.tap.stands;
  opens = ends.opens;
  closes = ap (λ (s : Seat). s.chain) ends.ends;
  cost = ends.cost;
}

free_rests : (end : End) (seat : Seat) → advanced (ended end seat) ≡ ended end seat
free_rests end seat = refl

none_past : (waits : Bool) (seat : Seat) → stop_with waits (drop (length seat.past) seat.past) ≡ cond waits Stop.Waits Stop.Done
none_past waits seat = ap (stop_with waits) (ap (drop (length seat.past)) (sym (append-nil seat.past)) ∙ drop_past seat.past [])

module _ {C : Type 0} (layout : LayoutShape) (grant : ℕ) (base_desk : DeskView) (base : Turn) (given : List ℕ) where
  pub stops_ended : (old new : Progress) (end : End) (desk next : Token (ParkedView C) (OpenView C)) (before after : Option ChainState) (turn : Turn) → KeepsSettings old new → HasLeft old new
      → (Attends layout grant base_desk base (EndsNext old.tap grant) desk before turn → StepsTo layout grant new.tap base_desk base next after turn)
      → Attends layout grant base_desk base (EndsSo end old grant given) desk before turn
      → StopsThere layout grant base_desk base (view_of new Stand.Free false) given (Stop.Ended end) next after turn
  stops_ended old new end desk next None after turn same left went attends = absurd attends
  stops_ended old new end desk next (Some chain) None turn same left went attends = absurd (went (attends.0, ends_next end old grant given turn attends.1))
  stops_ended old new end desk next (Some chain) (Some chain_new) turn same left went attends =
      let ends = attends.1 in
      let there = went (attends.0, ends_next end old grant given turn ends) in
      let then = advanced_turn layout grant turn in
      let seat_is : then.seat ≡ ended end turn.seat = ap (λ (t : Turn). t.seat) (as_is layout grant false (may_open turn.holder turn.waiting grant) turn ends.opens refl) ∙ ends.ends in
      let still : advanced then.seat ≡ then.seat = ap advanced seat_is ∙ free_rests end turn.seat ∙ sym seat_is in
      let opens : opens_next then.seat ≡ false = ap opens_next seat_is in
      record {
        next = then;
        steps = 1;
        made = refl;
        rests = as_is layout grant false (may_open then.holder then.waiting grant) then opens refl ∙ idle_step layout grant then there.1.holds still;
        follows = there.0;
        shows = subst (λ seat. Shows (view_of new Stand.Free false) (is_among grant then.waiting) seat given) (sym seat_is)
            (shows_left old new grant given turn end (is_among grant then.waiting) ends same left
            (subst (λ (seat : Seat). StandsFor new.tap.view seat.chain) seat_is there.1.stands));
        stops = sym (ap (λ past. stop_with (is_among grant then.waiting) (drop (length turn.seat.past) past)) (ap (λ (s : Seat). s.past) seat_is)
            ∙ ap (stop_with (is_among grant then.waiting)) (drop_past turn.seat.past (record { conn = turn.seat.conn; replies = turn.seat.replies; end = end } ∷ [])));
      }

  -- it waits for the chain
  pub stops_waiting : (progress : Progress) (gone : Bool) (desk : Token (ParkedView C) (OpenView C)) (told : Option ChainState) (turn : Turn) → turn.seat.gone ≡ gone
      → Attends layout grant base_desk base (WaitsThere layout progress grant given) desk told turn
      → StopsThere layout grant base_desk base (view_of progress (cond gone Stand.Leaving Stand.Waits) false) given Stop.Waits desk told turn
  stops_waiting progress gone desk None turn same attends = absurd attends
  stops_waiting progress gone desk (Some chain) turn same attends =
      let there = attends.1 in
      record {
        next = turn;
        steps = 0;
        made = refl;
        rests = there.rests;
        follows = attends.0;
        shows = shows_on progress grant given turn (is_among grant turn.waiting) (cond gone Stand.Leaving Stand.Waits) there.shows
            (sym (ap (λ w. cond w (cond turn.seat.gone Stand.Leaving Stand.Waits) Stand.Going) there.waits ∙ ap (λ g. cond g Stand.Leaving Stand.Waits) same))
            (λ h. never (sym h ∙ there.waits));
        stops = sym (ap (λ w. stop_with w (drop (length turn.seat.past) turn.seat.past)) there.waits ∙ none_past true turn.seat);
      }

  -- it waits for bytes
  pub stops_resting : (progress : Progress) (desk : Token (ParkedView C) (OpenView C)) (told : Option ChainState) (turn : Turn) → turn.seat.gone ≡ false → is_among grant (waiting desk) ≡ false
      → ((turn : Turn) → RestsThere progress grant given turn → turn.seat.gone ≡ false → advanced turn.seat ≡ turn.seat)
      → Attends layout grant base_desk base (RestsThere progress grant given) desk told turn
      → StopsThere layout grant base_desk base (view_of progress Stand.Going false) given Stop.Done desk told turn
  stops_resting progress desk None turn here line stays attends = absurd attends
  stops_resting progress desk (Some chain) turn here line stays attends =
      let there = attends.1 in
      let still = stays turn there here in
      let opens = no_rise_next turn.seat (ap (λ acts. rises_next acts turn.seat) there.none) in
      let none : is_among grant turn.waiting ≡ false = ap (is_among grant) (sym attends.0.serves.waiting) ∙ line in
      record {
        next = turn;
        steps = 0;
        made = refl;
        rests = as_is layout grant false (may_open turn.holder turn.waiting grant) turn opens refl ∙ idle_step layout grant turn there.shows.tap.holds still;
        follows = attends.0;
        shows = shows_on progress grant given turn (is_among grant turn.waiting) Stand.Going there.shows (sym (ap (λ w. cond w (cond turn.seat.gone Stand.Leaving Stand.Waits) Stand.Going) none)) (λ h. here);
        stops = sym (ap (λ w. stop_with w (drop (length turn.seat.past) turn.seat.past)) none ∙ none_past false turn.seat);
      }

  -- it ends where it rested
  pub stops_there : (end : End) (progress : Progress) (desk : Token (ParkedView C) (OpenView C)) (told : Option ChainState) (turn : Turn) → KeepsProgress progress
      → (RestsThere progress grant given turn → advanced turn.seat ≡ ended end turn.seat)
      → Attends layout grant base_desk base (RestsThere progress grant given) desk told turn → Attends layout grant base_desk base (EndsSo end progress grant given) desk told turn
  stops_there end progress desk None turn keeps is attends = absurd attends
  stops_there end progress desk (Some chain) turn keeps is attends = (attends.0, rest_ends progress grant given turn keeps attends.1 end (is attends.1))

  -- after steps on the way
  pub comes_then : (P : Turn → Type 0) (view : SessionView) (stop : Stop) (desk next : Token (ParkedView C) (OpenView C)) (before after : Option ChainState) (turn : Turn) → ComesTo layout grant (Attends layout grant base_desk base P desk before) turn
      → ((here : Turn) → here.seat.gone ≡ turn.seat.gone → Attends layout grant base_desk base P desk before here → StopsThere layout grant base_desk base view given stop next after here)
      → StopsThere layout grant base_desk base view given stop next after turn
  comes_then P view stop desk next before None turn comes then = absurd (then comes.next comes.gone comes.there)
  comes_then P view stop desk next before (Some chain) turn comes then =
      let on = then comes.next comes.gone comes.there in
      record {
        next = on.next;
        steps = comes.steps + on.steps;
        made = on.made ∙ ap (advanced_turns on.steps layout grant) comes.made ∙ sym (advanced_turns-add layout grant comes.steps on.steps turn);
        rests = on.rests;
        follows = on.follows;
        shows = on.shows;
        stops = on.stops ∙ ap (λ past. stop_with (is_among grant on.next.waiting) (drop (length past) on.next.seat.past)) comes.past;
      }

-- The calls of a grant's session beside the play of all, by what the cable tells of its chain.
use Rattle.std.proofs.Common.{◌≡◌, ◌≢◌, ◌<◌, ◌-◌, ◌==◌, ◌&&◌, not, ℕ, Bool, true, false, List, [], ◌∷◌, ◌++◌, length, take, refl, ap, sym, ◌∙◌, subst, arith, inl, inr, Some, None, length-append, length-take}
use Rattle.std.specs.declared.option.Option.{Option}
use Rattle.std.specs.declared.result.Result.{Result}
use Rattle.std.specs.declared.result.Result.TheVariants.{Ok, Err}
use Rattle.std.specs.Prelude.{OnErr}
use Rattle.std.proofs.lemmas.Bool.{eqb-true}
use Rattle.std.proofs.lemmas.Bool.Decides.{eqb_tells}
use Rattle.std.proofs.lemmas.List.{get_or-set_same, get_or-set_other, set-get_or, append-nil}
use Rattle.chain_model.specs.Chains.{ChainState}
use Rattle.chain_token.specs.declared.token.Token.{Token}
use Rattle.chain_token.specs.Tokens.{holder, waiting}
use Rattle.chain_token.specs.Waiting.{is_among, may_open, next_in_line}
use Rattle.tap_states.specs.States.{is_capture_dr}
use Rattle.grant_table.specs.Layouts.{LayoutShape, group_of}
use Rattle.scan_share.specs.Views.{ParkedView, OpenView}
use Rattle.client_session.specs.declared.Stand.{Stand}
use Rattle.client_session.specs.declared.Stop.{Stop}
use Rattle.client_session.specs.Acts.{Act}
use Rattle.client_session.specs.Acts.Act.{Say, SayTdo, Sample, Rise, Fall, Pack, SetLines, SetTrst, EndAt}
use Rattle.client_session.specs.Seats.{Seat, finished, most_bytes, opens_next, replies_now, rises_next, steps_left, taken}
use Rattle.client_session.specs.Private.{received}
use Rattle.client_session.specs.Turns.{Turn, gone_on}
use Rattle.client_session.specs.Sessions.{Came, IsPrefix, RepliedBefore, Serves, Shows, is_here, is_in_line, stand_after}
use Rattle.client_session.specs.Desks.{desk_of}
use Rattle.client_session.specs.Calls.{CameOn, ServedBy}
use Rattle.client_session.proofs.Calling.{free_stays, replies_on}
use Rattle.plays.specs.Plays.{Setting, Play, go, is_waiting, no_seat, seat_at, turn_at, with_seat}
use Rattle.plays.proofs.Lists.{false_true}
use Rattle.session_table.specs.declared.seats.Seat.{Seat as Entry}
use Rattle.session_table.specs.declared.seats.Seats.{Seats}
use Rattle.session_table.specs.Tables.{IsCalm, IsFew}
use Rattle.session_table.specs.AtDesk.{MayServe, NotesStop, OnlySession, WentAtDesk, joins_by, session_at, stands_at}
use Rattle.session_table.specs.Going.{Attends, AttendsOn, Fronts, GoneOn}
use Rattle.session_table.proofs.Entries.{length_list, other_entry}
use Rattle.session_table.proofs.Lifting.{gone_on_then, serves_now}
use Rattle.session_table.proofs.TurnLaws.{joined_if, joins_first, joins_out, joins_still}

-- ---- what a call does to a seat

pub few_received : (bytes : List ℕ) (seat : Seat) → IsFew seat → IsFew (received bytes seat)
few_received bytes seat few = record {
  acts = few.acts;
  bytes = omega (arith, few.bytes, length-append seat.unused (take (most_bytes - taken seat) bytes), length-take (most_bytes - taken seat) bytes);
}

abbrev pub marked : Seat → Seat
marked seat = record seat { gone = true }

rises_marked : (acts : List Act) (seat : Seat) → rises_next acts (marked seat) ≡ rises_next acts seat
rises_marked [] seat = refl
rises_marked (Say x ∷ acts) seat = refl
rises_marked (SayTdo ∷ acts) seat = refl
rises_marked (Sample ∷ acts) seat = refl
rises_marked (Rise tms tdi ∷ acts) seat = refl
rises_marked (Fall ∷ acts) seat = refl
rises_marked (Pack ∷ acts) seat = refl
rises_marked (SetLines tck tms tdi ∷ acts) seat = refl
rises_marked (SetTrst level ∷ acts) seat = refl
rises_marked (EndAt at ∷ acts) seat = refl

pub opens_marked : (seat : Seat) → opens_next (marked seat) ≡ opens_next seat
opens_marked seat = ap (λ b. seat.going && (is_capture_dr seat.chain.state && (not seat.chain.scan_open && b))) (rises_marked seat.acts seat)

-- ---- joins

joins_as : (stop : Stop) (gone : Bool) (joins : ℕ) → joined_if (is_in_line (stand_after stop gone)) joins ≡ joins_by false stop joins
joins_as Stop.Done gone joins = refl
joins_as Stop.Waits true joins = refl
joins_as Stop.Waits false joins = refl
joins_as (Stop.Ended end) gone joins = refl

joins_stay : (stop : Stop) (joins : ℕ) → joins_by true stop joins ≡ joins
joins_stay Stop.Done joins = refl
joins_stay Stop.Waits joins = refl
joins_stay (Stop.Ended end) joins = refl

not_first : (holds : Option ℕ) (waits : List ℕ) (grant : ℕ) → is_among grant waits ≡ true → next_in_line holds waits ≢ Some grant → may_open holds waits grant ≡ false
not_first (Some h) waits grant among not_next = refl
not_first None [] grant among not_next = false_true among
not_first None (first ∷ rest) grant among not_next = by (first == grant) refl
  where
    by : (b : Bool) → (first == grant) ≡ b → (first == grant) ≡ false
    by false e = e
    by true e = absurd (not_next (ap Some (eqb-true first grant e)))

-- ---- replies

prefix_finished : (seat : Seat) → IsPrefix (replies_now seat) (replies_now (finished seat))
prefix_finished seat = by seat.going refl
  where
    by : (g : Bool) → seat.going ≡ g → IsPrefix (replies_now seat) (replies_now (finished seat))
    by true e = subst (λ r. IsPrefix r (replies_now (finished seat))) (sym (rw e refl)) (replies_on (steps_left seat) seat e)
    by false e = ([], append-nil (replies_now seat) ∙ sym (ap replies_now (free_stays (steps_left seat) seat e)))

module _ {C : Type 0} (setting : Setting) (grant : ℕ) (old mid : Seats) (desk : Token (ParkedView C) (OpenView C)) (given : ℕ → List ℕ) (chain : ChainState) (play : Play) (seat : Seat)
    (lt : grant < length old.list.items) (count : length old.list.items ≡ length old.layout.grants) (only : OnlySession grant old mid) (att : Attends setting old (holder desk) (waiting desk) given chain play) where
  pub fronts_then : RepliedBefore (session_at mid grant) (given grant) seat → Fronts mid given (with_seat grant seat play)
  fronts_then replied other below = elim (eqb_tells other grant) [
    | inl e ↦ subst (λ g. IsPrefix (given g ++ (session_at mid g).reply) (replies_now (finished (seat_at (with_seat grant seat play) g)))) (sym e.1)
        (subst (λ s. IsPrefix (given grant ++ (session_at mid grant).reply) (replies_now (finished s))) (sym (get_or-set_same play.seats grant seat no_seat there)) replied.1)
    | inr n ↦ subst (λ (x : Entry). IsPrefix (given other ++ x.session.view.reply) (replies_now (finished (seat_at (with_seat grant seat play) other)))) (sym (other_entry grant other old mid only n.1))
        (subst (λ s. IsPrefix (given other ++ (session_at old other).reply) (replies_now (finished s))) (sym (get_or-set_other play.seats grant other seat no_seat n.1))
        (subst (λ r. IsPrefix r (replies_now (finished (seat_at play other)))) (sym (att.shown other (inside other below)).shows.replies) (prefix_finished (seat_at play other))))
  ]
    where
      all : length old.list.items ≡ length setting.layout.grants
      all = count ∙ ap (λ (l : LayoutShape). length l.grants) att.layout

      there : grant < length play.seats
      there = let a = all in omega (arith, lt, a, att.under_way.seats)

      inside : (k : ℕ) → k < length mid.list.items → k < length setting.layout.grants
      inside k lt = let a = all in omega (arith, lt, length_list grant old mid only, a)

-- ---- by what is told

module _ {C : Type 0} (setting : Setting) (grant : ℕ) (old mid new : Seats) (desk next : Token (ParkedView C) (OpenView C)) (given : ℕ → List ℕ) (play : Play) (stop : Stop) (waited has_trst : Bool) where
  -- a call that led from the seat of a play, as its event left it
  called : (before after : ChainState) (seat : Seat) (told : Option ChainState) (trst : Bool) → MayServe old desk told trst → grant < length old.list.items → WentAtDesk grant old mid desk next → NotesStop grant waited stop mid new
      → Attends setting old (holder desk) (waiting desk) given before play
      → Came old.layout grant (session_at mid grant) (given grant) (desk_of old.layout desk before) (desk_of old.layout next after) (record (turn_at play grant) { seat = seat }) stop
      → (gone : Bool) → stands_at mid grant ≡ stand_after stop gone
      → ((turn : Turn) → turn ≡ record (turn_at play grant) { seat = seat } → is_among grant (gone_on setting.layout grant turn).waiting ≡ is_in_line (stand_after stop gone) → (gone_on setting.layout grant turn).joins ≡ joins_by waited stop play.joins)
      → seat.chain ≡ (seat_at play grant).chain → seat.conn ≡ (seat_at play grant).conn → seat.going ≡ (seat_at play grant).going → IsFew seat
      → GoneOn setting old new next given (Some after) play (go setting grant (with_seat grant seat play))
  called before after seat told trst may lt went noted att came gone stands joins chain_is conn_is going_is few =
      let there = subst (λ l. Came l grant (session_at mid grant) (given grant) (desk_of l desk before) (desk_of l next after) (record (turn_at play grant) { seat = seat }) stop) att.layout came in
      gone_on_then setting grant old mid new desk next given before after play seat stop waited may.fits lt went noted att there
      (joins (record (turn_at play grant) { seat = seat }) refl (ap (is_among grant) (sym there.goes.serves.waiting) ∙ went.here.line ∙ ap is_in_line stands))
      chain_is conn_is going_is few

module _ {C : Type 0} (setting : Setting) (grant : ℕ) (old mid new : Seats) (desk next : Token (ParkedView C) (OpenView C)) (given : ℕ → List ℕ) (play : Play) (stop : Stop) (trst : Bool) where
  served : (before : ChainState) → MayServe old desk (Some before) trst → grant < length old.list.items → Attends setting old (holder desk) (waiting desk) given before play → ServedBy old.layout grant desk (Some before) (turn_at play grant)
  served before may lt att =
      subst (λ l. Serves l (group_of l.grants grant) grant (desk_of l desk before) (turn_at play grant)) (sym att.layout) (serves_now setting grant old desk given before play may.fits may.at_desk lt att)

  below_of : (before : ChainState) → MayServe old desk (Some before) trst → grant < length old.list.items → Attends setting old (holder desk) (waiting desk) given before play → grant < length setting.layout.grants
  below_of before may lt att = let e = ap (λ (l : LayoutShape). length l.grants) att.layout in omega (arith, lt, may.fits.count, e)

  waits_are : (before : ChainState) → MayServe old desk (Some before) trst → grant < length old.list.items → Attends setting old (holder desk) (waiting desk) given before play → is_waiting play grant ≡ is_in_line (stands_at old grant)
  waits_are before may lt att = ap (is_among grant) (sym att.waiting_is) ∙ (may.at_desk.each grant lt).line

  pub feed_played : (piece : List ℕ) (told now : Option ChainState) → MayServe old desk told trst → grant < length old.list.items → stands_at old grant ≡ Stand.Going → WentAtDesk grant old mid desk next → NotesStop grant false stop mid new
      → stands_at mid grant ≡ stand_after stop false
      → ((given : List ℕ) (turn : Turn) → Shows (session_at old grant) false turn.seat given → ServedBy old.layout grant desk told turn
      → CameOn old.layout grant (session_at mid grant) given desk next told now (record turn { seat = received piece turn.seat }) stop)
      → AttendsOn setting old desk given told play → GoneOn setting old new next given now play (go setting grant (with_seat grant (received piece (seat_at play grant)) play))
  feed_played piece None now may lt stands went noted after came att = absurd att
  feed_played piece (Some before) now may lt stands went noted after came att = by now (came (given grant) (turn_at play grant) shows (served before may lt att))
    where
      out : is_waiting play grant ≡ false
      out = waits_are before may lt att ∙ ap is_in_line stands

      shows : Shows (session_at old grant) false (seat_at play grant) (given grant)
      shows = subst (λ w. Shows (session_at old grant) w (seat_at play grant) (given grant)) out (att.shown grant (below_of before may lt att)).shows

      by : (o : Option ChainState) → CameOn old.layout grant (session_at mid grant) (given grant) desk next (Some before) o (record (turn_at play grant) { seat = received piece (seat_at play grant) }) stop
          → GoneOn setting old new next given o play (go setting grant (with_seat grant (received piece (seat_at play grant)) play))
      by None c = absurd c
      by (Some x) c =
          called setting grant old mid new desk next given play stop false trst before x (received piece (seat_at play grant)) (Some before) trst may lt went noted att c false after
          (λ turn is line. joins_out setting.layout grant turn (ap (λ (t : Turn). is_among grant t.waiting) is ∙ out) ∙ ap (λ b. joined_if b turn.joins) line ∙ joins_as stop false turn.joins ∙ ap (λ (t : Turn). joins_by false stop t.joins) is)
          refl refl refl (few_received piece (seat_at play grant) (att.under_way.few grant))

  pub resume_played : (told now : Option ChainState) → MayServe old desk told trst → grant < length old.list.items → is_in_line (stands_at old grant) ≡ true → may_open (holder desk) (waiting desk) grant ≡ true
      → (gone : Bool) → WentAtDesk grant old mid desk next → NotesStop grant false stop mid new → stands_at mid grant ≡ stand_after stop gone
      → ((given : List ℕ) (turn : Turn) → Shows (session_at old grant) true turn.seat given → ServedBy old.layout grant desk told turn
      → CameOn old.layout grant (session_at mid grant) given desk next told now turn stop)
      → AttendsOn setting old desk given told play → IsCalm play → GoneOn setting old new next given now play (go setting grant play)
  resume_played None now may lt stands first gone went noted after came att calm = absurd att
  resume_played (Some before) now may lt stands first gone went noted after came att calm = by now (came (given grant) (turn_at play grant) shows (served before may lt att))
    where
      waits : is_waiting play grant ≡ true
      waits = waits_are before may lt att ∙ stands

      shows : Shows (session_at old grant) true (seat_at play grant) (given grant)
      shows = subst (λ w. Shows (session_at old grant) w (seat_at play grant) (given grant)) waits (att.shown grant (below_of before may lt att)).shows

      may_now : may_open play.holder play.waiting grant ≡ true
      may_now = sym (λ i. may_open (att.holder_is i) (att.waiting_is i) grant) ∙ first

      same : with_seat grant (seat_at play grant) play ≡ play
      same = ap (λ seats. record play { seats = seats }) (set-get_or play.seats grant no_seat)

      by : (o : Option ChainState) → CameOn old.layout grant (session_at mid grant) (given grant) desk next (Some before) o (turn_at play grant) stop → GoneOn setting old new next given o play (go setting grant play)
      by None c = absurd c
      by (Some x) c =
          subst (λ p. GoneOn setting old new next given (Some x) play (go setting grant p)) same
          (called setting grant old mid new desk next given play stop false trst before x (seat_at play grant) (Some before) trst may lt went noted att c gone after
          (λ turn is line. joins_first setting.layout grant turn (ap (λ (t : Turn). opens_next t.seat) is ∙ calm.waits grant waits) (ap (λ (t : Turn). may_open t.holder t.waiting grant) is ∙ may_now)
          ∙ ap (λ b. joined_if b turn.joins) line ∙ joins_as stop gone turn.joins ∙ ap (λ (t : Turn). joins_by false stop t.joins) is)
          refl refl refl (att.under_way.few grant))

  pub drop_played : (told now : Option ChainState) (waited : Bool) → MayServe old desk told trst → grant < length old.list.items → is_here (stands_at old grant) ≡ true → next_in_line (holder desk) (waiting desk) ≢ Some grant
      → waited ≡ is_in_line (stands_at old grant) → WentAtDesk grant old mid desk next → NotesStop grant waited stop mid new → stands_at mid grant ≡ stand_after stop true
      → ((given : List ℕ) (turn : Turn) → Shows (session_at old grant) (is_in_line (stands_at old grant)) turn.seat given → ServedBy old.layout grant desk told turn
      → CameOn old.layout grant (session_at mid grant) given desk next told now (record turn { seat = record turn.seat { gone = true } }) stop)
      → AttendsOn setting old desk given told play → IsCalm play → GoneOn setting old new next given now play (go setting grant (with_seat grant (record (seat_at play grant) { gone = true }) play))
  drop_played None now waited may lt here not_next is_waited went noted after came att calm = absurd att
  drop_played (Some before) now waited may lt here not_next is_waited went noted after came att calm = by now (came (given grant) (turn_at play grant) shows (served before may lt att))
    where
      waits : is_waiting play grant ≡ is_in_line (stands_at old grant)
      waits = waits_are before may lt att

      shows : Shows (session_at old grant) (is_in_line (stands_at old grant)) (seat_at play grant) (given grant)
      shows = subst (λ w. Shows (session_at old grant) w (seat_at play grant) (given grant)) waits (att.shown grant (below_of before may lt att)).shows

      joins : (w : Bool) → waited ≡ w → (turn : Turn) → turn ≡ record (turn_at play grant) { seat = marked (seat_at play grant) } → is_among grant (gone_on setting.layout grant turn).waiting ≡ is_in_line (stand_after stop true)
          → (gone_on setting.layout grant turn).joins ≡ joins_by waited stop play.joins
      joins false w turn is line =
          joins_out setting.layout grant turn (ap (λ (t : Turn). is_among grant t.waiting) is ∙ waits ∙ sym is_waited ∙ w) ∙ ap (λ b. joined_if b turn.joins) line ∙ joins_as stop true turn.joins
          ∙ ap (λ (t : Turn). joins_by false stop t.joins) is ∙ ap (λ b. joins_by b stop play.joins) (sym w)
      joins true w turn is line =
          let among : is_waiting play grant ≡ true = waits ∙ sym is_waited ∙ w in
          joins_still setting.layout grant turn (ap (λ (t : Turn). opens_next t.seat) is ∙ opens_marked (seat_at play grant) ∙ calm.waits grant among)
          (ap (λ (t : Turn). may_open t.holder t.waiting grant) is ∙ not_first play.holder play.waiting grant among (λ e. not_next ((λ i. next_in_line (att.holder_is i) (att.waiting_is i)) ∙ e)))
          (ap (λ (t : Turn). is_among grant t.waiting) is ∙ among)
          ∙ ap (λ (t : Turn). t.joins) is ∙ sym (joins_stay stop play.joins) ∙ ap (λ b. joins_by b stop play.joins) (sym w)

      by : (o : Option ChainState) → CameOn old.layout grant (session_at mid grant) (given grant) desk next (Some before) o (record (turn_at play grant) { seat = record (seat_at play grant) { gone = true } }) stop
          → GoneOn setting old new next given o play (go setting grant (with_seat grant (record (seat_at play grant) { gone = true }) play))
      by None c = absurd c
      by (Some x) c =
          called setting grant old mid new desk next given play stop waited trst before x (marked (seat_at play grant)) (Some before) trst may lt went noted att c true after
          (joins waited refl) refl refl refl (record { acts = (att.under_way.few grant).acts; bytes = (att.under_way.few grant).bytes })

-- ---- where the cable failed

module _ {C : Type 0} (setting : Setting) (grant : ℕ) (old mid : Seats) (desk : Token (ParkedView C) (OpenView C)) (given : ℕ → List ℕ) (play : Play) (trst : Bool) (waits : Bool) (event : Seat → Seat) where
  pub call_failed : (told : Option ChainState) → MayServe old desk told trst → grant < length old.list.items → is_in_line (stands_at old grant) ≡ waits → OnlySession grant old mid
      → ((given : List ℕ) (turn : Turn) → Shows (session_at old grant) waits turn.seat given → ServedBy old.layout grant desk told turn → RepliedBefore (session_at mid grant) given (event turn.seat))
      → AttendsOn setting old desk given told play → Fronts mid given (with_seat grant (event (seat_at play grant)) play)
  call_failed None may lt line only failed att = absurd att
  call_failed (Some before) may lt line only failed att =
      fronts_then setting grant old mid desk given before play (event (seat_at play grant)) lt may.fits.count only att
      (failed (given grant) (turn_at play grant)
      (subst (λ w. Shows (session_at old grant) w (seat_at play grant) (given grant)) (waits_are setting grant old mid mid desk desk given play Stop.Done trst before may lt att ∙ line) (att.shown grant (below_of setting grant old mid mid desk desk given play Stop.Done trst before may lt att)).shows)
      (served setting grant old mid mid desk desk given play Stop.Done trst before may lt att))

-- of the first in line
pub resume_failed : {C : Type 0} (setting : Setting) (grant : ℕ) (old mid : Seats) (desk : Token (ParkedView C) (OpenView C)) (given : ℕ → List ℕ) (play : Play) (trst : Bool)
    (told : Option ChainState) → MayServe old desk told trst → grant < length old.list.items → is_in_line (stands_at old grant) ≡ true → OnlySession grant old mid
    → ((given : List ℕ) (turn : Turn) → Shows (session_at old grant) true turn.seat given → ServedBy old.layout grant desk told turn → RepliedBefore (session_at mid grant) given turn.seat)
    → AttendsOn setting old desk given told play → Fronts mid given play
resume_failed setting grant old mid desk given play trst told may lt line only failed att =
    subst (Fronts mid given) (ap (λ seats. record play { seats = seats }) (set-get_or play.seats grant no_seat))
    (call_failed setting grant old mid desk given play trst true (λ seat. seat) told may lt line only failed att)

-- ---- answers

pub on_err : {T E : Type 0} {P : Type 0} (result : Result T E) → P → OnErr result P
on_err (Ok value) p = tt
on_err (Err error) p = p

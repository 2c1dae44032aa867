-- The chain is handed on, beside the play.
use Rattle.std.proofs.Common.{◌≡◌, ◌≤◌, ◌<◌, ◌+◌, ◌*◌, ◌-◌, ◌^◌, ℕ, zero, suc, Bool, true, List, [], ◌∷◌, ◌++◌, map, length, refl, ap, sym, ◌∙◌, subst, arith, inl, inr, Some, None, append_assoc}
use Rattle.std.specs.declared.option.Option.{Option}
use Rattle.std.specs.List.{slice_index_or, slice_set}
use Rattle.std.proofs.lemmas.Bool.{cases_lt}
use Rattle.std.proofs.lemmas.List.{append-nil, length-set}
use Rattle.base_types.specs.Tellings.{Told}
use Rattle.chain_model.specs.Chains.{ChainState}
use Rattle.chain_token.specs.declared.token.Token.{Token}
use Rattle.chain_token.specs.Tokens.{holder, waiting}
use Rattle.chain_token.specs.Waiting.{IsQueue, is_among, next_in_line}
use Rattle.std.specs.Prelude.{vec_capacity}
use Rattle.std.proofs.lemmas.Nat.{mul-le}
use Rattle.grant_table.specs.Apart.{KeepsApart}
use Rattle.grant_table.specs.Faults.{IsLayout}
use Rattle.grant_table.specs.Kept.{AllParts}
use Rattle.grant_table.specs.Layouts.{LayoutShape}
use Rattle.scan_share.specs.Scans.{IsWhole}
use Rattle.scan_share.specs.Views.{ParkedView, OpenView}
use Rattle.client_session.specs.Seats.{Seat, finished, most_bytes, replies_now}
use Rattle.client_session.specs.Sessions.{IsPrefix, is_taken}
use Rattle.client_session.proofs.Later.{finished-advanced}
use Rattle.plays.specs.Plays.{Setting, Play, SessionEnd, all_steps_left, go, go_if, handed_on_once, handed_on_times, is_waiting, no_seat, seat_at}
use Rattle.plays.specs.Schedule.{going_on, one_or_none, with_ready}
use Rattle.plays.proofs.Waiting.{keeps_at}
use Rattle.plays.proofs.Going.{Calm}
use Rattle.plays.proofs.Moving.{go_if_keeps}
use Rattle.plays.proofs.Serving.{all_work_within, calm_if, none_left}
use Rattle.session_table.specs.declared.Ended.{Ended}
use Rattle.session_table.specs.declared.seats.Seat.{Seat as Entry}
use Rattle.session_table.specs.declared.Ended.{Ended}
use Rattle.session_table.specs.declared.seats.Seats.{Seats}
use Rattle.session_table.specs.Tables.{IsCalm, IsFew, IsUnderWay, SeatShown, StaysSo}
use Rattle.session_table.specs.Shown.{seat_view, session_end}
use Rattle.session_table.specs.AtDesk.{EachEndedThere, EntryAtDesk, EntryFits, KeepsSeats, LineWent, MayServe, OnlyReady, SeatsFit, SetsReady, entry, no_entry, session_at, stands_at}
use Rattle.session_table.specs.Going.{AttendsOn, EndsAlike, Fronts, GoneOn, HandedOn}

-- ---- calm plays

pub to_calm : (setting : Setting) (play : Play) → IsUnderWay setting play → IsCalm play → Calm play
to_calm setting play way calm = record { ordered = record { waits = calm.waits; holds = λ g h. sym (way.scans g) ∙ h }; rest = calm.rests }

pub from_calm : (play : Play) → Calm play → IsCalm play
from_calm play calm = record { waits = calm.ordered.waits; rests = calm.rest }

-- ---- a session is made ready

pub only_ready : (grant : ℕ) (flag : Bool) (mid new : Seats) → SetsReady grant flag mid new → OnlyReady mid new
only_ready grant flag mid new sets = record { else_same = sets.else_same; ended = sets.ended; list = sets.list; flags = ap length sets.ready ∙ length-set mid.ready.items grant flag }

module _ (mid new : Seats) (sets : OnlyReady mid new) where
  pub ready_entry : (other : ℕ) → entry new other ≡ entry mid other
  ready_entry other = ap (λ (v : _). slice_index_or v.items other no_entry) sets.list

  pub ready_kept : (old : Seats) → KeepsSeats old mid → KeepsSeats old new
  ready_kept old kept = record {
    layout = sets.else_same.layout ∙ kept.layout;
    vector = sets.else_same.vector ∙ kept.vector;
    trst = sets.else_same.trst ∙ kept.trst;
    conns = ap (λ (v : _). map (λ (e : Entry). e.conn) v.items) sets.list ∙ kept.conns;
    flags = sets.flags ∙ kept.flags;
  }

  ready_fits : SeatsFit mid → SeatsFit new
  ready_fits fits = record {
    is = subst (λ l. IsLayout l) (sym sets.else_same.layout) fits.is;
    apart = subst (λ l. KeepsApart l) (sym sets.else_same.layout) fits.apart;
    parts = subst (λ (l : LayoutShape). AllParts l.parts) (sym sets.else_same.layout) fits.parts;
    count = ap (λ (v : _). length v.items) sets.list ∙ fits.count ∙ ap (λ (l : LayoutShape). length l.grants) (sym sets.else_same.layout);
    flags = sets.flags ∙ fits.flags ∙ ap (λ (l : LayoutShape). length l.grants) (sym sets.else_same.layout);
    few = subst (λ (v : _). length v.items ≤ 16) (sym sets.list) fits.few;
    room = subst (λ (v : _). 16 ≤ vec_capacity v) (sym sets.ended) fits.room;
    each = λ other below.
        subst (λ l. EntryFits l new.uses_trst other (entry new other)) (sym sets.else_same.layout)
        (subst (λ t. EntryFits mid.layout t other (entry new other)) (sym sets.else_same.trst)
        (subst (λ x. EntryFits mid.layout mid.uses_trst other x) (sym (ready_entry other)) (fits.each other (subst (λ (v : _). other < length v.items) sets.list below))));
    once = subst (λ (v : _). IsQueue (map (λ (e : Ended). e.grant) v.items)) (sym sets.ended) fits.once;
    free = λ other among. ap (λ (x : Entry). is_taken x.session.view.stand) (ready_entry other) ∙ fits.free other (subst (λ (v : _). is_among other (map (λ (e : Ended). e.grant) v.items) ≡ true) sets.ended among);
  }

  module _ {C : Type 0} (desk : Token (ParkedView C) (OpenView C)) where
    pub ready_may : (told : Option ChainState) (trst : Bool) → MayServe mid desk told trst → MayServe new desk told trst
    ready_may told trst may = record {
      fits = ready_fits may.fits;
      at_desk = record {
        each = λ other below.
            subst (λ l. EntryAtDesk l other (session_at new other) desk) (sym sets.else_same.layout)
            (subst (λ (x : Entry). EntryAtDesk mid.layout other x.session.view desk) (sym (ready_entry other)) (may.at_desk.each other (subst (λ (v : _). other < length v.items) sets.list below)));
        within = λ other among. subst (λ (v : _). other < length v.items) (sym sets.list) (may.at_desk.within other among);
      };
      whole = subst (λ l. Told told (IsWhole l)) (sym sets.else_same.layout) may.whole;
      trst = λ uses. may.trst (sym sets.else_same.trst ∙ uses);
    }

    pub ready_attends : (setting : Setting) (given : ℕ → List ℕ) (told : Option ChainState) (play : Play) → AttendsOn setting mid desk given told play → AttendsOn setting new desk given told play
    ready_attends setting given None play att = att
    ready_attends setting given (Some chain) play att = record {
      layout = sets.else_same.layout ∙ att.layout;
      vector = sets.else_same.vector ∙ att.vector;
      trst = sets.else_same.trst ∙ att.trst;
      holder_is = att.holder_is;
      waiting_is = att.waiting_is;
      joins = sets.else_same.joins ∙ att.joins;
      shown = λ other inside. subst (λ x. SeatShown (seat_view x) (is_waiting play other) (seat_at play other) (given other)) (sym (ready_entry other)) (att.shown other inside);
      contents = att.contents;
      whole = att.whole;
      made = att.made;
      scan = att.scan;
      under_way = att.under_way;
    }

  each_ready : (old : Seats) (more : List SessionEnd) → EachEndedThere old mid more → EachEndedThere old new more
  each_ready old [] each = tt
  each_ready old (one ∷ more) each = (
    record {
      there = each.0.there;
      open_before = each.0.open_before;
      free = ap (λ (x : Entry). is_taken x.session.view.stand) (ready_entry one.grant) ∙ each.0.free;
      conn = each.0.conn;
    },
    each_ready old more each.1,
  )

  pub ready_went : (old : Seats) → LineWent old mid → LineWent old new
  ready_went old went = record {
    line = λ other. subst (λ (x : Entry). StaysSo (stands_at old other) x.session.view.stand) (sym (ready_entry other)) (went.line other);
    others = λ other h. ap (λ (x : Entry). x.session.view) (ready_entry other) ∙ went.others other h;
    ends = record {
      more = went.ends.more;
      ended = ap (λ (v : _). map session_end v.items) sets.ended ∙ went.ends.ended;
      each = each_ready old went.ends.more went.ends.each;
    };
  }

-- ---- the chain is handed on to one

module _ {C : Type 0} (setting : Setting) (grant : ℕ) (old mid new : Seats) (desk next : Token (ParkedView C) (OpenView C)) (given : ℕ → List ℕ) (told now : Option ChainState) (play : Play) where
  pub handed_one : SetsReady grant true mid new → mid.ready ≡ old.ready → next_in_line (holder desk) (waiting desk) ≡ Some grant
      → AttendsOn setting old desk given told play → IsCalm play → GoneOn setting old mid next given now play (go setting grant play) → HandedOn setting old new next given now play 1
  handed_one sets same first att calm gone = record {
    gone = subst (λ p. GoneOn setting old new next given now play p) (sym once) (record {
      attends = ready_attends mid new (only_ready grant true mid new sets) next setting given now (go setting grant play) gone.attends;
      ends = record { more = gone.ends.more; ended = ap (λ (v : _). map session_end v.items) sets.ended ∙ gone.ends.ended; ends = gone.ends.ends };
    });
    ready = sets.ready ∙ ap (λ (v : _). slice_set v.items grant true) same ∙ sym (ap (λ o. with_ready true (one_or_none o ++ []) old.ready.items) first_now);
    calm = from_calm (handed_on_times 1 setting play) (calm_if setting play (next_in_line play.holder play.waiting) refl (to_calm setting play (way told att) calm));
  }
    where
      first_by : (o : Option ChainState) → AttendsOn setting old desk given o play → next_in_line play.holder play.waiting ≡ Some grant
      first_by None a = absurd a
      first_by (Some chain) a = sym (λ i. next_in_line (a.holder_is i) (a.waiting_is i)) ∙ first

      first_now : next_in_line play.holder play.waiting ≡ Some grant
      first_now = first_by told att

      way : (o : Option ChainState) → AttendsOn setting old desk given o play → IsUnderWay setting play
      way None a = absurd a
      way (Some chain) a = a.under_way

      once : handed_on_times 1 setting play ≡ go setting grant play
      once = ap (λ o. go_if o setting play) first_now

-- ---- and to more

module _ (setting : Setting) where
  times_more : (n m : ℕ) (play : Play) → handed_on_times (n + m) setting play ≡ handed_on_times m setting (handed_on_times n setting play)
  times_more zero m play = (let e : 0 + m ≡ m = omega arith in ap (λ k. handed_on_times k setting play) e)
  times_more (suc n) m play = (let e : suc n + m ≡ suc (n + m) = omega arith in ap (λ k. handed_on_times k setting play) e) ∙ times_more n m (handed_on_once setting play)

  going_more : (n m : ℕ) (play : Play) → going_on (n + m) setting play ≡ going_on n setting play ++ going_on m setting (handed_on_times n setting play)
  going_more zero m play = (let e : 0 + m ≡ m = omega arith in ap (λ k. going_on k setting play) e)
  going_more (suc n) m play =
      (let e : suc n + m ≡ suc (n + m) = omega arith in ap (λ k. going_on k setting play) e)
      ∙ ap (λ xs. one_or_none (next_in_line play.holder play.waiting) ++ xs) (going_more n m (handed_on_once setting play))
      ∙ sym (append_assoc (one_or_none (next_in_line play.holder play.waiting)) (going_on n setting (handed_on_once setting play)) (going_on m setting (handed_on_times n setting (handed_on_once setting play))))

  pub none_times : (n : ℕ) (play : Play) → next_in_line play.holder play.waiting ≡ None → handed_on_times n setting play ≡ play
  none_times zero play e = refl
  none_times (suc n) play e = ap (handed_on_times n setting) (ap (λ next. go_if next setting play) e) ∙ none_times n play e

  pub none_going : (n : ℕ) (play : Play) → next_in_line play.holder play.waiting ≡ None → going_on n setting play ≡ []
  none_going zero play e = refl
  none_going (suc n) play e =
      ap (λ next. one_or_none next ++ going_on n setting (go_if next setting play)) e ∙ none_going n play e

  -- turns to spare change nothing
  spare : (n m : ℕ) (play : Play) → n ≤ m → next_in_line (handed_on_times n setting play).holder (handed_on_times n setting play).waiting ≡ None
      → (handed_on_times m setting play ≡ handed_on_times n setting play) × (going_on m setting play ≡ going_on n setting play)
  spare n m play le none =
      let e : m ≡ n + (m - n) = omega (arith, le) in (
        ap (λ k. handed_on_times k setting play) e ∙ times_more n (m - n) play ∙ none_times (m - n) (handed_on_times n setting play) none,
        ap (λ k. going_on k setting play) e ∙ going_more n (m - n) play ∙ ap (λ xs. going_on n setting play ++ xs) (none_going (m - n) (handed_on_times n setting play) none) ∙ append-nil (going_on n setting play),
      )

  same_end : (n m : ℕ) (play : Play) → next_in_line (handed_on_times n setting play).holder (handed_on_times n setting play).waiting ≡ None → next_in_line (handed_on_times m setting play).holder (handed_on_times m setting play).waiting ≡ None
      → (handed_on_times m setting play ≡ handed_on_times n setting play) × (going_on m setting play ≡ going_on n setting play)
  same_end n m play none_n none_m = elim (cases_lt n m) [
    | inl lt ↦ spare n m play (omega (arith, lt)) none_n
    | inr ge ↦ (let back = spare m n play (omega (arith, ge)) none_m in (sym back.0, sym back.1))
  ]

  -- what a seat comes to by itself stays
  finished_times : (n : ℕ) (play : Play) (g : ℕ) → finished (seat_at (handed_on_times n setting play) g) ≡ finished (seat_at play g)
  finished_times zero play g = refl
  finished_times (suc n) play g =
      finished_times n (handed_on_once setting play) g
      ∙ go_if_keeps setting (λ p. finished (seat_at p g) ≡ finished (seat_at play g)) (λ g0 p h. keeps_at setting g0 finished finished-advanced p g ∙ h) (next_in_line play.holder play.waiting) play refl

with_more : (flag : Bool) (xs ys : List ℕ) (ready : List Bool) → with_ready flag (xs ++ ys) ready ≡ with_ready flag ys (with_ready flag xs ready)
with_more flag [] ys ready = refl
with_more flag (x ∷ xs) ys ready = with_more flag xs ys (slice_set ready x flag)

pub ends_none : (seats : Seats) (play : Play) → EndsAlike seats seats play play
ends_none seats play = record { more = []; ended = sym (append-nil (map session_end seats.ended.items)); ends = sym (append-nil play.ends) }

pub ends_both : (old mid new : Seats) (first second third : Play) → EndsAlike old mid first second → EndsAlike mid new second third → EndsAlike old new first third
ends_both old mid new first second third a b = record {
  more = a.more ++ b.more;
  ended = b.ended ∙ ap (λ xs. xs ++ b.more) a.ended ∙ append_assoc (map session_end old.ended.items) a.more b.more;
  ends = b.ends ∙ ap (λ xs. xs ++ b.more) a.ends ∙ append_assoc first.ends a.more b.more;
}

module _ {C : Type 0} (setting : Setting) (given : ℕ → List ℕ) (play : Play) where
  pub handed_none : (seats : Seats) (desk : Token (ParkedView C) (OpenView C)) (told : Option ChainState) → AttendsOn setting seats desk given told play → IsCalm play → HandedOn setting seats seats desk given told play 0
  handed_none seats desk told att calm = record { gone = record { attends = att; ends = ends_none seats play }; ready = refl; calm = calm }

  pub handed_more : (old mid new : Seats) (desk next : Token (ParkedView C) (OpenView C)) (told now : Option ChainState) (n : ℕ) → HandedOn setting old mid desk given told play n
      → (AttendsOn setting mid desk given told (handed_on_times n setting play) → IsCalm (handed_on_times n setting play) → HandedOn setting mid new next given now (handed_on_times n setting play) 1)
      → HandedOn setting old new next given now play (suc n)
  handed_more old mid new desk next told now n handed step =
      let one = step handed.gone.attends handed.calm in
      let e : suc n ≡ n + 1 = omega arith in
      let same : handed_on_times (suc n) setting play ≡ handed_on_times 1 setting (handed_on_times n setting play) = ap (λ k. handed_on_times k setting play) e ∙ times_more setting n 1 play in
      record {
        gone = subst (λ p. GoneOn setting old new next given now play p) (sym same) (record {
          attends = one.gone.attends;
          ends = ends_both old mid new play (handed_on_times n setting play) (handed_on_times 1 setting (handed_on_times n setting play)) handed.gone.ends one.gone.ends;
        });
        ready = one.ready ∙ ap (with_ready true (going_on 1 setting (handed_on_times n setting play))) handed.ready
            ∙ sym (with_more true (going_on n setting play) (going_on 1 setting (handed_on_times n setting play)) old.ready.items)
            ∙ ap (λ xs. with_ready true xs old.ready.items) (sym (ap (λ k. going_on k setting play) e ∙ going_more setting n 1 play));
        calm = subst IsCalm (sym same) one.calm;
      }

  -- the chain was handed on as often as it is in the play
  pub handed_all : (old new : Seats) (next : Token (ParkedView C) (OpenView C)) (now : Option ChainState) (n m : ℕ) → HandedOn setting old new next given now play n
      → next_in_line (handed_on_times n setting play).holder (handed_on_times n setting play).waiting ≡ None → next_in_line (handed_on_times m setting play).holder (handed_on_times m setting play).waiting ≡ None
      → HandedOn setting old new next given now play m
  handed_all old new next now n m handed none_n none_m =
      let same = same_end setting n m play none_n none_m in
      record {
        gone = subst (λ p. GoneOn setting old new next given now play p) (sym same.0) handed.gone;
        ready = handed.ready ∙ ap (λ xs. with_ready true xs old.ready.items) (sym same.1);
        calm = subst IsCalm (sym same.0) handed.calm;
      }

-- ---- more turns than there can be

few_all : (seats : List Seat) → ((g : ℕ) → IsFew (slice_index_or seats g no_seat)) → all_steps_left seats ≤ length seats * (32 * most_bytes + 1)
few_all [] few = omega arith
few_all (seat ∷ seats) few =
    let here = few 0 in
    let rest = few_all seats (λ g. few (suc g)) in
    omega (arith, here.acts, here.bytes, rest)

pub few_steps : (play : Play) → length play.seats ≤ 16 → ((g : ℕ) → IsFew (seat_at play g)) → all_steps_left play.seats ≤ 2 ^ 80
few_steps play le few =
    let all = few_all play.seats few in
    let most : length play.seats * (32 * most_bytes + 1) ≤ 16 * (32 * most_bytes + 1) = mul-le (length play.seats) (32 * most_bytes + 1) 16 (32 * most_bytes + 1) le (omega arith) in
    omega (arith, all, most)

module _ {C : Type 0} (setting : Setting) (given : ℕ → List ℕ) (play : Play) (old new : Seats) (desk next : Token (ParkedView C) (OpenView C)) where
  under_way_of : (told : Option ChainState) → AttendsOn setting old desk given told play → IsUnderWay setting play
  under_way_of None att = absurd att
  under_way_of (Some chain) att = att.under_way

  calm_of : (told : Option ChainState) → AttendsOn setting old desk given told play → IsCalm play → Calm play
  calm_of told att calm = to_calm setting play (under_way_of told att) calm

  pub last_none : (told : Option ChainState) → AttendsOn setting old desk given told play → IsCalm play
      → next_in_line (handed_on_times (all_steps_left play.seats) setting play).holder (handed_on_times (all_steps_left play.seats) setting play).waiting ≡ None
  last_none told att calm = none_left setting (all_steps_left play.seats) play (calm_of told att calm) (all_work_within play.seats)

  -- nobody is left to go on
  pub handed_end : (told now : Option ChainState) (n : ℕ) → AttendsOn setting old desk given told play → IsCalm play → HandedOn setting old new next given now play n
      → next_in_line (holder next) (waiting next) ≡ None → HandedOn setting old new next given now play (all_steps_left play.seats)
  handed_end told now n att calm handed none =
      handed_all setting given play old new next now n (all_steps_left play.seats) handed (by now handed.gone.attends) (last_none told att calm)
    where
      by : (o : Option ChainState) → AttendsOn setting new next given o (handed_on_times n setting play) → next_in_line (handed_on_times n setting play).holder (handed_on_times n setting play).waiting ≡ None
      by None a = absurd a
      by (Some chain) a = sym (λ i. next_in_line (a.holder_is i) (a.waiting_is i)) ∙ none

  -- as many went on as there can be
  pub handed_long : (told now : Option ChainState) (n : ℕ) → SeatsFit old → AttendsOn setting old desk given told play → IsCalm play → HandedOn setting old new next given now play n
      → 2 ^ 80 ≤ n → HandedOn setting old new next given now play (all_steps_left play.seats)
  handed_long told now n fits att calm handed le =
      handed_all setting given play old new next now n (all_steps_left play.seats) handed
      (none_left setting n play (calm_of told att calm) (let w = all_work_within play.seats in let s = few_steps play (short told att) (under_way_of told att).few in omega (arith, w, s, le)))
      (last_none told att calm)
    where
      short : (o : Option ChainState) → AttendsOn setting old desk given o play → length play.seats ≤ 16
      short None a = absurd a
      short (Some chain) a = (let e = ap (λ (l : LayoutShape). length l.grants) a.layout in omega (arith, fits.few, fits.count, e, a.under_way.seats))

-- replies that are fronts after more turns are so before them
pub fronts_back : (setting : Setting) (seats : Seats) (given : ℕ → List ℕ) (play : Play) (n : ℕ) → Fronts seats given (handed_on_times n setting play) → Fronts seats given play
fronts_back setting seats given play n fronts grant below = subst (λ s. IsPrefix (given grant ++ (session_at seats grant).reply) (replies_now s)) (finished_times setting n play grant) (fronts grant below)

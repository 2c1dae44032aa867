-- Which sessions each grant's seat ended in a step of a play, and which of them ended by a drop.
use Rattle.std.proofs.Common.{◌≡◌, ◌≢◌, ℕ, ◌+◌, ◌<◌, Bool, true, false, ◌&&◌, ◌||◌, not, cond, List, [], ◌∷◌, ◌++◌, length, drop, refl, ap, sym, subst, ◌∙◌, append_assoc, inl, inr, ◌⊎◌, Some, None, nat_eq, nat_le}
use Rattle.std.specs.declared.option.Option.{Option}
use Rattle.std.proofs.lemmas.Bool.{eqb-true, eq-eqb}
use Rattle.std.proofs.lemmas.Bool.Decides.{eqb_tells}
use Rattle.std.proofs.lemmas.List.{append-nil, get_or-set_same, get_or-set_other}
use Rattle.std.proofs.Math.Seq.{drop-length, drop-append_seam}
use Rattle.scan_share.proofs.Kept.{Each, each_impl, each_last}
use Rattle.client_session.specs.declared.End.{End}
use Rattle.client_session.specs.Acts.{Act}
use Rattle.client_session.specs.Acts.Act.{Say, SayTdo, Sample, Rise, Fall, Pack, SetLines, SetTrst, EndAt}
use Rattle.client_session.specs.Seats.{Seat, EndedSession, Next, next_in, load_next, without_message, acted, step_of, advanced, ended, taken, most_bytes, gone_end, opens_next}
use Rattle.client_session.specs.Seats.Next.{Whole, RefusedAt, Nothing}
use Rattle.client_session.specs.Private.{received, is_live}
use Rattle.wire_port.specs.Steps.{Step}
use Rattle.wire_port.specs.Steps.Step.{Took, Gone}
use Rattle.plays.specs.Plays.{Setting, Play, SessionEnd, seat_at, no_seat, with_seat, is_among, may_open, new_ends, advanced_at, moved, live_grant, change_of_live, change_by}
use Rattle.plays.specs.Alone.{conns_of}
use Rattle.plays.specs.Schedule.{is_drop}
use Rattle.plays.specs.Outcomes.{OnceEach}
use Rattle.plays.proofs.Lists.{own_or_same, not_eq, false_true}
use Rattle.plays.proofs.Waiting.{as_play, join_same, other_seat, own_seat}
use Rattle.plays.proofs.Serving.{keeps_moved}
use Rattle.plays.proofs.Moving.{moved_keeps}
use Rattle.plays.proofs.Admitted.{conns_advanced, live_among}
use Rattle.plays.proofs.Isolation.{Isolated, first_place-some, first_place-none}
use Rattle.plays.proofs.Since.{grants_in, going_there}

-- ---- a step of a seat

-- the session goes on
record Stays (new old : Seat) : Type 0 where
  going : new.going ≡ old.going
  gone : new.gone ≡ old.gone
  past : new.past ≡ old.past

-- the session ends; by a drop only where its peer is gone
record EndsSo (new old : Seat) : Type 0 where
  how : End
  went : old.going ≡ true
  new_is : new ≡ ended how old
  dropped : is_drop how ≡ true → old.gone ≡ true

abbrev Way : Seat → Seat → Type 0
Way new old = Stays new old ⊎ EndsSo new old

act_way : (act : Act) (acts : List Act) (seat : Seat) → seat.going ≡ true → Way (acted act (record seat { acts = acts })) seat
act_way (Say bytes) acts seat g = inl (record { going = refl; gone = refl; past = refl })
act_way SayTdo acts seat g = inl (record { going = refl; gone = refl; past = refl })
act_way Sample acts seat g = inl (record { going = refl; gone = refl; past = refl })
act_way (Rise tms tdi) acts seat g = inl (record { going = refl; gone = refl; past = refl })
act_way Fall acts seat g = inl (record { going = refl; gone = refl; past = refl })
act_way Pack acts seat g = inl (record { going = refl; gone = refl; past = refl })
act_way (SetLines tck tms tdi) acts seat g = inl (record { going = refl; gone = refl; past = refl })
act_way (SetTrst level) acts seat g = inl (record { going = refl; gone = refl; past = refl })
act_way (EndAt at) acts seat g = inr (record { how = End.Quit at; went = g; new_is = refl; dropped = λ h. false_true h })

quiet_way : (seat : Seat) → seat.going ≡ true → Way (without_message seat) seat
quiet_way seat g = by (nat_le most_bytes (taken seat)) seat.gone refl
  where
    by : (b c : Bool) → seat.gone ≡ c → Way (cond b (ended (End.Long most_bytes) seat) (cond c (ended (gone_end seat.used seat.unused) seat) seat)) seat
    by true c h = inr (record { how = End.Long most_bytes; went = g; new_is = refl; dropped = λ k. false_true k })
    by false true h = inr (record { how = gone_end seat.used seat.unused; went = g; new_is = refl; dropped = λ k. h })
    by false false h = inl (record { going = refl; gone = refl; past = refl })

load_way : (next : Next) (seat : Seat) → seat.going ≡ true → Way (load_next next seat) seat
load_way (Whole acts count) seat g = inl (record { going = refl; gone = refl; past = refl })
load_way (RefusedAt at cause) seat g = inr (record { how = End.Refused (seat.used + at) cause; went = g; new_is = refl; dropped = λ h. false_true h })
load_way Nothing seat g = quiet_way seat g

step_way : (acts : List Act) (seat : Seat) → seat.going ≡ true → Way (step_of acts seat) seat
step_way [] seat g = load_way (next_in seat.protocol seat) seat g
step_way (act ∷ acts) seat g = act_way act acts seat g

advanced_way : (seat : Seat) → Way (advanced seat) seat
advanced_way seat = by seat.going refl
  where
    by : (t : Bool) → seat.going ≡ t → Way (cond t (step_of seat.acts seat) seat) seat
    by true g = step_way seat.acts seat g
    by false g = inl (record { going = refl; gone = refl; past = refl })

-- ---- from one play to a later one

-- the ends of one grant among these
abbrev pub ends_of : ℕ → List SessionEnd → List SessionEnd
ends_of grant [] = []
ends_of grant (ended ∷ more) = cond (nat_eq ended.grant grant) (ended ∷ ends_of grant more) (ends_of grant more)

-- the sessions of a grant's seat that ended meanwhile are the grant's among these
pub record PastGrows (grant : ℕ) (more : List SessionEnd) (before now : Seat) : Type 0 where
  pub list : List EndedSession
  pub past : now.past ≡ before.past ++ list
  pub ends : ends_of grant more ≡ new_ends grant list

-- where the session ended by a drop, its peer was gone before
abbrev pub DroppedBefore : Play → SessionEnd → Type 0
DroppedBefore before ended = is_drop ended.end ≡ true → (seat_at before ended.grant).gone ≡ true

-- the sessions that ended from one play to a later one, grant by grant
pub record Ending (before now : Play) : Type 0 where
  pub more : List SessionEnd
  pub is : before.ends ++ more ≡ now.ends
  pub pasts : (g : ℕ) → PastGrows g more (seat_at before g) (seat_at now g)
  pub gone : (g : ℕ) → (seat_at now g).going ≡ true → (seat_at now g).gone ≡ (seat_at before g).gone
  pub drops : Each (DroppedBefore before) more

ending_none : (play : Play) → Ending play play
ending_none play = record {
  more = [];
  is = append-nil play.ends;
  pasts = λ g. record { list = []; past = sym (append-nil (seat_at play g).past); ends = refl };
  gone = λ g h. refl;
  drops = tt;
}

-- no session ends where the seat's past stays
ends_stay : (g : ℕ) (ends : List SessionEnd) (past new : List EndedSession) → new ≡ past → ends ++ new_ends g (drop (length past) new) ≡ ends
ends_stay g ends past new same = ap (λ p. ends ++ new_ends g (drop (length past) p)) same ∙ ap (λ p. ends ++ new_ends g p) (drop-length past) ∙ append-nil ends

ends_more : (g : ℕ) (ends : List SessionEnd) (past new : List EndedSession) (last : EndedSession) → new ≡ past ++ last ∷ []
    → ends ++ new_ends g (drop (length past) new) ≡ ends ++ record { grant = g; conn = last.conn; end = last.end } ∷ []
ends_more g ends past new last same = ap (λ p. ends ++ new_ends g (drop (length past) p)) same ∙ ap (λ p. ends ++ new_ends g p) (drop-append_seam past (last ∷ []))

ends_last_own : (g : ℕ) (more : List SessionEnd) (last : SessionEnd) → last.grant ≡ g → ends_of g (more ++ last ∷ []) ≡ ends_of g more ++ last ∷ []
ends_last_own g [] last own = rw (eq-eqb last.grant g own) refl
ends_last_own g (first ∷ more) last own = by (nat_eq first.grant g) (ends_last_own g more last own)
  where
    by : (t : Bool) → ends_of g (more ++ last ∷ []) ≡ ends_of g more ++ last ∷ []
        → cond t (first ∷ ends_of g (more ++ last ∷ [])) (ends_of g (more ++ last ∷ [])) ≡ cond t (first ∷ ends_of g more) (ends_of g more) ++ last ∷ []
    by true e = ap (λ ends. first ∷ ends) e
    by false e = e

ends_last_other : (g : ℕ) (more : List SessionEnd) (last : SessionEnd) → last.grant ≢ g → ends_of g (more ++ last ∷ []) ≡ ends_of g more
ends_last_other g [] last other = rw (not_eq last.grant g other) refl
ends_last_other g (first ∷ more) last other = by (nat_eq first.grant g) (ends_last_other g more last other)
  where
    by : (t : Bool) → ends_of g (more ++ last ∷ []) ≡ ends_of g more
        → cond t (first ∷ ends_of g (more ++ last ∷ [])) (ends_of g (more ++ last ∷ [])) ≡ cond t (first ∷ ends_of g more) (ends_of g more)
    by true e = ap (λ ends. first ∷ ends) e
    by false e = e

new_ends_last : (g : ℕ) (list : List EndedSession) (last : EndedSession) → new_ends g (list ++ last ∷ []) ≡ new_ends g list ++ record { grant = g; conn = last.conn; end = last.end } ∷ []
new_ends_last g [] last = refl
new_ends_last g (first ∷ list) last = ap (λ ends. record { grant = g; conn = first.conn; end = first.end } ∷ ends) (new_ends_last g list last)

module _ (setting : Setting) (g0 : ℕ) (before now : Play) (s : Ending before now) where
  -- a grant that joins those that wait
  ending_joined : Ending before (as_play true false setting now g0)
  ending_joined = record {
    more = s.more;
    is = s.is ∙ sym (ends_stay g0 now.ends (seat_at now g0).past (seat_at now g0).past refl);
    pasts = λ g. subst (PastGrows g s.more (seat_at before g)) (sym (join_same setting now g0 g)) (s.pasts g);
    gone = λ g. subst (λ seat. seat.going ≡ true → seat.gone ≡ (seat_at before g).gone) (sym (join_same setting now g0 g)) (s.gone g);
    drops = s.drops;
  }

  -- one load or act
  module _ (o m : Bool) (ends_are : (as_play o m setting now g0).ends ≡ now.ends ++ new_ends g0 (drop (length (seat_at now g0).past) (advanced (seat_at now g0)).past))
      (own : g0 < length now.seats → seat_at (as_play o m setting now g0) g0 ≡ advanced (seat_at now g0)) where
    stays_at : Stays (advanced (seat_at now g0)) (seat_at now g0) → (g : ℕ) → Stays (seat_at (as_play o m setting now g0) g) (seat_at now g)
    stays_at on g = elim (eqb_tells g g0) [
      | inl e ↦ subst (λ k. Stays (seat_at (as_play o m setting now g0) k) (seat_at now k)) (sym e.1) (elim (own_seat setting now g0 o m) [
        | inl new ↦ subst (λ seat. Stays seat (seat_at now g0)) (sym new) on
        | inr old ↦ subst (λ seat. Stays seat (seat_at now g0)) (sym old) (record { going = refl; gone = refl; past = refl })
      ])
      | inr n ↦ subst (λ seat. Stays seat (seat_at now g)) (sym (other_seat setting now g0 g o m n.1)) (record { going = refl; gone = refl; past = refl })
    ]

    ending_on : Stays (advanced (seat_at now g0)) (seat_at now g0) → Ending before (as_play o m setting now g0)
    ending_on on = record {
      more = s.more;
      is = s.is ∙ sym (ends_are ∙ ends_stay g0 now.ends (seat_at now g0).past (advanced (seat_at now g0)).past on.past);
      pasts = λ g. let p : PastGrows g s.more (seat_at before g) (seat_at now g) = s.pasts g in record { list = p.list; past = (stays_at on g).past ∙ p.past; ends = p.ends };
      gone = λ g h. (stays_at on g).gone ∙ s.gone g (sym (stays_at on g).going ∙ h);
      drops = s.drops;
    }

    ending_ended : EndsSo (advanced (seat_at now g0)) (seat_at now g0) → Ending before (as_play o m setting now g0)
    ending_ended ends = record {
      more = s.more ++ new ∷ [];
      is = sym (append_assoc before.ends s.more (new ∷ [])) ∙ ap (λ ends. ends ++ new ∷ []) s.is ∙ sym (ends_are ∙ ends_more g0 now.ends (seat_at now g0).past (advanced (seat_at now g0)).past last past_is);
      pasts = λ g. elim (eqb_tells g g0) [
        | inl e ↦ subst (λ k. PastGrows k (s.more ++ new ∷ []) (seat_at before k) (seat_at (as_play o m setting now g0) k)) (sym e.1) own_grows
        | inr n ↦ other_grows g n.1
      ];
      gone = λ g h. elim (eqb_tells g g0) [
        | inl e ↦ false_true (sym (ap (λ seat. seat.going) (own there ∙ ends.new_is)) ∙ subst (λ k. (seat_at (as_play o m setting now g0) k).going ≡ true) e.1 h)
        | inr n ↦ ap (λ seat. seat.gone) (other_seat setting now g0 g o m n.1) ∙ s.gone g (sym (ap (λ seat. seat.going) (other_seat setting now g0 g o m n.1)) ∙ h)
      ];
      drops = each_last (DroppedBefore before) s.more new s.drops (λ h. sym (s.gone g0 ends.went) ∙ ends.dropped h);
    }
      where
        last : EndedSession
        last = record { conn = (seat_at now g0).conn; replies = (seat_at now g0).replies; end = ends.how }

        new : SessionEnd
        new = record { grant = g0; conn = (seat_at now g0).conn; end = ends.how }

        past_is : (advanced (seat_at now g0)).past ≡ (seat_at now g0).past ++ last ∷ []
        past_is = ap (λ seat. seat.past) ends.new_is

        there : g0 < length now.seats
        there = going_there now g0 ends.went

        own_grows : PastGrows g0 (s.more ++ new ∷ []) (seat_at before g0) (seat_at (as_play o m setting now g0) g0)
        own_grows = let p : PastGrows g0 s.more (seat_at before g0) (seat_at now g0) = s.pasts g0 in record {
          list = p.list ++ last ∷ [];
          past = ap (λ seat. seat.past) (own there) ∙ past_is ∙ ap (λ past. past ++ last ∷ []) p.past ∙ append_assoc (seat_at before g0).past p.list (last ∷ []);
          ends = ends_last_own g0 s.more new refl ∙ ap (λ ends. ends ++ new ∷ []) p.ends ∙ sym (new_ends_last g0 p.list last);
        }

        other_grows : (g : ℕ) → g ≢ g0 → PastGrows g (s.more ++ new ∷ []) (seat_at before g) (seat_at (as_play o m setting now g0) g)
        other_grows g n = let p : PastGrows g s.more (seat_at before g) (seat_at now g) = s.pasts g in record {
          list = p.list;
          past = ap (λ seat. seat.past) (other_seat setting now g0 g o m n) ∙ p.past;
          ends = ends_last_other g s.more new (λ same. n (sym same)) ∙ p.ends;
        }

    ending_way : Way (advanced (seat_at now g0)) (seat_at now g0) → Ending before (as_play o m setting now g0)
    ending_way (inl on) = ending_on on
    ending_way (inr ends) = ending_ended ends

  ending_as : (o m : Bool) → Ending before (as_play o m setting now g0)
  ending_as false m = ending_way false m refl (get_or-set_same now.seats g0 (advanced (seat_at now g0)) no_seat) (advanced_way (seat_at now g0))
  ending_as true true = ending_way true true refl (get_or-set_same now.seats g0 (advanced (seat_at now g0)) no_seat) (advanced_way (seat_at now g0))
  ending_as true false = ending_joined

  ending_at : Ending before (advanced_at setting g0 now)
  ending_at = ending_as (opens_next (seat_at now g0)) (may_open now.holder now.waiting g0)

-- a grant goes on, and then those that wait
pub ending_moved : (setting : Setting) (before : Play) (g0 : ℕ) → Ending before (moved setting g0 before)
ending_moved setting before g0 = moved_keeps setting (Ending before) (λ g now s. ending_at setting g before now s) g0 before (ending_none before)

-- ---- where each grant has at most one end

-- the only one of its grant among these
abbrev pub OnlyIn : List SessionEnd → SessionEnd → Type 0
OnlyIn more ended = ends_of ended.grant more ≡ ended ∷ []

or_none : (a b : Bool) → (a || b) ≡ false → (a ≡ false) × (b ≡ false)
or_none true b h = absurd (let q : true ≡ false = h in cc)
or_none false b h = (refl, h)

none_of : (g : ℕ) (more : List SessionEnd) → is_among g (grants_in more) ≡ false → ends_of g more ≡ []
none_of g [] out = refl
none_of g (first ∷ more) out = let parts = or_none (nat_eq first.grant g) (is_among g (grants_in more)) out in rw (parts.0) (none_of g more parts.1)

nil_cons : {A P : Type 0} (x : A) (xs : List A) → [] ≡ x ∷ xs → P
nil_cons x xs h = absurd (let q : [] ≡ x ∷ xs = h in cc)

pub only_in : (more : List SessionEnd) → OnceEach (grants_in more) → Each (OnlyIn more) more
only_in [] once = tt
only_in (first ∷ more) once = (
  rw (eq-eqb first.grant first.grant refl) (ap (λ ends. first ∷ ends) (none_of first.grant more once.0)),
  each_impl (OnlyIn more) (OnlyIn (first ∷ more)) (λ ended is. by ended is (nat_eq first.grant ended.grant) refl) more (only_in more once.1),
)
  where
    by : (ended : SessionEnd) → OnlyIn more ended → (t : Bool) → nat_eq first.grant ended.grant ≡ t → cond t (first ∷ ends_of ended.grant more) (ends_of ended.grant more) ≡ ended ∷ []
    by ended is true same = nil_cons ended [] (sym (none_of first.grant more once.0) ∙ ap (λ g. ends_of g more) (eqb-true first.grant ended.grant same) ∙ is)
    by ended is false apart = is

pub one_of : (g : ℕ) (more : List SessionEnd) → OnceEach (grants_in more) → is_among g (grants_in more) ≡ true → (ended : SessionEnd) × (ends_of g more ≡ ended ∷ [])
one_of g [] once among = false_true among
one_of g (first ∷ more) once among = by (nat_eq first.grant g) refl among (λ h. one_of g more once.1 h)
  where
    by : (t : Bool) → nat_eq first.grant g ≡ t → (t || is_among g (grants_in more)) ≡ true → (is_among g (grants_in more) ≡ true → (ended : SessionEnd) × (ends_of g more ≡ ended ∷ []))
        → (ended : SessionEnd) × (cond t (first ∷ ends_of g more) (ends_of g more) ≡ ended ∷ [])
    by true same h later = (first, ap (λ ends. first ∷ ends) (none_of g more (subst (λ k. is_among k (grants_in more) ≡ false) (eqb-true first.grant g same) once.0)))
    by false apart h later = later h

-- the grant's past is as it was
pub past_stays : (g : ℕ) (more : List SessionEnd) (before now : Seat) → PastGrows g more before now → is_among g (grants_in more) ≡ false → now.past ≡ before.past
past_stays g more before now grows out = by grows.list (sym (none_of g more out) ∙ grows.ends) grows.past
  where
    by : (list : List EndedSession) → [] ≡ new_ends g list → now.past ≡ before.past ++ list → now.past ≡ before.past
    by [] none is = is ∙ append-nil before.past
    by (last ∷ list) none is = nil_cons (record { grant = g; conn = last.conn; end = last.end }) (new_ends g list) none

-- one session was put to the grant's past
pub record PastPut (before now : Seat) (ended : SessionEnd) : Type 0 where
  pub replies : List ℕ
  pub is : now.past ≡ before.past ++ record { conn = ended.conn; replies = replies; end = ended.end } ∷ []

pub past_put : (g : ℕ) (more : List SessionEnd) (before now : Seat) (ended : SessionEnd) → PastGrows g more before now → ends_of g more ≡ ended ∷ [] → PastPut before now ended
past_put g more before now ended grows one = by grows.list (sym one ∙ grows.ends) grows.past
  where
    by : (list : List EndedSession) → ended ∷ [] ≡ new_ends g list → now.past ≡ before.past ++ list → PastPut before now ended
    by [] none is = nil_cons ended [] (sym none)
    by (last ∷ []) same is = let own : ended ≡ record { grant = g; conn = last.conn; end = last.end } = cc in record {
      replies = last.replies;
      is = is ∙ ap (λ e. before.past ++ record { conn = e.conn; replies = last.replies; end = e.end } ∷ []) (sym own);
    }
    by (last ∷ next ∷ list) same is = let rest : [] ≡ record { grant = g; conn = next.conn; end = next.end } ∷ new_ends g list = cc in nil_cons (record { grant = g; conn = next.conn; end = next.end }) (new_ends g list) rest

-- ---- what an event of a session's connection changes

-- the session that is going on the connection is the grant's
pub live_is : (setting : Setting) (steps : List Step) (play : Play) → Isolated setting steps play → (conn grant : ℕ) → is_live conn (seat_at play grant) ≡ true → live_grant conn play.seats ≡ Some grant
live_is setting steps play i conn grant live = by (live_grant conn play.seats) refl
  where
    by : (o : Option ℕ) → live_grant conn play.seats ≡ o → o ≡ Some grant
    by None e = false_true (sym (first_place-none (is_live conn) play.seats grant refl e) ∙ live)
    by (Some k) e = ap (λ n. Some n) (i.apart k grant conn (live_among conn (seat_at play k) (first_place-some (is_live conn) play.seats k e).1) (live_among conn (seat_at play grant) live))

-- its bytes are received
pub took_changes : (setting : Setting) (steps : List Step) (play : Play) → Isolated setting steps play → (conn grant : ℕ) (bytes : List ℕ) → is_live conn (seat_at play grant) ≡ true → (seat_at play grant).gone ≡ false
    → change_by setting play (Took conn bytes) ≡ Some (record { grant = grant; seat = received bytes (seat_at play grant) })
took_changes setting steps play i conn grant bytes live here =
    ap (λ o. change_of_live o (λ seat. cond (is_live conn seat && not seat.gone) (received bytes seat) seat) play) (live_is setting steps play i conn grant live)
    ∙ rw (live, here) refl

-- its peer is gone
pub gone_changes : (setting : Setting) (steps : List Step) (play : Play) → Isolated setting steps play → (conn grant : ℕ) → is_live conn (seat_at play grant) ≡ true
    → change_by setting play (Gone conn) ≡ Some (record { grant = grant; seat = record (seat_at play grant) { gone = true } })
gone_changes setting steps play i conn grant live =
    ap (λ o. change_of_live o (λ seat. cond (is_live conn seat) (record seat { gone = true }) seat) play) (live_is setting steps play i conn grant live)
    ∙ rw live refl

-- each seat has the connections that it had, where the changed seat has its own
pub conns_after : (setting : Setting) (grant : ℕ) (seat : Seat) (play : Play) → conns_of seat ≡ conns_of (seat_at play grant) → (g : ℕ) → conns_of (seat_at (moved setting grant (with_seat grant seat play)) g) ≡ conns_of (seat_at play g)
conns_after setting grant seat play same g = keeps_moved setting conns_of conns_advanced grant (with_seat grant seat play) g ∙ elim (eqb_tells g grant) [
  | inl e ↦ subst (λ k. conns_of (seat_at (with_seat grant seat play) k) ≡ conns_of (seat_at play k)) (sym e.1) (elim (own_or_same play.seats grant seat no_seat) [
    | inl new ↦ ap conns_of new ∙ same
    | inr old ↦ ap conns_of old
  ])
  | inr n ↦ ap conns_of (get_or-set_other play.seats grant g seat no_seat n.1)
]

-- What a step of a play does to sessions: who goes on, and whose session ends.
use Rattle.std.proofs.Common.{◌≡◌, ◌≢◌, ℕ, zero, suc, ◌<◌, ◌≤◌, Bool, true, false, ◌||◌, List, [], ◌∷◌, ◌++◌, length, drop, map, refl, ap, sym, subst, ◌∙◌, arith, append_assoc, inl, inr, ◌⊎◌, Some, None, nat_eq}
use Rattle.std.specs.declared.option.Option.{Option}
use Rattle.std.proofs.lemmas.Bool.{eq-eqb, eqb-true}
use Rattle.std.proofs.lemmas.Bool.Decides.{eqb_tells}
use Rattle.std.proofs.lemmas.List.{append-nil, get_or-set_same}
use Rattle.std.proofs.Math.Seq.{drop-length, drop-append_seam}
use Rattle.scan_share.proofs.Kept.{Each, each_impl, each_last}
use Rattle.client_session.specs.Seats.{Seat, EndedSession, advanced, opens_next}
use Rattle.client_session.proofs.Growth.{Kind, advanced_kind}
use Rattle.plays.specs.Plays.{Setting, Play, SessionEnd, seat_at, no_seat, is_among, may_open, new_ends, advanced_at, next_in_line, go_if, handed_on_once, moved}
use Rattle.plays.specs.Alone.{conns_of}
use Rattle.plays.specs.Schedule.{one_or_none, going_on}
use Rattle.plays.proofs.Lists.{past_end, false_true, among-append}
use Rattle.client_session.proofs.Opening.{opens_is}
use Rattle.plays.proofs.Waiting.{as_play, join_same, other_seat, own_seat}
use Rattle.plays.proofs.Going.{Calm}
use Rattle.plays.proofs.Serving.{next_is, calm_if}
use Rattle.plays.proofs.Moving.{moved_keeps, holds_if}
use Rattle.plays.proofs.Admitted.{conns_advanced, live_among}

abbrev pub grants_in : List SessionEnd → List ℕ
grants_in ends = map (λ ended. ended.grant) ends

-- the grant has no session any more, and had this connection
abbrev pub EndedIn : Play → SessionEnd → Type 0
EndedIn play ended = ((seat_at play ended.grant).going ≡ false) × (is_among ended.conn (conns_of (seat_at play ended.grant)) ≡ true)

-- the sessions that ended from one play to a later one; all others go on
pub record Since (before now : Play) : Type 0 where
  pub more : List SessionEnd
  pub is : before.ends ++ more ≡ now.ends
  pub ended : Each (EndedIn now) more
  pub left : (g : ℕ) → (seat_at before g).going ≡ true → ((seat_at now g).going ≡ true) ⊎ (is_among g (grants_in more) ≡ true)

pub since_none : (play : Play) → Since play play
since_none play = record { more = []; is = append-nil play.ends; ended = tt; left = λ g h. inl h }

or_false : (t : Bool) → (t || false) ≡ t
or_false true = refl
or_false false = refl

or_true : (t : Bool) → (t || true) ≡ true
or_true true = refl
or_true false = refl

grants_last : (more : List SessionEnd) (last : SessionEnd) → grants_in (more ++ last ∷ []) ≡ grants_in more ++ last.grant ∷ []
grants_last [] last = refl
grants_last (first ∷ more) last = ap (λ rest. first.grant ∷ rest) (grants_last more last)

-- a session that is going is in a seat that is there
pub going_there : (play : Play) (g : ℕ) → (seat_at play g).going ≡ true → g < length play.seats
going_there play g h = elim (or_not g (length play.seats)) [
  | inl lt ↦ lt
  | inr le ↦ false_true (subst (λ s. s.going ≡ true) (past_end play.seats g no_seat le) h)
]
  where
    or_not : (a b : ℕ) → (a < b) ⊎ (b ≤ a)
    or_not a b = grind arith

-- a seat that was advanced or stayed is going only where it was, and has the same connections
module _ (setting : Setting) (g0 : ℕ) (o m : Bool) (now : Play) where
  seat_went : (g : ℕ) → (seat_at now g).going ≡ false → (seat_at (as_play o m setting now g0) g).going ≡ false
  seat_went g h = elim (eqb_tells g g0) [
    | inl e ↦ subst (λ k. (seat_at (as_play o m setting now g0) k).going ≡ false) (sym e.1) (elim (own_seat setting now g0 o m) [
      | inl new ↦ rw new (idle (seat_at now g0) (subst (λ k. (seat_at now k).going ≡ false) e.1 h))
      | inr old ↦ rw old (subst (λ k. (seat_at now k).going ≡ false) e.1 h)
    ])
    | inr n ↦ rw (other_seat setting now g0 g o m n.1) h
  ]
    where
      idle : (seat : Seat) → seat.going ≡ false → (advanced seat).going ≡ false
      idle seat k = rw k refl

  conns_same : (g : ℕ) → conns_of (seat_at (as_play o m setting now g0) g) ≡ conns_of (seat_at now g)
  conns_same g = elim (eqb_tells g g0) [
    | inl e ↦ rw e.1 (elim (own_seat setting now g0 o m) [ inl new ↦ ap conns_of new ∙ conns_advanced (seat_at now g0) | inr old ↦ ap conns_of old ])
    | inr n ↦ ap conns_of (other_seat setting now g0 g o m n.1)
  ]

  ended_stays : (ended : SessionEnd) → EndedIn now ended → EndedIn (as_play o m setting now g0) ended
  ended_stays ended h = (seat_went ended.grant h.0, subst (λ conns. is_among ended.conn conns ≡ true) (sym (conns_same ended.grant)) h.1)

-- no session ends where the seat's past stays
no_ends : (g : ℕ) (ends : List SessionEnd) (past new : List EndedSession) → new ≡ past → ends ++ new_ends g (drop (length past) new) ≡ ends
no_ends g ends past new same = ap (λ p. ends ++ new_ends g (drop (length past) p)) same ∙ ap (λ p. ends ++ new_ends g p) (drop-length past) ∙ append-nil ends

one_end : (g : ℕ) (ends : List SessionEnd) (past new : List EndedSession) (last : EndedSession) → new ≡ past ++ last ∷ []
    → ends ++ new_ends g (drop (length past) new) ≡ ends ++ record { grant = g; conn = last.conn; end = last.end } ∷ []
one_end g ends past new last same = ap (λ p. ends ++ new_ends g (drop (length past) p)) same ∙ ap (λ p. ends ++ new_ends g p) (drop-append_seam past (last ∷ []))

module _ (setting : Setting) (g0 : ℕ) (before now : Play) (s : Since before now) where
  -- a grant that joins those that wait
  since_joined : Since before (as_play true false setting now g0)
  since_joined = record {
    more = s.more;
    is = s.is ∙ sym (no_ends g0 now.ends (seat_at now g0).past (seat_at now g0).past refl);
    ended = each_impl (EndedIn now) (EndedIn (as_play true false setting now g0)) (ended_stays setting g0 true false now) s.more s.ended;
    left = λ g h. elim (s.left g h) [ inl goes ↦ inl (rw (join_same setting now g0 g) goes) | inr among ↦ inr among ];
  }

  -- one load or act
  module _ (o m : Bool) (ends_are : (as_play o m setting now g0).ends ≡ now.ends ++ new_ends g0 (drop (length (seat_at now g0).past) (advanced (seat_at now g0)).past))
      (own : g0 < length now.seats → seat_at (as_play o m setting now g0) g0 ≡ advanced (seat_at now g0)) where
    after : Play
    after = as_play o m setting now g0

    -- another grant's session goes on
    others_go : (g : ℕ) → g ≢ g0 → (seat_at now g).going ≡ true → (seat_at (as_play o m setting now g0) g).going ≡ true
    others_go g n h = rw (other_seat setting now g0 g o m n) h

    since_on : (advanced (seat_at now g0)).going ≡ (seat_at now g0).going → (advanced (seat_at now g0)).past ≡ (seat_at now g0).past → Since before (as_play o m setting now g0)
    since_on going past = record {
      more = s.more;
      is = s.is ∙ sym (ends_are ∙ no_ends g0 now.ends (seat_at now g0).past (advanced (seat_at now g0)).past past);
      ended = each_impl (EndedIn now) (EndedIn (as_play o m setting now g0)) (ended_stays setting g0 o m now) s.more s.ended;
      left = λ g h. elim (s.left g h) [
        | inl goes ↦ inl (elim (eqb_tells g g0) [
          | inl e ↦ subst (λ k. (seat_at (as_play o m setting now g0) k).going ≡ true) (sym e.1)
              (let at : (seat_at now g0).going ≡ true = subst (λ k. (seat_at now k).going ≡ true) e.1 goes in
              ap (λ seat. seat.going) (own (going_there now g0 at)) ∙ going ∙ at)
          | inr n ↦ others_go g n.1 goes
        ])
        | inr among ↦ inr among
      ];
    }

    since_ended : (last : EndedSession) → (seat_at now g0).going ≡ true → (advanced (seat_at now g0)).going ≡ false → (advanced (seat_at now g0)).past ≡ (seat_at now g0).past ++ last ∷ []
        → is_among last.conn (conns_of (seat_at now g0)) ≡ true → Since before (as_play o m setting now g0)
    since_ended last went going past known =
        let there = going_there now g0 went in
        let new : SessionEnd = record { grant = g0; conn = last.conn; end = last.end } in
        record {
          more = s.more ++ new ∷ [];
          is = sym (append_assoc before.ends s.more (new ∷ [])) ∙ ap (λ ends. ends ++ new ∷ []) s.is ∙ sym (ends_are ∙ one_end g0 now.ends (seat_at now g0).past (advanced (seat_at now g0)).past last past);
          ended = each_last (EndedIn (as_play o m setting now g0)) s.more new
              (each_impl (EndedIn now) (EndedIn (as_play o m setting now g0)) (ended_stays setting g0 o m now) s.more s.ended)
              (ap (λ seat. seat.going) (own there) ∙ going, subst (λ conns. is_among last.conn conns ≡ true) (sym (conns_same setting g0 o m now g0)) known);
          left = λ g h. elim (s.left g h) [
            | inl goes ↦ elim (eqb_tells g g0) [
              | inl e ↦ inr (ap (is_among g) (grants_last s.more new) ∙ among-append g (grants_in s.more) (g0 ∷ []) ∙ rw (eq-eqb g0 g (sym e.1)) (or_true (is_among g (grants_in s.more))))
              | inr n ↦ inl (others_go g n.1 goes)
            ]
            | inr among ↦ inr (ap (is_among g) (grants_last s.more new) ∙ among-append g (grants_in s.more) (g0 ∷ []) ∙ rw among refl)
          ];
        }

    -- the session's connection is one of the seat's
    own_conn : (seat : Seat) → seat.going ≡ true → is_among seat.conn (conns_of seat) ≡ true
    own_conn seat h = live_among seat.conn seat (rw h (eq-eqb seat.conn seat.conn refl))

    since_kind : Kind (advanced (seat_at now g0)) (seat_at now g0) → Since before (as_play o m setting now g0)
    since_kind (inl on) = since_on on.going on.past
    since_kind (inr ends) =
        since_ended (record { conn = (seat_at now g0).conn; replies = (seat_at now g0).replies; end = ends.how }) ends.went (ap (λ seat. seat.going) ends.new_is) (ap (λ seat. seat.past) ends.new_is)
        (own_conn (seat_at now g0) ends.went)

  since_as : (o m : Bool) → Since before (as_play o m setting now g0)
  since_as false m = since_kind false m refl (get_or-set_same now.seats g0 (advanced (seat_at now g0)) no_seat) (advanced_kind (seat_at now g0))
  since_as true true = since_kind true true refl (get_or-set_same now.seats g0 (advanced (seat_at now g0)) no_seat) (advanced_kind (seat_at now g0))
  since_as true false = since_joined

  since_at : Since before (advanced_at setting g0 now)
  since_at = since_as (opens_next (seat_at now g0)) (may_open now.holder now.waiting g0)

-- a grant goes on, and then those that wait
pub since_moved : (setting : Setting) (before : Play) (g0 : ℕ) → Since before (moved setting g0 before)
since_moved setting before g0 = moved_keeps setting (Since before) (λ g now s. since_at setting g before now s) g0 before (since_none before)

-- ---- those that wait and go on

-- who is going was going before a grant went on
pub went_if : (setting : Setting) (next : Option ℕ) (play : Play) (g : ℕ) → (seat_at (go_if next setting play) g).going ≡ true → (seat_at play g).going ≡ true
went_if setting next play g h = by (seat_at play g).going refl
  where
    idle : (k : ℕ) (seat : Seat) → (k ≡ g → seat.going ≡ false) → k ≡ g → (advanced seat).going ≡ false
    idle k seat f e = rw (f e) refl

    by : (t : Bool) → (seat_at play g).going ≡ t → t ≡ true
    by true e = refl
    by false e = false_true (sym (holds_if setting (λ k seat. k ≡ g → seat.going ≡ false) idle next play (λ k same. subst (λ j. (seat_at play j).going ≡ false) (sym same) e) g refl) ∙ h)

-- whoever goes on in turn has a session
pub going_served : (setting : Setting) (times : ℕ) (play : Play) (g : ℕ) → Calm play → is_among g (going_on times setting play) ≡ true → (seat_at play g).going ≡ true
going_served setting zero play g calm among = false_true among
going_served setting (suc times) play g calm among = by (next_in_line play.holder play.waiting) refl
    (sym (among-append g (one_or_none (next_in_line play.holder play.waiting)) (going_on times setting (handed_on_once setting play))) ∙ among)
    (going_served setting times (handed_on_once setting play) g (calm_if setting play (next_in_line play.holder play.waiting) refl calm))
  where
    or_rest : (a b : Bool) → (a || b) ≡ true → (a ≡ true) ⊎ (b ≡ true)
    or_rest true b h = inl refl
    or_rest false b h = inr h

    waits : (k : ℕ) → next_in_line play.holder play.waiting ≡ Some k → (seat_at play k).going ≡ true
    waits k e = (opens_is (seat_at play k) (calm.ordered.waits k (next_is play.holder play.waiting k e).0)).going

    rest : (next : Option ℕ) → next_in_line play.holder play.waiting ≡ next → (seat_at (handed_on_once setting play) g).going ≡ true → (seat_at play g).going ≡ true
    rest next e h = went_if setting (next_in_line play.holder play.waiting) play g h

    by : (next : Option ℕ) → next_in_line play.holder play.waiting ≡ next → (is_among g (one_or_none next) || is_among g (going_on times setting (handed_on_once setting play))) ≡ true
        → (is_among g (going_on times setting (handed_on_once setting play)) ≡ true → (seat_at (handed_on_once setting play) g).going ≡ true) → (seat_at play g).going ≡ true
    by None e h more = rest None e (more h)
    by (Some k) e h more = elim (or_rest (is_among g (k ∷ [])) (is_among g (going_on times setting (handed_on_once setting play))) h) [
      | inl first ↦ subst (λ j. (seat_at play j).going ≡ true) (eqb-true k g (sym (or_false (nat_eq k g)) ∙ first)) (waits k e)
      | inr later ↦ rest (Some k) e (more later)
    ]

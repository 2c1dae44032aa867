-- What stands for a play gives each grant's peers what they are given alone.
use Rattle.std.proofs.Common.{◌≡◌, ◌≢◌, ℕ, zero, suc, ◌+◌, ◌<◌, ◌≤◌, Bool, true, false, ◌&&◌, ◌||◌, cond, List, [], ◌∷◌, ◌++◌, length, map, refl, ap, sym, subst, ◌∙◌, arith, append_assoc, inl, inr, ◌⊎◌, nat_eq}
use Rattle.std.specs.List.{slice_index_or}
use Rattle.std.proofs.lemmas.Bool.{eqb-true}
use Rattle.std.proofs.lemmas.List.{append-nil}
use Rattle.chain_model.specs.Chains.{ChainState}
use Rattle.client_session.specs.Seats.{Seat, EndedSession}
use Rattle.client_session.specs.Private.{Replies, past_replies, is_live}
use Rattle.wire_port.specs.Steps.{has_gone, opens_once}
use Rattle.wire_port.specs.Wires.{WireView, Last}
use Rattle.wire_port.specs.Wires.Last.{NotNow, Short, Other}
use Rattle.plays.specs.Plays.{Setting, Play, seat_at, no_seat, is_waiting, is_among, played}
use Rattle.plays.specs.Alone.{conns_of, events, private, replies_in, replies_to, IsPrefix}
use Rattle.plays.specs.Stands.{SeatView, HubView, GivenSo, EachEndedSo, LiveSo, SessionSo, SeatStands, SeatsStand, Stands}
use Rattle.plays.specs.Given.{TookAll, GivenAsAlone, SharedAsAlone, IsAtRest, AllGivenAsAlone}
use Rattle.plays.proofs.Lists.{false_true, past_end, among-append}
use Rattle.plays.proofs.Isolation.{as_alone}

prefix_then : (a b c : List ℕ) → IsPrefix a b → IsPrefix b c → IsPrefix a c
prefix_then a b c p q = (p.0 ++ q.0, sym (append_assoc a p.0 q.0) ∙ ap (λ l. l ++ q.0) p.1 ∙ q.1)

prefix_of_whole : (a b : List ℕ) → a ≡ b → IsPrefix a b
prefix_of_whole a b e = ([], append-nil a ∙ e)

not_short : (last : Last) → last ≡ NotNow → last ≢ Short
not_short last is short = absurd (let q : NotNow ≡ Short = sym is ∙ short in cc)

-- what a peer was given of these replies, all of them where it is there and took what there was
record IsGiven (wire : WireView) (conn : ℕ) (live : Bool) (replies : List ℕ) : Type 0 where
  front : IsPrefix (wire.given conn) replies
  whole : has_gone conn wire.steps ≡ false → TookAll live wire conn → wire.given conn ≡ replies

took_short : (live : Bool) (wire : WireView) (conn : ℕ) → TookAll live wire conn → wire.last conn ≢ Short
took_short true wire conn took = not_short (wire.last conn) took
took_short false wire conn took = took

-- of a session that ended
ended_given : (wire : WireView) (live : Bool) (past : List EndedSession) (rest : List Replies) (conn : ℕ) → is_among conn (map (λ p. p.conn) past) ≡ true → EachEndedSo wire past
    → IsGiven wire conn live (replies_in (past_replies past ++ rest) conn)
ended_given wire live [] rest conn among each = false_true among
ended_given wire live (past ∷ more) rest conn among each = by (nat_eq past.conn conn) refl (λ known. ended_given wire live more rest conn known each.1)
  where
    by : (t : Bool) → nat_eq past.conn conn ≡ t → (is_among conn (map (λ p. p.conn) more) ≡ true → IsGiven wire conn live (replies_in (past_replies more ++ rest) conn))
        → IsGiven wire conn live (cond t past.replies (replies_in (past_replies more ++ rest) conn))
    by true e later = subst (λ c. IsGiven wire c live past.replies) (eqb-true past.conn conn e) (record { front = each.0.0; whole = λ here took. each.0.1 here (took_short live wire past.conn took) })
    by false e later = later (sym (ap (λ b. b || is_among conn (map (λ p. p.conn) more)) e) ∙ among)

-- no session of the past has the connection
past_apart : (past : List EndedSession) (rest : List Replies) (conn : ℕ) → is_among conn (map (λ p. p.conn) past) ≡ false → replies_in (past_replies past ++ rest) conn ≡ replies_in rest conn
past_apart [] rest conn apart = refl
past_apart (past ∷ more) rest conn apart = by (nat_eq past.conn conn) refl (past_apart more rest conn)
  where
    by : (t : Bool) → nat_eq past.conn conn ≡ t → (is_among conn (map (λ p. p.conn) more) ≡ false → replies_in (past_replies more ++ rest) conn ≡ replies_in rest conn)
        → cond t past.replies (replies_in (past_replies more ++ rest) conn) ≡ replies_in rest conn
    by true e later = false_true (sym apart ∙ ap (λ b. b || is_among conn (map (λ p. p.conn) more)) e)
    by false e later = later (sym (ap (λ b. b || is_among conn (map (λ p. p.conn) more)) e) ∙ apart)

-- of a session that is going
live_given : (wire : WireView) (view : SeatView) (waits : Bool) (seat : Seat) → LiveSo wire view waits seat → IsGiven wire seat.conn true seat.replies
live_given wire view waits seat live = by (has_gone seat.conn wire.steps) refl live.given
  where
    all_given : view.session.reply ≡ [] → wire.given seat.conn ++ view.session.reply ≡ seat.replies → wire.given seat.conn ≡ seat.replies
    all_given none is = sym (append-nil (wire.given seat.conn)) ∙ ap (λ reply. wire.given seat.conn ++ reply) (sym none) ∙ is

    by : (gone : Bool) → has_gone seat.conn wire.steps ≡ gone → GivenSo gone (wire.given seat.conn) view.session.reply seat.replies → IsGiven wire seat.conn true seat.replies
    by false e is = record { front = (view.session.reply, is); whole = λ here took. all_given (live.idle took) is }
    by true e is = record { front = is.0; whole = λ here took. false_true (sym here ∙ e) }

-- a seat's connection is one of the past, or that of the session that is going
seat_given : (wire : WireView) (view : SeatView) (waits : Bool) (seat : Seat) → SeatStands wire view waits seat → (conn : ℕ) → is_among conn (conns_of seat) ≡ true
    → IsGiven wire conn (is_live conn seat) (replies_to seat conn)
seat_given wire view waits seat stands conn among = by (is_among conn (map (λ p. p.conn) seat.past)) refl
  where
    rest_of : Bool → List Replies
    rest_of going = cond going (record { conn = seat.conn; bytes = seat.replies } ∷ []) []

    own : (going : Bool) → seat.going ≡ going → is_among conn (map (λ p. p.conn) seat.past) ≡ false → SessionSo going wire view waits seat
        → (is_among conn (map (λ p. p.conn) seat.past) || is_among conn (cond going (seat.conn ∷ []) [])) ≡ true
        → IsGiven wire conn (going && nat_eq seat.conn conn) (replies_in (rest_of going) conn)
    own false e apart session known = false_true (sym (ap (λ b. b || false) apart) ∙ known)
    own true e apart session known = at (nat_eq seat.conn conn) refl (sym (ap (λ b. b || (nat_eq seat.conn conn || false)) apart) ∙ known)
      where
        at : (t : Bool) → nat_eq seat.conn conn ≡ t → (t || false) ≡ true → IsGiven wire conn t (cond t seat.replies [])
        at true same h = subst (λ c. IsGiven wire c true seat.replies) (eqb-true seat.conn conn same) (live_given wire view waits seat session)
        at false same h = false_true h

    by : (t : Bool) → is_among conn (map (λ p. p.conn) seat.past) ≡ t → IsGiven wire conn (is_live conn seat) (replies_to seat conn)
    by true e = ended_given wire (is_live conn seat) seat.past (rest_of seat.going) conn e stands.ended
    by false e = subst (λ replies. IsGiven wire conn (is_live conn seat) replies) (sym (past_apart seat.past (rest_of seat.going) conn e))
        (own seat.going refl e stands.session (sym (among-append conn (map (λ p. p.conn) seat.past) (cond seat.going (seat.conn ∷ []) [])) ∙ among))

-- the seats of a hub, by their grants
record StandsAt (wire : WireView) (play : Play) (from : ℕ) (seat : Seat) : Type 0 where
  view : SeatView
  is : SeatStands wire view (is_waiting play from) seat

stands_at : (wire : WireView) (play : Play) (from at : ℕ) (views : List SeatView) (seats : List Seat) (grant : ℕ) → at ≡ grant + from → grant < length seats → SeatsStand wire play from views seats
    → StandsAt wire play at (slice_index_or seats grant no_seat)
stands_at wire play from at [] [] grant place less stand = absurd (omega (arith, less))
stands_at wire play from at [] (seat ∷ seats) grant place less stand = absurd stand
stands_at wire play from at (view ∷ views) [] grant place less stand = absurd stand
stands_at wire play from at (view ∷ views) (seat ∷ seats) zero place less stand = subst (λ n. StandsAt wire play n seat) (omega (arith, place)) (record { view = view; is = stand.0 })
stands_at wire play from at (view ∷ views) (seat ∷ seats) (suc grant) place less stand = stands_at wire play (suc from) at views seats grant (omega (arith, place)) (omega (arith, less)) stand.1

or_not : (a b : ℕ) → (a < b) ⊎ (b ≤ a)
or_not a b = grind arith

module _ (setting : Setting) (hub : HubView) (chain : ChainState) (wire : WireView) (once : opens_once wire.steps ≡ true) (stands : Stands setting hub chain wire (played setting wire.steps)) where
  abbrev play : Play
  play = played setting wire.steps

  at_grant : (grant conn : ℕ) → is_among conn (conns_of (seat_at play grant)) ≡ true → IsGiven wire conn (is_live conn (seat_at play grant)) (replies_to (seat_at play grant) conn)
  at_grant grant conn among = elim (or_not grant (length play.seats)) [
    | inl less ↦ (let at = stands_at wire play 0 grant hub.seats play.seats grant (omega arith) less stands.seats in seat_given wire at.view (is_waiting play grant) (seat_at play grant) at.is conn among)
    | inr past ↦ false_true (let none = past_end play.seats grant no_seat past in sym (ap (λ seat. is_among conn (conns_of seat)) none) ∙ among)
  ]

  pub given_as_alone : (grant : ℕ) → GivenAsAlone setting wire grant
  given_as_alone grant =
      let alone = as_alone setting wire.steps grant once in
      record {
        front = λ conn among. prefix_then (wire.given conn) (replies_to (seat_at play grant) conn) (replies_to (private setting grant (events play grant wire.steps)) conn)
            (at_grant grant conn among).front (alone.replies conn);
        whole = λ conn among waits here took. (at_grant grant conn among).whole here took ∙ ap (λ seat. replies_to seat conn) (alone.whole waits);
      }

  pub shared_as_alone : SharedAsAlone setting chain wire
  shared_as_alone = record { each = given_as_alone; nobody = stands.elsewhere; holds = stands.holds }

-- ---- where nothing is left to do for the server

not_now : (last : Last) → last ≢ Other → last ≢ Short → last ≡ NotNow
not_now NotNow other short = refl
not_now Short other short = absurd (short refl)
not_now Other other short = absurd (other refl)

-- a peer that is there and takes more took what there was
took_at_rest : (wire : WireView) (seat : Seat) (conn : ℕ) → (seat.going ≡ true → wire.last seat.conn ≢ Other) → wire.last conn ≢ Short → TookAll (is_live conn seat) wire conn
took_at_rest wire seat conn rests short = by seat.going refl (nat_eq seat.conn conn) refl
  where
    by : (going : Bool) → seat.going ≡ going → (same : Bool) → nat_eq seat.conn conn ≡ same → TookAll (going && same) wire conn
    by false e same f = short
    by true e false f = short
    by true e true f = not_now (wire.last conn) (subst (λ c. wire.last c ≢ Other) (eqb-true seat.conn conn f) (rests e)) short

pub all_given_as_alone : (setting : Setting) (chain : ChainState) (wire : WireView) → SharedAsAlone setting chain wire → IsAtRest setting wire → AllGivenAsAlone setting wire
all_given_as_alone setting chain wire shared rests = record {
  rests = rests;
  all = λ grant conn among waits here short.
      (shared.each grant).whole conn among waits here (took_at_rest wire (seat_at (played setting wire.steps) grant) conn (λ going. rests grant going waits) short);
}

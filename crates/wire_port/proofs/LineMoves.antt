-- What a line of a script does.
use Rattle.std.proofs.Common.{◌≡◌, ◌≢◌, ◌≤◌, ℕ, Bool, true, false, not, List, [], ◌∷◌, ◌++◌, length, nat_eq, ap, ◌∙◌, sym, refl, eqb-true, eq-eqb, subst, if◌then◌else◌}
use Rattle.std.specs.declared.option.Option.{Option}
use Rattle.std.specs.declared.option.Option.TheVariants.{None, Some}
use Rattle.std.specs.List.{list_any}
use Rattle.wire_port.specs.Steps.{opens, shuts}
use Rattle.wire_port.specs.Steps.Step.{Opened}
use Rattle.wire_port.specs.Offers.{ScriptLine, Peer, changed_peer}
use Rattle.wire_port.specs.Offers.ScriptLine.{Open, Send, Drop, Room}
use Rattle.wire_port.specs.Wires.{Last}
use Rattle.wire_port.specs.Calls.{with_last, after_named}
use Rattle.wire_port.specs.Links.{LinkView, LogView, new_link, logged, link_offered, link_dropped, link_room}
use Rattle.wire_port.specs.Slots.{SlotsView, Opens, has_link, link_of, changed_link, peers_of, conns}
use Rattle.wire_port.specs.Playing.{IsPlay, EachFresh}
use Rattle.wire_port.specs.Played.{told_of, unless_shut, peers_unless_shut}
use Rattle.wire_port.specs.declared.wire.Found.{Found}
use Rattle.wire_port.specs.declared.wire.Found.TheVariants as found
use Rattle.wire_port.proofs.Changing.{Keeps, apart, kept, by_conn, none_of, peer_is, peers_changed, fresh_joined}
use Rattle.wire_port.proofs.Places.{none_changed}
use Rattle.wire_port.proofs.Moves.{Quiet, quiet, passed, sent_now, opened_now}

-- ---- lines on connections that may have opened

either_of : {A : Type 0} (t u : Bool) → t ≡ u → (t ≡ true → A) → (t ≡ false → A) → A
either_of t true is one other = one is
either_of t false is one other = other is

either : {A : Type 0} (t : Bool) → (t ≡ true → A) → (t ≡ false → A) → A
either t one other = either_of t t refl one other

quiet_line : (conn : ℕ) (change : LinkView → LinkView) (now : List ScriptLine) (log : LogView) (links waiting : List LinkView) (opened : List (ℕ × ℕ)) → Quiet change
    → IsPlay now log links waiting opened → IsPlay now log (changed_link conn change links) waiting opened
quiet_line conn change now log links waiting opened is play =
    either (has_link conn links)
    (λ has. quiet conn change now log links waiting opened is has play)
    (λ absent. subst (λ (all : List LinkView). IsPlay now log all waiting opened) (sym (none_changed conn change links absent)) play)

pub drop_fits : (conn : ℕ) (now : List ScriptLine) (log : LogView) (links waiting : List LinkView) (opened : List (ℕ × ℕ)) → IsPlay (Drop conn ∷ now) log links waiting opened
    → IsPlay now log (changed_link conn link_dropped links) waiting opened
drop_fits conn now log links waiting opened play =
    quiet_line conn link_dropped now log links waiting opened (record { conn = λ l. refl; gone = λ l. refl; shut = λ l. refl; taken = λ l. refl; offered = λ l. refl; offers = λ l. refl })
    (passed (Drop conn) now log links waiting opened (λ _. refl) play)

pub room_fits : (conn : ℕ) (room : Option ℕ) (now : List ScriptLine) (log : LogView) (links waiting : List LinkView) (opened : List (ℕ × ℕ)) → IsPlay (Room conn room ∷ now) log links waiting opened
    → IsPlay now log (changed_link conn (link_room room) links) waiting opened
room_fits conn room now log links waiting opened play =
    quiet_line conn (link_room room) now log links waiting opened (record { conn = λ l. refl; gone = λ l. refl; shut = λ l. refl; taken = λ l. refl; offered = λ l. refl; offers = λ l. refl })
    (passed (Room conn room) now log links waiting opened (λ _. refl) play)

pub send_room : (conn : ℕ) (bytes : List ℕ) (now : List ScriptLine) (log : LogView) (links waiting : List LinkView) (opened : List (ℕ × ℕ)) → IsPlay (Send conn bytes ∷ now) log links waiting opened
    → has_link conn links ≡ true → length bytes ≤ (link_of links conn).offers_left
send_room conn bytes now log links waiting opened play has = (sent_now conn bytes now log links waiting opened has play).0

pub send_fits : (conn : ℕ) (bytes : List ℕ) (now : List ScriptLine) (log : LogView) (links waiting : List LinkView) (opened : List (ℕ × ℕ)) → IsPlay (Send conn bytes ∷ now) log links waiting opened
    → IsPlay now log (changed_link conn (link_offered bytes) links) waiting opened
send_fits conn bytes now log links waiting opened play =
    either (has_link conn links)
    (λ has. (sent_now conn bytes now log links waiting opened has play).1)
    (λ absent. subst (λ (all : List LinkView). IsPlay now log all waiting opened) (sym (none_changed conn (link_offered bytes) links absent)) (passed (Send conn bytes) now log links waiting opened (λ _. refl) play))

-- ---- what is told

pub named_told : (conn : ℕ) (change : LinkView → LinkView) (lines : List ScriptLine) (log : LogView) (links waiting : List LinkView) (opened : List (ℕ × ℕ)) → Keeps change → ((link : LinkView) → (change link).last ≡ Last.Other)
    → ((link : LinkView) → (change link).peer.given ≡ link.peer.given) → (link_of links conn).peer.is_shut ≡ false → IsPlay lines log links waiting opened
    → told_of log (changed_link conn change links) ≡ after_named conn (told_of log links)
named_told conn change lines log links waiting opened keeps last given live play =
    let never : nat_eq (shuts conn log.steps) 0 ≡ true = play.shut conn ∙ ap not live in
    λ i. record {
      steps = log.steps;
      given = λ other. kept conn change links other (λ l. l.peer.given) keeps given i;
      last = λ other. (told other ∙ ap (λ (t : Bool). with_last conn (if t then Last.Other else (link_of links conn).last) (λ c. (link_of links c).last) other) (sym never)) i;
    }
  where
    here : with_last conn Last.Other (λ c. (link_of links c).last) conn ≡ Last.Other
    here = ap (λ (t : Bool). if t then Last.Other else (link_of links conn).last) (eq-eqb conn conn refl)

    there : (other : ℕ) → other ≢ conn → with_last conn Last.Other (λ c. (link_of links c).last) other ≡ (link_of links other).last
    there other ne = ap (λ (t : Bool). if t then Last.Other else (link_of links other).last) (apart other conn ne)

    absent_same : has_link conn links ≡ false → (other : ℕ) → (t : Bool) → nat_eq other conn ≡ t → (link_of links other).last ≡ (if t then Last.Other else (link_of links other).last)
    absent_same absent other true is = ap (λ (n : ℕ). (link_of links n).last) (eqb-true other conn is) ∙ ap (λ (link : LinkView). link.last) (none_of links conn absent)
    absent_same absent other false is = refl

    told : (other : ℕ) → (link_of (changed_link conn change links) other).last ≡ with_last conn Last.Other (λ c. (link_of links c).last) other
    told other =
        either (has_link conn links)
        (λ has. by_conn conn change links keeps has (λ n link. link.last ≡ with_last conn Last.Other (λ c. (link_of links c).last) n) (last (link_of links conn) ∙ sym here) (λ n ne. sym (there n ne)) other)
        (λ absent. ap (λ (all : List LinkView). (link_of all other).last) (none_changed conn change links absent) ∙ absent_same absent other (nat_eq other conn) refl)

-- ---- answers and peers

pub live_found : (conn : ℕ) (links : List LinkView) (answer : Found) → (link_of links conn).peer.is_shut ≡ false → answer ≡ unless_shut (peers_of links) conn answer
live_found conn links answer live = sym (ap (λ (t : Bool). if t then found.Nothing else answer) (ap (λ (peer : Peer). peer.is_shut) (peer_is links conn) ∙ live))

pub shut_found : (conn : ℕ) (links : List LinkView) (answer : Found) → (link_of links conn).peer.is_shut ≡ true → found.Nothing ≡ unless_shut (peers_of links) conn answer
shut_found conn links answer is_shut = sym (ap (λ (t : Bool). if t then found.Nothing else answer) (ap (λ (peer : Peer). peer.is_shut) (peer_is links conn) ∙ is_shut))

pub live_peers : (conn : ℕ) (change : LinkView → LinkView) (turn : Peer → Peer) (links : List LinkView) → ((link : LinkView) → (change link).peer ≡ turn link.peer) → (link_of links conn).peer.is_shut ≡ false
    → peers_of (changed_link conn change links) ≡ peers_unless_shut (peers_of links) conn turn
live_peers conn change turn links same live =
    peers_changed conn change links turn same
    ∙ sym (ap (λ (t : Bool). if t then peers_of links else changed_peer conn turn (peers_of links)) (ap (λ (peer : Peer). peer.is_shut) (peer_is links conn) ∙ live))

pub shut_peers : (conn : ℕ) (turn : Peer → Peer) (links : List LinkView) → (link_of links conn).peer.is_shut ≡ true → peers_of links ≡ peers_unless_shut (peers_of links) conn turn
shut_peers conn turn links is_shut =
    sym (ap (λ (t : Bool). if t then peers_of links else changed_peer conn turn (peers_of links)) (ap (λ (peer : Peer). peer.is_shut) (peer_is links conn) ∙ is_shut))

-- ---- a connection opens

pub record First (conn : ℕ) (old new : SlotsView) : Type 0 where
  pub link : LinkView
  pub waiting : old.waiting ≡ link ∷ new.waiting
  pub links : new.links ≡ old.links ++ link ∷ []
  pub conn_is : link.peer.conn ≡ conn

pub first_opens : (conn port : ℕ) (now : List ScriptLine) (log : LogView) (old new : SlotsView) (opened : List (ℕ × ℕ)) (result : Option ℕ) → IsPlay (Open conn port ∷ now) log old.links old.waiting opened → Opens old result new → First conn old new
first_opens conn port now log old new opened None play opens = absurd (cc (ap conns (sym opens.0) ∙ play.order))
first_opens conn port now log old new opened (Some result) play opens = record {
  link = opens.0;
  waiting = opens.1;
  links = opens.2;
  conn_is = cc (ap conns (sym opens.1) ∙ play.order);
}

pub open_fits : (conn port : ℕ) (now : List ScriptLine) (log : LogView) (old new : SlotsView) (opened : List (ℕ × ℕ)) → First conn old new → IsPlay (Open conn port ∷ now) log old.links old.waiting opened
    → (list_any (opens conn) log.steps ≡ false) × IsPlay now (logged (Opened conn port) log) new.links new.waiting (opened ++ (conn, port) ∷ [])
open_fits conn port now log old new opened first play =
    let moved = opened_now conn port now log old.links new.waiting opened first.link first.conn_is (subst (λ (w : List LinkView). IsPlay (Open conn port ∷ now) log old.links w opened) first.waiting play) in
    (moved.1, subst (λ (l : List LinkView). IsPlay now (logged (Opened conn port) log) l new.waiting (opened ++ (conn, port) ∷ [])) (sym first.links) moved.2)

pub open_told : (conn port : ℕ) (now : List ScriptLine) (log : LogView) (old new : SlotsView) (opened : List (ℕ × ℕ)) → First conn old new → IsPlay (Open conn port ∷ now) log old.links old.waiting opened
    → told_of (logged (Opened conn port) log) new.links ≡ after_named conn (record (told_of log old.links) { steps = log.steps ++ Opened conn port ∷ [] })
open_told conn port now log old new opened first play =
    λ i. record {
      steps = log.steps ++ Opened conn port ∷ [];
      given = λ other. (ap (λ (l : List LinkView). (link_of l other).peer.given) first.links ∙ fresh_joined old.links first.link other (λ l. l.peer.given) fresh (λ n m. refl)) i;
      last = λ other. (ap (λ (l : List LinkView). (link_of l other).last) first.links ∙ fresh_joined old.links first.link other (λ l. l.last) fresh (λ n m. refl) ∙ told other (nat_eq other conn) refl) i;
    }
  where
    fresh : first.link ≡ new_link first.link.peer.conn first.link.offers_left
    fresh = (subst EachFresh first.waiting play.fresh).0

    none : has_link conn old.links ≡ false
    none = sym (play.linked conn) ∙ (open_fits conn port now log old new opened first play).0

    was : (link_of old.links conn).last ≡ Last.Other
    was = ap (λ (link : LinkView). link.last) (none_of old.links conn none)

    now_is : (t : Bool) → (if t then Last.Other else (link_of old.links conn).last) ≡ Last.Other
    now_is true = refl
    now_is false = was

    told : (other : ℕ) (t : Bool) → nat_eq other conn ≡ t
        → (link_of old.links other).last ≡ with_last conn (if nat_eq (shuts conn (log.steps ++ Opened conn port ∷ [])) 0 then Last.Other else (link_of old.links conn).last) (λ c. (link_of old.links c).last) other
    told other true is =
        ap (λ (n : ℕ). (link_of old.links n).last) (eqb-true other conn is) ∙ was ∙ sym (now_is (nat_eq (shuts conn (log.steps ++ Opened conn port ∷ [])) 0))
        ∙ sym (ap (λ (t : Bool). if t then (if nat_eq (shuts conn (log.steps ++ Opened conn port ∷ [])) 0 then Last.Other else (link_of old.links conn).last) else (link_of old.links other).last) is)
    told other false is = sym (ap (λ (t : Bool). if t then (if nat_eq (shuts conn (log.steps ++ Opened conn port ∷ [])) 0 then Last.Other else (link_of old.links conn).last) else (link_of old.links other).last) is)

-- What a script wire tells after each call.
use Rattle.std.proofs.Common.{◌≡◌, ◌≤◌, ◌+◌, ℕ, Bool, true, false, List, [], ◌∷◌, ◌++◌, length, take, nat_lt, ap, ◌∙◌, sym, refl, arith, eq-eqb, subst, if◌then◌else◌, length-take}
use Rattle.std.proofs.lemmas.List.{append-nil}
use Rattle.wire_port.specs.Steps.{has_gone}
use Rattle.wire_port.specs.Steps.Step.{Shut}
use Rattle.wire_port.specs.Offers.{ScriptLine, Answer, Peer, within_room, take_answer, limited_answer, some_or_none, most_given, given_piece, taken_bytes}
use Rattle.wire_port.specs.Wires.{Last, last_of_take, last_of_give}
use Rattle.wire_port.specs.Calls.{IsWire, with_last, with_given, after_take, after_give, after_shut, steps_of_take, steps_of_give, bytes_of, peers_after_take, peers_after_give, peers_after_shut}
use Rattle.wire_port.specs.Links.{LinkView, LogView, logged, link_after_take, link_after_give, link_shut, log_after_take, log_after_give, RoomForTake, RoomForGive}
use Rattle.wire_port.specs.Slots.{has_link, link_of, changed_link, peers_of}
use Rattle.wire_port.specs.Playing.{IsPlay}
use Rattle.wire_port.specs.Played.{told_of}
use Rattle.wire_port.proofs.Keeping.{take_keeps, give_keeps}
use Rattle.wire_port.proofs.Changing.{Keeps, apart, kept, by_conn, none_of, peers_changed, peers_stay}
use Rattle.wire_port.proofs.Moves.{quiet, gone_now, took_now}

-- a wire with these lines, steps and connections is one
pub is_wire : (lines : List ScriptLine) (log : LogView) (links waiting : List LinkView) (opened : List (ℕ × ℕ)) → IsPlay lines log links waiting opened → IsWire (told_of log links)
is_wire lines log links waiting opened play = record {
  once = play.once;
  opened = λ conn none. ap (λ (link : LinkView). link.peer.given) (none_of links conn (sym (play.linked conn) ∙ none));
}

-- ---- answers

some_bytes : (otherwise : Answer) (bytes piece : List ℕ) → ((other : List ℕ) → otherwise ≡ Answer.Bytes other → ⊥) → some_or_none otherwise piece ≡ Answer.Bytes bytes → (piece ≡ bytes) × (1 ≤ length bytes)
some_bytes otherwise bytes [] never is = absurd (never bytes is)
some_bytes otherwise bytes (byte ∷ piece) never is =
    let same : byte ∷ piece ≡ bytes = cc is in
    (same, subst (λ (all : List ℕ). 1 ≤ length all) same (omega arith))

none_taken : (t : Bool) (other : List ℕ) → (if t then Answer.Gone else Answer.NotNow) ≡ Answer.Bytes other → ⊥
none_taken true other is = absurd (cc is)
none_taken false other is = absurd (cc is)

taken_well : (size : ℕ) (peer : Peer) (bytes : List ℕ) → take_answer size peer ≡ Answer.Bytes bytes → (1 ≤ length bytes) × (length bytes ≤ length peer.offered)
taken_well size peer bytes is =
    let parts = some_bytes (if peer.is_dropped then Answer.Gone else Answer.NotNow) bytes (take size peer.offered) (none_taken peer.is_dropped) is in
    (parts.1, omega (arith, length-take size peer.offered, ap (λ (all : List ℕ). length all) parts.0))

pub take_fits : (conn size : ℕ) (answer : Answer) (lines : List ScriptLine) (log : LogView) (links waiting : List LinkView) (opened : List (ℕ × ℕ)) → answer ≡ take_answer size (link_of links conn).peer → has_link conn links ≡ true
    → has_gone conn log.steps ≡ false → IsPlay lines log links waiting opened
    → RoomForTake answer log × IsPlay lines (log_after_take conn answer log) (changed_link conn (link_after_take answer) links) waiting opened
take_fits conn size (Answer.Bytes bytes) lines log links waiting opened is has not_gone play =
    let well = taken_well size (link_of links conn).peer bytes (sym is) in
    let moved = took_now conn bytes lines log links waiting opened has well.0 well.1 play in
    ((moved.0, moved.1), moved.2)
take_fits conn size Answer.NotNow lines log links waiting opened is has not_gone play =
    (tt, quiet conn (link_after_take Answer.NotNow) lines log links waiting opened (record { conn = λ l. refl; gone = λ l. refl; shut = λ l. refl; taken = λ l. refl; offered = λ l. refl; offers = λ l. refl }) has play)
take_fits conn size Answer.Gone lines log links waiting opened is has not_gone play =
    gone_now conn (link_after_take Answer.Gone) lines log links waiting opened (λ l. refl) (λ l. refl) (λ l. refl) (λ l. refl) (λ l. refl) (λ l. refl) has not_gone play

pub give_fits : (conn : ℕ) (piece : List ℕ) (answer : Answer) (lines : List ScriptLine) (log : LogView) (links waiting : List LinkView) (opened : List (ℕ × ℕ)) → has_link conn links ≡ true
    → has_gone conn log.steps ≡ false → IsPlay lines log links waiting opened
    → RoomForGive answer log × IsPlay lines (log_after_give conn answer log) (changed_link conn (link_after_give piece answer) links) waiting opened
give_fits conn piece (Answer.Bytes bytes) lines log links waiting opened has not_gone play =
    (tt, quiet conn (link_after_give piece (Answer.Bytes bytes)) lines log links waiting opened (record { conn = λ l. refl; gone = λ l. refl; shut = λ l. refl; taken = λ l. refl; offered = λ l. refl; offers = λ l. refl }) has play)
give_fits conn piece Answer.NotNow lines log links waiting opened has not_gone play =
    (tt, quiet conn (link_after_give piece Answer.NotNow) lines log links waiting opened (record { conn = λ l. refl; gone = λ l. refl; shut = λ l. refl; taken = λ l. refl; offered = λ l. refl; offers = λ l. refl }) has play)
give_fits conn piece Answer.Gone lines log links waiting opened has not_gone play =
    gone_now conn (link_after_give piece Answer.Gone) lines log links waiting opened (λ l. refl) (λ l. refl) (λ l. refl) (λ l. refl) (λ l. refl) (λ l. refl) has not_gone play

-- ---- what is told

last_changed : (conn : ℕ) (change : LinkView → LinkView) (links : List LinkView) (now : Last) → Keeps change → has_link conn links ≡ true → (change (link_of links conn)).last ≡ now
    → (other : ℕ) → (link_of (changed_link conn change links) other).last ≡ with_last conn now (λ c. (link_of links c).last) other
last_changed conn change links now keeps has is =
    by_conn conn change links keeps has (λ other link. link.last ≡ with_last conn now (λ c. (link_of links c).last) other)
    (is ∙ sym (ap (λ (t : Bool). if t then now else (link_of links conn).last) (eq-eqb conn conn refl)))
    (λ other ne. sym (ap (λ (t : Bool). if t then now else (link_of links other).last) (apart other conn ne)))

take_given : (answer : Answer) (link : LinkView) → (link_after_take answer link).peer.given ≡ link.peer.given
take_given (Answer.Bytes bytes) link = refl
take_given Answer.NotNow link = refl
take_given Answer.Gone link = refl

take_last : (answer : Answer) (link : LinkView) → (link_after_take answer link).last ≡ last_of_take answer
take_last (Answer.Bytes bytes) link = refl
take_last Answer.NotNow link = refl
take_last Answer.Gone link = refl

take_steps : (conn : ℕ) (answer : Answer) (log : LogView) → (log_after_take conn answer log).steps ≡ log.steps ++ steps_of_take conn answer
take_steps conn (Answer.Bytes bytes) log = refl
take_steps conn Answer.NotNow log = sym (append-nil log.steps)
take_steps conn Answer.Gone log = refl

pub take_told : (conn : ℕ) (answer : Answer) (log : LogView) (links : List LinkView) → has_link conn links ≡ true
    → told_of (log_after_take conn answer log) (changed_link conn (link_after_take answer) links) ≡ after_take conn answer (told_of log links)
take_told conn answer log links has =
    λ i. record {
      steps = take_steps conn answer log i;
      given = λ other. kept conn (link_after_take answer) links other (λ l. l.peer.given) (take_keeps answer) (take_given answer) i;
      last = λ other. last_changed conn (link_after_take answer) links (last_of_take answer) (take_keeps answer) has (take_last answer (link_of links conn)) other i;
    }

pub take_peers : (conn : ℕ) (answer : Answer) (links : List LinkView) → peers_of (changed_link conn (link_after_take answer) links) ≡ peers_after_take conn answer (peers_of links)
take_peers conn (Answer.Bytes bytes) links = peers_changed conn (link_after_take (Answer.Bytes bytes)) links (taken_bytes (length bytes)) (λ l. refl)
take_peers conn Answer.NotNow links = peers_stay conn (link_after_take Answer.NotNow) links (λ l. refl)
take_peers conn Answer.Gone links = peers_stay conn (link_after_take Answer.Gone) links (λ l. refl)

-- the bytes that go are those for which there is room
given_well : (taken : ℕ) (piece bytes : List ℕ) (peer : Peer) → limited_answer taken piece peer ≡ Answer.Bytes bytes → within_room peer.room piece ≡ bytes
given_well taken piece bytes peer is = go (nat_lt (most_given taken) (length peer.given + length (within_room peer.room piece))) peer.is_dropped is
  where
    never : (other : List ℕ) → Answer.NotNow ≡ Answer.Bytes other → ⊥
    never other at = absurd (cc at)

    go : (t d : Bool) → (if t then Answer.Gone else (if d then Answer.Gone else some_or_none Answer.NotNow (within_room peer.room piece))) ≡ Answer.Bytes bytes → within_room peer.room piece ≡ bytes
    go true d at = absurd (cc at)
    go false true at = absurd (cc at)
    go false false at = (some_bytes Answer.NotNow bytes (within_room peer.room piece) never at).0

give_last : (piece : List ℕ) (answer : Answer) (link : LinkView) → (link_after_give piece answer link).last ≡ last_of_give (length piece) answer
give_last piece (Answer.Bytes bytes) link = refl
give_last piece Answer.NotNow link = refl
give_last piece Answer.Gone link = refl

give_steps : (conn : ℕ) (answer : Answer) (log : LogView) → (log_after_give conn answer log).steps ≡ log.steps ++ steps_of_give conn answer
give_steps conn (Answer.Bytes bytes) log = sym (append-nil log.steps)
give_steps conn Answer.NotNow log = sym (append-nil log.steps)
give_steps conn Answer.Gone log = refl

give_given : (taken : ℕ) (piece : List ℕ) (answer : Answer) (link : LinkView) → answer ≡ limited_answer taken piece link.peer → (link_after_give piece answer link).peer.given ≡ link.peer.given ++ bytes_of answer
give_given taken piece (Answer.Bytes bytes) link is = ap (λ (more : List ℕ). link.peer.given ++ more) (given_well taken piece bytes link.peer (sym is))
give_given taken piece Answer.NotNow link is = sym (append-nil link.peer.given)
give_given taken piece Answer.Gone link is = sym (append-nil link.peer.given)

pub give_told : (conn taken : ℕ) (piece : List ℕ) (answer : Answer) (log : LogView) (links : List LinkView) → has_link conn links ≡ true → answer ≡ limited_answer taken piece (link_of links conn).peer
    → told_of (log_after_give conn answer log) (changed_link conn (link_after_give piece answer) links) ≡ after_give conn (length piece) answer (told_of log links)
give_told conn taken piece answer log links has is =
    let change = link_after_give piece answer in
    let given : (other : ℕ) → (link_of (changed_link conn change links) other).peer.given ≡ with_given conn (bytes_of answer) (λ c. (link_of links c).peer.given) other =
    by_conn conn change links (give_keeps piece answer) has (λ other link. link.peer.given ≡ with_given conn (bytes_of answer) (λ c. (link_of links c).peer.given) other)
    (give_given taken piece answer (link_of links conn) is ∙ sym (ap (λ (t : Bool). if t then (link_of links conn).peer.given ++ bytes_of answer else (link_of links conn).peer.given) (eq-eqb conn conn refl)))
    (λ other ne. sym (ap (λ (t : Bool). if t then (link_of links other).peer.given ++ bytes_of answer else (link_of links other).peer.given) (apart other conn ne))) in
    λ i. record {
      steps = give_steps conn answer log i;
      given = λ other. given other i;
      last = λ other. last_changed conn change links (last_of_give (length piece) answer) (give_keeps piece answer) has (give_last piece answer (link_of links conn)) other i;
    }

pub give_peers : (conn : ℕ) (piece : List ℕ) (answer : Answer) (links : List LinkView) → peers_of (changed_link conn (link_after_give piece answer) links) ≡ peers_after_give conn piece answer (peers_of links)
give_peers conn piece (Answer.Bytes bytes) links = peers_changed conn (link_after_give piece (Answer.Bytes bytes)) links (given_piece piece) (λ l. refl)
give_peers conn piece Answer.NotNow links = peers_stay conn (link_after_give piece Answer.NotNow) links (λ l. refl)
give_peers conn piece Answer.Gone links = peers_stay conn (link_after_give piece Answer.Gone) links (λ l. refl)

pub shut_told : (conn : ℕ) (log : LogView) (links : List LinkView) → told_of (logged (Shut conn) log) (changed_link conn link_shut links) ≡ after_shut conn (told_of log links)
shut_told conn log links =
    λ i. record {
      steps = log.steps ++ Shut conn ∷ [];
      given = λ other. kept conn link_shut links other (λ l. l.peer.given) (λ l. refl) (λ l. refl) i;
      last = λ other. kept conn link_shut links other (λ l. l.last) (λ l. refl) (λ l. refl) i;
    }

pub shut_peers : (conn : ℕ) (links : List LinkView) → peers_of (changed_link conn link_shut links) ≡ peers_after_shut conn (peers_of links)
shut_peers conn links = peers_changed conn link_shut links (λ peer. record peer { is_shut = true }) (λ l. refl)

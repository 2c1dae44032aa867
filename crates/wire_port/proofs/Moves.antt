-- Lines, steps and connections still fit one another after each call.
use Rattle.std.proofs.Common.{◌≡◌, ◌≢◌, ◌≤◌, ◌<◌, ◌+◌, ◌-◌, ℕ, Bool, true, false, not, ◌&&◌, ◌||◌, List, [], ◌∷◌, ◌++◌, length, drop, nat_eq, ap, ◌∙◌, sym, refl, arith, eqb-true, eq-eqb, subst, append_assoc, if◌then◌else◌, length-drop, length-append}
use Rattle.std.proofs.lemmas.List.{append-nil}
use Rattle.std.specs.List.{list_any}
use Rattle.wire_port.specs.Steps.{opens, opens_once, is_gone_step, has_gone, shuts, taken_from}
use Rattle.wire_port.specs.Steps.Step.{Opened, Took, Gone, Shut}
use Rattle.wire_port.specs.Offers.{ScriptLine, Answer, opens_line, lines_open_once}
use Rattle.wire_port.specs.Offers.ScriptLine.{Open, Send, Drop, Room}
use Rattle.wire_port.specs.Links.{LinkView, LogView, new_link, logged, logged_bytes, link_after_take, link_shut, link_offered}
use Rattle.wire_port.specs.Slots.{conns, has_link, link_of, changed_link}
use Rattle.wire_port.specs.Playing.{sent, sent_on, opened_by, opened_in, spare, on_offer, EachFits, IsPlay}
use Rattle.wire_port.proofs.Changing.{Keeps, apart, kept, by_conn, has_changed, total_changed, fits_changed, each_fewer, weight_within, fits_here, fresh_joined, has_joined, total_joined}
use Rattle.wire_port.proofs.Stepping.{any_behind, shuts_behind, taken_behind, opened_behind, once_behind}

or_false : (t : Bool) → (t || false) ≡ t
or_false true = refl
or_false false = refl

zero_more : (n : ℕ) → n + 0 ≡ n
zero_more n = omega arith

-- what one of the connections comes to, and the steps with it
pub record Moves (lines now : List ScriptLine) (log after : LogView) (links changed : List LinkView) (link next : LinkView) : Type 0 where
  pub once : opens_once after.steps ≡ true
  pub opened_are : opened_in after.steps ≡ opened_in log.steps
  pub opened_stay : (conn : ℕ) → list_any (opens conn) after.steps ≡ list_any (opens conn) log.steps
  pub gone : (conn : ℕ) → has_gone conn after.steps ≡ (link_of changed conn).is_gone
  pub shut : (conn : ℕ) → nat_eq (shuts conn after.steps) 0 ≡ not (link_of changed conn).peer.is_shut
  pub taken : (conn : ℕ) → taken_from conn after.steps ≡ (link_of changed conn).taken
  pub room : sent now + spare next + log.left ≤ sent lines + spare link + after.left
  pub bytes_room : sent now + on_offer next + log.bytes_left ≤ sent lines + on_offer link + after.bytes_left

pub moved : (conn : ℕ) (change : LinkView → LinkView) (lines now : List ScriptLine) (log after : LogView) (links waiting : List LinkView) (opened : List (ℕ × ℕ)) → Keeps change → has_link conn links ≡ true
    → IsPlay lines log links waiting opened → Moves lines now log after links (changed_link conn change links) (link_of links conn) (change (link_of links conn))
    → lines_open_once now ≡ true → ((other : ℕ) → list_any (opens_line other) lines ≡ false → list_any (opens_line other) now ≡ false) → opened_by now ≡ opened_by lines
    → ((other : ℕ) → sent_on other now ≤ sent_on other lines) → sent_on conn now ≤ (change (link_of links conn)).offers_left
    → IsPlay now after (changed_link conn change links) waiting opened
moved conn change lines now log after links waiting opened keeps has play moves once_now apart_now order_now fewer here = record {
  once = moves.once;
  lines_once = once_now;
  apart = λ other there. apart_now other (play.apart other (sym (has_changed conn change links other keeps) ∙ there));
  opened_are = play.opened_are ∙ sym moves.opened_are;
  linked = λ other. moves.opened_stay other ∙ play.linked other ∙ sym (has_changed conn change links other keeps);
  gone = moves.gone;
  shut = moves.shut;
  taken = moves.taken;
  order = play.order ∙ sym order_now;
  fresh = play.fresh;
  fits = fits_changed conn change links waiting lines now keeps fewer (λ _. here) play.fits;
  left = omega (arith, moves.room, play.left, total_changed spare conn change links has);
  bytes_left = omega (arith, moves.bytes_room, play.bytes_left, total_changed on_offer conn change links has);
}

-- the same lines
stays_moved : (conn : ℕ) (change : LinkView → LinkView) (lines : List ScriptLine) (log after : LogView) (links waiting : List LinkView) (opened : List (ℕ × ℕ)) → Keeps change → has_link conn links ≡ true
    → IsPlay lines log links waiting opened → Moves lines lines log after links (changed_link conn change links) (link_of links conn) (change (link_of links conn))
    → (change (link_of links conn)).offers_left ≡ (link_of links conn).offers_left → IsPlay lines after (changed_link conn change links) waiting opened
stays_moved conn change lines log after links waiting opened keeps has play moves offers =
    moved conn change lines lines log after links waiting opened keeps has play moves play.lines_once (λ other is. is) refl (λ other. omega arith)
    (omega (arith, offers, fits_here conn links waiting lines has play.fits))

-- a change that says nothing new
pub record Quiet (change : LinkView → LinkView) : Type 0 where
  pub conn : (link : LinkView) → (change link).peer.conn ≡ link.peer.conn
  pub gone : (link : LinkView) → (change link).is_gone ≡ link.is_gone
  pub shut : (link : LinkView) → (change link).peer.is_shut ≡ link.peer.is_shut
  pub taken : (link : LinkView) → (change link).taken ≡ link.taken
  pub offered : (link : LinkView) → (change link).peer.offered ≡ link.peer.offered
  pub offers : (link : LinkView) → (change link).offers_left ≡ link.offers_left

pub quiet : (conn : ℕ) (change : LinkView → LinkView) (lines : List ScriptLine) (log : LogView) (links waiting : List LinkView) (opened : List (ℕ × ℕ)) → Quiet change → has_link conn links ≡ true
    → IsPlay lines log links waiting opened → IsPlay lines log (changed_link conn change links) waiting opened
quiet conn change lines log links waiting opened is has play =
    let link = link_of links conn in
    let offer : on_offer (change link) ≡ on_offer link = ap length (is.offered link) in
    let same : spare (change link) ≡ spare link = λ i. (if is.gone link i then 0 else 1) + (if is.shut link i then 0 else 1) + length (is.offered link i) in
    stays_moved conn change lines log log links waiting opened is.conn has play
    (record {
      once = play.once;
      opened_are = refl;
      opened_stay = λ other. refl;
      gone = λ other. play.gone other ∙ sym (kept conn change links other (λ l. l.is_gone) is.conn is.gone);
      shut = λ other. play.shut other ∙ sym (ap not (kept conn change links other (λ l. l.peer.is_shut) is.conn is.shut));
      taken = λ other. play.taken other ∙ sym (kept conn change links other (λ l. l.taken) is.conn is.taken);
      room = omega (arith, same);
      bytes_room = omega (arith, offer);
    })
    (is.offers link)

-- ---- steps

-- the peer is gone
pub gone_now : (conn : ℕ) (change : LinkView → LinkView) (lines : List ScriptLine) (log : LogView) (links waiting : List LinkView) (opened : List (ℕ × ℕ)) → Keeps change
    → ((link : LinkView) → (change link).is_gone ≡ true) → ((link : LinkView) → (change link).peer.is_shut ≡ link.peer.is_shut) → ((link : LinkView) → (change link).taken ≡ link.taken)
    → ((link : LinkView) → (change link).peer.offered ≡ link.peer.offered) → ((link : LinkView) → (change link).offers_left ≡ link.offers_left)
    → has_link conn links ≡ true → has_gone conn log.steps ≡ false → IsPlay lines log links waiting opened → (0 < log.left) × IsPlay lines (logged (Gone conn) log) (changed_link conn change links) waiting opened
gone_now conn change lines log links waiting opened keeps gone shut taken offered offers has not_gone play =
    let link = link_of links conn in
    let was : link.is_gone ≡ false = sym (play.gone conn) ∙ not_gone in
    let before : spare link ≡ 1 + (if link.peer.is_shut then 0 else 1) + length link.peer.offered = ap (λ (t : Bool). (if t then 0 else 1) + (if link.peer.is_shut then 0 else 1) + length link.peer.offered) was in
    let now : spare (change link) ≡ 0 + (if link.peer.is_shut then 0 else 1) + length link.peer.offered = λ i. (if gone link i then 0 else 1) + (if shut link i then 0 else 1) + length (offered link i) in
    let offer : on_offer (change link) ≡ on_offer link = ap length (offered link) in
    let some : 0 < log.left = omega (arith, play.left, weight_within spare conn links has, before) in (
      some,
      stays_moved conn change lines log (logged (Gone conn) log) links waiting opened keeps has play
          (record {
            once = once_behind log.steps (Gone conn) play.once tt;
            opened_are = opened_behind log.steps (Gone conn) ∙ append-nil (opened_in log.steps);
            opened_stay = λ other. any_behind (opens other) log.steps (Gone conn) ∙ or_false (list_any (opens other) log.steps);
            gone =
                by_conn conn change links keeps has (λ other l. has_gone other (log.steps ++ Gone conn ∷ []) ≡ l.is_gone)
                (any_behind (λ step. is_gone_step conn step) log.steps (Gone conn) ∙ (λ i. not_gone i || eq-eqb conn conn refl i) ∙ sym (gone link))
                (λ other ne. any_behind (λ step. is_gone_step other step) log.steps (Gone conn) ∙ ap (λ (t : Bool). has_gone other log.steps || t) (apart other conn ne) ∙ or_false (has_gone other log.steps) ∙ play.gone other);
            shut = λ other.
                ap (λ (n : ℕ). nat_eq n 0) (shuts_behind other log.steps (Gone conn) ∙ zero_more (shuts other log.steps))
                ∙ play.shut other ∙ sym (ap not (kept conn change links other (λ l. l.peer.is_shut) keeps shut));
            taken = λ other. taken_behind other log.steps (Gone conn) ∙ zero_more (taken_from other log.steps) ∙ play.taken other ∙ sym (kept conn change links other (λ l. l.taken) keeps taken);
            room = omega (arith, before, now, some);
            bytes_room = omega (arith, offer);
          })
          (offers link),
    )

-- bytes were taken
pub took_now : (conn : ℕ) (bytes : List ℕ) (lines : List ScriptLine) (log : LogView) (links waiting : List LinkView) (opened : List (ℕ × ℕ)) → has_link conn links ≡ true → 1 ≤ length bytes
    → length bytes ≤ on_offer (link_of links conn) → IsPlay lines log links waiting opened
    → (0 < log.left) × (length bytes ≤ log.bytes_left) × IsPlay lines (logged_bytes conn bytes log) (changed_link conn (link_after_take (Answer.Bytes bytes)) links) waiting opened
took_now conn bytes lines log links waiting opened has some within play =
    let link = link_of links conn in
    let change = link_after_take (Answer.Bytes bytes) in
    let keeps : Keeps change = λ l. refl in
    let left : length (drop (length bytes) link.peer.offered) ≡ length link.peer.offered - length bytes = length-drop (length bytes) link.peer.offered in
    let room : 0 < log.left = omega (arith, some, within, play.left, weight_within spare conn links has) in
    let bytes_room : length bytes ≤ log.bytes_left = omega (arith, within, play.bytes_left, weight_within on_offer conn links has) in (
      room,
      bytes_room,
      stays_moved conn change lines log (logged_bytes conn bytes log) links waiting opened keeps has play
          (record {
            once = once_behind log.steps (Took conn bytes) play.once tt;
            opened_are = opened_behind log.steps (Took conn bytes) ∙ append-nil (opened_in log.steps);
            opened_stay = λ other. any_behind (opens other) log.steps (Took conn bytes) ∙ or_false (list_any (opens other) log.steps);
            gone = λ other.
                any_behind (λ step. is_gone_step other step) log.steps (Took conn bytes) ∙ or_false (has_gone other log.steps)
                ∙ play.gone other ∙ sym (kept conn change links other (λ l. l.is_gone) keeps (λ l. refl));
            shut = λ other.
                ap (λ (n : ℕ). nat_eq n 0) (shuts_behind other log.steps (Took conn bytes) ∙ zero_more (shuts other log.steps))
                ∙ play.shut other ∙ sym (ap not (kept conn change links other (λ l. l.peer.is_shut) keeps (λ l. refl)));
            taken =
                by_conn conn change links keeps has (λ other l. taken_from other (log.steps ++ Took conn bytes ∷ []) ≡ l.taken)
                (taken_behind conn log.steps (Took conn bytes) ∙ one_taken conn bytes (taken_from conn log.steps) ∙ ap (λ (n : ℕ). n + length bytes) (play.taken conn))
                (λ other ne. taken_behind other log.steps (Took conn bytes) ∙ none_taken conn other bytes (taken_from other log.steps) ne ∙ play.taken other);
            room = omega (arith, left, within, some, room);
            bytes_room = omega (arith, left, within, bytes_room);
          })
          refl,
    )
  where
    one_taken : (c : ℕ) (piece : List ℕ) (n : ℕ) → n + taken_from c (Took c piece ∷ []) ≡ n + length piece
    one_taken c piece n = rw (eq-eqb c c refl) (omega arith)

    none_taken : (c other : ℕ) (piece : List ℕ) (n : ℕ) → other ≢ c → n + taken_from other (Took c piece ∷ []) ≡ n
    none_taken c other piece n ne = rw (apart other c ne) (omega arith)

-- the server shut a connection
pub shut_now : (conn : ℕ) (lines : List ScriptLine) (log : LogView) (links waiting : List LinkView) (opened : List (ℕ × ℕ)) → has_link conn links ≡ true → shuts conn log.steps ≡ 0
    → IsPlay lines log links waiting opened → (0 < log.left) × IsPlay lines (logged (Shut conn) log) (changed_link conn link_shut links) waiting opened
shut_now conn lines log links waiting opened has not_shut play =
    let link = link_of links conn in
    let keeps : Keeps link_shut = λ l. refl in
    let was : link.peer.is_shut ≡ false = not_true link.peer.is_shut (sym (play.shut conn) ∙ eq-eqb (shuts conn log.steps) 0 not_shut) in
    let before : spare link ≡ (if link.is_gone then 0 else 1) + 1 + length link.peer.offered = ap (λ (t : Bool). (if link.is_gone then 0 else 1) + (if t then 0 else 1) + length link.peer.offered) was in
    let room : 0 < log.left = omega (arith, before, play.left, weight_within spare conn links has) in (
      room,
      stays_moved conn link_shut lines log (logged (Shut conn) log) links waiting opened keeps has play
          (record {
            once = once_behind log.steps (Shut conn) play.once tt;
            opened_are = opened_behind log.steps (Shut conn) ∙ append-nil (opened_in log.steps);
            opened_stay = λ other. any_behind (opens other) log.steps (Shut conn) ∙ or_false (list_any (opens other) log.steps);
            gone = λ other.
                any_behind (λ step. is_gone_step other step) log.steps (Shut conn) ∙ or_false (has_gone other log.steps)
                ∙ play.gone other ∙ sym (kept conn link_shut links other (λ l. l.is_gone) keeps (λ l. refl));
            shut =
                by_conn conn link_shut links keeps has (λ other l. nat_eq (shuts other (log.steps ++ Shut conn ∷ [])) 0 ≡ not l.peer.is_shut)
                (apart (shuts conn (log.steps ++ Shut conn ∷ [])) 0 (λ none. absurd (omega (arith, none, shuts_behind conn log.steps (Shut conn), one_shut conn))))
                (λ other ne. ap (λ (n : ℕ). nat_eq n 0) (shuts_behind other log.steps (Shut conn) ∙ none_shut conn other (shuts other log.steps) ne) ∙ play.shut other);
            taken = λ other. taken_behind other log.steps (Shut conn) ∙ zero_more (taken_from other log.steps) ∙ play.taken other ∙ sym (kept conn link_shut links other (λ l. l.taken) keeps (λ l. refl));
            room = omega (arith, before, room);
            bytes_room = omega arith;
          })
          refl,
    )
  where
    not_true : (t : Bool) → not t ≡ true → t ≡ false
    not_true true is = absurd (cc is)
    not_true false is = refl

    one_shut : (c : ℕ) → shuts c (Shut c ∷ []) ≡ 1
    one_shut c = rw (eq-eqb c c refl) refl

    none_shut : (c other n : ℕ) → other ≢ c → n + shuts other (Shut c ∷ []) ≡ n
    none_shut c other n ne = rw (apart other c ne) (omega arith)

-- ---- lines

-- other lines that ask for no more
fewer_lines : (lines now : List ScriptLine) (log : LogView) (links waiting : List LinkView) (opened : List (ℕ × ℕ)) → lines_open_once now ≡ true → ((other : ℕ) → list_any (opens_line other) lines ≡ false → list_any (opens_line other) now ≡ false)
    → opened_by now ≡ opened_by lines → ((other : ℕ) → sent_on other now ≤ sent_on other lines) → sent now ≤ sent lines → IsPlay lines log links waiting opened → IsPlay now log links waiting opened
fewer_lines lines now log links waiting opened once apart_now order fewer less play = record {
  once = play.once;
  lines_once = once;
  apart = λ other there. apart_now other (play.apart other there);
  opened_are = play.opened_are;
  linked = play.linked;
  gone = play.gone;
  shut = play.shut;
  taken = play.taken;
  order = play.order ∙ sym order;
  fresh = play.fresh;
  fits = each_fewer (links ++ waiting) lines now fewer play.fits;
  left = omega (arith, play.left, less);
  bytes_left = omega (arith, play.bytes_left, less);
}

-- a line that opens nothing is passed over
pub passed : (line : ScriptLine) (now : List ScriptLine) (log : LogView) (links waiting : List LinkView) (opened : List (ℕ × ℕ)) → ((other : ℕ) → opens_line other line ≡ false)
    → IsPlay (line ∷ now) log links waiting opened → IsPlay now log links waiting opened
passed (Open conn port) now log links waiting opened none play = absurd (cc (sym (none conn) ∙ eq-eqb conn conn refl))
passed (Drop conn) now log links waiting opened none play = fewer_lines (Drop conn ∷ now) now log links waiting opened play.lines_once (λ other is. is) refl (λ other. omega arith) (omega arith) play
passed (Room conn room) now log links waiting opened none play = fewer_lines (Room conn room ∷ now) now log links waiting opened play.lines_once (λ other is. is) refl (λ other. omega arith) (omega arith) play
passed (Send conn bytes) now log links waiting opened none play = fewer_lines (Send conn bytes ∷ now) now log links waiting opened play.lines_once (λ other is. is) refl (λ other. fewer other) (omega arith) play
  where
    fewer : (other : ℕ) → sent_on other now ≤ sent_on other (Send conn bytes ∷ now)
    fewer other = go (nat_eq conn other)
      where
        go : (t : Bool) → sent_on other now ≤ (if t then length bytes + sent_on other now else sent_on other now)
        go true = omega arith
        go false = omega arith

-- more is on offer
pub sent_now : (conn : ℕ) (bytes : List ℕ) (now : List ScriptLine) (log : LogView) (links waiting : List LinkView) (opened : List (ℕ × ℕ)) → has_link conn links ≡ true
    → IsPlay (Send conn bytes ∷ now) log links waiting opened → (length bytes ≤ (link_of links conn).offers_left) × IsPlay now log (changed_link conn (link_offered bytes) links) waiting opened
sent_now conn bytes now log links waiting opened has play =
    let link = link_of links conn in
    let change = link_offered bytes in
    let keeps : Keeps change = λ l. refl in
    let here : length bytes + sent_on conn now ≤ link.offers_left = on_it link.offers_left (fits_here conn links waiting (Send conn bytes ∷ now) has play.fits) in
    let more : length (link.peer.offered ++ bytes) ≡ length link.peer.offered + length bytes = length-append link.peer.offered bytes in (
      omega (arith, here),
      moved conn change (Send conn bytes ∷ now) now log log links waiting opened keeps has play
          (record {
            once = play.once;
            opened_are = refl;
            opened_stay = λ other. refl;
            gone = λ other. play.gone other ∙ sym (kept conn change links other (λ l. l.is_gone) keeps (λ l. refl));
            shut = λ other. play.shut other ∙ sym (ap not (kept conn change links other (λ l. l.peer.is_shut) keeps (λ l. refl)));
            taken = λ other. play.taken other ∙ sym (kept conn change links other (λ l. l.taken) keeps (λ l. refl));
            room = omega (arith, more);
            bytes_room = omega (arith, more);
          })
          play.lines_once (λ other is. is) refl fewer (omega (arith, here)),
    )
  where
    on_it : (n : ℕ) → sent_on conn (Send conn bytes ∷ now) ≤ n → length bytes + sent_on conn now ≤ n
    on_it n le = rw (eq-eqb conn conn refl) at le

    fewer : (other : ℕ) → sent_on other now ≤ sent_on other (Send conn bytes ∷ now)
    fewer other = go (nat_eq conn other)
      where
        go : (t : Bool) → sent_on other now ≤ (if t then length bytes + sent_on other now else sent_on other now)
        go true = omega arith
        go false = omega arith

-- the next connection opens
fresh_spare : (link : LinkView) → link ≡ new_link link.peer.conn link.offers_left → (spare link ≡ 2) × (on_offer link ≡ 0)
fresh_spare link is = (ap spare is, ap on_offer is)

pub opened_now : (conn port : ℕ) (now : List ScriptLine) (log : LogView) (links waiting : List LinkView) (opened : List (ℕ × ℕ)) (link : LinkView) → link.peer.conn ≡ conn
    → IsPlay (Open conn port ∷ now) log links (link ∷ waiting) opened
    → (0 < log.left) × (list_any (opens conn) log.steps ≡ false) × IsPlay now (logged (Opened conn port) log) (links ++ link ∷ []) waiting (opened ++ (conn, port) ∷ [])
opened_now conn port now log links waiting opened link conn_is play =
    let fresh = play.fresh.0 in
    let none : has_link conn links ≡ false = not_there (has_link conn links) refl in
    let new : list_any (opens conn) log.steps ≡ false = play.linked conn ∙ none in
    let lines = both (list_any (opens_line conn) now) (lines_open_once now) play.lines_once in
    let weights = fresh_spare link fresh in
    let room : 0 < log.left = omega (arith, play.left) in (
      room,
      new,
      record {
        once = once_behind log.steps (Opened conn port) play.once new;
        lines_once = lines.1;
        apart = λ other there. later other (has_joined links link other) there;
        opened_are = ap (λ (all : List (ℕ × ℕ)). all ++ (conn, port) ∷ []) play.opened_are ∙ sym (opened_behind log.steps (Opened conn port));
        linked = λ other.
            any_behind (opens other) log.steps (Opened conn port) ∙ ap (λ (t : Bool). t || nat_eq other conn) (play.linked other)
            ∙ ap (λ (t : Bool). has_link other links || t) (turned other conn ∙ ap (λ (n : ℕ). nat_eq n other) (sym conn_is)) ∙ sym (has_joined links link other);
        gone = λ other. any_behind (λ step. is_gone_step other step) log.steps (Opened conn port) ∙ or_false (has_gone other log.steps) ∙ play.gone other ∙ sym (fresh_joined links link other (λ l. l.is_gone) fresh (λ n m. refl));
        shut = λ other. ap (λ (n : ℕ). nat_eq n 0) (shuts_behind other log.steps (Opened conn port) ∙ zero_more (shuts other log.steps)) ∙ play.shut other ∙ sym (ap not (fresh_joined links link other (λ l. l.peer.is_shut) fresh (λ n m. refl)));
        taken = λ other. taken_behind other log.steps (Opened conn port) ∙ zero_more (taken_from other log.steps) ∙ play.taken other ∙ sym (fresh_joined links link other (λ l. l.taken) fresh (λ n m. refl));
        order = rest_of link.peer.conn conn (conns waiting) (opened_by now) play.order;
        fresh = play.fresh.1;
        fits = subst (EachFits now) (sym (append_assoc links (link ∷ []) waiting)) (each_fewer (links ++ link ∷ waiting) (Open conn port ∷ now) now (λ other. omega arith) play.fits);
        left = omega (arith, play.left, total_joined spare links link, weights.0);
        bytes_left = omega (arith, play.bytes_left, total_joined on_offer links link, weights.1);
      },
    )
  where
    both : (a b : Bool) → (not a && b) ≡ true → (a ≡ false) × (b ≡ true)
    both true b is = absurd (cc is)
    both false b is = (refl, is)

    not_there : (t : Bool) → has_link conn links ≡ t → t ≡ false
    not_there true there = absurd (cc (sym (play.apart conn there) ∙ ap (λ (t : Bool). t || list_any (opens_line conn) now) (eq-eqb conn conn refl)))
    not_there false there = refl

    turned : (a b : ℕ) → nat_eq a b ≡ nat_eq b a
    turned a b = go (nat_eq b a) refl
      where
        go : (t : Bool) → nat_eq b a ≡ t → nat_eq a b ≡ t
        go true is = eq-eqb a b (sym (eqb-true b a is))
        go false is = apart a b (λ eq. absurd (cc (sym is ∙ eq-eqb b a (sym eq))))

    later : (other : ℕ) → has_link other (links ++ link ∷ []) ≡ (has_link other links || nat_eq link.peer.conn other) → has_link other (links ++ link ∷ []) ≡ true → list_any (opens_line other) now ≡ false
    later other is there = go (has_link other links) refl (nat_eq link.peer.conn other) refl (sym is ∙ there)
      where
        behind : (t u : Bool) → (t || u) ≡ false → u ≡ false
        behind true u at = absurd (cc at)
        behind false u at = at

        go : (t : Bool) → has_link other links ≡ t → (u : Bool) → nat_eq link.peer.conn other ≡ u → (has_link other links || nat_eq link.peer.conn other) ≡ true → list_any (opens_line other) now ≡ false
        go true has u at sum = behind (nat_eq other conn) (list_any (opens_line other) now) (play.apart other has)
        go false has true at sum = subst (λ (n : ℕ). list_any (opens_line n) now ≡ false) (sym conn_is ∙ eqb-true link.peer.conn other at) (both (list_any (opens_line conn) now) (lines_open_once now) play.lines_once).0
        go false has false at sum = absurd (cc (rw (has, at) at sum))

    rest_of : (a b : ℕ) (front back : List ℕ) → (a ∷ front) ≡ (b ∷ back) → front ≡ back
    rest_of a b front back is = cc is

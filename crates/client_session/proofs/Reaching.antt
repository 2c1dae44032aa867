-- A session of Xilinx Virtual Cable 1.0 from one message to the next: where its bytes lead from a place at which no message is begun.
use Rattle.std.proofs.Common.{◌≡◌, ◌≤◌, ◌<◌, ℕ, ◌+◌, ◌-◌, true, not, ◌&&◌, cond, List, [], ◌++◌, length, refl, ap, sym, ◌∙◌, arith, length-append, Some, None}
use Rattle.std.proofs.lemmas.List.{take_all}
use Rattle.std.proofs.lemmas.Bool.{eq-eqb}
use Rattle.chain_model.specs.Chains.{ChainState}
use Rattle.xvc_frame.specs.Messages.{Message, Refusal, front, refused}
use Rattle.client_session.specs.declared.End.{End}
use Rattle.client_session.specs.Seats.{Seat, finished, ended, taken, most_bytes, gone_end}
use Rattle.client_session.specs.Private.{took, dropped, received, is_live}
pub use Rattle.client_session.specs.Places.{seat_at, Reaches}
use Rattle.client_session.specs.Replies.{reply_to, after_message}
use Rattle.client_session.proofs.Joins.{joined_took}
use Rattle.client_session.proofs.Awaiting.{Awaits, serves, refuses, waits, runs_long, leaves}

awaits_there : (start : Seat) (unused : List ℕ) (used : ℕ) (chain : ChainState) (replies : List ℕ) → Awaits start → Awaits (seat_at start unused used chain replies)
awaits_there start unused used chain replies awaits = record { going = awaits.going; here = awaits.here; acts = awaits.acts; sampled = awaits.sampled; protocol = awaits.protocol }

taken_more : (start : Seat) (used : ℕ) (chain : ChainState) (replies more : List ℕ) → Awaits start → used + length more ≤ most_bytes
    → took start.conn more (seat_at start [] used chain replies) ≡ seat_at start more used chain replies
taken_more start used chain replies more awaits le =
    let seat = seat_at start [] used chain replies in
    let live : (is_live start.conn seat && not seat.gone) ≡ true = rw (awaits.going, awaits.here, eq-eqb start.conn start.conn refl) refl in
    ap (λ t. cond t (received more seat) seat) live
    ∙ ap (λ q. seat_at start q used chain replies) (take_all (most_bytes - taken seat) more (omega arith))

-- more bytes behind
pub reach : (start : Seat) (bytes : List ℕ) (chain : ChainState) (replies more : List ℕ) → Reaches start bytes chain replies → length bytes + length more ≤ most_bytes
    → finished (took start.conn (bytes ++ more) start) ≡ finished (seat_at start more (length bytes) chain replies)
reach start bytes chain replies more reached le =
    sym (joined_took start.conn bytes more start)
    ∙ ap (λ s. finished (took start.conn more s)) reached.at
    ∙ ap finished (taken_more start (length bytes) chain replies more reached.awaits le)

-- the bytes behind are a whole message: it is answered
pub reach_whole : (start : Seat) (bytes : List ℕ) (chain : ChainState) (replies more : List ℕ) (message : Message) → Reaches start bytes chain replies → length bytes + length more < most_bytes
    → front start.vector more ≡ Some (record { message = message; bytes = length more }) → front start.vector [] ≡ None → refused start.vector [] ≡ None
    → Reaches start (bytes ++ more) (after_message message chain) (replies ++ reply_to start.vector message chain)
reach_whole start bytes chain replies more message reached few is none quiet =
    let seat = seat_at start more (length bytes) chain replies in
    let size : length bytes + length more ≡ length (bytes ++ more) = omega (arith, length-append bytes more) in
    let next : Seat = seat_at start [] (length bytes + length more) (after_message message chain) (replies ++ reply_to start.vector message chain) in
    record {
      awaits = reached.awaits;
      at = reach start bytes chain replies more reached (omega arith)
          ∙ serves message seat (awaits_there start more (length bytes) chain replies reached.awaits) is
          ∙ waits next (awaits_there start [] (length bytes + length more) (after_message message chain) (replies ++ reply_to start.vector message chain) reached.awaits) none quiet (omega arith)
          ∙ ap (λ n. seat_at start [] n (after_message message chain) (replies ++ reply_to start.vector message chain)) size;
      few = omega (arith, size);
    }

-- the bytes behind are refused: the session ends there
pub reach_refused : (start : Seat) (bytes : List ℕ) (chain : ChainState) (replies more : List ℕ) (refusal : Refusal) → Reaches start bytes chain replies → length bytes + length more ≤ most_bytes
    → front start.vector more ≡ None → refused start.vector more ≡ Some refusal
    → finished (took start.conn (bytes ++ more) start) ≡ ended (End.Refused (length bytes + refusal.at) refusal.cause) (seat_at start more (length bytes) chain replies)
reach_refused start bytes chain replies more refusal reached le none is =
    reach start bytes chain replies more reached le
    ∙ refuses refusal (seat_at start more (length bytes) chain replies) (awaits_there start more (length bytes) chain replies reached.awaits) none is

-- the bytes behind begin a message: the session waits for more
pub reach_begun : (start : Seat) (bytes : List ℕ) (chain : ChainState) (replies more : List ℕ) → Reaches start bytes chain replies → length bytes + length more < most_bytes
    → front start.vector more ≡ None → refused start.vector more ≡ None
    → finished (took start.conn (bytes ++ more) start) ≡ seat_at start more (length bytes) chain replies
reach_begun start bytes chain replies more reached few none quiet =
    reach start bytes chain replies more reached (omega arith)
    ∙ waits (seat_at start more (length bytes) chain replies) (awaits_there start more (length bytes) chain replies reached.awaits) none quiet (omega arith)

-- the most bytes of a session: it ends
pub reach_most : (start : Seat) (bytes : List ℕ) (chain : ChainState) (replies more : List ℕ) → Reaches start bytes chain replies → length bytes + length more ≡ most_bytes
    → front start.vector more ≡ None → refused start.vector more ≡ None
    → finished (took start.conn (bytes ++ more) start) ≡ ended (End.Long most_bytes) (seat_at start more (length bytes) chain replies)
reach_most start bytes chain replies more reached all none quiet =
    reach start bytes chain replies more reached (omega arith)
    ∙ runs_long (seat_at start more (length bytes) chain replies) (awaits_there start more (length bytes) chain replies reached.awaits) none quiet (omega arith)

-- the peer is gone behind them: the session ends
pub reach_gone : (start : Seat) (bytes : List ℕ) (chain : ChainState) (replies more : List ℕ) → Reaches start bytes chain replies → length bytes + length more < most_bytes
    → front start.vector more ≡ None → refused start.vector more ≡ None
    → finished (dropped start.conn (finished (took start.conn (bytes ++ more) start))) ≡ ended (gone_end (length bytes) more) (seat_at start more (length bytes) chain replies)
reach_gone start bytes chain replies more reached few none quiet =
    let seat = seat_at start more (length bytes) chain replies in
    let live : is_live start.conn seat ≡ true = rw (reached.awaits.going, eq-eqb start.conn start.conn refl) refl in
    ap (λ s. finished (dropped start.conn s)) (reach_begun start bytes chain replies more reached few none quiet)
    ∙ ap (λ t. finished (cond t (record seat { gone = true }) seat)) live
    ∙ leaves seat (awaits_there start more (length bytes) chain replies reached.awaits) none quiet (omega arith)

-- a session that has just begun
pub reach_none : (start : Seat) → Awaits start → start.unused ≡ [] → start.used ≡ 0 → start.replies ≡ [] → front start.vector [] ≡ None → refused start.vector [] ≡ None → Reaches start [] start.chain []
reach_none start awaits unused used replies none quiet =
    let begun : Seat = seat_at start [] 0 start.chain [] in
    let same : start ≡ begun = λ i. record start { unused = unused i; used = used i; replies = replies i } in
    let live : (is_live start.conn begun && not begun.gone) ≡ true = rw (awaits.going, awaits.here, eq-eqb start.conn start.conn refl) refl in
    let kept : took start.conn [] begun ≡ begun = ap (λ t. cond t (received [] begun) begun) live ∙ ap (λ q. seat_at start q 0 start.chain []) (take_all (most_bytes - taken begun) [] (omega arith)) in
    record {
      awaits = awaits;
      at = ap (λ s. finished (took start.conn [] s)) same ∙ ap finished kept ∙ waits begun (awaits_there start [] 0 start.chain [] awaits) none quiet (omega arith);
      few = omega arith;
    }

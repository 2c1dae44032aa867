-- In every play the replies to a connection are short against the bytes that were taken from it.
use Rattle.std.proofs.Common.{◌≡◌, ℕ, zero, suc, ◌+◌, ◌*◌, ◌≤◌, Bool, true, false, cond, List, [], ◌∷◌, ◌++◌, length, map, refl, sym, subst, arith, append_assoc, nat_eq}
use Rattle.std.specs.List.{slice_index_or}
use Rattle.std.proofs.lemmas.Bool.{eqb-true, eq-eqb}
use Rattle.std.proofs.lemmas.List.{append-nil}
use Rattle.grant_table.specs.declared.Protocol.TheVariants.{Xvc}
use Rattle.grant_table.specs.Layouts.{GrantShape, grant_of}
use Rattle.chain_model.specs.Chains.{powered}
use Rattle.scan_share.specs.PrivateChains.{private_chain}
use Rattle.scan_share.proofs.Kept.{Each}
use Rattle.client_session.specs.Seats.{Seat, EndedSession}
use Rattle.client_session.specs.Private.{took, dropped, Replies, past_replies}
use Rattle.client_session.specs.Laws.{IsShortVector}
use Rattle.client_session.proofs.Short.{IsShortSeat, advanced_short, opened_short, dropped_short, free_short, more_short, took_short}
use Rattle.wire_port.specs.Steps.{Step, taken_from}
use Rattle.wire_port.specs.Steps.Step.{Opened, Took, Gone, Shut}
use Rattle.plays.specs.Plays.{Setting, Play, seat_at, no_seat, seat_of, boards_of, start, change_by, after_step, after_steps, live_grant, played}
use Rattle.plays.specs.Alone.{replies_in, replies_to}
use Rattle.plays.proofs.Moving.{TouchHolds, touch_holds, free_holds, live_holds}

-- ---- bytes that were taken

taken-append : (conn : ℕ) (first second : List Step) → taken_from conn (first ++ second) ≡ taken_from conn first + taken_from conn second
taken-append conn [] second = omega arith
taken-append conn (Opened other port ∷ first) second = taken-append conn first second
taken-append conn (Gone other ∷ first) second = taken-append conn first second
taken-append conn (Shut other ∷ first) second = taken-append conn first second
taken-append conn (Took other bytes ∷ first) second = by (nat_eq conn other) (taken-append conn first second)
  where
    by : (t : Bool) → taken_from conn (first ++ second) ≡ taken_from conn first + taken_from conn second
        → cond t (length bytes + taken_from conn (first ++ second)) (taken_from conn (first ++ second)) ≡ cond t (length bytes + taken_from conn first) (taken_from conn first) + taken_from conn second
    by true rest = omega (arith, rest)
    by false rest = rest

taken_more : (conn : ℕ) (steps : List Step) (step : Step) → taken_from conn steps ≤ taken_from conn (steps ++ step ∷ [])
taken_more conn steps step = omega (arith, taken-append conn steps (step ∷ []))

taken_rises : (conn : ℕ) (bytes : List ℕ) (steps : List Step) → taken_from conn steps + length bytes ≤ taken_from conn (steps ++ Took conn bytes ∷ [])
taken_rises conn bytes steps =
    let own : taken_from conn (Took conn bytes ∷ []) ≡ length bytes + 0 = rw (eq-eqb conn conn refl) refl in
    omega (arith, own, taken-append conn steps (Took conn bytes ∷ []))

-- ---- the seats of a play

-- every seat's replies keep within the bytes that the steps took
abbrev ShortAt : List Step → ℕ → Seat → Type 0
ShortAt steps g seat = IsShortSeat (λ conn. taken_from conn steps) seat

abbrev AllShort : List Step → Play → Type 0
AllShort steps play = (g : ℕ) → ShortAt steps g (seat_at play g)

more_all : (steps : List Step) (step : Step) (play : Play) → AllShort steps play → AllShort (steps ++ step ∷ []) play
more_all steps step play all g = more_short (λ conn. taken_from conn steps) (λ conn. taken_from conn (steps ++ step ∷ [])) (λ conn. taken_more conn steps step) (seat_at play g) (all g)

step_touch : (setting : Setting) (steps : List Step) (step : Step) (play : Play) → AllShort steps play → TouchHolds (ShortAt (steps ++ step ∷ [])) (change_by setting play step)
step_touch setting steps (Opened conn port) play all =
    let now = steps ++ Opened conn port ∷ [] in
    free_holds (ShortAt now) (ShortAt now) play (more_all steps (Opened conn port) play all) conn (λ g. opened_short (λ c. taken_from c now) conn) (grant_of setting.layout port)
step_touch setting steps (Took conn bytes) play all =
    let now = steps ++ Took conn bytes ∷ [] in
    live_holds (ShortAt steps) (ShortAt now) play all (took conn bytes)
    (λ g. took_short (λ c. taken_from c steps) (λ c. taken_from c now) (λ c. taken_more c steps (Took conn bytes)) conn bytes (taken_rises conn bytes steps)) (live_grant conn play.seats)
step_touch setting steps (Gone conn) play all =
    let now = steps ++ Gone conn ∷ [] in
    live_holds (ShortAt now) (ShortAt now) play (more_all steps (Gone conn) play all) (dropped conn) (λ g. dropped_short (λ c. taken_from c now) conn) (live_grant conn play.seats)
step_touch setting steps (Shut conn) play all = tt

steps_short : (setting : Setting) (rest steps : List Step) (play : Play) → AllShort steps play → AllShort (steps ++ rest) (after_steps setting rest play)
steps_short setting [] steps play all = subst (λ s. AllShort s play) (sym (append-nil steps)) all
steps_short setting (step ∷ rest) steps play all =
    subst (λ s. AllShort s (after_steps setting rest (after_step setting play step))) (append_assoc steps (step ∷ []) rest)
    (steps_short setting rest (steps ++ step ∷ []) (after_step setting play step)
    (touch_holds setting (ShortAt (steps ++ step ∷ [])) (λ g. advanced_short (λ conn. taken_from conn (steps ++ step ∷ []))) play (change_by setting play step) (more_all steps step play all) (step_touch setting steps step play all)))

shares_short : (setting : Setting) (grants : List GrantShape) (g : ℕ) → IsShortVector setting.vector → IsShortSeat (λ conn. taken_from conn []) (slice_index_or (map (seat_of setting) grants) g no_seat)
shares_short setting [] g short = free_short (λ conn. taken_from conn []) Xvc false 0 (powered [] []) (omega arith)
shares_short setting (shape ∷ grants) zero short = free_short (λ conn. taken_from conn []) shape.protocol setting.uses_trst setting.vector (private_chain (boards_of setting) shape.group setting.layout.nets) short
shares_short setting (shape ∷ grants) (suc g) short = shares_short setting grants g short

-- ---- the replies to a connection

module _ (limit : ℕ → ℕ) (conn : ℕ) where
  found_short : (replies : Replies) (rest : List Replies) → length replies.bytes ≤ 3 * limit replies.conn → length (replies_in rest conn) ≤ 3 * limit conn → length (replies_in (replies ∷ rest) conn) ≤ 3 * limit conn
  found_short replies rest own more = by (nat_eq replies.conn conn) refl
    where
      by : (t : Bool) → nat_eq replies.conn conn ≡ t → length (cond t replies.bytes (replies_in rest conn)) ≤ 3 * limit conn
      by true same = subst (λ c. length replies.bytes ≤ 3 * limit c) (eqb-true replies.conn conn same) own
      by false other = more

  past_found : (past : List EndedSession) (last : List Replies) → Each (λ p. length p.replies ≤ 3 * limit p.conn) past → length (replies_in last conn) ≤ 3 * limit conn → length (replies_in (past_replies past ++ last) conn) ≤ 3 * limit conn
  past_found [] last each more = more
  past_found (p ∷ past) last each more = found_short (record { conn = p.conn; bytes = p.replies }) (past_replies past ++ last) each.0 (past_found past last each.1 more)

  seat_found : (seat : Seat) → IsShortSeat limit seat → length (replies_to seat conn) ≤ 3 * limit conn
  seat_found seat short = past_found seat.past (cond seat.going (record { conn = seat.conn; bytes = seat.replies } ∷ []) []) short.past (by seat.going refl)
    where
      by : (t : Bool) → seat.going ≡ t → length (replies_in (cond t (record { conn = seat.conn; bytes = seat.replies } ∷ []) []) conn) ≤ 3 * limit conn
      by true going =
          let live = short.live going in
          found_short (record { conn = seat.conn; bytes = seat.replies }) [] (let few = live.short.few in let within = live.within in omega (arith, few, within)) (omega arith)
      by false idle = omega arith

pub replies_short : (setting : Setting) (steps : List Step) (grant conn : ℕ) → IsShortVector setting.vector → length (replies_to (seat_at (played setting steps) grant) conn) ≤ 3 * taken_from conn steps
replies_short setting steps grant conn short =
    seat_found (λ c. taken_from c steps) conn (seat_at (played setting steps) grant)
    (steps_short setting steps [] (start setting) (λ g. shares_short setting setting.layout.grants g short) grant)

-- The rounds of a replay come to rest: each serving of a ready session takes a byte, tells a drop, or leaves the session not ready.
use Rattle.std.proofs.Common.{◌≡◌, ℕ, zero, suc, ◌+◌, ◌*◌, ◌<◌, ◌≤◌, Bool, true, false, cond, List, [], ◌∷◌, length, take, drop, refl, ap, sym, subst, ◌∙◌, arith, mul-add, inl, inr, ◌⊎◌, Some, None, nat_eq}
use Rattle.std.specs.declared.option.Option.{Option}
use Rattle.std.specs.List.{slice_set, list_any}
use Rattle.std.proofs.lemmas.Bool.{eq-eqb}
use Rattle.std.proofs.lemmas.Bool.{cases_lt}
use Rattle.std.proofs.lemmas.Nat.{mul-le}
use Rattle.std.proofs.lemmas.List.{length-set}
use Rattle.client_session.specs.Seats.{Seat}
use Rattle.client_session.specs.Private.{is_live}
use Rattle.client_session.proofs.Drops.{finished_here}
use Rattle.wire_port.specs.Steps.{has_gone}
use Rattle.wire_port.specs.Steps.Step.{Took, Gone}
use Rattle.wire_port.specs.Offers.{ScriptLine, peer_of, changed_peer, taken_bytes, all_offered, Answer, give_answer, take_answer, some_or_none}
use Rattle.plays.specs.Plays.{Setting, seat_at, is_waiting, live_grant}
use Rattle.plays.specs.Alone.{replies_to}
use Rattle.plays.specs.Schedule.{Replay, is_ready, not_ready, pending, with_given, told, wanted, Giving, gave_as, gave_piece, gave, ready_after, after_bytes, with_bytes, took_as, took_after, served_after, serve_session, serve, serve_if, round_from, round, rounds, rounds_left, rested}
use Rattle.plays.proofs.Lists.{false_true}
use Rattle.plays.proofs.Admitted.{live_among}
use Rattle.plays.proofs.Isolation.{Isolated, first_place-some, first_place-none}
use Rattle.plays.proofs.Replays.{Runs, isolated, told_runs, ready_unset, ready_set}
use Rattle.plays.proofs.Weights.{weight, here_of, all_here, weight_took, weight_gone, weight_quiet, offered_less}

-- ---- which are ready

unready_runs : (setting : Setting) (lines : List ScriptLine) (g : ℕ) (replay : Replay) → Runs setting lines replay → Runs setting lines (not_ready g replay)
unready_runs setting lines g replay runs = record {
  play_is = runs.play_is;
  once = runs.once;
  ahead = runs.ahead;
  count = length-set replay.ready g false ∙ runs.count;
  going = λ k h. runs.going k (ready_unset replay.ready g k h).0;
  gone = runs.gone;
}

pub ready_runs : (setting : Setting) (lines : List ScriptLine) (g : ℕ) (replay : Replay) → (seat_at replay.play g).going ≡ true → Runs setting lines replay → Runs setting lines (record replay { ready = slice_set replay.ready g true })
ready_runs setting lines g replay goes runs = record {
  play_is = runs.play_is;
  once = runs.once;
  ahead = runs.ahead;
  count = length-set replay.ready g true ∙ runs.count;
  going = λ k h. elim (ready_set replay.ready g k h) [ inl before ↦ runs.going k before | inr same ↦ subst (λ j. (seat_at replay.play j).going ≡ true) (sym same) goes ];
  gone = runs.gone;
}

-- ---- what one serving does

-- a serving of a grant leaves less on offer or fewer to tell, or the grant not ready and all others as they were
abbrev pub Falls : ℕ → Replay → Replay → Type 0
Falls g old new = (weight new < weight old) ⊎ ((weight new ≤ weight old) × (new.ready ≡ slice_set old.ready g false))

falls_weight : (g : ℕ) (old new : Replay) → Falls g old new → weight new ≤ weight old
falls_weight g old new (inl lt) = omega (arith, lt)
falls_weight g old new (inr same) = same.0

-- all that was pending went: nothing else changed
record GaveAll (setting : Setting) (lines : List ScriptLine) (old : Replay) (gave : Giving) : Type 0 where
  pub all : gave.all ≡ true
  pub play : gave.replay.play ≡ old.play
  pub ready : gave.replay.ready ≡ old.ready
  pub weight_is : weight gave.replay ≡ weight old
  pub runs : Runs setting lines gave.replay

-- less went
record GaveLess (setting : Setting) (lines : List ScriptLine) (g : ℕ) (old : Replay) (gave : Giving) : Type 0 where
  pub all : gave.all ≡ false
  pub runs : Runs setting lines gave.replay
  pub falls : Falls g old gave.replay

-- what comes of serving a grant
record Served (setting : Setting) (lines : List ScriptLine) (g : ℕ) (old new : Replay) : Type 0 where
  pub runs : Runs setting lines new
  pub falls : Falls g old new

module _ (setting : Setting) (lines : List ScriptLine) (g conn : ℕ) where
  -- the grant's session has the connection
  record Serving (replay : Replay) : Type 0 where
    pub runs : Runs setting lines replay
    pub going : (seat_at replay.play g).going ≡ true
    pub conn_is : (seat_at replay.play g).conn ≡ conn

  is_live_now : (replay : Replay) → Serving replay → is_live conn (seat_at replay.play g) ≡ true
  is_live_now replay s = rw (s.going, eq-eqb (seat_at replay.play g).conn conn s.conn_is) refl

  apart_now : (replay : Replay) → Runs setting lines replay → Isolated setting replay.steps replay.play
  apart_now replay runs = isolated setting replay.play replay.steps runs.play_is runs.once

  live_found : (replay : Replay) → Serving replay → live_grant conn replay.play.seats ≡ Some g
  live_found replay s = by (live_grant conn replay.play.seats) refl
    where
      by : (o : Option ℕ) → live_grant conn replay.play.seats ≡ o → o ≡ Some g
      by None e = false_true (sym (first_place-none (is_live conn) replay.play.seats g refl e) ∙ is_live_now replay s)
      by (Some k) e =
          let same : g ≡ k = (apart_now replay s.runs).apart g k conn (live_among conn (seat_at replay.play g) (is_live_now replay s))
          (live_among conn (seat_at replay.play k) (first_place-some (is_live conn) replay.play.seats k e).1) in
          ap Some (sym same)

  -- a drop that is told of a session whose peer was not known to be gone
  gone_falls : (replay : Replay) → Serving replay → (seat_at replay.play g).gone ≡ false → weight (told setting (Gone conn) replay) < weight replay
  gone_falls replay s gone =
      weight_gone setting conn g replay (live_found replay s) (first_place-some (is_live conn) replay.play.seats g (live_found replay s)).0 (is_live_now replay s) s.going gone

  told_gone : (replay : Replay) → Runs setting lines replay → Runs setting lines (not_ready g (told setting (Gone conn) replay))
  told_gone replay runs = unready_runs setting lines g (told setting (Gone conn) replay) (told_runs setting lines (Gone conn) replay tt (λ c h. refl) runs)

  -- ---- giving

  -- where replies are pending, no drop was told
  pending_here : (replay : Replay) → Serving replay → (byte : ℕ) (piece : List ℕ) → pending replay g conn ≡ byte ∷ piece → (seat_at replay.play g).gone ≡ false
  pending_here replay s byte piece e = by (seat_at replay.play g).gone refl
    where
      none : (t : Bool) → has_gone conn replay.steps ≡ t → cond t [] (drop (length (peer_of replay.peers conn).given) (replies_to (seat_at replay.play g) conn)) ≡ byte ∷ piece → t ≡ false
      none true h k = absurd (let q : [] ≡ byte ∷ piece = k in cc)
      none false h k = refl

      by : (t : Bool) → (seat_at replay.play g).gone ≡ t → t ≡ false
      by true gone = false_true (sym (none (has_gone conn replay.steps) refl e) ∙ subst (λ c. has_gone c replay.steps ≡ true) s.conn_is (s.runs.gone g s.going gone))
      by false gone = refl

  gave_so : (replay : Replay) → Serving replay → GaveAll setting lines replay (gave setting g conn replay) ⊎ GaveLess setting lines g replay (gave setting g conn replay)
  gave_so replay s = by (pending replay g conn) refl
    where
      full : (piece bytes : List ℕ) (t : Bool) → GaveAll setting lines replay (cond t (record { replay = with_given conn piece replay; all = true }) (record { replay = not_ready g (with_given conn piece replay); all = false }))
          ⊎ GaveLess setting lines g replay (cond t (record { replay = with_given conn piece replay; all = true }) (record { replay = not_ready g (with_given conn piece replay); all = false }))
      full piece bytes true = inl (record { all = refl; play = refl; ready = refl; weight_is = weight_quiet.given conn piece replay; runs = s.runs })
      full piece bytes false = inr (record {
        all = refl;
        runs = unready_runs setting lines g replay s.runs;
        falls = inr (let same = weight_quiet.given conn piece replay in omega (arith, same), refl);
      })

      answered : (byte : ℕ) (piece : List ℕ) → pending replay g conn ≡ byte ∷ piece → (answer : Answer)
          → GaveAll setting lines replay (gave_as answer (byte ∷ piece) setting g conn replay) ⊎ GaveLess setting lines g replay (gave_as answer (byte ∷ piece) setting g conn replay)
      answered byte piece e (Answer.Bytes bytes) = full (byte ∷ piece) bytes (nat_eq (length bytes) (length (byte ∷ piece)))
      answered byte piece e Answer.NotNow = inr (record { all = refl; runs = unready_runs setting lines g replay s.runs; falls = inr (omega arith, refl) })
      answered byte piece e Answer.Gone = inr (record { all = refl; runs = told_gone replay s.runs; falls = inl (gone_falls replay s (pending_here replay s byte piece e)) })

      by : (piece : List ℕ) → pending replay g conn ≡ piece → GaveAll setting lines replay (gave_piece piece setting g conn replay) ⊎ GaveLess setting lines g replay (gave_piece piece setting g conn replay)
      by [] e = inl (record { all = refl; play = refl; ready = refl; weight_is = refl; runs = s.runs })
      by (byte ∷ piece) e = answered byte piece e (give_answer (byte ∷ piece) (peer_of replay.peers conn))

-- ---- taking

take_some : (size : ℕ) (offered : List ℕ) (byte : ℕ) (bytes : List ℕ) → take size offered ≡ byte ∷ bytes → 1 ≤ length offered
take_some zero [] byte bytes e = absurd (let q : [] ≡ byte ∷ bytes = e in cc)
take_some (suc size) [] byte bytes e = absurd (let q : [] ≡ byte ∷ bytes = e in cc)
take_some size (first ∷ offered) byte bytes e = omega arith

module _ (setting : Setting) (lines : List ScriptLine) (g : ℕ) where
  -- what is given after bytes were taken
  given_after : (conn : ℕ) (old replay : Replay) → weight replay < weight old → Serving setting lines g conn replay → Served setting lines g old (ready_after g (gave setting g conn replay))
  given_after conn old replay lt s = by (gave setting g conn replay) (gave_so setting lines g conn replay s)
    where
      by_all : (gave : Giving) (all behind : Bool) → gave.all ≡ all → is_waiting gave.replay.play g ≡ behind → Runs setting lines gave.replay → weight gave.replay ≤ weight replay → (all ≡ true → (seat_at gave.replay.play g).going ≡ true)
          → Served setting lines g old (ready_after g gave)
      by_all gave true false a b runs le goes = rw (a, b) (record { runs = ready_runs setting lines g gave.replay (goes refl) runs; falls = inl (omega (arith, lt, le)) })
      by_all gave true true a b runs le goes = rw (a, b) (record { runs = unready_runs setting lines g gave.replay runs; falls = inl (omega (arith, lt, le)) })
      by_all gave false behind a b runs le goes = rw a (record { runs = unready_runs setting lines g gave.replay runs; falls = inl (omega (arith, lt, le)) })

      by : (gave : Giving) → GaveAll setting lines replay gave ⊎ GaveLess setting lines g replay gave → Served setting lines g old (ready_after g gave)
      by gave (inl all) = by_all gave true (is_waiting gave.replay.play g) all.all refl all.runs (let same = all.weight_is in omega (arith, same)) (λ h. ap (λ play. (seat_at play g).going) all.play ∙ s.going)
      by gave (inr less) = by_all gave false (is_waiting gave.replay.play g) less.all refl less.runs (falls_weight g replay gave.replay less.falls) (λ h. false_true h)

  given_where : (old replay : Replay) → weight replay < weight old → Runs setting lines replay → (going : Bool) → (seat_at replay.play g).going ≡ going
      → Served setting lines g old (after_bytes (cond going (Some (seat_at replay.play g).conn) None) setting g replay)
  given_where old replay lt runs true going = given_after (seat_at replay.play g).conn old replay lt (record { runs = runs; going = going; conn_is = refl })
  given_where old replay lt runs false going = record { runs = runs; falls = inl lt }

module _ (setting : Setting) (lines : List ScriptLine) (g conn : ℕ) (replay : Replay) (s : Serving setting lines g conn replay) where
  bytes_fall : (byte : ℕ) (bytes : List ℕ) → take (wanted (seat_at replay.play g)) (peer_of replay.peers conn).offered ≡ byte ∷ bytes → weight (with_bytes setting g conn (byte ∷ bytes) replay) < weight replay
  bytes_fall byte bytes e =
      let peers = changed_peer conn (taken_bytes (length (byte ∷ bytes))) replay.peers in
      let told_le = weight_took setting conn (byte ∷ bytes) (record replay { peers = peers }) in
      let lt : all_offered peers < all_offered replay.peers = offered_less conn (length (byte ∷ bytes)) replay.peers (omega arith) (take_some (wanted (seat_at replay.play g)) (peer_of replay.peers conn).offered byte bytes e) in
      omega (arith, told_le, lt)

  bytes_run : (bytes : List ℕ) → Runs setting lines (with_bytes setting g conn bytes replay)
  bytes_run bytes = told_runs setting lines (Took conn bytes) (record replay { peers = changed_peer conn (taken_bytes (length bytes)) replay.peers }) tt (λ c h. refl) s.runs

  -- a session that does not wait has its peer
  here_now : is_waiting replay.play g ≡ false → (seat_at replay.play g).gone ≡ false
  here_now behind = elim ((apart_now setting lines g conn replay s.runs).settled.calm.rest g) [
    | inl done ↦ finished_here (seat_at replay.play g) done s.going
    | inr waits ↦ false_true (sym behind ∙ waits)
  ]

  took_so : is_waiting replay.play g ≡ false → Served setting lines g replay (took_as (take_answer (wanted (seat_at replay.play g)) (peer_of replay.peers conn)) setting g conn replay)
  took_so behind = by (take (wanted (seat_at replay.play g)) (peer_of replay.peers conn).offered) refl
    where
      none : (t : Bool) → Served setting lines g replay (took_as (cond t Answer.Gone Answer.NotNow) setting g conn replay)
      none true = record { runs = told_gone setting lines g conn replay s.runs; falls = inl (gone_falls setting lines g conn replay s (here_now behind)) }
      none false = record { runs = unready_runs setting lines g replay s.runs; falls = inr (omega arith, refl) }

      by : (bytes : List ℕ) → take (wanted (seat_at replay.play g)) (peer_of replay.peers conn).offered ≡ bytes
          → Served setting lines g replay (took_as (some_or_none (cond (peer_of replay.peers conn).is_dropped Answer.Gone Answer.NotNow) bytes) setting g conn replay)
      by [] e = none (peer_of replay.peers conn).is_dropped
      by (byte ∷ bytes) e =
          given_where setting lines g replay (with_bytes setting g conn (byte ∷ bytes) replay) (bytes_fall byte bytes e) (bytes_run (byte ∷ bytes))
          (seat_at (with_bytes setting g conn (byte ∷ bytes) replay).play g).going refl

-- ---- one serving

module _ (setting : Setting) (lines : List ScriptLine) (g conn : ℕ) (replay : Replay) (s : Serving setting lines g conn replay) where
  -- what falls after all was given, falls
  falls_after : (given new : Replay) → given.ready ≡ replay.ready → weight given ≡ weight replay → Falls g given new → Falls g replay new
  falls_after given new ready same (inl lt) = inl (omega (arith, lt, same))
  falls_after given new ready same (inr rest) = inr (let le = rest.0 in omega (arith, le, same), rest.1 ∙ ap (λ r. slice_set r g false) ready)

  served_so : Served setting lines g replay (served_after setting g conn (gave setting g conn replay))
  served_so = by (gave setting g conn replay) (gave_so setting lines g conn replay s)
    where
      given : (gave : Giving) → GaveAll setting lines replay gave → Serving setting lines g conn gave.replay
      given gave all = record { runs = all.runs; going = ap (λ play. (seat_at play g).going) all.play ∙ s.going; conn_is = ap (λ play. (seat_at play g).conn) all.play ∙ s.conn_is }

      by_behind : (gave : Giving) → GaveAll setting lines replay gave → (behind : Bool) → is_waiting gave.replay.play g ≡ behind → Served setting lines g replay (took_after true behind setting g conn gave.replay)
      by_behind gave all true e = record {
        runs = unready_runs setting lines g gave.replay all.runs;
        falls = inr (let same = all.weight_is in omega (arith, same), ap (λ r. slice_set r g false) all.ready);
      }
      by_behind gave all false e =
          let t = took_so setting lines g conn gave.replay (given gave all) e in
          record { runs = t.runs; falls = falls_after gave.replay (took_as (take_answer (wanted (seat_at gave.replay.play g)) (peer_of gave.replay.peers conn)) setting g conn gave.replay) all.ready all.weight_is t.falls }

      by : (gave : Giving) → GaveAll setting lines replay gave ⊎ GaveLess setting lines g replay gave → Served setting lines g replay (served_after setting g conn gave)
      by gave (inl all) = subst (λ t. Served setting lines g replay (took_after t (is_waiting gave.replay.play g) setting g conn gave.replay)) (sym all.all) (by_behind gave all (is_waiting gave.replay.play g) refl)
      by gave (inr less) = subst (λ t. Served setting lines g replay (took_after t (is_waiting gave.replay.play g) setting g conn gave.replay)) (sym less.all) (record { runs = less.runs; falls = less.falls })

-- a grant whose session goes on
serve_so : (setting : Setting) (lines : List ScriptLine) (g : ℕ) (replay : Replay) → Runs setting lines replay → (seat_at replay.play g).going ≡ true → Served setting lines g replay (serve setting g replay)
serve_so setting lines g replay runs goes =
    subst (λ t. Served setting lines g replay (serve_session (cond t (Some (seat_at replay.play g).conn) None) setting g replay)) (sym goes)
    (served_so setting lines g (seat_at replay.play g).conn replay (record { runs = runs; going = goes; conn_is = refl }))

-- any grant
pub serve_runs : (setting : Setting) (lines : List ScriptLine) (g : ℕ) (replay : Replay) → Runs setting lines replay → Runs setting lines (serve setting g replay)
serve_runs setting lines g replay runs = by (seat_at replay.play g).going refl
  where
    by : (t : Bool) → (seat_at replay.play g).going ≡ t → Runs setting lines (serve_session (cond t (Some (seat_at replay.play g).conn) None) setting g replay)
    by true goes = (served_so setting lines g (seat_at replay.play g).conn replay (record { runs = runs; going = goes; conn_is = refl })).runs
    by false idle = runs

-- ---- rounds

count_ready : List Bool → ℕ
count_ready [] = 0
count_ready (true ∷ ready) = suc (count_ready ready)
count_ready (false ∷ ready) = count_ready ready

count_within : (ready : List Bool) → count_ready ready ≤ length ready
unfolding count_ready
count_within [] = omega arith
count_within (true ∷ ready) = omega (arith, count_within ready)
count_within (false ∷ ready) = omega (arith, count_within ready)

count_less : (ready : List Bool) (g : ℕ) → is_ready ready g ≡ true → count_ready (slice_set ready g false) < count_ready ready
unfolding count_ready
count_less [] g h = false_true h
count_less (true ∷ ready) zero h = omega arith
count_less (false ∷ ready) zero h = false_true h
count_less (true ∷ ready) (suc g) h = omega (arith, count_less ready g h)
count_less (false ∷ ready) (suc g) h = omega (arith, count_less ready g h)

-- what is left of a replay of so many grants
mass : ℕ → Replay → ℕ
mass grants replay = suc grants * weight replay + count_ready replay.ready

mass_less : (grants old new before now : ℕ) → new < old → now ≤ grants → suc grants * new + now < suc grants * old + before
mass_less grants old new before now lt le =
    let more : suc grants * (new + 1) ≤ suc grants * old = mul-le (suc grants) (new + 1) (suc grants) old (omega arith) (omega arith) in
    let same : suc grants * (new + 1) ≡ suc grants * new + suc grants * 1 = mul-add (suc grants) new 1 in
    omega (arith, more, same, lt, le)

mass_not_more : (grants old new before now : ℕ) → new ≤ old → now < before → suc grants * new + now < suc grants * old + before
mass_not_more grants old new before now le lt =
    let more : suc grants * new ≤ suc grants * old = mul-le (suc grants) new (suc grants) old (omega arith) le in
    omega (arith, more, lt)

module _ (setting : Setting) (lines : List ScriptLine) where
  served_less : (g : ℕ) (old new : Replay) → Runs setting lines new → is_ready old.ready g ≡ true → Falls g old new → mass (length setting.layout.grants) new < mass (length setting.layout.grants) old
  unfolding mass
  served_less g old new runs ready (inl lt) =
      mass_less (length setting.layout.grants) (weight old) (weight new) (count_ready old.ready) (count_ready new.ready) lt (subst (λ n. count_ready new.ready ≤ n) runs.count (count_within new.ready))
  served_less g old new runs ready (inr same) =
      mass_not_more (length setting.layout.grants) (weight old) (weight new) (count_ready old.ready) (count_ready new.ready) same.0
      (subst (λ r. count_ready r < count_ready old.ready) (sym same.1) (count_less old.ready g ready))

  -- what a part of a round does
  record Rounded (old new : Replay) : Type 0 where
    pub runs : Runs setting lines new
    pub mass_le : mass (length setting.layout.grants) new ≤ mass (length setting.layout.grants) old

  served_rounded : (g : ℕ) (replay : Replay) → Runs setting lines replay → is_ready replay.ready g ≡ true → Rounded replay (serve setting g replay)
  served_rounded g replay runs ready =
      let s = serve_so setting lines g replay runs (runs.going g ready) in
      record { runs = s.runs; mass_le = (let lt = served_less g replay (serve setting g replay) s.runs ready s.falls in omega (arith, lt)) }

  if_rounded : (g : ℕ) (replay : Replay) → Runs setting lines replay → (ready : Bool) → is_ready replay.ready g ≡ ready → Rounded replay (serve_if ready setting g replay)
  if_rounded g replay runs true e = served_rounded g replay runs e
  if_rounded g replay runs false e = record { runs = runs; mass_le = omega arith }

  round_rounded : (rest : List Bool) (g : ℕ) (replay : Replay) → Runs setting lines replay → Rounded replay (round_from rest g setting replay)
  round_rounded [] g replay runs = record { runs = runs; mass_le = omega arith }
  round_rounded (each ∷ rest) g replay runs =
      let one = if_rounded g replay runs (is_ready replay.ready g) refl in
      let more = round_rounded rest (suc g) (serve_if (is_ready replay.ready g) setting g replay) one.runs in
      record { runs = more.runs; mass_le = (let a = one.mass_le in let b = more.mass_le in omega (arith, a, b)) }

  -- a round in which some grant is ready
  round_less : (rest : List Bool) (g k : ℕ) (replay : Replay) → Runs setting lines replay → g ≤ k → k < g + length rest → is_ready replay.ready k ≡ true
      → mass (length setting.layout.grants) (round_from rest g setting replay) < mass (length setting.layout.grants) replay
  round_less [] g k replay runs low high ready = absurd (omega arith)
  round_less (each ∷ rest) g k replay runs low high ready = by (is_ready replay.ready g) refl (λ l h. round_less rest (suc g) k replay runs l h ready)
    where
      by : (t : Bool) → is_ready replay.ready g ≡ t
          → (suc g ≤ k → k < suc g + length rest → mass (length setting.layout.grants) (round_from rest (suc g) setting replay) < mass (length setting.layout.grants) replay)
          → mass (length setting.layout.grants) (round_from rest (suc g) setting (serve_if t setting g replay)) < mass (length setting.layout.grants) replay
      by true e more =
          let s = serve_so setting lines g replay runs (runs.going g e) in
          let lt = served_less g replay (serve setting g replay) s.runs e s.falls in
          let le = (round_rounded rest (suc g) (serve setting g replay) s.runs).mass_le in
          omega (arith, lt, le)
      by false e more = elim (cases_lt g k) [
        | inl lt ↦ more (omega arith) (omega arith)
        | inr le ↦ false_true (let same : g ≡ k = omega arith in sym e ∙ subst (λ j. is_ready replay.ready j ≡ true) (sym same) ready)
      ]

-- some grant is ready
record SomeReady (ready : List Bool) : Type 0 where
  pub grant : ℕ
  pub within : grant < length ready
  pub is : is_ready ready grant ≡ true

some_ready : (ready : List Bool) → list_any (λ r. r) ready ≡ true → SomeReady ready
some_ready [] h = false_true h
some_ready (true ∷ ready) h = record { grant = 0; within = omega arith; is = refl }
some_ready (false ∷ ready) h = let rest = some_ready ready h in record { grant = suc rest.grant; within = (let lt = rest.within in omega (arith, lt)); is = rest.is }

module _ (setting : Setting) (lines : List ScriptLine) where
  round_falls : (replay : Replay) → Runs setting lines replay → list_any (λ r. r) replay.ready ≡ true → mass (length setting.layout.grants) (round setting replay) < mass (length setting.layout.grants) replay
  round_falls replay runs any = let some = some_ready replay.ready any in round_less setting lines replay.ready 0 some.grant replay runs (omega arith) (let lt = some.within in omega (arith, lt)) some.is

  -- rounds to spare change nothing
  rounds_still : (times : ℕ) (replay : Replay) → list_any (λ r. r) replay.ready ≡ false → rounds times setting replay ≡ replay
  rounds_still zero replay none = refl
  rounds_still (suc times) replay none = ap (λ t. rounds times setting (cond t (round setting replay) replay)) none ∙ rounds_still times replay none

  -- enough rounds leave nobody ready
  pub record AtRest (replay : Replay) : Type 0 where
    pub runs : Runs setting lines replay
    pub none : list_any (λ r. r) replay.ready ≡ false

  rounds_rest : (times : ℕ) (replay : Replay) → Runs setting lines replay → mass (length setting.layout.grants) replay ≤ times → AtRest (rounds times setting replay)
  rounds_rest zero replay runs le = by (list_any (λ r. r) replay.ready) refl
    where
      by : (t : Bool) → list_any (λ r. r) replay.ready ≡ t → AtRest replay
      by true any = absurd (let lt = round_falls replay runs any in omega (arith, lt, le))
      by false none = record { runs = runs; none = none }
  rounds_rest (suc times) replay runs le = by (list_any (λ r. r) replay.ready) refl (λ r s l. rounds_rest times r s l)
    where
      by : (t : Bool) → list_any (λ r. r) replay.ready ≡ t → ((r : Replay) → Runs setting lines r → mass (length setting.layout.grants) r ≤ times → AtRest (rounds times setting r)) → AtRest (rounds times setting (cond t (round setting replay) replay))
      by true any more = more (round setting replay) (round_rounded setting lines replay.ready 0 replay runs).runs (let lt = round_falls replay runs any in omega (arith, lt, le))
      by false none more = subst AtRest (sym (rounds_still times replay none)) (record { runs = runs; none = none })

-- ---- the rounds after a line

here_within : (seats : List Seat) → all_here seats ≤ length seats
here_within [] = omega arith
here_within (seat ∷ seats) = omega (arith, one seat.going seat.gone, here_within seats)
  where
    one : (going gone : Bool) → here_of going gone ≤ 1
    one true true = omega arith
    one true false = omega arith
    one false true = omega arith
    one false false = omega arith

fuel_is_enough : (grants offered here ready : ℕ) → here ≤ grants → ready ≤ grants → suc grants * (offered + here) + ready ≤ suc grants * (offered + grants + 1)
fuel_is_enough grants offered here ready a b =
    let more : suc grants * (offered + here + 1) ≤ suc grants * (offered + grants + 1) = mul-le (suc grants) (offered + here + 1) (suc grants) (offered + grants + 1) (omega arith) (omega arith) in
    let same : suc grants * (offered + here + 1) ≡ suc grants * (offered + here) + suc grants * 1 = mul-add (suc grants) (offered + here) 1 in
    omega (arith, more, same, b)

-- the rounds after a line leave nobody ready
pub rested_rests : (setting : Setting) (lines : List ScriptLine) (replay : Replay) → Runs setting lines replay → AtRest setting lines (rested setting replay)
unfolding mass
rested_rests setting lines replay runs =
    let grants = length setting.layout.grants in
    let i = isolated setting replay.play replay.steps runs.play_is runs.once in
    let seats : all_here replay.play.seats ≤ grants = subst (λ n. all_here replay.play.seats ≤ n) i.count (here_within replay.play.seats) in
    let ready : count_ready replay.ready ≤ grants = subst (λ n. count_ready replay.ready ≤ n) runs.count (count_within replay.ready) in
    let enough = fuel_is_enough grants (all_offered replay.peers) (all_here replay.play.seats) (count_ready replay.ready) seats ready in
    rounds_rest setting lines (rounds_left replay) replay runs
    (subst (λ n. mass grants replay ≤ suc n * (all_offered replay.peers + n + 1)) (sym runs.count) enough)

-- ---- round by round

-- two counts of rounds that both come to rest lead to one replay
one_rest : (setting : Setting) (m n : ℕ) (replay : Replay) → list_any (λ r. r) (rounds m setting replay).ready ≡ false → list_any (λ r. r) (rounds n setting replay).ready ≡ false → rounds m setting replay ≡ rounds n setting replay
one_rest setting zero n replay h k = sym (rounds_still setting [] n replay h)
one_rest setting (suc m) zero replay h k = rounds_still setting [] (suc m) replay k
one_rest setting (suc m) (suc n) replay h k = one_rest setting m n (cond (list_any (λ r. r) replay.ready) (round setting replay) replay) h k

-- a replay at rest rests
pub rested_still : (setting : Setting) (replay : Replay) → list_any (λ r. r) replay.ready ≡ false → rested setting replay ≡ replay
rested_still setting replay none = rounds_still setting [] (rounds_left replay) replay none

-- a round is one of those that lead to rest
pub rested_round : (setting : Setting) (lines : List ScriptLine) (replay : Replay) → Runs setting lines replay → list_any (λ r. r) replay.ready ≡ true → rested setting (round setting replay) ≡ rested setting replay
rested_round setting lines replay runs any =
    let next = round setting replay in
    let runs_next = (round_rounded setting lines replay.ready 0 replay runs).runs in
    let first : rounds (suc (rounds_left next)) setting replay ≡ rested setting next = ap (λ t. rounds (rounds_left next) setting (cond t next replay)) any in
    sym first ∙ one_rest setting (suc (rounds_left next)) (rounds_left replay) replay
    (ap (λ r. list_any (λ flag. flag) r.ready) first ∙ (rested_rests setting lines next runs_next).none) (rested_rests setting lines replay runs).none

-- and keeps what holds of a replay
pub round_runs : (setting : Setting) (lines : List ScriptLine) (replay : Replay) → Runs setting lines replay → Runs setting lines (round setting replay)
round_runs setting lines replay runs = (round_rounded setting lines replay.ready 0 replay runs).runs

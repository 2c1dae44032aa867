-- A session of a seat by itself, between two pieces of its bytes and to its end.
use Rattle.std.proofs.Common.{◌≡◌, ◌<◌, ℕ, zero, suc, ◌+◌, ◌-◌, Bool, true, false, cond, List, [], ◌∷◌, ◌++◌, take, refl, ap, sym, ◌∙◌, subst, arith, length-drop, inl, inr, ◌⊎◌, nat_le}
use Rattle.std.specs.declared.option.Option.{Option}
use Rattle.std.proofs.lemmas.List.{append-nil}
use Rattle.std.proofs.lemmas.Bool.{eq-eqb}
use Rattle.std.specs.Io.KnownBytes.{IsAtEnd}
use Rattle.grant_table.specs.declared.Protocol.{Protocol}
use Rattle.grant_table.specs.declared.Protocol.TheVariants.{Xvc, Bitbang}
use Rattle.client_session.specs.declared.End.{End}
use Rattle.client_session.specs.Acts.{Act}
use Rattle.client_session.specs.Acts.Act.{Say, SayTdo, Sample, Rise, Fall, Pack, SetLines, SetTrst, EndAt}
use Rattle.client_session.specs.Seats.{Seat, Next, next_in, load_next, without_message, acted, step_of, advanced, advanced_by, finished, IsFinished, ended, taken, most_bytes, gone_end}
use Rattle.client_session.specs.Seats.Next.{Whole, RefusedAt, Nothing}
use Rattle.client_session.specs.Private.{received, took, dropped}
use Rattle.client_session.proofs.Steps.{work, work-acted, NextFits, next_fits, stays, finished_finished}
use Rattle.client_session.proofs.Later.{finished-advanced, finished_stays}
use Rattle.client_session.proofs.Joins.{joined_took}
use Rattle.lone_session.specs.Serving.{EndedSo, MayEnd, after_bytes, after_input}

-- ---- steps of a session whose peer is there

-- the session goes on
pub record Stays (new old : Seat) : Type 0 where
  pub going : new.going ≡ true
  pub here : new.gone ≡ false
  pub conn : new.conn ≡ old.conn
  pub past : new.past ≡ old.past

-- the session ends, by no drop
pub record Leaves (new old : Seat) : Type 0 where
  pub how : End
  pub replies : List ℕ
  pub own : (rest : Option (List ℕ)) → MayEnd how rest
  pub free : new.going ≡ false
  pub past : EndedSo how replies old new

abbrev pub Steps : Seat → Seat → Type 0
Steps new old = Stays new old ⊎ Leaves new old

-- one step, which may end the session
record Ends (new old : Seat) : Type 0 where
  pub how : End
  pub own : (rest : Option (List ℕ)) → MayEnd how rest
  pub new_is : new ≡ ended how old

abbrev Step : Seat → Seat → Type 0
Step new old = Stays new old ⊎ Ends new old

still : (seat : Seat) → seat.going ≡ true → seat.gone ≡ false → Stays seat seat
still seat g h = record { going = g; here = h; conn = refl; past = refl }

act_step : (act : Act) (acts : List Act) (seat : Seat) → seat.going ≡ true → seat.gone ≡ false → Step (acted act (record seat { acts = acts })) seat
act_step (Say x) acts seat g h = inl (record { going = g; here = h; conn = refl; past = refl })
act_step SayTdo acts seat g h = inl (record { going = g; here = h; conn = refl; past = refl })
act_step Sample acts seat g h = inl (record { going = g; here = h; conn = refl; past = refl })
act_step (Rise tms tdi) acts seat g h = inl (record { going = g; here = h; conn = refl; past = refl })
act_step Fall acts seat g h = inl (record { going = g; here = h; conn = refl; past = refl })
act_step Pack acts seat g h = inl (record { going = g; here = h; conn = refl; past = refl })
act_step (SetLines tck tms tdi) acts seat g h = inl (record { going = g; here = h; conn = refl; past = refl })
act_step (SetTrst level) acts seat g h = inl (record { going = g; here = h; conn = refl; past = refl })
act_step (EndAt at) acts seat g h = inr (record { how = End.Quit at; own = λ rest. tt; new_is = refl })

quiet_step : (seat : Seat) → seat.going ≡ true → seat.gone ≡ false → Step (without_message seat) seat
quiet_step seat g h = by (nat_le most_bytes (taken seat)) seat.gone h
  where
    by : (b c : Bool) → c ≡ false → Step (cond b (ended (End.Long most_bytes) seat) (cond c (ended (gone_end seat.used seat.unused) seat) seat)) seat
    by true c e = inr (record { how = End.Long most_bytes; own = λ rest. tt; new_is = refl })
    by false true e = absurd (let q : true ≡ false = e in cc)
    by false false e = inl (still seat g h)

load_step : (n : Next) (seat : Seat) → seat.going ≡ true → seat.gone ≡ false → Step (load_next n seat) seat
load_step (Whole acts count) seat g h = inl (record { going = g; here = h; conn = refl; past = refl })
load_step (RefusedAt at cause) seat g h = inr (record { how = End.Refused (seat.used + at) cause; own = λ rest. tt; new_is = refl })
load_step Nothing seat g h = quiet_step seat g h

step : (acts : List Act) (seat : Seat) → seat.going ≡ true → seat.gone ≡ false → Step (step_of acts seat) seat
step [] seat g h = load_step (next_in seat.protocol seat) seat g h
step (act ∷ acts) seat g h = act_step act acts seat g h

advanced_step : (seat : Seat) → seat.going ≡ true → seat.gone ≡ false → Step (advanced seat) seat
advanced_step seat g h = subst (λ s. Step s seat) (going_step g) (step seat.acts seat g h)
  where
    going_step : seat.going ≡ true → step_of seat.acts seat ≡ advanced seat
    going_step e = rw e refl

more : (new between old : Seat) → Stays between old → Steps new between → Steps new old
more new between old first (inl on) = inl (record { going = on.going; here = on.here; conn = on.conn ∙ first.conn; past = on.past ∙ first.past })
more new between old first (inr off) = inr (record {
  how = off.how;
  replies = off.replies;
  own = off.own;
  free = off.free;
  past = off.past ∙ (λ i. first.past i ++ record { conn = first.conn i; replies = off.replies; end = off.how } ∷ []);
})

pub many_steps : (steps : ℕ) (seat : Seat) → seat.going ≡ true → seat.gone ≡ false → Steps (advanced_by steps seat) seat
many_steps zero seat g h = inl (still seat g h)
many_steps (suc steps) seat g h = by (advanced_step seat g h) (λ g h. many_steps steps (advanced seat) g h)
  where
    by : Step (advanced seat) seat → ((advanced seat).going ≡ true → (advanced seat).gone ≡ false → Steps (advanced_by steps (advanced seat)) (advanced seat)) → Steps (advanced_by steps (advanced seat)) seat
    by (inl on) rest = more (advanced_by steps (advanced seat)) (advanced seat) seat on (rest on.going on.here)
    by (inr ends) rest =
        let there : advanced_by steps (advanced seat) ≡ ended ends.how seat = ap (advanced_by steps) ends.new_is ∙ stays steps (ended ends.how seat) refl in
        inr (record {
          how = ends.how;
          replies = seat.replies;
          own = ends.own;
          free = ap (λ (s : Seat). s.going) there;
          past = ap (λ (s : Seat). s.past) there;
        })

-- ---- the peer of a session that has finished is gone

abbrev marked : Seat → Seat
marked seat = record seat { gone = true }

-- the next step ends it
abbrev LeavesNext : Seat → Seat → Type 0
LeavesNext new seat = (end : End) × (new ≡ ended end seat)

not_still : {A : Type 0} (new seat : Seat) → new ≡ seat → seat.going ≡ true → new.going ≡ false → A
not_still new seat same going ends = absurd (let q : false ≡ true = sym ends ∙ ap (λ (s : Seat). s.going) same ∙ going in cc)

not_less : {A : Type 0} (new seat : Seat) → new ≡ seat → work new < work seat → A
not_less new seat same less = absurd (let e = ap work same in omega (arith, e, less))

quiet_drop : (seat : Seat) → seat.going ≡ true → without_message seat ≡ seat → LeavesNext (without_message (marked seat)) (marked seat)
quiet_drop seat going same = by (nat_le most_bytes (taken seat)) refl
  where
    by : (b : Bool) → nat_le most_bytes (taken seat) ≡ b → LeavesNext (cond b (ended (End.Long most_bytes) (marked seat)) (ended (gone_end seat.used seat.unused) (marked seat))) (marked seat)
    by true e = (End.Long most_bytes, refl)
    by false e = (gone_end seat.used seat.unused, refl)

load_drop : (n : Next) (seat : Seat) → NextFits seat.unused n → seat.acts ≡ [] → seat.going ≡ true → load_next n seat ≡ seat → LeavesNext (load_next n (marked seat)) (marked seat)
load_drop (Whole acts count) seat fits a going same = not_less (load_next (Whole acts count) seat) seat same (rw (a, going) (omega (arith, fits, length-drop count seat.unused)))
load_drop (RefusedAt at cause) seat fits a going same = (End.Refused (seat.used + at) cause, refl)
load_drop Nothing seat fits a going same = quiet_drop seat going same

next_marked : (p : Protocol) (seat : Seat) → next_in p (marked seat) ≡ next_in p seat
next_marked Xvc seat = refl
next_marked Bitbang seat = refl

step_drop : (acts : List Act) (seat : Seat) → seat.acts ≡ acts → seat.going ≡ true → step_of acts seat ≡ seat → LeavesNext (step_of acts (marked seat)) (marked seat)
step_drop [] seat a going same =
    subst (λ n. LeavesNext (load_next n (marked seat)) (marked seat)) (sym (next_marked seat.protocol seat))
    (load_drop (next_in seat.protocol seat) seat (next_fits seat.protocol seat) a going same)
step_drop (act ∷ acts) seat a going same =
    not_less (acted act (record seat { acts = acts })) seat same (let le = work-acted act (record seat { acts = acts }) in rw a (omega (arith, le)))

pub finished_drop : (seat : Seat) → IsFinished seat → seat.going ≡ true → (end : End) × (finished (marked seat) ≡ ended end (marked seat))
finished_drop seat done going =
    let next = step_drop seat.acts seat refl going (going_step seat going ∙ done) in
    let first : advanced (marked seat) ≡ ended next.0 (marked seat) = sym (going_step (marked seat) going) ∙ next.1 in
    (next.0, sym (finished-advanced (marked seat)) ∙ ap finished first ∙ finished_stays (ended next.0 (marked seat)) refl)
  where
    going_step : (s : Seat) → s.going ≡ true → step_of s.acts s ≡ advanced s
    going_step s g = rw g refl

-- ---- pieces of bytes

-- bytes come to a session that is going, whose peer is there
pub took_is : (conn : ℕ) (piece : List ℕ) (seat : Seat) → seat.going ≡ true → seat.gone ≡ false → seat.conn ≡ conn → took conn piece seat ≡ received piece seat
took_is conn piece seat going here is = rw (going, here, eq-eqb seat.conn conn is) refl

pub dropped_is : (conn : ℕ) (seat : Seat) → seat.going ≡ true → seat.conn ≡ conn → dropped conn seat ≡ marked seat
dropped_is conn seat going is = rw (going, eq-eqb seat.conn conn is) refl

dropped_free : (conn : ℕ) (seat : Seat) → seat.going ≡ false → dropped conn seat ≡ seat
dropped_free conn seat free = rw free refl

-- no bytes change nothing
pub none_taken : (seat : Seat) → IsFinished seat → seat.going ≡ true → seat.gone ≡ false → seat ≡ after_bytes [] seat
none_taken seat done going here =
    let same : received [] seat ≡ seat = ap (λ u. record seat { unused = u }) (ap (λ l. seat.unused ++ l) (take-nil (most_bytes - taken seat)) ∙ append-nil seat.unused) in
    sym (ap finished (took_is seat.conn [] seat going here refl ∙ same) ∙ finished_stays seat done)
  where
    take-nil : (n : ℕ) → take {A = ℕ} n [] ≡ []
    take-nil zero = refl
    take-nil (suc n) = refl

-- the next bytes join those before
pub piece_taken : (start seat : Seat) (bytes piece : List ℕ) → seat ≡ after_bytes bytes start → seat.going ≡ true → seat.gone ≡ false → seat.conn ≡ start.conn → finished (received piece seat) ≡ after_bytes (bytes ++ piece) start
piece_taken start seat bytes piece is going here conn =
    ap finished (sym (took_is start.conn piece seat going here conn) ∙ ap (took start.conn piece) is) ∙ joined_took start.conn bytes piece start

pub after_finished : (start : Seat) (bytes : List ℕ) → IsFinished (after_bytes bytes start)
after_finished start bytes = finished_finished (took start.conn bytes start)

-- a session that ended by its bytes is not ended by the drop
pub ended_input : (start seat : Seat) (bytes : List ℕ) → seat ≡ after_bytes bytes start → seat.going ≡ false → seat ≡ after_input bytes start
ended_input start seat bytes is free =
    sym (finished_stays seat (subst IsFinished (sym is) (finished_finished (took start.conn bytes start))))
    ∙ ap finished (sym (dropped_free start.conn seat free) ∙ ap (dropped start.conn) is)

pub dropped_input : (start seat : Seat) (bytes : List ℕ) → seat ≡ after_bytes bytes start → seat.going ≡ true → seat.conn ≡ start.conn → finished (marked seat) ≡ after_input bytes start
dropped_input start seat bytes is going conn = ap finished (sym (dropped_is start.conn seat going conn) ∙ ap (dropped start.conn) is)

pub may_end : (end : End) (rest : Option (List ℕ)) → IsAtEnd rest → MayEnd end rest
may_end (End.Quit at) rest h = tt
may_end (End.Refused at cause) rest h = tt
may_end (End.Gone count) rest h = h
may_end (End.Cut count) rest h = h
may_end (End.Long count) rest h = tt

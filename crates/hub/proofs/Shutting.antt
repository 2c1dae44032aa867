-- How often connections are shut.
use Rattle.std.proofs.Common.{◌≡◌, ℕ, suc, ◌+◌, Bool, true, false, cond, List, [], ◌∷◌, ◌++◌, drop, length, refl, ap, sym, subst, ◌∙◌, arith, nat_eq}
use Rattle.std.specs.Option.{is_some}
use Rattle.std.specs.Result.{OnOk}
use Rattle.std.specs.declared.result.Result.{Result}
use Rattle.std.specs.declared.result.Result.TheVariants.{Ok, Err}
use Rattle.std.specs.declared.option.Option.{Option}
use Rattle.std.specs.declared.option.Option.TheVariants.{None, Some}
use Rattle.base_types.specs.Tellings.{Both}
use Rattle.base_types.proofs.TellingLaws.{both_joined}
use Rattle.wire_port.specs.Steps.{shuts}
use Rattle.wire_port.specs.Steps.Step.{Took, Gone, Shut}
use Rattle.wire_port.specs.declared.wire.Found.TheVariants as found
use Rattle.wire_port.specs.Offers.{Answer}
use Rattle.wire_port.specs.Wires.{WireView}
use Rattle.wire_port.specs.Calls.{after_give, after_take, after_shut}
use Rattle.plays.specs.Plays.{SessionEnd}
use Rattle.plays.specs.Stands.{HubView}
use Rattle.plays.specs.Schedule.{is_drop}
use Rattle.session_table.specs.Tables.{WentOn}
use Rattle.hub.specs.Served.{HasShut, ShutsAfter, ShutsFor, admitted_at, shuts_away, shuts_for}
use Rattle.hub.proofs.OnTheWire.{shuts-snoc}
use Rattle.hub.proofs.AfterCalls.{ends_are}
use Rattle.std.proofs.lemmas.List.{append-nil}

pub shuts_then : (first second third : List SessionEnd) (a b d : Option WireView) → Both a b (ShutsFor first second) → Both b d (ShutsFor second third) → Both a d (ShutsFor first third)
shuts_then first second third = both_joined (ShutsFor first second) (ShutsFor second third) (ShutsFor first third) join
  where
    join : (old between new : WireView) → ShutsFor first second old between → ShutsFor second third between new → ShutsFor first third old new
    join old between new one two = record { each = λ conn. omega (arith, one.each conn, two.each conn) }

pub shuts_none : (ends : List SessionEnd) (a : Option WireView) → Both a a (ShutsFor ends ends)
shuts_none ends None = tt
shuts_none ends (Some wire) = record { each = λ conn. refl }

-- a call that shuts nothing
unshut : (a b : Option WireView) (next : WireView → WireView) (ends : List SessionEnd) → ((old : WireView) (conn : ℕ) → shuts conn (next old).steps ≡ shuts conn old.steps) → Both a b (λ old new. new ≡ next old) → Both a b (ShutsFor ends ends)
unshut None None next ends same r = tt
unshut None (Some new) next ends same r = r
unshut (Some old) None next ends same r = r
unshut (Some old) (Some new) next ends same r = record { each = λ conn. ap (λ n. n + shuts_for conn ends) (ap (λ w. shuts conn w.steps) r ∙ same old conn) }

plus_none : (n : ℕ) → n + 0 ≡ n
plus_none n = omega arith

given_same : (conn whole : ℕ) (answer : Answer) (old : WireView) (other : ℕ) → shuts other (after_give conn whole answer old).steps ≡ shuts other old.steps
given_same conn whole (Answer.Bytes bytes) old other = ap (shuts other) (append-nil old.steps)
given_same conn whole Answer.NotNow old other = ap (shuts other) (append-nil old.steps)
given_same conn whole Answer.Gone old other = shuts-snoc other old.steps (Gone conn) ∙ plus_none (shuts other old.steps)

taken_same : (conn : ℕ) (answer : Answer) (old : WireView) (other : ℕ) → shuts other (after_take conn answer old).steps ≡ shuts other old.steps
taken_same conn (Answer.Bytes bytes) old other = shuts-snoc other old.steps (Took conn bytes) ∙ plus_none (shuts other old.steps)
taken_same conn Answer.NotNow old other = ap (shuts other) (append-nil old.steps)
taken_same conn Answer.Gone old other = shuts-snoc other old.steps (Gone conn) ∙ plus_none (shuts other old.steps)

pub give_shuts_none : (conn whole : ℕ) (answer : Answer) (ends : List SessionEnd) (a b : Option WireView) → Both a b (λ old new. new ≡ after_give conn whole answer old) → Both a b (ShutsFor ends ends)
give_shuts_none conn whole answer ends a b = unshut a b (after_give conn whole answer) ends (given_same conn whole answer)

pub take_shuts_none : (conn : ℕ) (answer : Answer) (ends : List SessionEnd) (a b : Option WireView) → Both a b (λ old new. new ≡ after_take conn answer old) → Both a b (ShutsFor ends ends)
take_shuts_none conn answer ends a b = unshut a b (after_take conn answer) ends (taken_same conn answer)

-- one shut, with no other before it
shut_adds : (conn other : ℕ) (old : WireView) → shuts other (after_shut conn old).steps ≡ shuts other old.steps + cond (nat_eq other conn) 1 0
shut_adds conn other old = shuts-snoc other old.steps (Shut conn) ∙ ap (λ n. shuts other old.steps + n) (by (nat_eq other conn))
  where
    by : (b : Bool) → cond b (suc 0) 0 ≡ cond b 1 0
    by true = refl
    by false = refl

pub shut_once : (conn : ℕ) (a b d : Option WireView) → Both a b (ShutsFor [] []) → Both b d (λ old new. new ≡ after_shut conn old) → Both a d (HasShut conn)
shut_once conn = both_joined (ShutsFor [] []) (λ old new. new ≡ after_shut conn old) (HasShut conn) join
  where
    join : (old between new : WireView) → ShutsFor [] [] old between → new ≡ after_shut conn between → HasShut conn old new
    join old between new one two = record {
      each = λ other. ap (λ w. shuts other w.steps) two ∙ shut_adds conn other between
          ∙ ap (λ n. n + cond (nat_eq other conn) 1 0) (sym (plus_none (shuts other between.steps)) ∙ one.each other ∙ plus_none (shuts other old.steps));
    }

-- a session that ended is let go
pub let_go_shut : (ended : SessionEnd) (a b : Option WireView) → is_drop ended.end ≡ false → Both a b (HasShut ended.conn) → Both a b (ShutsFor [] (ended ∷ []))
let_go_shut ended None None stays r = tt
let_go_shut ended None (Some new) stays r = r
let_go_shut ended (Some old) None stays r = r
let_go_shut ended (Some old) (Some new) stays r = record { each = λ conn. plus_none (shuts conn new.steps) ∙ r.each conn ∙ ap (λ n. shuts conn old.steps + n) (ap (λ b. cond (nat_eq conn ended.conn) (cond b 0 1) 0) (sym stays) ∙ sym (plus_none (cond (nat_eq conn ended.conn) (cond (is_drop ended.end) 0 1) 0))) }

pub let_go_drop : (ended : SessionEnd) (a : Option WireView) → is_drop ended.end ≡ true → Both a a (ShutsFor [] (ended ∷ []))
let_go_drop ended None drop_is = tt
let_go_drop ended (Some old) drop_is = record { each = λ conn. ap (λ n. shuts conn old.steps + n) (sym (ap (λ b. cond (nat_eq conn ended.conn) (cond b 0 1) 0 + 0) drop_is ∙ by (nat_eq conn ended.conn))) }
  where
    by : (b : Bool) → cond b 0 0 + 0 ≡ 0
    by true = refl
    by false = refl

-- those that are left count after those that were let go: all that is due stays the same
pub record Due (list left : List SessionEnd) (old new : WireView) : Type 0 where
  pub each : (conn : ℕ) → shuts conn new.steps + shuts_for conn left ≡ shuts conn old.steps + shuts_for conn list

pub due_first : (list : List SessionEnd) (a : Option WireView) → Both a a (Due list list)
due_first list None = tt
due_first list (Some old) = record { each = λ conn. refl }

pub due_more : (list now left : List SessionEnd) (ended : SessionEnd) (a b d : Option WireView) → now ≡ ended ∷ left → Both a b (Due list now) → Both b d (ShutsFor [] (ended ∷ [])) → Both a d (Due list left)
due_more list now left ended a b d is = both_joined (Due list now) (ShutsFor [] (ended ∷ [])) (Due list left) join a b d
  where
    join : (old between new : WireView) → Due list now old between → ShutsFor [] (ended ∷ []) between new → Due list left old new
    join old between new one two = record {
      each = λ conn.
          let first : shuts conn between.steps + shuts_for conn (ended ∷ left) ≡ shuts conn old.steps + shuts_for conn list = ap (λ l. shuts conn between.steps + shuts_for conn l) (sym is) ∙ one.each conn in
          omega (arith, first, two.each conn);
    }

pub due_done : (list now : List SessionEnd) (a b : Option WireView) → now ≡ [] → Both a b (Due list now) → Both a b (ShutsFor [] list)
due_done list now None None is r = tt
due_done list now None (Some new) is r = r
due_done list now (Some old) None is r = r
due_done list now (Some old) (Some new) is r = record { each = λ conn. ap (λ l. shuts conn new.steps + shuts_for conn l) (sym is) ∙ r.each conn }

-- ---- beyond those that ended earlier

shuts_for-append : (conn : ℕ) (xs ys : List SessionEnd) → shuts_for conn (xs ++ ys) ≡ shuts_for conn xs + shuts_for conn ys
shuts_for-append conn [] ys = omega arith
shuts_for-append conn (ended ∷ xs) ys = omega (arith, shuts_for-append conn xs ys)

pub shuts_beyond : (grant : ℕ) (flag : Bool) (old new : HubView) (earlier : ℕ) (a b : Option WireView) → earlier ≡ length old.ended → WentOn grant flag old new → Both a b (ShutsFor [] (drop earlier new.ended)) → Both a b (ShutsFor old.ended new.ended)
shuts_beyond grant flag old new earlier None None is went r = tt
shuts_beyond grant flag old new earlier None (Some n) is went r = r
shuts_beyond grant flag old new earlier (Some o) None is went r = r
shuts_beyond grant flag old new earlier (Some o) (Some n) is went r = record {
  each = λ conn.
      let now : shuts conn n.steps + 0 ≡ shuts conn o.steps + shuts_for conn went.ends = r.each conn ∙ ap (λ l. shuts conn o.steps + shuts_for conn l) (ap (λ k. drop k new.ended) is ∙ ends_are grant flag old new went) in
      let all : shuts_for conn new.ended ≡ shuts_for conn old.ended + shuts_for conn went.ends = ap (shuts_for conn) went.ended ∙ shuts_for-append conn old.ended went.ends in
      omega (arith, now, all);
}

pub shuts_moved : (first second third : List SessionEnd) (a b : Option WireView) → third ≡ second → Both a b (ShutsFor first second) → Both a b (ShutsFor first third)
shuts_moved first second third a b is shut = subst (λ l. Both a b (ShutsFor first l)) (sym is) shut

pub shuts_then_ok : {T E : Type 0} (first second third : List SessionEnd) (a b d : Option WireView) (result : Result T E) → Both a b (ShutsFor first second) → OnOk result (Both b d (ShutsFor second third)) → OnOk result (Both a d (ShutsFor first third))
shuts_then_ok first second third a b d (Ok x) one two = shuts_then first second third a b d one two
shuts_then_ok first second third a b d (Err e) one two = tt

-- ---- a connection is turned away

pub away_shut : (conn port : ℕ) (hub : HubView) (a b : Option WireView) → None ≡ admitted_at hub port → Both a b (λ old new. new ≡ after_shut conn old) → Both a b (ShutsAfter (found.Opened conn port) hub [])
away_shut conn port hub None None none r = tt
away_shut conn port hub None (Some new) none r = r
away_shut conn port hub (Some old) None none r = r
away_shut conn port hub (Some old) (Some new) none r = record {
  each = λ other. ap (λ w. shuts other w.steps) r ∙ shut_adds conn other old
      ∙ ap (λ n. shuts other old.steps + n) (sym (plus_none (shuts_away (found.Opened conn port) hub other) ∙ ap (λ o. cond (nat_eq other conn) (cond (is_some o) 0 1) 0) (sym none)));
}

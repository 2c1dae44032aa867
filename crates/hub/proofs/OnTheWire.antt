-- Which connections are open on a wire, after one more step.
use Rattle.std.proofs.Common.{◌≡◌, ◌≢◌, ℕ, suc, ◌+◌, ◌<◌, Bool, true, false, ◌||◌, cond, List, [], ◌∷◌, ◌++◌, length, refl, ap, sym, subst, ◌∙◌, arith, inl, inr, ◌⊎◌, nat_eq}
use Rattle.std.proofs.lemmas.List.{append-nil, get_or-set_same, get_or-set_other}
use Rattle.std.specs.List.{list_any, slice_set}
use Rattle.std.specs.Result.{OnOk}
use Rattle.std.specs.declared.result.Result.{Result}
use Rattle.std.specs.declared.result.Result.TheVariants.{Ok, Err}
use Rattle.std.specs.declared.option.Option.{Option}
use Rattle.std.specs.declared.option.Option.TheVariants.{None, Some}
use Rattle.std.proofs.lemmas.Bool.{eqb-true, eq-eqb}
use Rattle.std.proofs.lemmas.List.Folds.{list_any-append}
use Rattle.base_types.specs.Tellings.{Told, Both}
use Rattle.base_types.proofs.TellingLaws.{both_joined}
use Rattle.client_session.specs.declared.Stand.{Stand}
use Rattle.client_session.specs.declared.Stand.TheVariants as stand
use Rattle.client_session.specs.Sessions.{is_taken}
use Rattle.wire_port.specs.Steps.{Step, opens, shuts, has_gone, is_gone_step, taken_from}
use Rattle.wire_port.specs.Steps.Step.{Opened, Took, Gone, Shut}
use Rattle.wire_port.specs.Offers.{Answer}
use Rattle.wire_port.specs.Wires.{WireView, Last}
use Rattle.wire_port.specs.Calls.{IsOpen, CanBeShut, after_give, after_take, after_shut, with_last}
use Rattle.wire_port.proofs.Stepping.{taken_behind}
use Rattle.plays.specs.Plays.{SessionEnd, is_among}
use Rattle.plays.specs.Stands.{HubView}
use Rattle.plays.proofs.Lists.{not_eq, false_true}
use Rattle.session_table.specs.Tables.{stand_at}
use Rattle.hub.specs.Served.{AreLeft, ConnIsOpen, ConnsAreOpen, IsInUse, OnlyOf, OnlyOpened, conn_at, grants_of, is_gone}

or_false : (b : Bool) → (b || false) ≡ b
or_false true = refl
or_false false = refl

pub same_or : (one other : ℕ) → (one ≡ other) ⊎ (one ≢ other)
same_or one other = go (nat_eq one other) refl
  where
    go : (b : Bool) → nat_eq one other ≡ b → (one ≡ other) ⊎ (one ≢ other)
    go true is = inl (eqb-true one other is)
    go false is = inr (λ same. false_true (sym is ∙ eq-eqb one other same))

or_true : (b : Bool) → (b || true) ≡ true
or_true true = refl
or_true false = refl

pub shuts-snoc : (conn : ℕ) (steps : List Step) (step : Step) → shuts conn (steps ++ step ∷ []) ≡ shuts conn steps + shuts conn (step ∷ [])
shuts-snoc conn [] step = omega arith
shuts-snoc conn (Opened other port ∷ steps) step = shuts-snoc conn steps step
shuts-snoc conn (Took other bytes ∷ steps) step = shuts-snoc conn steps step
shuts-snoc conn (Gone other ∷ steps) step = shuts-snoc conn steps step
shuts-snoc conn (Shut other ∷ steps) step = go (nat_eq conn other) _ _ _ (shuts-snoc conn steps step)
  where
    go : (b : Bool) (x y z : ℕ) → x ≡ y + z → cond b (suc x) x ≡ cond b (suc y) y + z
    go true x y z e = omega (arith, e)
    go false x y z e = e

-- what a step says of a connection
record Apart (conn : ℕ) (step : Step) : Type 0 where
  opened : opens conn step ≡ false
  shut : shuts conn (step ∷ []) ≡ 0
  gone : is_gone_step conn step ≡ false

-- the last answers of all connections but this are as they were
abbrev LastsStay : ℕ → WireView → WireView → Type 0
LastsStay conn old new = (other : ℕ) → other ≢ conn → new.last other ≡ old.last other

pub last_other : (conn : ℕ) (now : Last) (last : ℕ → Last) (other : ℕ) → other ≢ conn → with_last conn now last other ≡ last other
last_other conn now last other ne = rw (not_eq other conn ne) refl

only_snoc : (conn : ℕ) (step : Step) (old new : WireView) → ((other : ℕ) → other ≢ conn → Apart other step) → new.steps ≡ old.steps ++ step ∷ [] → LastsStay conn old new → OnlyOf conn old new
only_snoc conn step old new apart is stays = record {
  kept = λ before. ap (list_any (opens conn)) is ∙ list_any-append (opens conn) old.steps (step ∷ []) ∙ rw before refl;
  opened = λ other ne. ap (list_any (opens other)) is ∙ list_any-append (opens other) old.steps (step ∷ []) ∙ rw ((apart other ne).opened) (or_false (list_any (opens other) old.steps));
  shut = λ other ne. ap (shuts other) is ∙ shuts-snoc other old.steps step ∙ ap (λ n. shuts other old.steps + n) (apart other ne).shut ∙ plus_zero (shuts other old.steps);
  gone = λ other ne. ap (has_gone other) is ∙ list_any-append (is_gone_step other) old.steps (step ∷ []) ∙ rw ((apart other ne).gone) (or_false (has_gone other old.steps));
  last = stays;
  taken = λ other. omega (arith, ap (taken_from other) is, taken_behind other old.steps step);
}
  where
    plus_zero : (n : ℕ) → n + 0 ≡ n
    plus_zero n = omega arith

apart_took : (conn : ℕ) (bytes : List ℕ) (other : ℕ) → other ≢ conn → Apart other (Took conn bytes)
apart_took conn bytes other ne = record { opened = refl; shut = refl; gone = refl }

apart_gone : (conn other : ℕ) → other ≢ conn → Apart other (Gone conn)
apart_gone conn other ne = record { opened = refl; shut = refl; gone = not_eq other conn ne }

apart_shut : (conn other : ℕ) → other ≢ conn → Apart other (Shut conn)
apart_shut conn other ne = record { opened = refl; shut = rw (not_eq other conn ne) refl; gone = refl }

pub only_same : (conn : ℕ) (old new : WireView) → new.steps ≡ old.steps → LastsStay conn old new → OnlyOf conn old new
only_same conn old new is stays = record {
  kept = λ before. ap (list_any (opens conn)) is ∙ before;
  opened = λ other ne. ap (list_any (opens other)) is;
  shut = λ other ne. ap (shuts other) is;
  gone = λ other ne. ap (has_gone other) is;
  last = stays;
  taken = λ other. omega (arith, ap (taken_from other) is);
}

pub only_then : (conn : ℕ) (old between new : WireView) → OnlyOf conn old between → OnlyOf conn between new → OnlyOf conn old new
only_then conn old between new one two = record {
  kept = λ before. two.kept (one.kept before);
  opened = λ other ne. two.opened other ne ∙ one.opened other ne;
  shut = λ other ne. two.shut other ne ∙ one.shut other ne;
  gone = λ other ne. two.gone other ne ∙ one.gone other ne;
  last = λ other ne. two.last other ne ∙ one.last other ne;
  taken = λ other. omega (arith, one.taken other, two.taken other);
}

pub only_given : (conn whole : ℕ) (answer : Answer) (old : WireView) → OnlyOf conn old (after_give conn whole answer old)
only_given conn whole (Answer.Bytes bytes) old = only_same conn old _ (append-nil old.steps) (last_other conn _ old.last)
only_given conn whole Answer.NotNow old = only_same conn old _ (append-nil old.steps) (last_other conn _ old.last)
only_given conn whole Answer.Gone old = only_snoc conn (Gone conn) old _ (apart_gone conn) refl (last_other conn _ old.last)

pub only_taken : (conn : ℕ) (answer : Answer) (old : WireView) → OnlyOf conn old (after_take conn answer old)
only_taken conn (Answer.Bytes bytes) old = only_snoc conn (Took conn bytes) old _ (apart_took conn bytes) refl (last_other conn _ old.last)
only_taken conn Answer.NotNow old = only_same conn old _ (append-nil old.steps) (last_other conn _ old.last)
only_taken conn Answer.Gone old = only_snoc conn (Gone conn) old _ (apart_gone conn) refl (last_other conn _ old.last)

pub only_shut : (conn : ℕ) (old : WireView) → OnlyOf conn old (after_shut conn old)
only_shut conn old = only_snoc conn (Shut conn) old _ (apart_shut conn) refl (λ other ne. refl)

-- ---- the connection itself

can_same : (conn : ℕ) (old new : WireView) → new.steps ≡ old.steps → CanBeShut conn old → CanBeShut conn new
can_same conn old new is can = record { opened = ap (list_any (opens conn)) is ∙ can.opened; not_shut = ap (shuts conn) is ∙ can.not_shut }

-- a give leaves the connection open on the server's side
pub open_given : (conn whole : ℕ) (answer : Answer) (old : WireView) → CanBeShut conn old → CanBeShut conn (after_give conn whole answer old)
open_given conn whole (Answer.Bytes bytes) old can = can_same conn old _ (append-nil old.steps) can
open_given conn whole Answer.NotNow old can = can_same conn old _ (append-nil old.steps) can
open_given conn whole Answer.Gone old can = record {
  opened = list_any-append (opens conn) old.steps (Gone conn ∷ []) ∙ rw can.opened refl;
  not_shut = shuts-snoc conn old.steps (Gone conn) ∙ rw can.not_shut refl;
}

-- ---- what is told

pub open_can : (conn : ℕ) (a : Option WireView) → Told a (IsOpen conn) → Told a (CanBeShut conn)
open_can conn None open_now = tt
open_can conn (Some wire) open_now = record { opened = open_now.opened; not_shut = open_now.not_shut }

pub told_by : {X : Type 0} {P Q : X → Type 0} {R : X → X → Type 0} (a b : Option X) → Told a P → Both a b R → ((old new : X) → P old → R old new → Q new) → Told b Q
told_by None None p r f = tt
told_by None (Some y) p r f = absurd r
told_by (Some x) None p r f = absurd r
told_by (Some x) (Some y) p r f = f x y p r

pub both_by : {X : Type 0} {P : X → Type 0} {R S : X → X → Type 0} (a b : Option X) → Told a P → Both a b R → ((old new : X) → P old → R old new → S old new) → Both a b S
both_by None None p r f = tt
both_by None (Some y) p r f = r
both_by (Some x) None p r f = r
both_by (Some x) (Some y) p r f = f x y p r

pub both_map : {X : Type 0} {R S : X → X → Type 0} (a b : Option X) → Both a b R → ((old new : X) → R old new → S old new) → Both a b S
both_map None None r f = tt
both_map None (Some y) r f = r
both_map (Some x) None r f = r
both_map (Some x) (Some y) r f = f x y r

pub told_map : {X : Type 0} {P Q : X → Type 0} (a : Option X) → Told a P → ((x : X) → P x → Q x) → Told a Q
told_map None p f = tt
told_map (Some x) p f = f x p

pub given_only : (conn whole : ℕ) (answer : Answer) (a b : Option WireView) → Both a b (λ old new. new ≡ after_give conn whole answer old) → Both a b (OnlyOf conn)
given_only conn whole answer None None r = tt
given_only conn whole answer None (Some new) r = r
given_only conn whole answer (Some old) None r = r
given_only conn whole answer (Some old) (Some new) r = subst (OnlyOf conn old) (sym r) (only_given conn whole answer old)

pub given_shut : (conn whole : ℕ) (answer : Answer) (a b : Option WireView) → Told a (CanBeShut conn) → Both a b (λ old new. new ≡ after_give conn whole answer old) → Told b (CanBeShut conn)
given_shut conn whole answer a None can r = tt
given_shut conn whole answer None (Some new) can r = absurd r
given_shut conn whole answer (Some old) (Some new) can r = subst (CanBeShut conn) (sym r) (open_given conn whole answer old can)

pub shut_only : (conn : ℕ) (a b : Option WireView) → Both a b (λ old new. new ≡ after_shut conn old) → Both a b (OnlyOf conn)
shut_only conn None None r = tt
shut_only conn None (Some new) r = r
shut_only conn (Some old) None r = r
shut_only conn (Some old) (Some new) r = subst (OnlyOf conn old) (sym r) (only_shut conn old)

pub both_then : (conn : ℕ) (a b d : Option WireView) → Both a b (OnlyOf conn) → Both b d (OnlyOf conn) → Both a d (OnlyOf conn)
both_then conn = both_joined (OnlyOf conn) (OnlyOf conn) (OnlyOf conn) (only_then conn)

pub both_same : (conn : ℕ) (a : Option WireView) → Both a a (OnlyOf conn)
both_same conn None = tt
both_same conn (Some old) = only_same conn old old refl (λ other ne. refl)

-- ---- connections in use

free_not_taken : (now : Stand) → now ≡ stand.Free → is_taken now ≡ true → ⊥
free_not_taken now is taken = false_true (sym (ap is_taken is) ∙ taken)

pub one_gone : (hub : HubView) (gone : List Bool) (ended : SessionEnd) (left : List SessionEnd) (old new : WireView)
    → AreLeft hub (ended ∷ left) → ConnsAreOpen hub gone (ended ∷ left) old → OnlyOf ended.conn old new → ConnsAreOpen hub gone left new
one_gone hub gone ended left old new are conns only = record {
  each = λ grant used. let is : ConnIsOpen old (conn_at hub grant) (is_gone gone grant) = conns.each grant (wider grant used) in record {
    opened = only.opened (conn_at hub grant) (apart grant used) ∙ is.opened;
    not_shut = only.shut (conn_at hub grant) (apart grant used) ∙ is.not_shut;
    gone_is = only.gone (conn_at hub grant) (apart grant used) ∙ is.gone_is;
  };
  once = λ one other used_one used_other same. conns.once one other (wider one used_one) (wider other used_other) same;
}
  where
    wider : (grant : ℕ) → IsInUse hub left grant → IsInUse hub (ended ∷ left) grant
    wider grant (inl taken) = inl taken
    wider grant (inr among) = inr (rw among (or_true (nat_eq ended.grant grant)))

    itself : IsInUse hub (ended ∷ left) ended.grant
    itself = inr (rw (eq-eqb ended.grant ended.grant refl) refl)

    another : (grant : ℕ) → IsInUse hub left grant → grant ≡ ended.grant → ⊥
    another grant (inl taken) is = free_not_taken (stand_at hub grant) (ap (stand_at hub) is ∙ are.free.0.free) taken
    another grant (inr among) is = false_true (sym are.once.0 ∙ ap (λ g. is_among g (grants_of left)) (sym is) ∙ among)

    apart : (grant : ℕ) → IsInUse hub left grant → conn_at hub grant ≢ ended.conn
    apart grant used same = another grant used (conns.once grant ended.grant (wider grant used) itself (same ∙ are.free.0.conn))

pub told_one_gone : (hub : HubView) (gone : List Bool) (ended : SessionEnd) (left : List SessionEnd) (a b : Option WireView)
    → AreLeft hub (ended ∷ left) → Told a (ConnsAreOpen hub gone (ended ∷ left)) → Both a b (OnlyOf ended.conn) → Told b (ConnsAreOpen hub gone left)
told_one_gone hub gone ended left a None are conns only = tt
told_one_gone hub gone ended left None (Some new) are conns only = absurd only
told_one_gone hub gone ended left (Some old) (Some new) are conns only = one_gone hub gone ended left old new are conns only

-- ---- the first that is to be let go

pub first_there : (hub : HubView) (list left : List SessionEnd) (ended : SessionEnd) → list ≡ ended ∷ left → AreLeft hub list → ended.grant < length hub.seats
first_there hub list left ended is are = (subst (AreLeft hub) is are).free.0.there

pub first_open : (hub : HubView) (gone : List Bool) (list left : List SessionEnd) (ended : SessionEnd) (a : Option WireView) → list ≡ ended ∷ left → AreLeft hub list
    → Told a (ConnsAreOpen hub gone list) → Told a (λ wire. ConnIsOpen wire ended.conn (is_gone gone ended.grant))
first_open hub gone list left ended None is are conns = tt
first_open hub gone list left ended (Some wire) is are conns =
    let from : AreLeft hub (ended ∷ left) = subst (AreLeft hub) is are in
    let all : ConnsAreOpen hub gone (ended ∷ left) wire = subst (λ l. ConnsAreOpen hub gone l wire) is conns in
    subst (λ conn. ConnIsOpen wire conn (is_gone gone ended.grant)) (sym from.free.0.conn) (all.each ended.grant (inr (rw (eq-eqb ended.grant ended.grant refl) refl)))

pub rest_left : (hub : HubView) (list left : List SessionEnd) (ended : SessionEnd) → list ≡ ended ∷ left → AreLeft hub list → AreLeft hub left
rest_left hub list left ended is are = let from : AreLeft hub (ended ∷ left) = subst (AreLeft hub) is are in record { free = from.free.1; once = from.once.1 }

pub rest_open : (hub : HubView) (gone : List Bool) (list left : List SessionEnd) (ended : SessionEnd) (a b : Option WireView) → list ≡ ended ∷ left → AreLeft hub list
    → Told a (ConnsAreOpen hub gone list) → Both a b (OnlyOf ended.conn) → Told b (ConnsAreOpen hub gone left)
rest_open hub gone list left ended a b is are conns only = told_one_gone hub gone ended left a b (subst (AreLeft hub) is are) (subst (λ l. Told a (ConnsAreOpen hub gone l)) is conns) only

-- ---- a call that tells nothing of an opening, a shut or a drop

pub record SameConns (old new : WireView) : Type 0 where
  pub opened : (conn : ℕ) → list_any (opens conn) new.steps ≡ list_any (opens conn) old.steps
  pub shut : (conn : ℕ) → shuts conn new.steps ≡ shuts conn old.steps
  pub gone : (conn : ℕ) → has_gone conn new.steps ≡ has_gone conn old.steps

same_steps : (old new : WireView) → new.steps ≡ old.steps → SameConns old new
same_steps old new is = record { opened = λ conn. ap (list_any (opens conn)) is; shut = λ conn. ap (shuts conn) is; gone = λ conn. ap (has_gone conn) is }

same_took : (other : ℕ) (bytes : List ℕ) (old new : WireView) → new.steps ≡ old.steps ++ Took other bytes ∷ [] → SameConns old new
same_took other bytes old new is = record {
  opened = λ conn. ap (list_any (opens conn)) is ∙ list_any-append (opens conn) old.steps (Took other bytes ∷ []) ∙ or_false (list_any (opens conn) old.steps);
  shut = λ conn. ap (shuts conn) is ∙ shuts-snoc conn old.steps (Took other bytes) ∙ plus_none (shuts conn old.steps);
  gone = λ conn. ap (has_gone conn) is ∙ list_any-append (is_gone_step conn) old.steps (Took other bytes ∷ []) ∙ or_false (has_gone conn old.steps);
}
  where
    plus_none : (n : ℕ) → n + 0 ≡ n
    plus_none n = omega arith

stays_open : (hub : HubView) (gone : List Bool) (old new : WireView) → SameConns old new → ConnsAreOpen hub gone [] old → ConnsAreOpen hub gone [] new
stays_open hub gone old new same conns = record {
  each = λ grant used. let is : ConnIsOpen old (conn_at hub grant) (is_gone gone grant) = conns.each grant used in record {
    opened = same.opened (conn_at hub grant) ∙ is.opened;
    not_shut = same.shut (conn_at hub grant) ∙ is.not_shut;
    gone_is = same.gone (conn_at hub grant) ∙ is.gone_is;
  };
  once = conns.once;
}

open_after : (hub : HubView) (gone : List Bool) (a b : Option WireView) (next : WireView → WireView) → ((old : WireView) → SameConns old (next old))
    → Told a (ConnsAreOpen hub gone []) → Both a b (λ old new. new ≡ next old) → Told b (ConnsAreOpen hub gone [])
open_after hub gone a None next same conns r = tt
open_after hub gone None (Some new) next same conns r = absurd r
open_after hub gone (Some old) (Some new) next same conns r = subst (ConnsAreOpen hub gone []) (sym r) (stays_open hub gone old (next old) (same old) conns)

pub gave_bytes : (hub : HubView) (gone : List Bool) (conn whole : ℕ) (bytes : List ℕ) (a b : Option WireView) → Told a (ConnsAreOpen hub gone [])
    → Both a b (λ old new. new ≡ after_give conn whole (Answer.Bytes bytes) old) → Told b (ConnsAreOpen hub gone [])
gave_bytes hub gone conn whole bytes a b = open_after hub gone a b (after_give conn whole (Answer.Bytes bytes)) (λ old. same_steps old _ (append-nil old.steps))

pub gave_none : (hub : HubView) (gone : List Bool) (conn whole : ℕ) (a b : Option WireView) → Told a (ConnsAreOpen hub gone [])
    → Both a b (λ old new. new ≡ after_give conn whole Answer.NotNow old) → Told b (ConnsAreOpen hub gone [])
gave_none hub gone conn whole a b = open_after hub gone a b (after_give conn whole Answer.NotNow) (λ old. same_steps old _ (append-nil old.steps))

pub took_bytes : (hub : HubView) (gone : List Bool) (conn : ℕ) (bytes : List ℕ) (a b : Option WireView) → Told a (ConnsAreOpen hub gone [])
    → Both a b (λ old new. new ≡ after_take conn (Answer.Bytes bytes) old) → Told b (ConnsAreOpen hub gone [])
took_bytes hub gone conn bytes a b = open_after hub gone a b (after_take conn (Answer.Bytes bytes)) (λ old. same_took conn bytes old _ refl)

pub took_none : (hub : HubView) (gone : List Bool) (conn : ℕ) (a b : Option WireView) → Told a (ConnsAreOpen hub gone [])
    → Both a b (λ old new. new ≡ after_take conn Answer.NotNow old) → Told b (ConnsAreOpen hub gone [])
took_none hub gone conn a b = open_after hub gone a b (after_take conn Answer.NotNow) (λ old. same_steps old _ (append-nil old.steps))

-- ---- a drop is told

pub flag_own : (gone : List Bool) (grant : ℕ) → grant < length gone → is_gone (slice_set gone grant true) grant ≡ true
flag_own gone grant lt = get_or-set_same gone grant true false lt

pub flag_other : (gone : List Bool) (grant other : ℕ) → other ≢ grant → is_gone (slice_set gone grant true) other ≡ is_gone gone other
flag_other gone grant other ne = get_or-set_other gone grant other true false ne

drop_told : (hub : HubView) (gone : List Bool) (grant conn : ℕ) (old new : WireView) → grant < length gone → conn ≡ conn_at hub grant → is_taken (stand_at hub grant) ≡ true
    → new.steps ≡ old.steps ++ Gone conn ∷ [] → OnlyOf conn old new → ConnsAreOpen hub gone [] old → ConnsAreOpen hub (slice_set gone grant true) [] new
drop_told hub gone grant conn old new lt conn_is taken is only conns = record { each = λ other used. by other used (same_or other grant); once = conns.once }
  where
    mine : ConnIsOpen old (conn_at hub grant) (is_gone gone grant)
    mine = conns.each grant (inl taken)

    own : ConnIsOpen new conn (is_gone (slice_set gone grant true) grant)
    own = record {
      opened = ap (list_any (opens conn)) is ∙ list_any-append (opens conn) old.steps (Gone conn ∷ []) ∙ or_false (list_any (opens conn) old.steps) ∙ ap (λ c. list_any (opens c) old.steps) conn_is ∙ mine.opened;
      not_shut = ap (shuts conn) is ∙ shuts-snoc conn old.steps (Gone conn) ∙ plus_none (shuts conn old.steps) ∙ ap (λ c. shuts c old.steps) conn_is ∙ mine.not_shut;
      gone_is = ap (has_gone conn) is ∙ list_any-append (is_gone_step conn) old.steps (Gone conn ∷ []) ∙ ap (λ b. has_gone conn old.steps || (b || false)) (eq-eqb conn conn refl) ∙ or_true (has_gone conn old.steps) ∙ sym (flag_own gone grant lt);
    }
      where
        plus_none : (n : ℕ) → n + 0 ≡ n
        plus_none n = omega arith

    by : (other : ℕ) → IsInUse hub [] other → (other ≡ grant) ⊎ (other ≢ grant) → ConnIsOpen new (conn_at hub other) (is_gone (slice_set gone grant true) other)
    by other used (inl same) = subst (λ g. ConnIsOpen new (conn_at hub g) (is_gone (slice_set gone grant true) g)) (sym same) (subst (λ c. ConnIsOpen new c (is_gone (slice_set gone grant true) grant)) conn_is own)
    by other used (inr ne) = let its : ConnIsOpen old (conn_at hub other) (is_gone gone other) = conns.each other used in
        let apart : conn_at hub other ≢ conn = λ same. ne (conns.once other grant used (inl taken) (same ∙ conn_is)) in record {
          opened = only.opened (conn_at hub other) apart ∙ its.opened;
          not_shut = only.shut (conn_at hub other) apart ∙ its.not_shut;
          gone_is = only.gone (conn_at hub other) apart ∙ its.gone_is ∙ sym (flag_other gone grant other ne);
        }

pub give_lost : (hub : HubView) (gone : List Bool) (grant conn whole : ℕ) (a b : Option WireView) → grant < length gone → conn ≡ conn_at hub grant → is_taken (stand_at hub grant) ≡ true
    → Told a (ConnsAreOpen hub gone []) → Both a b (λ old new. new ≡ after_give conn whole Answer.Gone old) → Told b (ConnsAreOpen hub (slice_set gone grant true) [])
give_lost hub gone grant conn whole a None lt is taken conns r = tt
give_lost hub gone grant conn whole None (Some new) lt is taken conns r = absurd r
give_lost hub gone grant conn whole (Some old) (Some new) lt is taken conns r = drop_told hub gone grant conn old new lt is taken (ap (λ w. w.steps) r) (subst (OnlyOf conn old) (sym r) (only_given conn whole Answer.Gone old)) conns

pub take_lost : (hub : HubView) (gone : List Bool) (grant conn : ℕ) (a b : Option WireView) → grant < length gone → conn ≡ conn_at hub grant → is_taken (stand_at hub grant) ≡ true
    → Told a (ConnsAreOpen hub gone []) → Both a b (λ old new. new ≡ after_take conn Answer.Gone old) → Told b (ConnsAreOpen hub (slice_set gone grant true) [])
take_lost hub gone grant conn a None lt is taken conns r = tt
take_lost hub gone grant conn None (Some new) lt is taken conns r = absurd r
take_lost hub gone grant conn (Some old) (Some new) lt is taken conns r = drop_told hub gone grant conn old new lt is taken (ap (λ w. w.steps) r) (subst (OnlyOf conn old) (sym r) (only_taken conn Answer.Gone old)) conns

-- ---- steps of connections that opened before

of_opened : (conn : ℕ) (old new : WireView) → list_any (opens conn) old.steps ≡ true → OnlyOf conn old new → OnlyOpened old new
of_opened conn old new open_now only = record {
  kept = λ other known. still other known (same_or other conn);
  opened = λ other unknown. only.opened other (apart other unknown) ∙ unknown;
  shut = λ other unknown. only.shut other (apart other unknown);
  gone = λ other unknown. only.gone other (apart other unknown);
  taken = only.taken;
}
  where
    apart : (other : ℕ) → list_any (opens other) old.steps ≡ false → other ≢ conn
    apart other unknown same = false_true (sym unknown ∙ ap (λ c. list_any (opens c) old.steps) same ∙ open_now)

    still : (other : ℕ) → list_any (opens other) old.steps ≡ true → (other ≡ conn) ⊎ (other ≢ conn) → list_any (opens other) new.steps ≡ true
    still other known (inl same) = ap (λ c. list_any (opens c) new.steps) same ∙ only.kept open_now
    still other known (inr ne) = only.opened other ne ∙ known

pub known_then : (a b d : Option WireView) → Both a b OnlyOpened → Both b d OnlyOpened → Both a d OnlyOpened
known_then = both_joined OnlyOpened OnlyOpened OnlyOpened (λ old between new one two. record {
  kept = λ conn known. two.kept conn (one.kept conn known);
  opened = λ conn unknown. two.opened conn (one.opened conn unknown);
  shut = λ conn unknown. two.shut conn (one.opened conn unknown) ∙ one.shut conn unknown;
  gone = λ conn unknown. two.gone conn (one.opened conn unknown) ∙ one.gone conn unknown;
  taken = λ conn. omega (arith, one.taken conn, two.taken conn);
})

pub known_same : (a : Option WireView) → Both a a OnlyOpened
known_same None = tt
known_same (Some old) = record { kept = λ conn known. known; opened = λ conn unknown. unknown; shut = λ conn unknown. refl; gone = λ conn unknown. refl; taken = λ conn. omega arith }

pub known_open : (conn : ℕ) (gone : Bool) (a b : Option WireView) → Told a (λ wire. ConnIsOpen wire conn gone) → Both a b (OnlyOf conn) → Both a b OnlyOpened
known_open conn gone None None is only = tt
known_open conn gone None (Some new) is only = only
known_open conn gone (Some old) None is only = only
known_open conn gone (Some old) (Some new) is only = of_opened conn old new is.opened only

pub known_can : (conn : ℕ) (a b : Option WireView) → Told a (CanBeShut conn) → Both a b (OnlyOf conn) → Both a b OnlyOpened
known_can conn None None is only = tt
known_can conn None (Some new) is only = only
known_can conn (Some old) None is only = only
known_can conn (Some old) (Some new) is only = of_opened conn old new is.opened only

pub taken_only : (conn : ℕ) (answer : Answer) (a b : Option WireView) → Both a b (λ old new. new ≡ after_take conn answer old) → Both a b (OnlyOf conn)
taken_only conn answer None None r = tt
taken_only conn answer None (Some new) r = r
taken_only conn answer (Some old) None r = r
taken_only conn answer (Some old) (Some new) r = subst (OnlyOf conn old) (sym r) (only_taken conn answer old)

pub known_then_ok : {T E : Type 0} (a b d : Option WireView) (result : Result T E) → Both a b OnlyOpened → OnOk result (Both b d OnlyOpened) → OnOk result (Both a d OnlyOpened)
known_then_ok a b d (Ok x) one two = known_then a b d one two
known_then_ok a b d (Err e) one two = tt

pub in_use_open : (hub : HubView) (gone : List Bool) (grant conn : ℕ) (a : Option WireView) → is_taken (stand_at hub grant) ≡ true → conn ≡ conn_at hub grant → Told a (ConnsAreOpen hub gone [])
    → Told a (λ wire. ConnIsOpen wire conn (is_gone gone grant))
in_use_open hub gone grant conn None taken is conns = tt
in_use_open hub gone grant conn (Some wire) taken is conns = subst (λ c. ConnIsOpen wire c (is_gone gone grant)) (sym is) (conns.each grant (inl taken))

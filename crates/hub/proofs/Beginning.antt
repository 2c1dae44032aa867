-- A connection opened: it is admitted, or turned away.
use Rattle.std.proofs.Common.{◌≡◌, ◌≢◌, ℕ, ◌+◌, ◌<◌, Bool, true, false, ◌||◌, List, [], ◌∷◌, length, refl, ap, sym, subst, ◌∙◌, arith, inl, inr, ◌⊎◌}
use Rattle.std.specs.List.{list_any, slice_set}
use Rattle.std.specs.declared.option.Option.{Option}
use Rattle.std.specs.declared.option.Option.TheVariants.{None, Some}
use Rattle.std.proofs.lemmas.Bool.{eq-eqb}
use Rattle.std.proofs.lemmas.List.{get_or-set_same, get_or-set_other}
use Rattle.std.proofs.lemmas.List.Folds.{list_any-append}
use Rattle.base_types.specs.Tellings.{Told, Both}
use Rattle.client_session.specs.Sessions.{is_taken}
use Rattle.wire_port.specs.Steps.{opens, shuts, has_gone, is_gone_step}
use Rattle.wire_port.specs.Steps.Step.{Opened}
use Rattle.wire_port.specs.Wires.{WireView}
use Rattle.wire_port.specs.Calls.{CanBeShut, after_shut}
use Rattle.plays.specs.Stands.{HubView}
use Rattle.plays.proofs.Lists.{false_true}
use Rattle.hub.specs.Served.{ConnIsOpen, ConnsAreOpen, HasBegun, IsInUse, OnlyOf, OpensNow, conn_at, is_gone}
use Rattle.hub.proofs.OnTheWire.{only_shut, same_or, shuts-snoc}

or_true : (b : Bool) → (b || true) ≡ true
or_true true = refl
or_true false = refl

or_false : (b : Bool) → (b || false) ≡ b
or_false true = refl
or_false false = refl

plus_none : (n : ℕ) → n + 0 ≡ n
plus_none n = omega arith

-- the connection that opened is open
new_open : (conn port : ℕ) (hub : HubView) (wire : WireView) → OpensNow conn port hub wire → ConnIsOpen wire conn false
new_open conn port hub wire now = record {
  opened = ap (list_any (opens conn)) now.last ∙ list_any-append (opens conn) now.before (Opened conn port ∷ []) ∙ ap (λ b. list_any (opens conn) now.before || (b || false)) (eq-eqb conn conn refl) ∙ or_true (list_any (opens conn) now.before);
  not_shut = ap (shuts conn) now.last ∙ shuts-snoc conn now.before (Opened conn port) ∙ plus_none (shuts conn now.before) ∙ now.not_shut;
  gone_is = ap (has_gone conn) now.last ∙ list_any-append (is_gone_step conn) now.before (Opened conn port ∷ []) ∙ or_false (has_gone conn now.before) ∙ now.not_gone;
}

pub new_can : (conn port : ℕ) (hub : HubView) (a : Option WireView) → Told a (OpensNow conn port hub) → Told a (CanBeShut conn)
new_can conn port hub None now = tt
new_can conn port hub (Some wire) now = let is : ConnIsOpen wire conn false = new_open conn port hub wire now in record { opened = is.opened; not_shut = is.not_shut }

-- it is turned away
away : (conn port : ℕ) (hub : HubView) (gone : List Bool) (wire : WireView) → OpensNow conn port hub wire → ConnsAreOpen hub gone [] wire → ConnsAreOpen hub gone [] (after_shut conn wire)
away conn port hub gone wire now conns = record {
  each = λ grant used. let is : ConnIsOpen wire (conn_at hub grant) (is_gone gone grant) = conns.each grant used in record {
    opened = only.opened (conn_at hub grant) (apart grant used) ∙ is.opened;
    not_shut = only.shut (conn_at hub grant) (apart grant used) ∙ is.not_shut;
    gone_is = only.gone (conn_at hub grant) (apart grant used) ∙ is.gone_is;
  };
  once = conns.once;
}
  where
    only : OnlyOf conn wire (after_shut conn wire)
    only = only_shut conn wire

    apart : (grant : ℕ) → IsInUse hub [] grant → conn_at hub grant ≢ conn
    apart grant (inl taken) = now.elsewhere grant taken
    apart grant (inr among) = false_true among

pub turned_away : (conn port : ℕ) (hub : HubView) (gone : List Bool) (a b : Option WireView) → Told a (OpensNow conn port hub) → Told a (ConnsAreOpen hub gone []) → Both a b (λ old new. new ≡ after_shut conn old)
    → Told b (ConnsAreOpen hub gone [])
turned_away conn port hub gone a None now conns r = tt
turned_away conn port hub gone None (Some new) now conns r = absurd r
turned_away conn port hub gone (Some old) (Some new) now conns r = subst (ConnsAreOpen hub gone []) (sym r) (away conn port hub gone old now conns)

-- it is admitted
begun : (grant conn port : ℕ) (old new : HubView) (gone : List Bool) (wire : WireView) → grant < length gone → HasBegun grant conn old new → OpensNow conn port old wire
    → ConnsAreOpen old gone [] wire → ConnsAreOpen new (slice_set gone grant false) [] wire
begun grant conn port old new gone wire lt has now conns = record {
  each = λ other used. each other used (same_or other grant);
  once = λ one other used_one used_other same. once one other used_one used_other same (same_or one grant) (same_or other grant);
}
  where
    before : (other : ℕ) → other ≢ grant → IsInUse new [] other → IsInUse old [] other
    before other ne (inl taken) = inl (subst (λ view. is_taken view.session.stand ≡ true) (has.others other ne) taken)
    before other ne (inr among) = inr among

    conn_as : (other : ℕ) → other ≢ grant → conn_at new other ≡ conn_at old other
    conn_as other ne = ap (λ view. view.conn) (has.others other ne)

    each : (other : ℕ) → IsInUse new [] other → (other ≡ grant) ⊎ (other ≢ grant) → ConnIsOpen wire (conn_at new other) (is_gone (slice_set gone grant false) other)
    each other used (inl is) = subst (λ g. ConnIsOpen wire (conn_at new g) (is_gone (slice_set gone grant false) g)) (sym is)
        (subst (λ c. ConnIsOpen wire c (is_gone (slice_set gone grant false) grant)) (sym has.conn_is) (subst (ConnIsOpen wire conn) (sym (get_or-set_same gone grant false false lt)) (new_open conn port old wire now)))
    each other used (inr ne) = subst (λ c. ConnIsOpen wire c (is_gone (slice_set gone grant false) other)) (sym (conn_as other ne))
        (subst (ConnIsOpen wire (conn_at old other)) (sym (get_or-set_other gone grant other false false ne)) (conns.each other (before other ne used)))

    elsewhere : (other : ℕ) → other ≢ grant → IsInUse new [] other → conn_at new other ≡ conn → ⊥
    elsewhere other ne (inl taken) is = now.elsewhere other (subst (λ view. is_taken view.session.stand ≡ true) (has.others other ne) taken) (sym (conn_as other ne) ∙ is)
    elsewhere other ne (inr among) is = false_true among

    once : (one other : ℕ) → IsInUse new [] one → IsInUse new [] other → conn_at new one ≡ conn_at new other → (one ≡ grant) ⊎ (one ≢ grant) → (other ≡ grant) ⊎ (other ≢ grant) → one ≡ other
    once one other used_one used_other same (inl is) (inl also) = is ∙ sym also
    once one other used_one used_other same (inl is) (inr ne) = absurd (elsewhere other ne used_other (sym same ∙ ap (conn_at new) is ∙ has.conn_is))
    once one other used_one used_other same (inr ne) (inl is) = absurd (elsewhere one ne used_one (same ∙ ap (conn_at new) is ∙ has.conn_is))
    once one other used_one used_other same (inr ne) (inr also) = conns.once one other (before one ne used_one) (before other also used_other) (sym (conn_as one ne) ∙ same ∙ conn_as other also)

pub told_begun : (grant conn port : ℕ) (old new : HubView) (gone : List Bool) (a : Option WireView) → grant < length gone → HasBegun grant conn old new → Told a (OpensNow conn port old)
    → Told a (ConnsAreOpen old gone []) → Told a (ConnsAreOpen new (slice_set gone grant false) [])
told_begun grant conn port old new gone None lt has now conns = tt
told_begun grant conn port old new gone (Some wire) lt has now conns = begun grant conn port old new gone wire lt has now conns

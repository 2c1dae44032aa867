-- The open sessions of a hub between two calls, and the connections in use.
use Rattle.std.proofs.Common.{◌≡◌, ℕ, zero, suc, Bool, true, false, ◌||◌, cond, List, [], ◌∷◌, refl, ap, sym, subst, ◌∙◌, arith, inl, inr, nat_eq}
use Rattle.std.specs.List.{slice_index_or}
use Rattle.std.specs.declared.option.Option.{Option}
use Rattle.std.specs.declared.option.Option.TheVariants.{None, Some}
use Rattle.std.proofs.lemmas.Bool.{eqb-true, eq-eqb}
use Rattle.base_types.specs.Tellings.{Told}
use Rattle.client_session.specs.Sessions.{is_taken}
use Rattle.wire_port.specs.Wires.{WireView}
use Rattle.plays.specs.Plays.{is_among}
use Rattle.plays.specs.Stands.{SeatView, HubView}
use Rattle.plays.specs.Outcomes.{EachSeatIsOpen, OnceEach, SeatIsOpen, SeatsOpen, open_conns}
use Rattle.plays.proofs.Lists.{false_true}
use Rattle.session_table.specs.Tables.{no_view, stand_at, view_at}
use Rattle.hub.specs.Served.{AreFlagged, ConnIsOpen, ConnsAreOpen, IsInUse, conn_at, is_gone}

-- ---- from the seats

pub each_at : (wire : WireView) (seats : List SeatView) → EachSeatIsOpen wire seats → (grant : ℕ) → is_taken (slice_index_or seats grant no_view).session.stand ≡ true → SeatIsOpen wire (slice_index_or seats grant no_view)
each_at wire [] each grant open_now = false_true open_now
each_at wire (view ∷ views) each zero open_now = each.0 open_now
each_at wire (view ∷ views) each (suc grant) open_now = each_at wire views each.1 grant open_now

or_true : (b : Bool) → (b || true) ≡ true
or_true true = refl
or_true false = refl

-- the connection of an open seat is among those of the open seats
among_at : (seats : List SeatView) (grant : ℕ) → is_taken (slice_index_or seats grant no_view).session.stand ≡ true → is_among (slice_index_or seats grant no_view).conn (open_conns seats) ≡ true
among_at [] grant open_now = false_true open_now
among_at (view ∷ views) zero open_now = rw (open_now, eq-eqb view.conn view.conn refl) refl
among_at (view ∷ views) (suc grant) open_now = by (is_taken view.session.stand) (among_at views grant open_now)
  where
    by : (b : Bool) → is_among (slice_index_or views grant no_view).conn (open_conns views) ≡ true → is_among (slice_index_or views grant no_view).conn (cond b (view.conn ∷ open_conns views) (open_conns views)) ≡ true
    by true later = ap (λ c. nat_eq view.conn (slice_index_or views grant no_view).conn || c) later ∙ or_true (nat_eq view.conn (slice_index_or views grant no_view).conn)
    by false later = later

once_rest : (view : SeatView) (views : List SeatView) → OnceEach (open_conns (view ∷ views)) → OnceEach (open_conns views)
once_rest view views = by (is_taken view.session.stand)
  where
    by : (b : Bool) → OnceEach (cond b (view.conn ∷ open_conns views) (open_conns views)) → OnceEach (open_conns views)
    by true once = once.1
    by false once = once

once_first : (view : SeatView) (views : List SeatView) → is_taken view.session.stand ≡ true → OnceEach (open_conns (view ∷ views)) → is_among view.conn (open_conns views) ≡ false
once_first view views open_now once = (subst (λ (b : Bool). OnceEach (cond b (view.conn ∷ open_conns views) (open_conns views))) open_now once).0

once_at : (seats : List SeatView) → OnceEach (open_conns seats) → (one other : ℕ) → is_taken (slice_index_or seats one no_view).session.stand ≡ true → is_taken (slice_index_or seats other no_view).session.stand ≡ true
    → (slice_index_or seats one no_view).conn ≡ (slice_index_or seats other no_view).conn → one ≡ other
once_at [] once one other open_one open_other same = false_true open_one
once_at (view ∷ views) once zero zero open_one open_other same = refl
once_at (view ∷ views) once zero (suc other) open_one open_other same =
    false_true (sym (once_first view views open_one once) ∙ ap (λ c. is_among c (open_conns views)) same ∙ among_at views other open_other)
once_at (view ∷ views) once (suc one) zero open_one open_other same =
    false_true (sym (once_first view views open_other once) ∙ ap (λ c. is_among c (open_conns views)) (sym same) ∙ among_at views one open_one)
once_at (view ∷ views) once (suc one) (suc other) open_one open_other same = ap suc (once_at views (once_rest view views once) one other open_one open_other same)

open_by_seats : (hub : HubView) (gone : List Bool) (wire : WireView) → AreFlagged hub gone → SeatsOpen hub wire → ConnsAreOpen hub gone [] wire
open_by_seats hub gone wire flagged seats = record {
  each = λ grant used. each grant used;
  once = λ one other used_one used_other same. once_at hub.seats seats.once one other (only one used_one) (only other used_other) same;
}
  where
    only : (grant : ℕ) → IsInUse hub [] grant → is_taken (stand_at hub grant) ≡ true
    only grant (inl open_now) = open_now
    only grant (inr among) = false_true among

    each : (grant : ℕ) → IsInUse hub [] grant → ConnIsOpen wire (conn_at hub grant) (is_gone gone grant)
    each grant used = let is : SeatIsOpen wire (view_at hub grant) = each_at wire hub.seats seats.each grant (only grant used) in record { opened = is.opened; not_shut = is.not_shut; gone_is = is.gone ∙ flagged grant (only grant used) }

pub told_conns : (hub : HubView) (gone : List Bool) (a : Option WireView) → AreFlagged hub gone → Told a (SeatsOpen hub) → Told a (ConnsAreOpen hub gone [])
told_conns hub gone None flagged seats = tt
told_conns hub gone (Some wire) flagged seats = open_by_seats hub gone wire flagged seats

-- ---- to the seats

pub each_from : (wire : WireView) (seats : List SeatView) → ((grant : ℕ) → is_taken (slice_index_or seats grant no_view).session.stand ≡ true → SeatIsOpen wire (slice_index_or seats grant no_view)) → EachSeatIsOpen wire seats
each_from wire [] each = tt
each_from wire (view ∷ views) each = (each 0, each_from wire views (λ grant. each (suc grant)))

-- a connection among those of the open seats is an open seat's
record At (seats : List SeatView) (conn : ℕ) : Type 0 where
  grant : ℕ
  open_now : is_taken (slice_index_or seats grant no_view).session.stand ≡ true
  conn_is : (slice_index_or seats grant no_view).conn ≡ conn

at_among : (seats : List SeatView) (conn : ℕ) → is_among conn (open_conns seats) ≡ true → At seats conn
at_among [] conn among = false_true among
at_among (view ∷ views) conn among = by (is_taken view.session.stand) refl (at_among views conn) among
  where
    later : At views conn → At (view ∷ views) conn
    later found = record { grant = suc found.grant; open_now = found.open_now; conn_is = found.conn_is }

    first : is_taken view.session.stand ≡ true → (b : Bool) → nat_eq view.conn conn ≡ b → (is_among conn (open_conns views) ≡ true → At views conn) → (b || is_among conn (open_conns views)) ≡ true → At (view ∷ views) conn
    first open_now true same find among = record { grant = 0; open_now = open_now; conn_is = eqb-true view.conn conn same }
    first open_now false same find among = later (find among)

    by : (b : Bool) → is_taken view.session.stand ≡ b → (is_among conn (open_conns views) ≡ true → At views conn) → is_among conn (cond b (view.conn ∷ open_conns views) (open_conns views)) ≡ true → At (view ∷ views) conn
    by true is find among = first is (nat_eq view.conn conn) refl find among
    by false is find among = later (find among)

suc_same : (one other : ℕ) → suc one ≡ suc other → one ≡ other
suc_same one other is = omega (arith, is)

zero_suc : {A : Type 0} (n : ℕ) → 0 ≡ suc n → A
zero_suc n is = absurd (omega (arith, is))

pub once_from : (seats : List SeatView) → ((one other : ℕ) → is_taken (slice_index_or seats one no_view).session.stand ≡ true → is_taken (slice_index_or seats other no_view).session.stand ≡ true
    → (slice_index_or seats one no_view).conn ≡ (slice_index_or seats other no_view).conn → one ≡ other) → OnceEach (open_conns seats)
once_from [] once = tt
once_from (view ∷ views) once = by (is_taken view.session.stand) refl (once_from views (λ one other open_one open_other same. suc_same one other (once (suc one) (suc other) open_one open_other same)))
  where
    none : is_taken view.session.stand ≡ true → (b : Bool) → is_among view.conn (open_conns views) ≡ b → b ≡ false
    none open_now true is = let found : At views view.conn = at_among views view.conn is in zero_suc found.grant (once 0 (suc found.grant) open_now found.open_now (sym found.conn_is))
    none open_now false is = refl

    by : (b : Bool) → is_taken view.session.stand ≡ b → OnceEach (open_conns views) → OnceEach (cond b (view.conn ∷ open_conns views) (open_conns views))
    by true is rest = (none is (is_among view.conn (open_conns views)) refl, rest)
    by false is rest = rest

seats_by_open : (hub : HubView) (gone : List Bool) (wire : WireView) → AreFlagged hub gone → ConnsAreOpen hub gone [] wire → SeatsOpen hub wire
seats_by_open hub gone wire flagged conns = record {
  each = each_from wire hub.seats (λ grant open_now. let is : ConnIsOpen wire (conn_at hub grant) (is_gone gone grant) = conns.each grant (inl open_now) in record { opened = is.opened; not_shut = is.not_shut; gone = is.gone_is ∙ sym (flagged grant open_now) });
  once = once_from hub.seats (λ one other open_one open_other same. conns.once one other (inl open_one) (inl open_other) same);
}

pub told_seats : (hub : HubView) (gone : List Bool) (a : Option WireView) → AreFlagged hub gone → Told a (ConnsAreOpen hub gone []) → Told a (SeatsOpen hub)
told_seats hub gone None flagged conns = tt
told_seats hub gone (Some wire) flagged conns = seats_by_open hub gone wire flagged conns

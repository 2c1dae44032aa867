-- Seats in a list: of one seat, and of all.
use Rattle.std.proofs.Common.{◌≡◌, ℕ, zero, suc, ◌+◌, ◌<◌, ◌≤◌, Bool, true, false, List, [], ◌∷◌, ◌++◌, length, map, take, drop, refl, ap, sym, subst, ◌∙◌, arith}
use Rattle.std.specs.List.{slice_index_or, slice_set}
use Rattle.std.proofs.lemmas.List.{set-get_or, drop_more}
use Rattle.std.proofs.Math.ListN.{get_or-map}
use Rattle.client_session.specs.Sessions.{is_here}
use Rattle.plays.specs.Plays.{SessionEnd}
use Rattle.plays.specs.Schedule.{with_ready}
use Rattle.plays.specs.Stands.{SeatView}
use Rattle.session_table.specs.declared.Ended.{Ended}
use Rattle.session_table.specs.Shown.{session_end}
use Rattle.session_table.specs.Tables.{TableView, no_view, stand_at, view_at, with_reply}
use Rattle.hub.specs.Served.{quieted, with_seats, ready_as, grants_of}

-- ---- one seat is quieted

pub quieted_here : (view : SeatView) → is_here view.session.stand ≡ true → quieted view ≡ view
quieted_here view h = rw h refl

pub quieted_away : (view : SeatView) → is_here view.session.stand ≡ false → quieted view ≡ record view { session = record view.session { reply = [] } }
quieted_away view h = rw h refl

pub here_as_was : {C : Type 0} (table : TableView C) (grant : ℕ) → is_here (stand_at table.hub grant) ≡ true → table ≡ with_seats (slice_set table.hub.seats grant (quieted (view_at table.hub grant))) table
here_as_was table grant h = ap (λ seats. with_seats seats table) (sym (ap (slice_set table.hub.seats grant) (quieted_here (view_at table.hub grant) h) ∙ set-get_or table.hub.seats grant no_view))

pub away_quiet : {C : Type 0} (table : TableView C) (grant : ℕ) → is_here (stand_at table.hub grant) ≡ false
    → record table { hub = with_reply grant [] table.hub } ≡ with_seats (slice_set table.hub.seats grant (quieted (view_at table.hub grant))) table
away_quiet table grant h = ap (λ view. with_seats (slice_set table.hub.seats grant view) table) (sym (quieted_away (view_at table.hub grant) h))

-- ---- all of them, one after another

map_ahead : {A : Type 0} (f : A → A) (xs : List A) (at : ℕ) (d : A) → at < length xs
    → take (suc at) (slice_set xs at (f (slice_index_or xs at d))) ++ map f (drop (suc at) (slice_set xs at (f (slice_index_or xs at d)))) ≡ take at xs ++ map f (drop at xs)
map_ahead f [] at d lt = absurd (omega arith)
map_ahead f (x ∷ xs) zero d lt = refl
map_ahead f (x ∷ xs) (suc at) d lt = ap (λ l. x ∷ l) (map_ahead f xs at d (omega arith))

whole : {A : Type 0} (f : A → A) (xs : List A) (at : ℕ) → length xs ≤ at → take at xs ++ map f (drop at xs) ≡ xs
whole f [] zero h = refl
whole f [] (suc at) h = refl
whole f (x ∷ xs) zero h = absurd (omega arith)
whole f (x ∷ xs) (suc at) h = ap (λ l. x ∷ l) (whole f xs at (omega arith))

next_one : (at : ℕ) → suc at ≡ at + 1
next_one at = omega arith

pub length-set : {A : Type 0} (xs : List A) (at : ℕ) (y : A) → length (slice_set xs at y) ≡ length xs
length-set [] at y = refl
length-set (x ∷ xs) zero y = refl
length-set (x ∷ xs) (suc at) y = ap suc (length-set xs at y)

-- so many were quieted
pub record Quieting {C : Type 0} (first : TableView C) (at : ℕ) (now : TableView C) : Type 0 where
  pub seats : take at now.hub.seats ++ map quieted (drop at now.hub.seats) ≡ map quieted first.hub.seats
  pub table : now ≡ with_seats now.hub.seats first
  pub count : length now.hub.seats ≡ length first.hub.seats

pub quiet_first : {C : Type 0} (first : TableView C) → Quieting first 0 first
quiet_first first = record { seats = refl; table = refl; count = refl }

pub quiet_more : {C : Type 0} (first now next : TableView C) (at : ℕ) → at < length first.hub.seats → Quieting first at now
    → next ≡ with_seats (slice_set now.hub.seats at (quieted (view_at now.hub at))) now → Quieting first (at + 1) next
quiet_more first now next at lt q is = subst (λ n. Quieting first n next) (next_one at) (subst (Quieting first (suc at)) (sym is) (record {
  seats = map_ahead quieted now.hub.seats at no_view (omega (arith, q.count)) ∙ q.seats;
  table = ap (with_seats (slice_set now.hub.seats at (quieted (view_at now.hub at)))) q.table;
  count = length-set now.hub.seats at (quieted (view_at now.hub at)) ∙ q.count;
}))

pub quiet_done : {C : Type 0} (first now : TableView C) (at : ℕ) → length first.hub.seats ≤ at → Quieting first at now → now ≡ with_seats (map quieted first.hub.seats) first
quiet_done first now at le q = q.table ∙ ap (λ seats. with_seats seats first) (sym (whole quieted now.hub.seats at (omega (arith, q.count))) ∙ q.seats)

-- ---- sessions that are let go, one after another

pub nothing_left : {A : Type 0} (xs : List A) (at : ℕ) → length xs ≤ at → drop at xs ≡ []
nothing_left [] zero h = refl
nothing_left [] (suc at) h = refl
nothing_left (x ∷ xs) zero h = absurd (omega arith)
nothing_left (x ∷ xs) (suc at) h = nothing_left xs at (omega arith)

pub record LettingGo {C : Type 0} (first : TableView C) (ready : List Bool) (at : ℕ) (now : TableView C) : Type 0 where
  pub table : now ≡ ready_as now.hub.ready first
  pub ready_is : with_ready false (grants_of (drop at first.hub.ended)) now.hub.ready ≡ ready

pub lets_first : {C : Type 0} (first : TableView C) (at : ℕ) → LettingGo first (with_ready false (grants_of (drop at first.hub.ended)) first.hub.ready) at first
lets_first first at = record { table = refl; ready_is = refl }

pub lets_more : {C : Type 0} (first now next : TableView C) (ready : List Bool) (at : ℕ) (ended : SessionEnd) → drop at now.hub.ended ≡ ended ∷ drop (at + 1) now.hub.ended
    → LettingGo first ready at now → next ≡ ready_as (slice_set now.hub.ready ended.grant false) now → LettingGo first ready (at + 1) next
lets_more first now next ready at ended there l is = subst (LettingGo first ready (at + 1)) (sym is) (record {
  table = ap (ready_as (slice_set now.hub.ready ended.grant false)) l.table;
  ready_is = ap (λ list. with_ready false (grants_of (drop (at + 1) list)) (slice_set now.hub.ready ended.grant false)) (sym (ap (λ table. table.hub.ended) l.table))
      ∙ ap (λ list. with_ready false (grants_of list) now.hub.ready) (sym there ∙ ap (λ table. drop at table.hub.ended) l.table) ∙ l.ready_is;
})

pub lets_done : {C : Type 0} (first now : TableView C) (ready : List Bool) (at : ℕ) → length first.hub.ended ≤ at → LettingGo first ready at now → now ≡ ready_as ready first
lets_done first now ready at le l = l.table ∙ ap (λ flags. ready_as flags first) (ap (λ list. with_ready false (grants_of list) now.hub.ready) (sym (nothing_left first.hub.ended at le)) ∙ l.ready_is)

-- ---- sessions that ended

pub ended_next : (list : List Ended) (at : ℕ) (d : Ended) (ends : List SessionEnd) → map session_end list ≡ ends → at < length ends
    → drop at ends ≡ session_end (slice_index_or list at d) ∷ drop (at + 1) ends
ended_next list at d ends is lt = drop_more ends at (session_end d) lt ∙ ap (λ first. first ∷ drop (at + 1) ends) (ap (λ l. slice_index_or l at (session_end d)) (sym is) ∙ get_or-map session_end list at d)

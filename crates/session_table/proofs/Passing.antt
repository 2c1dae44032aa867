-- What happens to all sessions in one call after another.
use Rattle.std.proofs.Common.{◌≡◌, ◌≤◌, ◌<◌, ℕ, Bool, true, false, List, [], ◌∷◌, ◌++◌, map, length, refl, ap, sym, ◌∙◌, subst, arith, append_assoc, inl, inr, length-append}
use Rattle.std.specs.List.{slice_index_or}
use Rattle.std.proofs.lemmas.List.{append-nil, get_or-map, length-map}
use Rattle.std.proofs.lemmas.Bool.Decides.{eqb_tells}
use Rattle.client_session.specs.declared.Stand.{Stand}
use Rattle.client_session.specs.Sessions.{SessionView, is_in_line, is_leaving, is_taken}
use Rattle.plays.specs.Plays.{SessionEnd}
use Rattle.session_table.specs.declared.seats.Seat.{Seat as Entry}
use Rattle.session_table.specs.declared.seats.Seats.{Seats}
use Rattle.session_table.specs.Shown.{session_end}
use Rattle.session_table.specs.AtDesk.{EachEndedThere, EachReady, EndsMore, KeepsSeats, LineWent, OneWent, SeatsWent, entry, no_entry, stands_at}

pub kept_none : (seats : Seats) → KeepsSeats seats seats
kept_none seats = record { layout = refl; vector = refl; trst = refl; conns = refl; flags = refl }

pub kept_both : (old mid new : Seats) → KeepsSeats old mid → KeepsSeats mid new → KeepsSeats old new
kept_both old mid new a b = record { layout = b.layout ∙ a.layout; vector = b.vector ∙ a.vector; trst = b.trst ∙ a.trst; conns = b.conns ∙ a.conns; flags = b.flags ∙ a.flags }

pub kept_length : (old new : Seats) → KeepsSeats old new → length new.list.items ≡ length old.list.items
kept_length old new kept = sym (length-map new.list.items (λ (e : Entry). e.conn)) ∙ ap length kept.conns ∙ length-map old.list.items (λ (e : Entry). e.conn)

pub kept_conn : (old new : Seats) → KeepsSeats old new → (grant : ℕ) → grant < length old.list.items → (entry new grant).conn ≡ (entry old grant).conn
kept_conn old new kept grant lt =
    sym (get_or-map (λ (e : Entry). e.conn) new.list.items grant no_entry 0 (omega (arith, lt, kept_length old new kept)))
    ∙ ap (λ xs. slice_index_or xs grant 0) kept.conns ∙ get_or-map (λ (e : Entry). e.conn) old.list.items grant no_entry 0 lt

free_not_line : (s : Stand) → is_taken s ≡ false → is_in_line s ≡ false
free_not_line Stand.Free h = refl
free_not_line Stand.Going h = refl
free_not_line Stand.Waits h = h
free_not_line Stand.Leaving h = h

append_each : (old new : Seats) (xs ys : List SessionEnd) → EachEndedThere old new xs → EachEndedThere old new ys → EachEndedThere old new (xs ++ ys)
append_each old new [] ys a b = b
append_each old new (x ∷ xs) ys a b = (a.0, append_each old new xs ys a.1 b)

module _ (old mid new : Seats) (kept : KeepsSeats old mid) (later : LineWent mid new) where
  -- what ended stays free
  still_free : (grant : ℕ) → is_taken (stands_at mid grant) ≡ false → is_taken (stands_at new grant) ≡ false
  still_free grant free = ap (λ (v : SessionView). is_taken v.stand) (later.others grant (free_not_line (stands_at mid grant) free)) ∙ free

  first_each : (xs : List SessionEnd) → EachEndedThere old mid xs → EachEndedThere old new xs
  first_each [] each = tt
  first_each (x ∷ xs) each = (record { there = each.0.there; open_before = each.0.open_before; free = still_free x.grant each.0.free; conn = each.0.conn }, first_each xs each.1)

  then_each : ((grant : ℕ) → is_taken (stands_at mid grant) ≡ true → is_taken (stands_at old grant) ≡ true) → (xs : List SessionEnd) → EachEndedThere mid new xs → EachEndedThere old new xs
  then_each was [] each = tt
  then_each was (x ∷ xs) each =
      let lt : x.grant < length old.list.items = (let there = each.0.there in omega (arith, there, kept_length old mid kept)) in
      (record { there = lt; open_before = was x.grant each.0.open_before; free = each.0.free; conn = each.0.conn ∙ kept_conn old mid kept x.grant lt }, then_each was xs each.1)

  pub ends_later : EndsMore old mid → ((grant : ℕ) → is_taken (stands_at mid grant) ≡ true → is_taken (stands_at old grant) ≡ true) → EndsMore old new
  ends_later first was = record {
    more = first.more ++ later.ends.more;
    ended = later.ends.ended ∙ ap (λ xs. xs ++ later.ends.more) first.ended ∙ append_assoc (map session_end old.ended.items) first.more later.ends.more;
    each = append_each old new first.more later.ends.more (first_each first.more first.each) (then_each was later.ends.more later.ends.each);
  }

  pub line_both : LineWent old mid → LineWent old new
  line_both first = record {
    line = λ other up.
        let b = later.line other up in
        let a = first.line other b.0 in
        (a.0, b.1 ∙ a.1);
    others = λ other h. later.others other (ap (λ (v : SessionView). is_in_line v.stand) (first.others other h) ∙ h) ∙ first.others other h;
    ends = ends_later first.ends (λ grant up. (first.line grant up).0);
  }

pub line_none : (seats : Seats) → LineWent seats seats
line_none seats = record {
  line = λ other up. (up, refl);
  others = λ other h. refl;
  ends = record { more = []; ended = sym (append-nil (map session_end seats.ended.items)); each = tt };
}

-- ---- one went, and then those in line

module _ (grant : ℕ) (gone : Bool) (old mid new : Seats) (kept : KeepsSeats old mid) (later : LineWent mid new) where
  pub seats_went : is_taken (stands_at old grant) ≡ true → OneWent grant gone old mid → mid.ready ≡ old.ready → EachReady mid new → SeatsWent grant gone old new
  seats_went taken first flags ready = record {
    own = λ up. let b = later.line grant up in b.1 ∙ first.own b.0;
    line = λ other n up.
        let b = later.line other up in
        let same : stands_at mid other ≡ stands_at old other = ap (λ (v : SessionView). v.stand) (first.others other n) in
        (ap is_taken (sym same) ∙ b.0, b.1 ∙ ap is_leaving same);
    others = λ other n h. later.others other (ap (λ (v : SessionView). is_in_line v.stand) (first.others other n) ∙ h) ∙ first.others other n;
    ends = ends_later old mid new kept later first.ends (λ other up. elim (eqb_tells other grant) [
      | inl e ↦ subst (λ g. is_taken (stands_at old g) ≡ true) (sym e.1) taken
      | inr n ↦ ap (λ (v : SessionView). is_taken v.stand) (sym (first.others other n.1)) ∙ up
    ]);
    ready = λ other n going.
        let now = ready other going in
        let line : is_in_line (stands_at mid other) ≡ is_in_line (stands_at old other) = ap (λ (v : SessionView). is_in_line v.stand) (first.others other n) in
        record { went = λ h. now.went (line ∙ h); stayed = λ h. now.stayed (line ∙ h) ∙ ap (λ (v : _). slice_index_or v.items other false) flags };
  }

-- no session that ended is forgotten
pub ends_longer : (old new : Seats) → EndsMore old new → length old.ended.items ≤ length new.ended.items
ends_longer old new ends =
    let e = ap length ends.ended in
    omega (arith, e, length-append (map session_end old.ended.items) ends.more, length-map old.ended.items session_end, length-map new.ended.items session_end)

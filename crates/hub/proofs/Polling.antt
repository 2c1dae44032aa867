-- What a `poll` leaves open, and what the hub may be told of what it finds.
use Rattle.std.proofs.Common.{◌≡◌, ℕ, ◌+◌, Bool, true, false, ◌||◌, List, [], ◌∷◌, ◌++◌, refl, ap, sym, subst, ◌∙◌, arith}
use Rattle.std.proofs.lemmas.List.Folds.{list_any-append}
use Rattle.std.specs.List.{list_any}
use Rattle.std.specs.declared.result.Result.{Result}
use Rattle.std.specs.declared.result.Result.TheVariants.{Ok, Err}
use Rattle.std.specs.declared.option.Option.{Option}
use Rattle.std.specs.declared.option.Option.TheVariants.{None, Some}
use Rattle.base_types.specs.Tellings.{Told, Both}
use Rattle.client_session.specs.declared.Stand.TheVariants as stand
use Rattle.client_session.specs.Sessions.{is_taken}
use Rattle.wire_port.specs.Steps.{opens, shuts, has_gone, is_gone_step}
use Rattle.wire_port.specs.Steps.Step.{Opened}
use Rattle.wire_port.specs.Wires.{WireView}
use Rattle.wire_port.specs.declared.wire.Found.{Found}
use Rattle.wire_port.specs.declared.wire.Found.TheVariants as found
use Rattle.wire_port.specs.declared.wire.PollFault.{PollFault}
use Rattle.wire_port.specs.Calls.{OpensFresh, after_poll}
use Rattle.plays.specs.Stands.{SeatView, HubView}
use Rattle.plays.specs.Outcomes.{EachSeatIsOpen, SeatIsOpen, SeatsOpen}
use Rattle.plays.proofs.Lists.{false_true}
use Rattle.session_table.specs.Tables.{stand_at, reply_at, view_at}
use Rattle.hub.specs.Served.{OnlyOpened, OnlyTellsOpened, OpensIn}
use Rattle.hub.proofs.OnTheWire.{shuts-snoc, told_by}
use Rattle.hub.proofs.Between.{each_at, each_from, once_from}

or_false : (b : Bool) → (b || false) ≡ b
or_false true = refl
or_false false = refl

or_left : (b other : Bool) → (b || other) ≡ false → b ≡ false
or_left true other is = is
or_left false other is = refl

plus_none : (n : ℕ) → n + 0 ≡ n
plus_none n = omega arith

-- a connection opened at most
record Grows (old new : WireView) : Type 0 where
  kept : (conn : ℕ) → list_any (opens conn) old.steps ≡ true → list_any (opens conn) new.steps ≡ true
  before : (conn : ℕ) → list_any (opens conn) new.steps ≡ false → list_any (opens conn) old.steps ≡ false
  shut : (conn : ℕ) → shuts conn new.steps ≡ shuts conn old.steps
  gone : (conn : ℕ) → has_gone conn new.steps ≡ has_gone conn old.steps

grows_same : (old new : WireView) → new.steps ≡ old.steps → Grows old new
grows_same old new is = record {
  kept = λ conn known. ap (list_any (opens conn)) is ∙ known;
  before = λ conn unknown. ap (list_any (opens conn)) (sym is) ∙ unknown;
  shut = λ conn. ap (shuts conn) is;
  gone = λ conn. ap (has_gone conn) is;
}

grows_opened : (opened port : ℕ) (old new : WireView) → new.steps ≡ old.steps ++ Opened opened port ∷ [] → Grows old new
grows_opened opened port old new is = record {
  kept = λ conn known. ap (list_any (opens conn)) is ∙ list_any-append (opens conn) old.steps (Opened opened port ∷ []) ∙ rw known refl;
  before = λ conn unknown. or_left (list_any (opens conn) old.steps) (list_any (opens conn) (Opened opened port ∷ [])) (sym (list_any-append (opens conn) old.steps (Opened opened port ∷ [])) ∙ sym (ap (list_any (opens conn)) is) ∙ unknown);
  shut = λ conn. ap (shuts conn) is ∙ shuts-snoc conn old.steps (Opened opened port) ∙ plus_none (shuts conn old.steps);
  gone = λ conn. ap (has_gone conn) is ∙ list_any-append (is_gone_step conn) old.steps (Opened opened port ∷ []) ∙ or_false (has_gone conn old.steps);
}

grows : (result : Result Found PollFault) (old : WireView) → Grows old (after_poll result old)
grows (Ok (found.Opened conn port)) old = grows_opened conn port old _ refl
grows (Ok (found.Ready conn)) old = grows_same old _ refl
grows (Ok (found.Room conn)) old = grows_same old _ refl
grows (Ok found.Nothing) old = grows_same old _ refl
grows (Ok found.End) old = grows_same old _ refl
grows (Err fault) old = grows_same old _ refl

each_grown : (old new : WireView) → Grows old new → (seats : List SeatView) → EachSeatIsOpen old seats → EachSeatIsOpen new seats
each_grown old new grown [] each = tt
each_grown old new grown (view ∷ views) each = (λ taken. one (each.0 taken), each_grown old new grown views each.1)
  where
    one : SeatIsOpen old view → SeatIsOpen new view
    one is = record { opened = grown.kept view.conn is.opened; not_shut = grown.shut view.conn ∙ is.not_shut; gone = grown.gone view.conn ∙ is.gone }

-- the open sessions' connections stay open
pub polled_seats : (hub : HubView) (result : Result Found PollFault) (a b : Option WireView) → Told a (SeatsOpen hub) → Both a b (λ old new. new ≡ after_poll result old) → Told b (SeatsOpen hub)
polled_seats hub result a b seats polled = told_by a b seats polled (λ old new is r. subst (SeatsOpen hub) (sym r) (record { each = each_grown old (after_poll result old) (grows result old) hub.seats is.each; once = is.once }))

polled_one : (result : Result Found PollFault) (old : WireView) → OnlyTellsOpened old → OnlyTellsOpened (after_poll result old)
polled_one result old only = let grown : Grows old (after_poll result old) = grows result old in record {
  gone = λ conn unknown. grown.gone conn ∙ only.gone conn (grown.before conn unknown);
  shut = λ conn unknown. grown.shut conn ∙ only.shut conn (grown.before conn unknown);
}

pub polled_tells : (result : Result Found PollFault) (a b : Option WireView) → Told a OnlyTellsOpened → Both a b (λ old new. new ≡ after_poll result old) → Told b OnlyTellsOpened
polled_tells result a b only polled = told_by a b only polled (λ old new is r. subst OnlyTellsOpened (sym r) (polled_one result old is))

in_one : (hub : HubView) (found : Found) (old : WireView) → SeatsOpen hub old → OnlyTellsOpened old → OpensFresh (Ok found) old → OpensIn found hub (after_poll (Ok found) old)
in_one hub (found.Opened conn port) old seats only fresh = record {
  before = old.steps;
  last = refl;
  not_gone = only.gone conn fresh;
  not_shut = only.shut conn fresh;
  elsewhere = λ grant taken same. let is : SeatIsOpen old (view_at hub grant) = each_at old hub.seats seats.each grant taken in
      false_true (sym fresh ∙ ap (λ c. list_any (opens c) old.steps) (sym same) ∙ is.opened);
}
in_one hub (found.Ready conn) old seats only fresh = tt
in_one hub (found.Room conn) old seats only fresh = tt
in_one hub found.Nothing old seats only fresh = tt
in_one hub found.End old seats only fresh = tt

-- a connection that is found opened just now
pub polled_in : (hub : HubView) (found : Found) (a b : Option WireView) → Told a (SeatsOpen hub) → Told a OnlyTellsOpened → Told a (OpensFresh (Ok found)) → Both a b (λ old new. new ≡ after_poll (Ok found) old) → Told b (OpensIn found hub)
polled_in hub found None None seats only fresh polled = tt
polled_in hub found None (Some new) seats only fresh polled = absurd polled
polled_in hub found (Some old) None seats only fresh polled = absurd polled
polled_in hub found (Some old) (Some new) seats only fresh polled = subst (OpensIn found hub) (sym polled) (in_one hub found old seats only fresh)

-- a call that tells of opened connections alone tells of no other after it
pub served_tells : (a b : Option WireView) → Told a OnlyTellsOpened → Both a b OnlyOpened → Told b OnlyTellsOpened
served_tells a b only known = told_by a b only known one
  where
    before : (old new : WireView) → OnlyOpened old new → (conn : ℕ) → (is : Bool) → list_any (opens conn) old.steps ≡ is → list_any (opens conn) new.steps ≡ false → is ≡ false
    before old new known conn true is unknown = sym (known.kept conn is) ∙ unknown
    before old new known conn false is unknown = refl

    one : (old new : WireView) → OnlyTellsOpened old → OnlyOpened old new → OnlyTellsOpened new
    one old new only known = record {
      gone = λ conn unknown. let was : list_any (opens conn) old.steps ≡ false = before old new known conn (list_any (opens conn) old.steps) refl unknown in known.gone conn was ∙ only.gone conn was;
      shut = λ conn unknown. let was : list_any (opens conn) old.steps ≡ false = before old new known conn (list_any (opens conn) old.steps) refl unknown in known.shut conn was ∙ only.shut conn was;
    }

-- sessions that are all free
pub free_seats : (hub : HubView) → ((grant : ℕ) → (stand_at hub grant ≡ stand.Free) × (reply_at hub grant ≡ [])) → (a : Option WireView) → Told a (SeatsOpen hub)
free_seats hub free None = tt
free_seats hub free (Some wire) = record {
  each = each_from wire hub.seats (λ grant taken. false_true (sym (ap is_taken (free grant).0) ∙ taken));
  once = once_from hub.seats (λ one other taken_one taken_other same. false_true (sym (ap is_taken (free one).0) ∙ taken_one));
}

-- a wire before its first step
pub new_tells : (wire : WireView) → wire.steps ≡ [] → OnlyTellsOpened wire
new_tells wire is = record { gone = λ conn unknown. ap (has_gone conn) is; shut = λ conn unknown. ap (shuts conn) is }

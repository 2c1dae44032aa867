-- Who captures and who begins to wait, in the order of a play. The marks are read off the steps that the seats take.
use Rattle.std.specs.Prelude.{ℕ, zero, suc, ◌≡◌, ◌≤◌, Bool, true, false, ◌==◌, List, [], ◌∷◌, ◌++◌, if◌then◌else◌}
use Rattle.std.specs.declared.option.Option.{Option}
use Rattle.std.specs.declared.option.Option.TheVariants.{None, Some}
use Rattle.base_types.specs.Counts.{raised}
use Rattle.client_session.specs.Seats.{steps_left, opens_next}
use Rattle.client_session.specs.Turns.{Turn, may_open, is_among}
use Rattle.wire_port.specs.Steps.{Step}
use Rattle.plays.specs.Plays.{Setting, Play, SeatChange, seat_at, with_seat, turn_at, advanced_at, go, next_in_line, handed_on_once, all_steps_left, change_by, after_step, start, played}

-- a grant joined the end of those that wait, or captured
pub data Mark : Type 0 where
  Joined : (grant : ℕ) → Mark
  Captured : (grant : ℕ) → Mark

-- the mark of one step of a grant, by whether it opens a scan, whether the grant may open one, and whether it waits already
abbrev pub mark_as : (opens may waits : Bool) → ℕ → List Mark
mark_as false may waits grant = []
mark_as true true waits grant = Captured grant ∷ []
mark_as true false true grant = []
mark_as true false false grant = Joined grant ∷ []

-- the mark that a grant's next step leaves
abbrev pub mark_of : ℕ → Turn → List Mark
mark_of grant turn = mark_as (opens_next turn.seat) (may_open turn.holder turn.waiting grant) (is_among grant turn.waiting) grant

-- the marks of so many steps of a grant
abbrev pub marks_times : ℕ → Setting → ℕ → Play → List Mark
marks_times zero setting grant play = []
marks_times (suc times) setting grant play = mark_of grant (turn_at play grant) ++ marks_times times setting grant (advanced_at setting grant play)

-- the marks of a grant that goes on until nothing is left to do, or it waits
abbrev pub marks_going : Setting → ℕ → Play → List Mark
marks_going setting grant play = marks_times (steps_left (seat_at play grant)) setting grant play

-- the marks of a grant that goes on, where there is one
abbrev pub marks_if : Option ℕ → Setting → Play → List Mark
marks_if None setting play = []
marks_if (Some grant) setting play = marks_going setting grant play

-- the marks while the chain is handed on
abbrev pub marks_handed_on : ℕ → Setting → Play → List Mark
marks_handed_on zero setting play = []
marks_handed_on (suc times) setting play = marks_if (next_in_line play.holder play.waiting) setting play ++ marks_handed_on times setting (handed_on_once setting play)

-- the marks of a grant that goes on, and of those that the chain is handed on to
abbrev pub marks_moved : Setting → ℕ → Play → List Mark
marks_moved setting grant play = marks_going setting grant play ++ marks_handed_on (all_steps_left (go setting grant play).seats) setting (go setting grant play)

-- the marks after a seat was changed
abbrev pub marks_after_change : Setting → Play → Option SeatChange → List Mark
marks_after_change setting play None = []
marks_after_change setting play (Some change) = marks_moved setting change.grant (with_seat change.grant change.seat play)

-- the marks of steps in order, from a play on
abbrev pub marks_after : Setting → List Step → Play → List Mark
marks_after setting [] play = []
marks_after setting (step ∷ steps) play = marks_after_change setting play (change_by setting play step) ++ marks_after setting steps (after_step setting play step)

-- the marks of a play
abbrev pub marks : Setting → List Step → List Mark
marks setting steps = marks_after setting steps (start setting)

-- how often a grant captures
abbrev pub captures_of : ℕ → List Mark → ℕ
captures_of grant [] = 0
captures_of grant (Joined other ∷ marks) = captures_of grant marks
captures_of grant (Captured other ∷ marks) = if other == grant then suc (captures_of grant marks) else captures_of grant marks

-- a count of joins, after those that these marks add
abbrev pub joins_after : ℕ → List Mark → ℕ
joins_after joins [] = joins
joins_after joins (Joined grant ∷ marks) = joins_after (raised joins 1) marks
joins_after joins (Captured grant ∷ marks) = joins_after joins marks

-- in every play the count of joins is that of the marks
abbrev pub JoinsAreMarked : Type 0
JoinsAreMarked = (setting : Setting) (steps : List Step) → (played setting steps).joins ≡ joins_after 0 (marks setting steps)

-- from where a grant joins those that wait to its own next capture, no grant captures twice
abbrev pub NoneTwice : List Mark → Type 0
NoneTwice marks = (front middle back : List Mark) (grant other : ℕ) → marks ≡ front ++ Joined grant ∷ (middle ++ back) → captures_of grant middle ≡ 0 → captures_of other middle ≤ 1

-- in every play
abbrev pub EachWaitsOneCaptureOfAnother : Type 0
EachWaitsOneCaptureOfAnother = (setting : Setting) (steps : List Step) → NoneTwice (marks setting steps)

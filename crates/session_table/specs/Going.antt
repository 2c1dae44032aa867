-- The sessions of all grants and a play, while the chain is handed on.
use Rattle.std.specs.Prelude.{ℕ, ◌≡◌, ◌<◌, true, false, List, ◌++◌, drop, map, length}
use Rattle.std.specs.declared.option.Option.{Option}
use Rattle.std.specs.declared.option.Option.TheVariants.{None, Some}
use Rattle.base_types.specs.Counts.{raised}
use Rattle.chain_model.specs.Chains.{ChainState}
use Rattle.chain_token.specs.declared.token.Token.{Token}
use Rattle.chain_token.specs.Tokens.{holder, waiting}
use Rattle.scan_share.specs.Scans.{IsWhole, IsWithin}
use Rattle.scan_share.specs.Views.{ParkedView, OpenView}
use Rattle.client_session.specs.Seats.{finished, replies_now}
use Rattle.client_session.specs.Sessions.{IsPrefix}
use Rattle.plays.specs.Plays.{Setting, Play, SessionEnd, SeatChange, after_change, seat_at, handed_on, is_waiting, handed_on_times, next_in_line}
use Rattle.plays.specs.Schedule.{going_on, going_on_from, went_on, with_ready}
use Rattle.plays.specs.Alone.{Holds}
use Rattle.plays.specs.Stands.{ChainStands}
use Rattle.session_table.specs.declared.seats.Seats.{Seats}
use Rattle.session_table.specs.Tables.{IsCalm, IsUnderWay, SeatShown, ready_then}
use Rattle.session_table.specs.Shown.{seat_view, session_end}
use Rattle.session_table.specs.AtDesk.{entry, session_at}

-- the sessions, the desk and the chain stand for a play, in which the chain may still have to be handed on
pub record Attends (setting : Setting) (seats : Seats) (holds : Option ℕ) (waits : List ℕ) (given : ℕ → List ℕ) (chain : ChainState) (play : Play) : Type 0 where
  pub layout : seats.layout ≡ setting.layout
  pub vector : seats.vector ≡ setting.vector
  pub trst : seats.uses_trst ≡ setting.uses_trst
  pub holder_is : holds ≡ play.holder
  pub waiting_is : waits ≡ play.waiting
  pub joins : seats.joins ≡ play.joins
  pub shown : (grant : ℕ) → grant < length setting.layout.grants → SeatShown (seat_view (entry seats grant)) (is_waiting play grant) (seat_at play grant) (given grant)
  pub contents : Holds setting chain play
  pub whole : IsWhole setting.layout chain
  pub made : IsWithin chain.made (raised play.cost 0)
  pub scan : ChainStands setting play play.holder chain
  pub under_way : IsUnderWay setting play

-- over a cable that tells its chain
abbrev pub AttendsOn : {C : Type 0} → Setting → Seats → Token (ParkedView C) (OpenView C) → (ℕ → List ℕ) → Option ChainState → Play → Type 0
AttendsOn setting seats desk given None play = ⊥
AttendsOn setting seats desk given (Some chain) play = Attends setting seats (holder desk) (waiting desk) given chain play

-- the same sessions ended in the code and in the play
pub record EndsAlike (old new : Seats) (play next : Play) : Type 0 where
  pub more : List SessionEnd
  pub ended : map session_end new.ended.items ≡ map session_end old.ended.items ++ more
  pub ends : next.ends ≡ play.ends ++ more

-- each session's replies are a front of those that its seat comes to by itself
abbrev pub Fronts : Seats → (ℕ → List ℕ) → Play → Type 0
Fronts seats given play = (grant : ℕ) → grant < length seats.list.items → IsPrefix (given grant ++ (session_at seats grant).reply) (replies_now (finished (seat_at play grant)))

-- the sessions go on with a play: they stand for it then, and the same ended in both
pub record GoneOn {C : Type 0} (setting : Setting) (old new : Seats) (desk : Token (ParkedView C) (OpenView C)) (given : ℕ → List ℕ) (after : Option ChainState) (play next : Play) : Type 0 where
  pub attends : AttendsOn setting new desk given after next
  pub ends : EndsAlike old new play next

-- they are handed the chain with it, and are ready
pub record HandedOn {C : Type 0} (setting : Setting) (old new : Seats) (desk : Token (ParkedView C) (OpenView C)) (given : ℕ → List ℕ) (after : Option ChainState) (play : Play) (times : ℕ) : Type 0 where
  pub gone : GoneOn setting old new desk given after play (handed_on_times times setting play)
  pub ready : new.ready.items ≡ with_ready true (going_on times setting play) old.ready.items
  pub calm : IsCalm (handed_on_times times setting play)

-- they are handed the chain until nobody is left to go on, and those that ended since so many had are not ready
pub record PassedOn {C : Type 0} (setting : Setting) (old new : Seats) (desk : Token (ParkedView C) (OpenView C)) (given : ℕ → List ℕ) (after : Option ChainState) (play : Play) (earlier : ℕ) : Type 0 where
  pub gone : GoneOn setting old new desk given after play (handed_on setting play)
  pub ready : new.ready.items ≡ with_ready false (map (λ ended. ended.grant) (drop earlier new.ended.items)) (with_ready true (going_on_from setting play) old.ready.items)
  pub calm : IsCalm (handed_on setting play)
  pub none : next_in_line (handed_on setting play).holder (handed_on setting play).waiting ≡ None

-- a grant's seat changed in a play, and all went on with it
pub record MovedOn {C : Type 0} (setting : Setting) (old new : Seats) (desk : Token (ParkedView C) (OpenView C)) (given : ℕ → List ℕ) (after : Option ChainState) (play : Play) (change : SeatChange) : Type 0 where
  pub attends : AttendsOn setting new desk given after (after_change setting play (Some change))
  pub calm : IsCalm (after_change setting play (Some change))
  pub none : next_in_line (after_change setting play (Some change)).holder (after_change setting play (Some change)).waiting ≡ None
  pub ends : EndsAlike old new play (after_change setting play (Some change))
  pub ready : new.ready.items ≡ ready_then (went_on setting play (Some change)) ends.more old.ready.items

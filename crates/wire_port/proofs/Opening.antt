-- A connection that is open stays so through calls that neither shut it nor find its peer gone.
use Rattle.std.proofs.Common.{◌≡◌, ◌+◌, ℕ, Bool, false, List, [], ◌∷◌, ◌++◌, ap, ◌∙◌, refl, eq-eqb, Result, Ok, Err, ◌||◌}
use Rattle.wire_port.specs.declared.wire.Found.{Found}
use Rattle.wire_port.specs.declared.wire.Found.TheVariants as found
use Rattle.wire_port.specs.declared.wire.PollFault.{PollFault}
use Rattle.wire_port.specs.Steps.{Step, opens, is_gone_step, shuts}
use Rattle.wire_port.specs.Steps.Step.{Opened, Took}
use Rattle.wire_port.specs.Offers.{Answer}
use Rattle.wire_port.specs.Wires.{WireView}
use Rattle.wire_port.specs.Calls.{IsOpen, after_poll, after_take}
use Rattle.wire_port.proofs.Stepping.{any_behind, shuts_behind}

pub step_keeps : (conn : ℕ) (old new : WireView) (step : Step) → is_gone_step conn step ≡ false → shuts conn (step ∷ []) ≡ 0 → new.steps ≡ old.steps ++ step ∷ [] → IsOpen conn old → IsOpen conn new
step_keeps conn old new step not_gone not_shut is was = record {
  opened = rw is (any_behind (opens conn) old.steps step ∙ ap (λ (t : Bool). t || opens conn step) was.opened);
  not_gone = rw is (any_behind (is_gone_step conn) old.steps step ∙ (λ i. was.not_gone i || not_gone i));
  not_shut = rw is (shuts_behind conn old.steps step ∙ (λ i. was.not_shut i + not_shut i));
}

pub none_keeps : (conn : ℕ) (old new : WireView) → new.steps ≡ old.steps → IsOpen conn old → IsOpen conn new
none_keeps conn old new is was = record { opened = rw is was.opened; not_gone = rw is was.not_gone; not_shut = rw is was.not_shut }

pub poll_keeps : (conn : ℕ) (answer : Result Found PollFault) (old new : WireView) → new ≡ after_poll answer old → IsOpen conn old → IsOpen conn new
poll_keeps conn (Ok (found.Opened other port)) old new is = step_keeps conn old new (Opened other port) refl refl (ap (λ (wire : WireView). wire.steps) is)
poll_keeps conn (Ok (found.Ready other)) old new is = none_keeps conn old new (ap (λ (wire : WireView). wire.steps) is)
poll_keeps conn (Ok (found.Room other)) old new is = none_keeps conn old new (ap (λ (wire : WireView). wire.steps) is)
poll_keeps conn (Ok found.Nothing) old new is = none_keeps conn old new (ap (λ (wire : WireView). wire.steps) is)
poll_keeps conn (Ok found.End) old new is = none_keeps conn old new (ap (λ (wire : WireView). wire.steps) is)
poll_keeps conn (Err fault) old new is = none_keeps conn old new (ap (λ (wire : WireView). wire.steps) is)

pub take_keeps : (conn : ℕ) (bytes : List ℕ) (old new : WireView) → new ≡ after_take conn (Answer.Bytes bytes) old → IsOpen conn old → IsOpen conn new
take_keeps conn bytes old new is = step_keeps conn old new (Took conn bytes) refl refl (ap (λ (wire : WireView). wire.steps) is)

pub first_opens : (conn port : ℕ) (before new : WireView) → before.steps ≡ [] → new ≡ after_poll (Ok (found.Opened conn port)) before → IsOpen conn new
first_opens conn port before new none is =
    let steps : new.steps ≡ Opened conn port ∷ [] = ap (λ (wire : WireView). wire.steps) is ∙ ap (λ (steps : List Step). steps ++ Opened conn port ∷ []) none in
    record { opened = rw (steps, eq-eqb conn conn refl) refl; not_gone = rw steps refl; not_shut = rw steps refl }

-- What a poll finds, and what it leaves as it is.
use Rattle.std.proofs.Common.{◌≡◌, ◌≢◌, ℕ, List, [], ◌∷◌, ◌++◌, Bool, true, false, cond, ap, sym, subst, ◌∙◌, refl, nat_eq, Ok, Err, IfOk}
use Rattle.std.specs.declared.option.Option.{Option}
use Rattle.std.specs.declared.option.Option.TheVariants.{None, Some}
use Rattle.std.specs.declared.result.Result.{Result}
use Rattle.std.proofs.lemmas.Bool.{eqb-true, eq-eqb}
use Rattle.std.specs.Io.KnownBytes.{Appends}
use Rattle.base_types.specs.Tellings.{Told, Both}
use Rattle.chain_model.specs.Chains.{ChainState}
use Rattle.wire_port.specs.Wires.{WireView, Last}
use Rattle.wire_port.specs.declared.wire.Found.{Found}
use Rattle.wire_port.specs.declared.wire.Found.TheVariants as found
use Rattle.wire_port.specs.declared.wire.PollFault.{PollFault}
use Rattle.wire_port.specs.Steps.{shuts}
use Rattle.wire_port.specs.Steps.Step.{Opened}
use Rattle.wire_port.specs.Calls.{OpensFresh, after_named, after_poll, is_end}
use Rattle.plays.specs.Plays.{Setting}
use Rattle.plays.specs.Stands.{HubView}
use Rattle.plays.specs.Outcomes.{SeatsOpen}
use Rattle.plays.proofs.Lists.{false_true}
use Rattle.hub.specs.Served.{OnlyTellsOpened, OpensIn, conn_at}
use Rattle.hub.specs.Standing.{HubStands, EndsFollow, FoundNow}
use Rattle.hub.specs.Resting.{Rests, RestsBut, names}
use Rattle.hub.proofs.Polling.{polled_in}
use Rattle.hub_server.specs.Serving.{KeepsResting, Goes, Polled}
use Rattle.hub_server.specs.Told.{ended_lines}

-- a connection that is found opened just now
pub opens_in : (hub : HubView) (result : Result Found PollFault) (a b : Option WireView) → Told a (SeatsOpen hub) → Told a OnlyTellsOpened → Told a (OpensFresh result) → Both a b (λ old new. new ≡ after_poll result old) → IfOk result (λ found. Told b (OpensIn found hub))
opens_in hub (Ok found) a b seats only fresh polled = polled_in hub found a b seats only fresh polled
opens_in hub (Err fault) a b seats only fresh polled = tt

-- a poll that found the end left the wire as it was
pub end_stays : (found : Found) (a b : Option WireView) → is_end (Ok found) ≡ true → Polled found a b → b ≡ a
end_stays (found.Opened conn port) a b is polled = false_true is
end_stays (found.Ready conn) a b is polled = false_true is
end_stays (found.Room conn) a b is polled = false_true is
end_stays found.Nothing a b is polled = false_true is
end_stays found.End None None is polled = refl
end_stays found.End None (Some now) is polled = absurd polled
end_stays found.End (Some before) None is polled = absurd polled
end_stays found.End (Some before) (Some now) is polled = ap Some polled

-- ---- who rests after a poll

-- the last answer on another connection than the one that was named is as it was
named_other : (conn : ℕ) (wire : WireView) (other : ℕ) → nat_eq conn other ≡ false → (after_named conn wire).last other ≡ wire.last other
named_other conn wire other apart = by (nat_eq other conn) refl
  where
    by : (same : Bool) → nat_eq other conn ≡ same → cond same (cond (nat_eq (shuts conn wire.steps) 0) Last.Other (wire.last conn)) (wire.last other) ≡ wire.last other
    by false is = refl
    by true is = false_true (sym apart ∙ eq-eqb conn other (sym (eqb-true other conn is)))

-- all rest but the session of the connection that was found
polled_rests : (hub : HubView) (found : Found) (before : WireView) → Rests hub before → RestsBut (names found) hub (after_poll (Ok found) before)
polled_rests hub (found.Opened conn port) before rests grant apart going ready = subst (λ last. last ≢ Last.Other) (sym (named_other conn (record before { steps = before.steps ++ Opened conn port ∷ [] }) (conn_at hub grant) apart)) (rests grant going ready)
polled_rests hub (found.Ready conn) before rests grant apart going ready = subst (λ last. last ≢ Last.Other) (sym (named_other conn before (conn_at hub grant) apart)) (rests grant going ready)
polled_rests hub (found.Room conn) before rests grant apart going ready = subst (λ last. last ≢ Last.Other) (sym (named_other conn before (conn_at hub grant) apart)) (rests grant going ready)
polled_rests hub found.Nothing before rests grant apart going ready = rests grant going ready
polled_rests hub found.End before rests grant apart going ready = rests grant going ready

-- what was found was attended to, and all rest
polled_then : (old new : HubView) (found : Found) (a b c : Option WireView) → Polled found a b → Both b c (λ before now. RestsBut (names found) old before → Rests new now) → KeepsResting old new a c
polled_then old new found None None None polled turned = tt
polled_then old new found None None (Some now) polled turned = absurd turned
polled_then old new found None (Some between) c polled turned = absurd polled
polled_then old new found (Some before) None c polled turned = absurd polled
polled_then old new found (Some before) (Some between) None polled turned = absurd turned
polled_then old new found (Some before) (Some between) (Some now) polled turned = λ rests. turned (subst (RestsBut (names found) old) (sym polled) (polled_rests old found before rests))

-- ---- what was found is attended to

found_now : (setting : Setting) (hub : HubView) (chain : Option ChainState) (found : Found) (a b : Option WireView) → HubStands setting hub chain a → Polled found a b → FoundNow found a b
found_now setting hub None found None b h polled = absurd h.stands
found_now setting hub (Some chain) found None b h polled = absurd h.stands
found_now setting hub chain found (Some before) None h polled = absurd polled
found_now setting hub chain found (Some before) (Some now) h polled = polled

module _ (old new : HubView) (chain chain' : Option ChainState) (found : Found) (a b c : Option WireView) (sent sent' : Option (List ℕ)) (polled : Polled found a b) where
  pub attended : Appends sent sent' (ended_lines new.ended)
      → ((setting : Setting) (before : Option WireView) → FoundNow found before b → HubStands setting old chain before → HubStands setting new chain' c)
      → ((setting : Setting) (before : Option WireView) → FoundNow found before b → HubStands setting old chain before → EndsFollow setting before c new.ended)
      → Both b c (λ before now. RestsBut (names found) old before → Rests new now) → Goes old new chain chain' a c sent sent'
  attended told stands ends rests = record {
    ends = new.ended;
    told = told;
    goes = λ setting h.
        let now : FoundNow found a b = found_now setting old chain found a b h polled in
        record { stands = stands setting a now h; ends_are = ends setting a now h };
    rests = polled_then old new found a b c polled rests;
  }

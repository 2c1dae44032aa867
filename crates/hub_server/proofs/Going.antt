-- What calls do to the play, one after another.
use Rattle.std.proofs.Common.{◌≡◌, ℕ, Bool, true, List, [], ◌++◌, ap, sym, subst, ◌∙◌, append_assoc, Ok, Err}
use Rattle.std.proofs.lemmas.List.{append-nil}
use Rattle.std.proofs.lemmas.Grind.{flat_map-append}
use Rattle.std.specs.declared.option.Option.{Option}
use Rattle.std.specs.declared.option.Option.TheVariants.{None, Some}
use Rattle.std.specs.declared.result.Result.{Result}
use Rattle.std.specs.Prelude.{IsErrAnd}
use Rattle.std.specs.Io.KnownBytes.{Appends}
use Rattle.ports.specs.Streams.{AppendsFront}
use Rattle.text_lines.proofs.Printing.{appends_both, front_later, nothing}
use Rattle.chain_model.specs.Chains.{ChainState}
use Rattle.wire_port.specs.Wires.{WireView, DoorView}
use Rattle.plays.specs.Plays.{Setting, SessionEnd, played}
use Rattle.plays.specs.Stands.{HubView}
use Rattle.hub.specs.Served.{KeepsMade}
use Rattle.hub.specs.Standing.{HubStands, EndsFollow}
use Rattle.hub_server.specs.declared.ServeFault.{ServeFault}
use Rattle.hub_server.specs.declared.ServeFault.TheVariants.{Poll, Cable, Write}
use Rattle.hub_server.specs.Told.{ended_line, ended_lines}
use Rattle.hub_server.specs.Serving.{IsSound, KeepsDoor, KeepsResting, Goes, GoesFront, ServesSo}

-- between two turns of the loop: the hub may be served further
pub record Onward (old new : HubView) (wire : Option WireView) (door door' : DoorView) (over : Bool) : Type 0 where
  pub sound : IsSound new wire
  pub made : KeepsMade old new
  pub kept : KeepsDoor door door'
  pub up : door'.up ≡ true
  pub over_is : door'.over ≡ over

lines_then : (first more : List SessionEnd) → ended_lines (first ++ more) ≡ ended_lines first ++ ended_lines more
lines_then first more = flat_map-append ended_line first more

ends_none : (setting : Setting) (hub : HubView) (chain : Option ChainState) (wire : Option WireView) → HubStands setting hub chain wire → EndsFollow setting wire wire []
ends_none setting hub None wire h = absurd h.stands
ends_none setting hub (Some chain) None h = absurd h.stands
ends_none setting hub (Some chain) (Some wire) h = sym (append-nil (played setting wire.steps).ends)

ends_then : (setting : Setting) (a b c : Option WireView) (first more : List SessionEnd) → EndsFollow setting a b first → EndsFollow setting b c more → EndsFollow setting a c (first ++ more)
ends_then setting None b c first more h k = absurd h
ends_then setting (Some a) None c first more h k = absurd h
ends_then setting (Some a) (Some b) None first more h k = absurd k
ends_then setting (Some a) (Some b) (Some c) first more h k = k ∙ ap (λ ends. ends ++ more) h ∙ append_assoc (played setting a.steps).ends first more

rests_still : (hub : HubView) (wire : Option WireView) → KeepsResting hub hub wire wire
rests_still hub None = tt
rests_still hub (Some wire) = λ rests. rests

rests_then : (hub hub' hub'' : HubView) (a b c : Option WireView) → KeepsResting hub hub' a b → KeepsResting hub' hub'' b c → KeepsResting hub hub'' a c
rests_then hub hub' hub'' None None None h k = tt
rests_then hub hub' hub'' None None (Some c) h k = absurd k
rests_then hub hub' hub'' None (Some b) c h k = absurd h
rests_then hub hub' hub'' (Some a) None c h k = absurd h
rests_then hub hub' hub'' (Some a) (Some b) None h k = absurd k
rests_then hub hub' hub'' (Some a) (Some b) (Some c) h k = λ rests. k (h rests)

-- nothing was done
pub goes_none : (hub : HubView) (chain : Option ChainState) (wire : Option WireView) (sent : Option (List ℕ)) → Goes hub hub chain chain wire wire sent sent
goes_none hub chain wire sent = record {
  ends = [];
  told = nothing sent;
  goes = λ setting h. record { stands = h; ends_are = ends_none setting hub chain wire h };
  rests = rests_still hub wire;
}

pub goes_still : (hub : HubView) (chain : Option ChainState) (wire wire' : Option WireView) (sent : Option (List ℕ)) → wire' ≡ wire → Goes hub hub chain chain wire wire' sent sent
goes_still hub chain wire wire' sent same = subst (λ w. Goes hub hub chain chain wire w sent sent) (sym same) (goes_none hub chain wire sent)

module _ (hub hub' hub'' : HubView) (chain chain' chain'' : Option ChainState) (wire wire' wire'' : Option WireView) (sent sent' sent'' : Option (List ℕ)) (first : Goes hub hub' chain chain' wire wire' sent sent') where
  pub goes_then : Goes hub' hub'' chain' chain'' wire' wire'' sent' sent'' → Goes hub hub'' chain chain'' wire wire'' sent sent''
  goes_then more = record {
    ends = first.ends ++ more.ends;
    told = subst (Appends sent sent'') (sym (lines_then first.ends more.ends)) (appends_both (ended_lines first.ends) (ended_lines more.ends) sent sent' sent'' first.told more.told);
    goes = λ setting h. record {
      stands = (more.goes setting (first.goes setting h).stands).stands;
      ends_are = ends_then setting wire wire' wire'' first.ends more.ends (first.goes setting h).ends_are (more.goes setting (first.goes setting h).stands).ends_are;
    };
    rests = rests_then hub hub' hub'' wire wire' wire'' first.rests more.rests;
  }

  front_then : GoesFront hub' hub'' chain' chain'' wire' wire'' sent' sent'' → GoesFront hub hub'' chain chain'' wire wire'' sent sent''
  front_then more = record {
    ends = first.ends ++ more.ends;
    told = subst (AppendsFront sent sent'') (sym (lines_then first.ends more.ends)) (front_later (ended_lines first.ends) (ended_lines more.ends) sent sent' sent'' first.told more.told);
    goes = λ setting h. record {
      stands = (more.goes setting (first.goes setting h).stands).stands;
      ends_are = ends_then setting wire wire' wire'' first.ends more.ends (first.goes setting h).ends_are (more.goes setting (first.goes setting h).stands).ends_are;
    };
  }

-- what a call answers, after others that went well
serves_then : {A : Type 0} (result : Result A ServeFault) (hub hub' hub'' : HubView) (chain chain' chain'' : Option ChainState) (wire wire' wire'' : Option WireView) (sent sent' sent'' : Option (List ℕ))
    → Goes hub hub' chain chain' wire wire' sent sent' → ServesSo result hub' hub'' chain' chain'' wire' wire'' sent' sent'' → ServesSo result hub hub'' chain chain'' wire wire'' sent sent''
serves_then (Ok done) hub hub' hub'' chain chain' chain'' wire wire' wire'' sent sent' sent'' first more = goes_then hub hub' hub'' chain chain' chain'' wire wire' wire'' sent sent' sent'' first more
serves_then (Err Poll) hub hub' hub'' chain chain' chain'' wire wire' wire'' sent sent' sent'' first more = goes_then hub hub' hub'' chain chain' chain'' wire wire' wire'' sent sent' sent'' first more
serves_then (Err Write) hub hub' hub'' chain chain' chain'' wire wire' wire'' sent sent' sent'' first more = front_then hub hub' hub'' chain chain' chain'' wire wire' wire'' sent sent' sent'' first more
serves_then (Err Cable) hub hub' hub'' chain chain' chain'' wire wire' wire'' sent sent' sent'' first more = record {
  hub = more.hub;
  chain = more.chain;
  wire = more.wire;
  goes = goes_then hub hub' more.hub chain chain' more.chain wire wire' more.wire sent sent' sent'' first more.goes;
}

is_fault : {A : Type 0} (result : Result A ServeFault) (fault : ServeFault) → IsErrAnd result (λ e. e ≡ fault) → result ≡ Err fault
is_fault (Ok done) fault is = absurd is
is_fault (Err e) fault is = ap (λ e. Err e) is

-- the cable failed before anything else was done
pub cable_stops : {A : Type 0} (result : Result A ServeFault) (hub hub' : HubView) (chain chain' : Option ChainState) (wire wire' : Option WireView) (sent : Option (List ℕ)) → IsErrAnd result (λ e. e ≡ Cable) → ServesSo result hub hub' chain chain' wire wire' sent sent
cable_stops result hub hub' chain chain' wire wire' sent is = subst (λ r. ServesSo r hub hub' chain chain' wire wire' sent sent) (sym (is_fault result Cable is)) (record { hub = hub; chain = chain; wire = wire; goes = goes_none hub chain wire sent })

-- the wire failed before anything was done
pub poll_stops : {A : Type 0} (result : Result A ServeFault) (hub : HubView) (chain : Option ChainState) (wire wire' : Option WireView) (sent : Option (List ℕ)) → IsErrAnd result (λ e. e ≡ Poll) → wire' ≡ wire → ServesSo result hub hub chain chain wire wire' sent sent
poll_stops result hub chain wire wire' sent is same = subst (λ r. ServesSo r hub hub chain chain wire wire' sent sent) (sym (is_fault result Poll is)) (goes_still hub chain wire wire' sent same)

-- a call after others that went well failed
pub fault_then : (A : Type 0) {B : Type 0} (fault : ServeFault) (result : Result B ServeFault) (hub hub' hub'' : HubView) (chain chain' chain'' : Option ChainState) (wire wire' wire'' : Option WireView) (sent sent' sent'' : Option (List ℕ))
    → IsErrAnd result (λ e. e ≡ fault) → Goes hub hub' chain chain' wire wire' sent sent' → ServesSo {A = A} (Err fault) hub' hub'' chain' chain'' wire' wire'' sent' sent'' → ServesSo result hub hub'' chain chain'' wire wire'' sent sent''
fault_then A {B} fault result hub hub' hub'' chain chain' chain'' wire wire' wire'' sent sent' sent'' is first more =
    subst (λ r. ServesSo r hub hub'' chain chain'' wire wire'' sent sent'') (sym (is_fault result fault is)) (serves_then {A = B} (Err fault) hub hub' hub'' chain chain' chain'' wire wire' wire'' sent sent' sent'' first (other fault more))
  where
    other : (fault : ServeFault) → ServesSo {A = A} (Err fault) hub' hub'' chain' chain'' wire' wire'' sent' sent'' → ServesSo {A = B} (Err fault) hub' hub'' chain' chain'' wire' wire'' sent' sent''
    other Poll so = so
    other Cable so = so
    other Write so = so

pub onward_then : (old mid new : HubView) (wire wire' : Option WireView) (door door' door'' : DoorView) (over over' : Bool) → Onward old mid wire door door' over → IsSound new wire' → KeepsMade mid new → KeepsDoor door' door'' → door''.over ≡ over' → Onward old new wire' door door'' over'
onward_then old mid new wire wire' door door' door'' over over' so sound made kept is = record {
  sound = sound;
  made = record { layout = made.layout ∙ so.made.layout; vector = made.vector ∙ so.made.vector; trst = made.trst ∙ so.made.trst };
  kept = record { ports = kept.ports ∙ so.kept.ports; up = kept.up ∙ so.kept.up; mark = kept.mark ∙ so.kept.mark };
  up = kept.up ∙ so.up;
  over_is = is;
}

-- From a hub that was served to what `serve` comes to.
use Rattle.std.proofs.Common.{◌≡◌, ◌++◌, ℕ, Bool, true, false, List, [], refl, ap, sym, subst, ◌∙◌, inl, inr, Some, None, Ok, Err}
use Rattle.std.proofs.lemmas.List.{append-nil}
use Rattle.std.specs.List.{list_any}
use Rattle.std.specs.declared.option.Option.{Option}
use Rattle.std.specs.declared.result.Result.{Result}
use Rattle.std.specs.Io.KnownBytes.{Appends}
use Rattle.base_types.specs.Tellings.{Told, Both}
use Rattle.chain_model.specs.Chains.{ChainState}
use Rattle.client_session.specs.declared.Stand.TheVariants as stand
use Rattle.hub.specs.Served.{OnlyTellsOpened}
use Rattle.hub.specs.Standing.{EndsFollow, HubStands}
use Rattle.hub.specs.Resting.{Rests}
use Rattle.hub.proofs.AtRest.{at_rest}
use Rattle.hub.proofs.Polling.{free_seats, new_tells}
use Rattle.hub.proofs.Standing.{stands_for_play}
use Rattle.hub_server.specs.Serving as serving
use Rattle.hub_server.specs.Serving.{Goes, GoesFront, GoesOn, GoesOnFrom, KeepsResting, NotWritten, ServedSo, StaysSo, ports_of}
use Rattle.hub_server.specs.Told.{ended_lines, serving_line}
use Rattle.hub_server.specs.declared.ServeFault.{ServeFault}
use Rattle.hub_server.specs.declared.ServeFault.TheVariants as fault
use Rattle.plays.specs.Plays.{Setting, SessionEnd, played}
use Rattle.plays.specs.Stands.{HubView, Stands}
use Rattle.plays.proofs.Given.{all_given_as_alone, shared_as_alone}
use Rattle.ports.specs.Shelves.{NamedBytes}
use Rattle.scan_share.specs.Scans.{Starts}
use Rattle.session_table.specs.Shown.{FreshOn}
use Rattle.session_table.specs.Tables.{TableView, stand_at, reply_at}
use Rattle.setup_read.specs.declared.setup.Setup.{Setup}
use Rattle.setup_read.specs.Setups.{IsWhole as IsWholeSetup}
use Rattle.text_lines.proofs.Printing.{appends_both, front_later}
use Rattle.wire_port.specs.Calls.{IsWire}
use Rattle.wire_port.specs.Wires.{DoorView, WireView}
use Rattle.share_top.specs.Pipes.{uses_trst, whole_chain}
use Rattle.share_top.specs.Serves.{AllGivenOn, CanServe, FaultedSo, HasNoSteps, Listens, Outside, ServeCauses, ServeFaults, ServedOn, Serves, ServesSetup, WasCutShort, WasServed, WhereTold, setting_of}
use Rattle.share_top.specs.Sessions.{IsSound}
use Rattle.share_top.specs.declared.serve_outcome.ServeOutcome.{ServeOutcome}
use Rattle.share_top.specs.declared.serve_outcome.ServeOutcome.TheVariants.{NoSetup, NoTrst, Memory, Faulted, Ended}
use Rattle.share_top.proofs.FreshLaws.{is_fresh}

-- why a call failed
abbrev why_of : Result (Unit {0}) ServeFault → ServeFault
why_of (Ok done) = fault.Poll
why_of (Err why) = why

-- ---- a hub before it is served

told_first : (wire : Option WireView) → Told wire HasNoSteps → Told wire OnlyTellsOpened
told_first None none = tt
told_first (Some wire) none = new_tells wire none

pub sound_first : (hub : HubView) (wire : Option WireView) → hub.broken ≡ false → ((grant : ℕ) → (stand_at hub grant ≡ stand.Free) × (reply_at hub grant ≡ [])) → Told wire HasNoSteps → serving.IsSound hub wire
sound_first hub wire fit free none = record { fit = fit; seats = free_seats hub free wire; tells = told_first wire none }

-- no session is open that could not rest
pub rests_first : (hub : HubView) (wire : Option WireView) → ((grant : ℕ) → (stand_at hub grant ≡ stand.Free) × (reply_at hub grant ≡ [])) → Told wire (Rests hub)
rests_first hub None free = tt
rests_first hub (Some wire) free = λ grant going ready. absurd (let is : stand.Free ≡ stand.Going = sym (free grant).0 ∙ going in cc)

-- over a chain at rest, and a wire that told no step yet, the hub stands for the play of no steps
module _ (setup : Setup) (whole : IsWholeSetup setup) (sound : IsSound setup) (trst : Bool) (trst_is : trst ≡ uses_trst setup) (hub : HubView) where
  pub stands_first : (chain now : Option ChainState) (wire : Option WireView) → Told chain (Starts setup.layout (whole_chain setup)) → Told wire IsWire → Told wire HasNoSteps
      → ((setting : Setting) (wire : WireView) → FreshOn setting setup.layout setup.vector trst chain → IsWire wire → wire.steps ≡ [] → HubStands setting hub now (Some wire))
      → WhereTold chain wire (HubStands (setting_of setup) hub now wire)
  stands_first None now None started is none begins = tt
  stands_first None now (Some wire) started is none begins = tt
  stands_first (Some chain) now None started is none begins = tt
  stands_first (Some chain) now (Some wire) started is none begins = begins (setting_of setup) wire (is_fresh setup whole sound trst trst_is chain started) is none

-- ---- what the sessions come to

served_there : (setup : Setup) (ends : List SessionEnd) (hub : HubView) (before : WireView) (chain : Option ChainState) (wire : Option WireView) → HasNoSteps before
    → GoesOn ends (setting_of setup) hub chain (Some before) wire → ServedOn setup ends chain wire
served_there setup ends hub before None wire none on = absurd on.stands.stands
served_there setup ends hub before (Some chain) None none on = absurd on.stands.stands
served_there setup ends hub before (Some chain) (Some wire) none on =
    let is : Stands (setting_of setup) hub chain wire (played (setting_of setup) wire.steps) = stands_for_play (setting_of setup) hub chain wire on.stands in
    record {
      alone = shared_as_alone (setting_of setup) hub chain wire on.stands.stands.once is;
      made = is.made;
      ends_are = on.ends_are ∙ ap (λ steps. (played (setting_of setup) steps).ends ++ ends) none;
    }

served_on : (setup : Setup) (ends : List SessionEnd) (old new : HubView) (chain chain' : Option ChainState) (wire wire' : Option WireView) → Told wire HasNoSteps → WhereTold chain wire (HubStands (setting_of setup) old chain wire)
    → GoesOnFrom ends old new chain chain' wire wire' → WhereTold chain wire (ServedOn setup ends chain' wire')
served_on setup ends old new None chain' None wire' none stands goes = tt
served_on setup ends old new None chain' (Some wire) wire' none stands goes = tt
served_on setup ends old new (Some chain) chain' None wire' none stands goes = tt
served_on setup ends old new (Some chain) chain' (Some wire) wire' none stands goes = served_there setup ends new wire chain' wire' none (goes (setting_of setup) stands)

-- where no session is ready and all rest, each peer was given all
all_there : (setup : Setup) (ends : List SessionEnd) (hub : HubView) (before : WireView) (chain : Option ChainState) (wire : Option WireView) → list_any (λ ready. ready) hub.ready ≡ false → HasNoSteps before
    → GoesOn ends (setting_of setup) hub chain (Some before) wire → Told wire (Rests hub) → AllGivenOn setup wire
all_there setup ends hub before None wire idle none on rests = absurd on.stands.stands
all_there setup ends hub before (Some chain) None idle none on rests = absurd on.stands.stands
all_there setup ends hub before (Some chain) (Some wire) idle none on rests =
    all_given_as_alone (setting_of setup) chain wire (served_there setup ends hub before (Some chain) (Some wire) none on).alone (at_rest (setting_of setup) hub chain wire on.stands rests idle)

rested : (old new : HubView) (a b : Option WireView) → KeepsResting old new a b → Told a (Rests old) → Told b (Rests new)
rested old new None None keeps rests = tt
rested old new None (Some now) keeps rests = absurd keeps
rested old new (Some before) None keeps rests = tt
rested old new (Some before) (Some now) keeps rests = keeps rests

all_on : (setup : Setup) (ends : List SessionEnd) (old new : HubView) (chain chain' : Option ChainState) (wire wire' : Option WireView) → list_any (λ ready. ready) new.ready ≡ false → Told wire HasNoSteps → Told wire (Rests old)
    → WhereTold chain wire (HubStands (setting_of setup) old chain wire) → GoesOnFrom ends old new chain chain' wire wire' → KeepsResting old new wire wire' → WhereTold chain wire (AllGivenOn setup wire')
all_on setup ends old new None chain' None wire' idle none rests stands goes keeps = tt
all_on setup ends old new None chain' (Some wire) wire' idle none rests stands goes keeps = tt
all_on setup ends old new (Some chain) chain' None wire' idle none rests stands goes keeps = tt
all_on setup ends old new (Some chain) chain' (Some wire) wire' idle none rests stands goes keeps =
    all_there setup ends new wire chain' wire' idle none (goes (setting_of setup) stands) (rested old new (Some wire) wire' keeps rests)

-- where nothing was done, no session ended
no_ends : (setting : Setting) (hub : HubView) (chain : Option ChainState) (wire : Option WireView) → HubStands setting hub chain wire → EndsFollow setting wire wire []
no_ends setting hub None None stands = absurd stands.stands
no_ends setting hub (Some chain) None stands = absurd stands.stands
no_ends setting hub chain (Some wire) stands = sym (append-nil (played setting wire.steps).ends)

nothing_done : (old new : HubView) (chain chain' : Option ChainState) (wire wire' : Option WireView) → StaysSo old new chain chain' wire wire' → GoesOnFrom [] old new chain chain' wire wire'
nothing_done old new chain chain' wire wire' stays =
    subst (λ h. GoesOnFrom [] old h chain chain' wire wire') (sym stays.hub)
    (subst (λ o. GoesOnFrom [] old old chain o wire wire') (sym stays.chain)
    (subst (λ w. GoesOnFrom [] old old chain chain wire w) (sym stays.wire)
    (λ setting stands. record { stands = stands; ends_are = no_ends setting old chain wire stands })))

module _ (setup : Setup) (old new : HubView) (before after : Outside) (ports : after.door.ports ≡ ports_of setup.layout)
    (none : Told before.wire HasNoSteps) (stands : WhereTold before.chain before.wire (HubStands (setting_of setup) old before.chain before.wire)) where
  listens : after.door.up ≡ true → Listens setup after
  listens up = record { ports = ports; up = up }

  was_served : after.door.up ≡ true → (between : Option (List ℕ)) → Appends before.sent between serving_line → Goes old new before.chain after.chain before.wire after.wire between after.sent → WasServed setup before after
  was_served up between line went = record {
    listens = listens up;
    ends = went.ends;
    told = appends_both serving_line (ended_lines went.ends) before.sent between after.sent line went.told;
    served = served_on setup went.ends old new before.chain after.chain before.wire after.wire none stands went.goes;
  }

  was_cut : after.door.up ≡ true → (between : Option (List ℕ)) → Appends before.sent between serving_line → GoesFront old new before.chain after.chain before.wire after.wire between after.sent → WasCutShort setup before after
  was_cut up between line went = record {
    listens = listens up;
    ends = went.ends;
    told = front_later serving_line (ended_lines went.ends) before.sent between after.sent line went.told;
    served = served_on setup went.ends old new before.chain after.chain before.wire after.wire none stands went.goes;
  }

  not_written : after.door.up ≡ true → NotWritten old new before.chain after.chain before.wire after.wire before.sent after.sent → WasCutShort setup before after
  not_written up was = record {
    listens = listens up;
    ends = [];
    told = was.front;
    served = served_on setup [] old new before.chain after.chain before.wire after.wire none stands (nothing_done old new before.chain after.chain before.wire after.wire was.stays);
  }

  ended_up : (done : Unit {0}) (up : Bool) → after.door.up ≡ up → Told before.wire (Rests old) → list_any (λ ready. ready) new.ready ≡ false → after.door.over ≡ true
      → ServedSo (Ok done) old new before.chain after.chain before.wire after.wire before.sent after.sent up → ServesSetup Ended setup before after
  ended_up done true up rests idle over was = record {
    served = was_served up was.between was.line was.serves;
    all = all_on setup was.serves.ends old new before.chain after.chain before.wire after.wire idle none rests stands was.serves.goes was.serves.rests;
    over = over;
  }
  ended_up done false up rests idle over was = absurd (let q : Ok done ≡ Err fault.Poll = was.answer in cc)

  pub ended_so : (done : Unit {0}) → Told before.wire (Rests old) → list_any (λ ready. ready) new.ready ≡ false → after.door.over ≡ true
      → ServedSo (Ok done) old new before.chain after.chain before.wire after.wire before.sent after.sent after.door.up → ServesSetup Ended setup before after
  ended_so done rests idle over was = ended_up done after.door.up refl rests idle over was

  faulted_up : (why : ServeFault) (up : Bool) → after.door.up ≡ up → ServedSo {A = Unit {0}} (Err why) old new before.chain after.chain before.wire after.wire before.sent after.sent up → FaultedSo why setup before after
  faulted_up fault.Poll true up was = inr (was_served up was.between was.line was.serves)
  faulted_up fault.Poll false up was = inl (record {
    ports = ports;
    up = up;
    sent = was.sent_is;
    served = served_on setup [] old new before.chain after.chain before.wire after.wire none stands (nothing_done old new before.chain after.chain before.wire after.wire was.stays);
  })
  faulted_up fault.Cable true up was = inr (was.serves.goes.ends, appends_both serving_line (ended_lines was.serves.goes.ends) before.sent was.between after.sent was.line was.serves.goes.told)
  faulted_up fault.Cable false up was = inl was.sent_is
  faulted_up fault.Write true up (inl was) = was_cut up was.between was.line was.serves
  faulted_up fault.Write true up (inr was) = not_written up was
  faulted_up fault.Write false up was = absurd (let q : fault.Write ≡ fault.Poll = ap why_of was.answer in cc)

  pub faulted_so : (why : ServeFault) → ServedSo {A = Unit {0}} (Err why) old new before.chain after.chain before.wire after.wire before.sent after.sent after.door.up → ServesSetup (Faulted why) setup before after
  faulted_so why was = faulted_up why after.door.up refl was

-- ---- over a cable

module _ {C : Type 0} (chain : C → Option ChainState) (setup : Setup) (old new : TableView C) (bench : C) (wire wire' : Option WireView) (door door' : DoorView) (sent sent' : Option (List ℕ))
    (same : bench ≡ new.cable) (layout : old.hub.layout ≡ setup.layout) (ports : door'.ports ≡ ports_of old.hub.layout)
    (none : Told wire HasNoSteps) (stands : WhereTold (chain old.cable) wire (HubStands (setting_of setup) old.hub (chain old.cable) wire)) where
  abbrev at_start : Outside
  at_start = record { chain = chain old.cable; wire = wire; door = door; sent = sent }

  abbrev at_end : C → Outside
  at_end cable = record { chain = chain cable; wire = wire'; door = door'; sent = sent' }

  pub ended_over : (done : Unit {0}) → Told wire (Rests old.hub) → list_any (λ ready. ready) new.hub.ready ≡ false → door'.over ≡ true
      → ServedSo (Ok done) old.hub new.hub (chain old.cable) (chain new.cable) wire wire' sent sent' door'.up → ServesSetup Ended setup at_start (at_end bench)
  ended_over done rests idle over was = subst (λ cable. ServesSetup Ended setup at_start (at_end cable)) (sym same)
      (ended_so setup old.hub new.hub at_start (at_end new.cable) (ports ∙ ap ports_of layout) none stands done rests idle over was)

  pub faulted_over : (why : ServeFault) → ServedSo {A = Unit {0}} (Err why) old.hub new.hub (chain old.cable) (chain new.cable) wire wire' sent sent' door'.up → ServesSetup (Faulted why) setup at_start (at_end bench)
  faulted_over why was = subst (λ cable. ServesSetup (Faulted why) setup at_start (at_end cable)) (sym same) (faulted_so setup old.hub new.hub at_start (at_end new.cable) (ports ∙ ap ports_of layout) none stands why was)

-- a hub that was made over a chain at rest
pub stands_over : {C : Type 0} (chain : C → Option ChainState) (setup : Setup) → IsWholeSetup setup → IsSound setup → (trst : Bool) → trst ≡ uses_trst setup → (hub : TableView C) (parked : C) (wire : Option WireView) → hub.cable ≡ parked
    → Told (chain parked) (Starts setup.layout (whole_chain setup)) → Told wire IsWire → Told wire HasNoSteps
    → ((setting : Setting) (wire : WireView) → FreshOn setting setup.layout setup.vector trst (chain parked) → IsWire wire → wire.steps ≡ [] → HubStands setting hub.hub (chain hub.cable) (Some wire))
    → WhereTold (chain hub.cable) wire (HubStands (setting_of setup) hub.hub (chain hub.cable) wire)
stands_over chain setup whole sound trst trst_is hub parked wire same started is none begins =
    subst (λ told. WhereTold told wire (HubStands (setting_of setup) hub.hub (chain hub.cable) wire)) (sym (ap chain same))
    (stands_first setup whole sound trst trst_is hub.hub (chain parked) (chain hub.cable) wire started is none begins)

-- ---- what is said of the chain after the assembly and the start is said of the bench from the start

where_before : (P : Type 0) (R : ChainState → ChainState → Type 0) (before between : Option ChainState) (wire : Option WireView) → Both before between R → WhereTold between wire P → WhereTold before wire P
where_before P R None between None first then = tt
where_before P R None between (Some wire) first then = tt
where_before P R (Some old) None wire first then = absurd first
where_before P R (Some old) (Some chain) None first then = tt
where_before P R (Some old) (Some chain) (Some wire) first then = then

module _ (R : ChainState → ChainState → Type 0) (before between : Option ChainState) (wire : Option WireView) (door : DoorView) (sent : Option (List ℕ)) (setup : Setup) (new : Outside) (first : Both before between R) where
  abbrev early : Outside
  early = record { chain = before; wire = wire; door = door; sent = sent }

  abbrev late : Outside
  late = record { chain = between; wire = wire; door = door; sent = sent }

  was_before : WasServed setup late new → WasServed setup early new
  was_before was = record { listens = was.listens; ends = was.ends; told = was.told; served = where_before (ServedOn setup was.ends new.chain new.wire) R before between wire first was.served }

  cut_before : WasCutShort setup late new → WasCutShort setup early new
  cut_before was = record { listens = was.listens; ends = was.ends; told = was.told; served = where_before (ServedOn setup was.ends new.chain new.wire) R before between wire first was.served }

  faulted_before : (why : ServeFault) → FaultedSo why setup late new → FaultedSo why setup early new
  faulted_before fault.Poll (inl was) = inl (record { ports = was.ports; up = was.up; sent = was.sent; served = where_before (ServedOn setup [] new.chain new.wire) R before between wire first was.served })
  faulted_before fault.Poll (inr was) = inr (was_before was)
  faulted_before fault.Cable was = was
  faulted_before fault.Write was = cut_before was

  pub serves_before : (outcome : ServeOutcome) → ServesSetup outcome setup late new → ServesSetup outcome setup early new
  serves_before (NoSetup none) was = absurd was
  serves_before NoTrst was = absurd was
  serves_before Memory was = record { wire = was.wire; door = was.door; sent = was.sent }
  serves_before (Faulted why) was = faulted_before why was
  serves_before Ended was = record { served = was_before was.served; all = where_before (AllGivenOn setup new.wire) R before between wire first was.all; over = was.over }

-- ---- what `serve` comes to

pub serves_of : (outcome : ServeOutcome) (files : Option (List NamedBytes)) (name : List ℕ) (trst : Bool) (setup : Setup) (old new : Outside)
    → CanServe files name trst setup → ServesSetup outcome setup old new → Serves outcome files name trst old new
serves_of (NoSetup none) files name trst setup old new can serves = absurd serves
serves_of NoTrst files name trst setup old new can serves = absurd serves
serves_of Memory files name trst setup old new can serves = (setup, can, serves)
serves_of (Faulted why) files name trst setup old new can serves = (setup, can, serves)
serves_of Ended files name trst setup old new can serves = (setup, can, serves)

-- ---- counts of faults

pub serve_causes : (outcome : ServeOutcome) (setup : Setup) (before after : Outside) (old new : ServeFaults) → ServesSetup outcome setup before after → new.shelf ≡ old.shelf
    → ServeCauses outcome old (record new { shelf = old.shelf }) → ServeCauses outcome old new
serve_causes (NoSetup none) setup before after old new serves shelf causes = absurd serves
serve_causes NoTrst setup before after old new serves shelf causes = absurd serves
serve_causes Memory setup before after old new serves shelf causes = (shelf, causes.1, causes.2, causes.3)
serve_causes (Faulted fault.Poll) setup before after old new serves shelf causes = (shelf, causes.1)
serve_causes (Faulted fault.Cable) setup before after old new serves shelf causes = (shelf, causes.1)
serve_causes (Faulted fault.Write) setup before after old new serves shelf causes = (shelf, causes.1)
serve_causes Ended setup before after old new serves shelf causes = (shelf, causes.1, causes.2, causes.3)

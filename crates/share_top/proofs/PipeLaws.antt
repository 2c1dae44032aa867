-- From a session that was served to what `pipe` comes to.
use Rattle.std.proofs.Common.{◌≡◌, ◌<◌, ◌≤◌, ◌^◌, ℕ, Bool, false, List, [], slice_get, refl, ap, sym, subst, ◌∙◌, arith, Some, None}
use Rattle.std.specs.declared.option.Option.{Option}
use Rattle.std.proofs.KnownBytes.{Appends-nil, Consumes-nil}
use Rattle.base_types.specs.Counts.{Rose}
use Rattle.base_types.specs.Tellings.{Told, Both}
use Rattle.ports.specs.Shelves.{NamedBytes}
use Rattle.chain_model.specs.Chains.{ChainState}
use Rattle.chain_token.specs.declared.token.Token.{Token}
use Rattle.grant_table.specs.Layouts.{GrantShape}
use Rattle.scan_share.specs.Scans.{Starts, contents_of, with_contents}
use Rattle.scan_share.specs.Views.{ParkedView, OpenView}
use Rattle.chain_token.specs.declared.token.Side.TheVariants.{Free}
use Rattle.client_session.specs.Calls.{ServedBy}
use Rattle.client_session.specs.Desks.{cable_of}
use Rattle.client_session.specs.Laws.{IsByItself}
use Rattle.client_session.specs.Private.{opened}
use Rattle.client_session.specs.Seats.{IsFinished}
use Rattle.client_session.specs.Sessions.{SessionView, Shows}
use Rattle.client_session.specs.Turns.{Turn}
use Rattle.lone_session.specs.declared.Served.{Served as Serving}
use Rattle.lone_session.specs.declared.Served.TheVariants.{Ended, ReadFault, WriteFault}
use Rattle.lone_session.specs.Serving.{EndedSo, ServedBetween, ServedCauses, WasCutOff, after_input}
use Rattle.setup_read.specs.declared.setup.Setup.{Setup}
use Rattle.share_top.specs.Outcomes.{Grew}
use Rattle.share_top.specs.Pipes.{Faults, Fits, EndCauses, PipeCauses, Pipes, RanAlone, RunsSession, ServesSession, SessionCauses, private_seat, private_session, whole_chain}
use Rattle.share_top.specs.declared.outcome.Outcome.{Outcome}
use Rattle.share_top.specs.declared.outcome.Outcome.TheVariants.{NoSetup, NoTrst, NoGrant, Memory, CableFault, Served}
use Rattle.share_top.specs.Sessions.{AreWords, IsSound}
use Rattle.share_top.proofs.SessionLaws.{first_turn, group_is, opened_shows, served_first}

pub told_map : {X : Type 0} (P Q : X → Type 0) (o : Option X) → ((x : X) → P x → Q x) → Told o P → Told o Q
told_map P Q None f told = tt
told_map P Q (Some x) f told = f x told

-- ---- a session that was served

module _ {C : Type 0} (setup : Setup) (grant : ℕ) (shape : GrantShape) (found : slice_get setup.layout.grants grant ≡ Some shape) (served : Serving) (left rest sent sent' : Option (List ℕ)) (desk next : Token (ParkedView C) (OpenView C)) where
  served_alone : (turn : Turn) → turn.seat ≡ private_session setup shape → (before after : Option ChainState) → Told before (Starts setup.layout (whole_chain setup))
      → ServedBetween setup.layout grant served left rest sent sent' desk next before after turn → Told before (λ _. RanAlone served setup shape left rest after sent sent')
  served_alone turn seat None after started was = tt
  served_alone turn seat (Some chain) None started was = absurd was
  served_alone turn seat (Some chain) (Some now) started was =
      let there = was.closes.seat ∙ ap (after_input was.taken) seat in
      record {
        taken = was.taken;
        given = was.given;
        replies = was.replies;
        end = was.end;
        consumed = was.consumed;
        wrote = was.wrote;
        ended = subst (λ s. EndedSo was.end was.replies s (after_input was.taken s)) seat (subst (λ s. EndedSo was.end was.replies turn.seat s) was.closes.seat was.closes.past);
        gives = was.gives;
        holds =
            was.closes.others
            ∙ (λ i. with_contents (group_is setup.layout.grants grant shape found i) (contents_of (there i).chain) (started.contents i));
      }

  pub ran_alone : (before after : Option ChainState) (sound : _) → Told before (Starts setup.layout (whole_chain setup))
      → Told before (λ _. ServedBetween setup.layout grant served left rest sent sent' desk next before after (first_turn setup grant shape found sound)) → Told before (λ _. RanAlone served setup shape left rest after sent sent')
  ran_alone None after sound started was = tt
  ran_alone (Some chain) after sound started was = served_alone (first_turn setup grant shape found sound) refl (Some chain) after started was

-- over a cable, by what the serving makes of every turn at a free desk
module _ {C : Type 0} (chain : C → Option ChainState) (setup : Setup) (grant : ℕ) (shape : GrantShape) (found : slice_get setup.layout.grants grant ≡ Some shape) (sound : IsSound setup)
    (view : SessionView) (parked : ParkedView C) (desk : Token (ParkedView C) (OpenView C)) (side : desk.side ≡ Free parked) (queue : desk.queue ≡ [])
    (shows : Shows view false (opened 0 (private_seat setup shape)) []) (started : Told (chain parked.cable) (Starts setup.layout (whole_chain setup))) (left rest sent sent' : Option (List ℕ)) where
  same : chain (cable_of desk.side) ≡ chain parked.cable
  same = ap (λ s. chain (cable_of s)) side

  started_there : Told (chain (cable_of desk.side)) (Starts setup.layout (whole_chain setup))
  started_there = subst (λ o. Told o (Starts setup.layout (whole_chain setup))) (sym same) started

  pub ran_over : (served : Serving) (next : Token (ParkedView C) (OpenView C)) (after : C)
      → ((turn : Turn) → Shows view false turn.seat [] → IsFinished turn.seat → ServedBy setup.layout grant desk (chain (cable_of desk.side)) turn → IsByItself grant turn
      → ServedBetween setup.layout grant served left rest sent sent' desk next (chain (cable_of desk.side)) (chain (cable_of next.side)) turn)
      → after ≡ cable_of next.side → Told (chain parked.cable) (λ _. RanAlone served setup shape left rest (chain after) sent sent')
  ran_over served next after serves after_is =
      subst (λ a. Told (chain parked.cable) (λ _. RanAlone served setup shape left rest (chain a) sent sent')) (sym after_is)
      (subst (λ o. Told o (λ _. RanAlone served setup shape left rest (chain (cable_of next.side)) sent sent')) same
      (ran_alone setup grant shape found served left rest sent sent' desk next (chain (cable_of desk.side)) (chain (cable_of next.side)) sound started_there
      (served_first setup grant shape found sound parked desk view (chain (cable_of desk.side)) (λ turn. ServedBetween setup.layout grant served left rest sent sent' desk next (chain (cable_of desk.side)) (chain (cable_of next.side)) turn)
      side queue (opened_shows setup grant shape found sound view shows) started_there serves)))

  pub cut_over : ((turn : Turn) → Shows view false turn.seat [] → IsFinished turn.seat → ServedBy setup.layout grant desk (chain (cable_of desk.side)) turn → IsByItself grant turn → WasCutOff left rest sent sent' turn.seat)
      → Told (chain parked.cable) (λ _. WasCutOff left rest sent sent' (private_session setup shape))
  cut_over serves =
      subst (λ o. Told o (λ _. WasCutOff left rest sent sent' (private_session setup shape))) same
      (served_first setup grant shape found sound parked desk view (chain (cable_of desk.side)) (λ turn. WasCutOff left rest sent sent' turn.seat) side queue (opened_shows setup grant shape found sound view shows) started_there serves)

-- ---- its counts of faults

grown : (before now : ℕ) → before < 2 ^ 64 → Rose before now → Grew before now
grown before now small rose = (omega (arith, small, rose), rose)

pub end_causes : (served : Serving) (old new : Faults) → AreWords old.cable old.source old.sink → ServedCauses served old.source new.source old.cable new.cable old.sink new.sink → EndCauses served old new
end_causes (Ended end) old new words causes = causes
end_causes ReadFault old new words causes = (grown old.source new.source words.1 causes.0, causes.1, causes.2)
end_causes WriteFault old new words causes = (causes.0, causes.1, grown old.sink new.sink words.2 causes.2)

pub cut_causes : (old new : Faults) → AreWords old.cable old.source old.sink → (old.source ≤ new.source) × Rose old.cable new.cable × (old.sink ≤ new.sink) → (old.source ≤ new.source) × Grew old.cable new.cable × (old.sink ≤ new.sink)
cut_causes old new words causes = (causes.0, grown old.cable new.cable words.0 causes.1, causes.2)

-- ---- what is said of the chain after the assembly and the start is said of the bench from the start

told_before : (P : Type 0) (R : ChainState → ChainState → Type 0) (before between : Option ChainState) → Both before between R → Told between (λ _. P) → Told before (λ _. P)
told_before P R None between first then = tt
told_before P R (Some old) None first then = absurd first
told_before P R (Some old) (Some chain) first then = then

pub serves_before : (R : ChainState → ChainState → Type 0) (before between after : Option ChainState) (outcome : Outcome) (setup : Setup) (shape : GrantShape) (left rest sent sent' : Option (List ℕ))
    → Both before between R → ServesSession outcome setup shape left rest between after sent sent' → ServesSession outcome setup shape left rest before after sent sent'
serves_before R before between after (NoSetup none) setup shape left rest sent sent' first serves = absurd serves
serves_before R before between after NoTrst setup shape left rest sent sent' first serves = absurd serves
serves_before R before between after (NoGrant asked) setup shape left rest sent sent' first serves = absurd serves
serves_before R before between after Memory setup shape left rest sent sent' first serves = absurd serves
serves_before R before between after CableFault setup shape left rest sent sent' first serves = told_before _ R before between first serves
serves_before R before between after (Served served) setup shape left rest sent sent' first serves = (serves.0, told_before _ R before between first serves.1)

pub runs_before : (R : ChainState → ChainState → Type 0) (before between after : Option ChainState) (outcome : Outcome) (setup : Setup) (shape : GrantShape) (left rest sent sent' : Option (List ℕ))
    → Both before between R → ServesSession outcome setup shape left rest between after sent sent' → RunsSession outcome setup shape left rest before after sent sent'
runs_before R before between after (NoSetup none) setup shape left rest sent sent' first serves = absurd serves
runs_before R before between after NoTrst setup shape left rest sent sent' first serves = absurd serves
runs_before R before between after (NoGrant asked) setup shape left rest sent sent' first serves = absurd serves
runs_before R before between after Memory setup shape left rest sent sent' first serves = absurd serves
runs_before R before between after CableFault setup shape left rest sent sent' first serves = told_before _ R before between first serves
runs_before R before between after (Served served) setup shape left rest sent sent' first serves = (serves.0, told_before _ R before between first serves.1)

-- before the first byte a failed cable leaves nothing to reply
pub cut_first : (setup : Setup) (shape : GrantShape) (left sent : Option (List ℕ)) (before : Option ChainState) → Told before (λ _. WasCutOff left left sent sent (private_session setup shape))
cut_first setup shape left sent None = tt
cut_first setup shape left sent (Some chain) = record { taken = []; given = []; consumed = Consumes-nil left; wrote = Appends-nil sent; front = (_, refl) }

-- ---- what `pipe` comes to

pub pipes_of : (outcome : Outcome) (files : Option (List NamedBytes)) (name : List ℕ) (number : ℕ) (trst : Bool) (setup : Setup) (shape : GrantShape) (left rest : Option (List ℕ)) (before after : Option ChainState) (sent sent' : Option (List ℕ))
    → Fits files name number trst setup shape → RunsSession outcome setup shape left rest before after sent sent' → Pipes outcome files name number trst left rest before after sent sent'
pipes_of (NoSetup none) files name number trst setup shape left rest before after sent sent' fits runs = absurd runs
pipes_of NoTrst files name number trst setup shape left rest before after sent sent' fits runs = absurd runs
pipes_of (NoGrant asked) files name number trst setup shape left rest before after sent sent' fits runs = absurd runs
pipes_of Memory files name number trst setup shape left rest before after sent sent' fits runs = (setup, shape, fits, runs)
pipes_of CableFault files name number trst setup shape left rest before after sent sent' fits runs = (setup, shape, fits, runs)
pipes_of (Served served) files name number trst setup shape left rest before after sent sent' fits runs = (setup, shape, fits, runs)

pub pipe_causes : (outcome : Outcome) (setup : Setup) (shape : GrantShape) (left rest : Option (List ℕ)) (before after : Option ChainState) (sent sent' : Option (List ℕ)) (old new : Faults)
    → RunsSession outcome setup shape left rest before after sent sent' → new.shelf ≡ old.shelf → SessionCauses outcome old (record new { shelf = old.shelf }) → PipeCauses outcome old new
pipe_causes outcome setup shape left rest before after sent sent' old new runs shelf causes = by outcome runs (subst (λ s. SessionCauses outcome old (record new { shelf = s })) (sym shelf) causes)
  where
    by : (o : Outcome) → RunsSession o setup shape left rest before after sent sent' → SessionCauses o old new → PipeCauses o old new
    by (NoSetup none) runs causes = absurd runs
    by NoTrst runs causes = absurd runs
    by (NoGrant asked) runs causes = absurd runs
    by Memory runs causes = (shelf, causes)
    by CableFault runs causes = (shelf, causes)
    by (Served served) runs causes = (shelf, causes)

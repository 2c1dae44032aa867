-- From a run of `serve` to where no count of faults rose.
use Rattle.std.proofs.Common.{◌≡◌, ◌≤◌, ◌⊎◌, ℕ, Bool, true, false, List, sym, subst, ◌∙◌, arith, inl, inr, Some}
use Rattle.std.specs.declared.option.Option.{Option}
use Rattle.base_types.specs.Counts.{Rose}
use Rattle.hub_server.specs.declared.ServeFault.TheVariants as fault
use Rattle.ports.specs.Shelves.{NamedBytes}
use Rattle.ports.specs.declared.shelf.Load.{Load}
use Rattle.setup_read.specs.declared.setup.Setup.{Setup}
use Rattle.setup_read.specs.declared.setup.SetupRefusal.{SetupRefusal}
use Rattle.setup_read.specs.declared.setup.SetupRefusal.TheVariants as refusal
use Rattle.share_top.specs.Checks.{refusal_status}
use Rattle.share_top.specs.Pipes.{uses_trst}
use Rattle.share_top.specs.Commands.{ServesSo}
use Rattle.share_top.specs.Serves.{CanServe, IsServeStatus, Outside, RunsServe, ServeCauses, ServeFaults, Serves, serve_status}
use Rattle.share_top.specs.Setups.{LoadsListed}
use Rattle.share_top.specs.Words.{serve_words}
use Rattle.share_top.specs.declared.setup.NoSetup.TheVariants.{Absent, Refused}
use Rattle.share_top.specs.declared.serve_outcome.ServeOutcome.{ServeOutcome}
use Rattle.share_top.specs.declared.serve_outcome.ServeOutcome.TheVariants.{NoSetup, NoTrst, Memory, Faulted, Ended}
use Rattle.share_top.proofs.CommandLaws.{lacking_ends, not_absent, one_setup, rose_more}

-- the sink's count does not fall before the last line
sink_later : (outcome : ServeOutcome) (old new : ServeFaults) → ServeCauses outcome old new → old.sink ≤ new.sink
sink_later (NoSetup none) old new causes = omega (arith, causes.3)
sink_later NoTrst old new causes = omega (arith, causes.3)
sink_later Memory old new causes = omega (arith, causes.3)
sink_later (Faulted fault.Poll) old new causes = omega (arith, causes.1.2)
sink_later (Faulted fault.Cable) old new causes = omega (arith, causes.1.2)
sink_later (Faulted fault.Write) old new causes = causes.1.2.0
sink_later Ended old new causes = omega (arith, causes.3)

module _ (told : List NamedBytes) (name : List ℕ) (trst : Bool) (setup : Setup) (can : CanServe (Some told) name trst setup) (before after : Outside) (old new : ServeFaults)
    (shelf : Rose old.shelf new.shelf → ⊥) (poller : Rose old.poller new.poller → ⊥) (cable : Rose old.cable new.cable → ⊥) (sink : Rose old.sink new.sink → ⊥) where
  outcome_ends : (outcome : ServeOutcome) (status : ℕ) → Serves outcome (Some told) name trst before after → ServeCauses outcome old new → status ≡ serve_status outcome → (status ≡ 0) ⊎ (status ≡ 9)
  outcome_ends (NoSetup Absent) status serves causes says = not_absent told name setup can.said serves.0
  outcome_ends (NoSetup (Refused refused)) status serves causes says = lacking_ends told name setup can.said refused old.shelf new.shelf status serves.0 causes.0 shelf says inr
  outcome_ends NoTrst status serves causes says =
      let same = one_setup told name setup can.said serves.0.setup serves.0.said in
      absurd (let q : false ≡ true = sym serves.0.none ∙ can.trst_is (subst (λ s. uses_trst s ≡ true) same serves.0.uses) in cc)
  outcome_ends Memory status serves causes says = inr says
  outcome_ends (Faulted fault.Poll) status serves causes says = absurd (poller causes.1.0.1)
  outcome_ends (Faulted fault.Cable) status serves causes says = absurd (cable causes.1.1.1)
  outcome_ends (Faulted fault.Write) status serves causes says = absurd (sink causes.1.2.1)
  outcome_ends Ended status serves causes says = inl says

-- the words say one name
same_name : (name name' : List ℕ) → serve_words name ≡ serve_words name' → name ≡ name'
same_name name name' same = cc same

serve_ends : (status : ℕ) (files : Option (List NamedBytes)) (told : List NamedBytes) (name : List ℕ) (trst : Bool) (setup : Setup) (before after : Outside) (old new : ServeFaults)
    → files ≡ Some told → (name' : List ℕ) → serve_words name ≡ serve_words name' → CanServe (Some told) name' trst setup → RunsServe status files name trst before after old new
    → (Rose old.shelf new.shelf → ⊥) → (Rose old.poller new.poller → ⊥) → (Rose old.cable new.cable → ⊥) → (Rose old.sink new.sink → ⊥) → (status ≡ 0) ⊎ (status ≡ 9)
serve_ends status files told name trst setup before after old new is name' same can run shelf poller cable sink =
    let runs = subst (λ f. RunsServe status f name' trst before after old new) is (subst (λ n. RunsServe status files n trst before after old new) (same_name name name' same) run) in
    elim runs.tells [
      | inl whole ↦ outcome_ends told name' trst setup can before (record after { sent = runs.between }) old (record new { sink = runs.sink_between }) shelf poller cable
          (λ rose. sink (subst (λ n. Rose old.sink n) (sym whole.2) rose)) runs.outcome status runs.serves runs.causes whole.0
      | inr part ↦ absurd (sink (rose_more old.sink runs.sink_between new.sink (sink_later runs.outcome old (record new { sink = runs.sink_between }) runs.causes) part.2.1))
    ]

pub serves_so : (status : ℕ) (files files' : Option (List NamedBytes)) (loads loads' : List Load) (name : List ℕ) (trst : Bool) (before after : Outside) (old new : ServeFaults) (name' : List ℕ) → serve_words name ≡ serve_words name'
    → RunsServe status files name trst before after old new → LoadsListed loads loads' name → IsServeStatus status
    → ServesSo status name' trst (record { files = files; loads = loads; outside = before; faults = old }) (record { files = files'; loads = loads'; outside = after; faults = new })
serves_so status files files' loads loads' name trst before after old new name' same run loaded known = record {
  ran = subst (λ n. RunsServe status files n trst before after old new) (same_name name name' same) run;
  loaded = subst (LoadsListed loads loads') (same_name name name' same) loaded;
  status_is = known;
  ends = λ setup told is can. serve_ends status files told name trst setup before after old new is name' same can run;
}

-- ---- the statuses

refusal_known : (refused : SetupRefusal) (status : ℕ) → status ≡ refusal_status refused → IsServeStatus status
refusal_known refusal.Memory status says = inr (inr (inr (inr (inr (inr (inl says))))))
refusal_known refusal.Fault status says = inr (inr (inl says))
refusal_known (refusal.Plain cause place) status says = inr (inl says)
refusal_known (refusal.Layout fault) status says = inr (inl says)
refusal_known (refusal.Absent device) status says = inr (inr (inr (inr (inr (inr (inr says))))))
refusal_known (refusal.Bsdl device at cause) status says = inr (inl says)
refusal_known (refusal.Pins device) status says = inr (inl says)
refusal_known (refusal.Cell net) status says = inr (inl says)

outcome_known : (outcome : ServeOutcome) (status : ℕ) → status ≡ serve_status outcome → IsServeStatus status
outcome_known (NoSetup Absent) status says = inr (inr (inr (inr (inr (inr (inr says))))))
outcome_known (NoSetup (Refused refused)) status says = refusal_known refused status says
outcome_known NoTrst status says = inr (inl says)
outcome_known Memory status says = inr (inr (inr (inr (inr (inr (inl says))))))
outcome_known (Faulted fault.Poll) status says = inr (inr (inr (inr (inl says))))
outcome_known (Faulted fault.Cable) status says = inr (inr (inr (inr (inr (inl says)))))
outcome_known (Faulted fault.Write) status says = inr (inr (inr (inl says)))
outcome_known Ended status says = inl says

pub known_status : (status : ℕ) (files : Option (List NamedBytes)) (name : List ℕ) (trst : Bool) (before after : Outside) (old new : ServeFaults) → RunsServe status files name trst before after old new → IsServeStatus status
known_status status files name trst before after old new run = elim run.tells [
  | inl whole ↦ outcome_known run.outcome status whole.0
  | inr part ↦ inr (inr (inr (inl part.0)))
]

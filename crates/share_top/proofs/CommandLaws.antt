-- From a run of `pipe` to its words, and to where no count of faults rose.
use Rattle.std.proofs.Common.{◌≡◌, ◌<◌, ◌≤◌, ◌-◌, ◌⊎◌, ℕ, zero, suc, Bool, true, false, List, [], ◌∷◌, length, slice_get, sym, subst, ◌∙◌, arith, inl, inr, Some, None, Ok, Err}
use Rattle.std.specs.declared.option.Option.{Option}
use Rattle.std.specs.Fmt.{decimal}
use Rattle.std.proofs.lemmas.Fmt.{decimal_injective}
use Rattle.base_types.specs.Counts.{Rose}
use Rattle.ports.specs.Shelves.{NamedBytes}
use Rattle.chain_model.specs.Chains.{ChainState}
use Rattle.grant_table.specs.Layouts.{GrantShape}
use Rattle.client_session.specs.declared.End.{End}
use Rattle.client_session.specs.declared.End.TheVariants.{Quit, Refused as RefusedEnd, Gone, Cut, Long}
use Rattle.lone_session.specs.declared.Served.TheVariants.{Ended, ReadFault, WriteFault}
use Rattle.setup_read.specs.declared.setup.Setup.{Setup}
use Rattle.setup_read.specs.declared.setup.SetupRefusal.{SetupRefusal}
use Rattle.setup_read.specs.declared.setup.SetupRefusal.TheVariants as refusal
use Rattle.share_top.specs.Words.{IsGrantNumber, pipe_words}
use Rattle.share_top.specs.Setups.{IsRefusal, LoadCauses, no_setup_status, setup_at}
use Rattle.share_top.specs.declared.setup.NoSetup.TheVariants.{Absent, Refused}
use Rattle.share_top.specs.Pipes.{Faults, Fits, IsEndStatus, PipeCauses, Pipes, RunsPipe, end_status, status_of, uses_trst}
use Rattle.share_top.specs.declared.outcome.Outcome.{Outcome}
use Rattle.share_top.specs.declared.outcome.Outcome.TheVariants.{NoSetup, NoTrst, NoGrant, Memory, CableFault, Served}

-- ---- the words say one name and one number

same_name : (name name' : List ℕ) (number number' : ℕ) → pipe_words name number ≡ pipe_words name' number' → name ≡ name'
same_name name name' number number' same = cc same

same_number : (name name' : List ℕ) (number number' : ℕ) → IsGrantNumber number → IsGrantNumber number' → pipe_words name number ≡ pipe_words name' number' → number ≡ number'
same_number name name' number number' is is' same =
    let texts : decimal number ≡ decimal number' = cc same in
    decimal_injective number number' (omega (arith, is.1)) (omega (arith, is'.1)) texts

pub runs_same : (status : ℕ) (files : Option (List NamedBytes)) (name name' : List ℕ) (number number' : ℕ) (trst : Bool) (left rest : Option (List ℕ)) (before after : Option ChainState) (sent sent' : Option (List ℕ)) (old new : Faults)
    → IsGrantNumber number → IsGrantNumber number' → pipe_words name number ≡ pipe_words name' number'
    → RunsPipe status files name number trst left rest before after sent sent' old new → RunsPipe status files name' number' trst left rest before after sent sent' old new
runs_same status files name name' number number' trst left rest before after sent sent' old new is is' same runs =
    subst (λ n. RunsPipe status files n number' trst left rest before after sent sent' old new) (same_name name name' number number' same)
    (subst (λ k. RunsPipe status files name k trst left rest before after sent sent' old new) (same_number name name' number number' is is' same) runs)

-- ---- where no count rose

-- the files say one setup
module _ (told : List NamedBytes) (name : List ℕ) (setup : Setup) (said : setup_at told name ≡ Some (Ok setup)) where
  pub not_absent : {A : Type 0} → setup_at told name ≡ None → A
  not_absent is = absurd (let q : None ≡ Some (Ok setup) = sym is ∙ said in cc)

  not_refused : {A : Type 0} (refused : SetupRefusal) → setup_at told name ≡ Some (Err refused) → A
  not_refused refused is = absurd (let q : Some (Err refused) ≡ Some (Ok setup) = sym is ∙ said in cc)

  pub one_setup : (other : Setup) → setup_at told name ≡ Some (Ok other) → other ≡ setup
  one_setup other is = let q : Some (Ok other) ≡ Some (Ok setup) = sym is ∙ said in cc

  -- where no load failed, only memory was wanting
  pub lacking_ends : {A : Type 0} (refused : SetupRefusal) (before now status : ℕ) → IsRefusal refused told name → LoadCauses (Refused refused) before now → (Rose before now → ⊥) → status ≡ no_setup_status (Refused refused) → (status ≡ 9 → A) → A
  lacking_ends refusal.Memory before now status is causes calm says memory = memory says
  lacking_ends refusal.Fault before now status is causes calm says memory = absurd (calm causes.1)
  lacking_ends (refusal.Plain cause place) before now status is causes calm says memory = not_refused (refusal.Plain cause place) is
  lacking_ends (refusal.Layout fault) before now status is causes calm says memory = not_refused (refusal.Layout fault) is
  lacking_ends (refusal.Absent device) before now status is causes calm says memory = not_refused (refusal.Absent device) is
  lacking_ends (refusal.Bsdl device at cause) before now status is causes calm says memory = not_refused (refusal.Bsdl device at cause) is
  lacking_ends (refusal.Pins device) before now status is causes calm says memory = not_refused (refusal.Pins device) is
  lacking_ends (refusal.Cell net) before now status is causes calm says memory = not_refused (refusal.Cell net) is

found_below : {X : Type 0} (xs : List X) (place : ℕ) (x : X) → slice_get xs place ≡ Some x → place < length xs
found_below [] place x found = absurd (let q : None ≡ Some x = found in cc)
found_below (first ∷ xs) zero x found = omega arith
found_below (first ∷ xs) (suc place) x found = let below = found_below xs place x found in omega (arith, below)

end_is : (end : End) (status : ℕ) → status ≡ end_status end → IsEndStatus status
end_is (Quit at) status says = inl says
end_is (Gone at) status says = inl says
end_is (RefusedEnd at cause) status says = inr (inl says)
end_is (Cut at) status says = inr (inl says)
end_is (Long at) status says = inr (inr says)

-- the sink's count does not fall before the last line
sink_later : (outcome : Outcome) (old new : Faults) → PipeCauses outcome old new → old.sink ≤ new.sink
sink_later (NoSetup none) old new causes = omega (arith, causes.3)
sink_later NoTrst old new causes = omega (arith, causes.1.2)
sink_later (NoGrant asked) old new causes = omega (arith, causes.1.2)
sink_later Memory old new causes = omega (arith, causes.1.2)
sink_later CableFault old new causes = causes.1.2
sink_later (Served (Ended end)) old new causes = omega (arith, causes.1.2)
sink_later (Served ReadFault) old new causes = omega (arith, causes.1.2)
sink_later (Served WriteFault) old new causes = causes.1.2.0

pub rose_more : (old between new : ℕ) → old ≤ between → Rose between new → Rose old new
rose_more old between new later rose = omega (arith, later, rose)

module _ (told : List NamedBytes) (name : List ℕ) (number : ℕ) (trst : Bool) (setup : Setup) (grant : GrantShape) (fits : Fits (Some told) name number trst setup grant)
    (left rest : Option (List ℕ)) (before after : Option ChainState) (sent sent' : Option (List ℕ)) (old new : Faults)
    (shelf : Rose old.shelf new.shelf → ⊥) (source : Rose old.source new.source → ⊥) (cable : Rose old.cable new.cable → ⊥) (sink : Rose old.sink new.sink → ⊥) where
  outcome_ends : (outcome : Outcome) (status : ℕ) → Pipes outcome (Some told) name number trst left rest before after sent sent' → PipeCauses outcome old new → status ≡ status_of outcome → IsEndStatus status ⊎ (status ≡ 9)
  outcome_ends (NoSetup Absent) status pipes causes says = not_absent told name setup fits.said pipes.0
  outcome_ends (NoSetup (Refused refused)) status pipes causes says = lacking_ends told name setup fits.said refused old.shelf new.shelf status pipes.0 causes.0 shelf says inr
  outcome_ends NoTrst status pipes causes says =
      let same = one_setup told name setup fits.said pipes.0.setup pipes.0.said in
      absurd (let q : false ≡ true = sym pipes.0.none ∙ fits.trst_is (subst (λ s. uses_trst s ≡ true) same pipes.0.uses) in cc)
  outcome_ends (NoGrant asked) status pipes causes says =
      let same = one_setup told name setup fits.said pipes.1.setup pipes.1.said in
      let fewer : length setup.layout.grants < number = subst (λ (s : Setup). length s.layout.grants < number) same pipes.1.fewer in
      let below = found_below setup.layout.grants (number - 1) grant fits.there in
      absurd (omega (arith, fewer, below))
  outcome_ends Memory status pipes causes says = inr says
  outcome_ends CableFault status pipes causes says = absurd (cable causes.1.1.1)
  outcome_ends (Served (Ended end)) status pipes causes says = inl (end_is end status says)
  outcome_ends (Served ReadFault) status pipes causes says = absurd (source causes.1.0.1)
  outcome_ends (Served WriteFault) status pipes causes says = absurd (sink causes.1.2.1)

pub pipe_ends : (status : ℕ) (files : Option (List NamedBytes)) (told : List NamedBytes) (name : List ℕ) (number : ℕ) (trst : Bool) (setup : Setup) (grant : GrantShape) (left rest : Option (List ℕ)) (before after : Option ChainState) (sent sent' : Option (List ℕ)) (old new : Faults)
    → files ≡ Some told → Fits (Some told) name number trst setup grant → RunsPipe status files name number trst left rest before after sent sent' old new
    → (Rose old.shelf new.shelf → ⊥) → (Rose old.source new.source → ⊥) → (Rose old.cable new.cable → ⊥) → (Rose old.sink new.sink → ⊥) → IsEndStatus status ⊎ (status ≡ 9)
pipe_ends status files told name number trst setup grant left rest before after sent sent' old new is fits run shelf source cable sink =
    let runs = subst (λ f. RunsPipe status f name number trst left rest before after sent sent' old new) is run in
    elim runs.tells [
      | inl whole ↦ outcome_ends told name number trst setup grant fits left rest before after sent runs.between old (record new { sink = runs.sink_between }) shelf source cable
          (λ rose. sink (subst (λ n. Rose old.sink n) (sym whole.2) rose)) runs.outcome status runs.pipes runs.causes whole.0
      | inr part ↦ absurd (sink (rose_more old.sink runs.sink_between new.sink (sink_later runs.outcome old (record new { sink = runs.sink_between }) runs.causes) part.2.1))
    ]

-- What the commands come to by their words, `check`, `pipe` and `serve`, and words that are none.
use Rattle.std.specs.Prelude.{◌≡◌, ◌⊎◌, ℕ, Bool, List, codes}
use Rattle.std.specs.declared.option.Option.{Option}
use Rattle.std.specs.declared.option.Option.TheVariants.{Some}
use Rattle.base_types.specs.Counts.{Rose}
use Rattle.chain_model.specs.Chains.{ChainState}
use Rattle.grant_table.specs.Layouts.{GrantShape}
use Rattle.ports.specs.Shelves.{NamedBytes}
use Rattle.ports.specs.declared.shelf.Load.{Load}
use Rattle.setup_read.specs.declared.setup.Setup.{Setup}
use Rattle.share_top.specs.CheckRuns.{RunsCheck}
use Rattle.share_top.specs.Outcomes.{IsCheckStatus, IsPipeStatus, IsStatus, Tells}
use Rattle.share_top.specs.Pipes.{Faults, Fits, IsEndStatus, RunsPipe}
use Rattle.share_top.specs.Serves.{CanServe, IsServeStatus, IsServedStatus, Outside, RunsServe, ServeFaults}
use Rattle.share_top.specs.Setups.{LoadsListed}
use Rattle.share_top.specs.Words.{IsGrantNumber, NoCheck, NoPipe, check_words, pipe_words}

-- what these commands see of the outside: the files of the shelf and what was loaded of them, the input, the bench's chain, what went out, and
-- the counts of faults
pub record Around : Type 0 where
  pub files : Option (List NamedBytes)
  pub loads : List Load
  pub left : Option (List ℕ)
  pub chain : Option ChainState
  pub sent : Option (List ℕ)
  pub faults : Faults

-- the input and the bench are as they were
pub record StandsStill (old new : Around) : Type 0 where
  pub left : new.left ≡ old.left
  pub source : new.faults.source ≡ old.faults.source
  pub chain : new.chain ≡ old.chain
  pub cable : new.faults.cable ≡ old.faults.cable

-- `check SETUP`: what went out, and what was loaded
pub record ChecksSo (status : ℕ) (name : List ℕ) (old new : Around) : Type 0 where
  pub ran : RunsCheck status old.files name old.sent new.sent old.faults.shelf new.faults.shelf old.faults.sink new.faults.sink
  pub loaded : LoadsListed old.loads new.loads name
  pub status_is : IsCheckStatus status
  pub still : StandsStill old new

-- `pipe SETUP GRANT`: the session that was run, or why there was none; and what was loaded. Where the files say a setup with that grant, which
-- the cable can serve, no count rose and memory was not wanting, the session ends
pub record PipesSo (status : ℕ) (name : List ℕ) (number : ℕ) (trst : Bool) (old new : Around) : Type 0 where
  pub ran : RunsPipe status old.files name number trst old.left new.left old.chain new.chain old.sent new.sent old.faults new.faults
  pub loaded : LoadsListed old.loads new.loads name
  pub status_is : IsPipeStatus status
  pub ends : (setup : Setup) (grant : GrantShape) (told : List NamedBytes) → old.files ≡ Some told → Fits (Some told) name number trst setup grant
      → (Rose old.faults.shelf new.faults.shelf → ⊥) → (Rose old.faults.source new.faults.source → ⊥) → (Rose old.faults.cable new.faults.cable → ⊥) → (Rose old.faults.sink new.faults.sink → ⊥)
      → IsEndStatus status ⊎ (status ≡ 9)

-- words that are neither: they are told, and then nothing else is done
pub record TellsWords (status : ℕ) (old new : Around) : Type 0 where
  pub tells : Tells 2 (codes "words\n") status old.sent new.sent old.faults.sink new.faults.sink
  pub loads : new.loads ≡ old.loads
  pub shelf : new.faults.shelf ≡ old.faults.shelf
  pub still : StandsStill old new

-- by the words
pub record RunsLocal (words : List (List ℕ)) (status : ℕ) (trst : Bool) (old new : Around) : Type 0 where
  pub checked : (name : List ℕ) → words ≡ check_words name → ChecksSo status name old new
  pub piped : (name : List ℕ) (number : ℕ) → IsGrantNumber number → words ≡ pipe_words name number → PipesSo status name number trst old new
  pub others : NoCheck words → NoPipe words → TellsWords status old new

-- what `serve` sees of the outside: the files of the shelf and what was loaded of them, the bench, the wire and what went out, and the counts of
-- faults
pub record AroundServe : Type 0 where
  pub files : Option (List NamedBytes)
  pub loads : List Load
  pub outside : Outside
  pub faults : ServeFaults

-- `serve SETUP`: the sessions that were served, or why there were none; and what was loaded. Where the files say a setup which the cable can serve,
-- no count rose and memory was not wanting, it is served to the end
pub record ServesSo (status : ℕ) (name : List ℕ) (trst : Bool) (old new : AroundServe) : Type 0 where
  pub ran : RunsServe status old.files name trst old.outside new.outside old.faults new.faults
  pub loaded : LoadsListed old.loads new.loads name
  pub status_is : IsServeStatus status
  pub ends : (setup : Setup) (told : List NamedBytes) → old.files ≡ Some told → CanServe (Some told) name trst setup
      → (Rose old.faults.shelf new.faults.shelf → ⊥) → (Rose old.faults.poller new.faults.poller → ⊥) → (Rose old.faults.cable new.faults.cable → ⊥) → (Rose old.faults.sink new.faults.sink → ⊥)
      → (status ≡ 0) ⊎ (status ≡ 9)

-- the statuses of all commands
abbrev pub IsRunStatus : ℕ → Type 0
IsRunStatus status = IsStatus status ⊎ IsServedStatus status

-- The parts of a scan of the shared chain, over a cable that may tell its chain.
use Rattle.std.specs.Prelude.{ℕ, ◌+◌, ◌≡◌, ◌≢◌, Bool, true, false, List, [], ◌∷◌, ◌++◌, length}
use Rattle.std.specs.declared.option.Option.{Option}
use Rattle.base_types.specs.Tellings.{Both, TakesFirst, Told}
use Rattle.chain_model.specs.Chains.{ChainState}
use Rattle.chain_model.specs.Cycles.{Clock, after_calls, after_cycles, answers}
use Rattle.grant_table.specs.Layouts.{LayoutShape}
use Rattle.scan_walks.specs.Walks.{with_tms, calls_for}
use Rattle.scan_share.specs.Scans.{Captures, IsReadOut, scan_length}
use Rattle.scan_share.specs.Laws.{own_bits}
use Rattle.scan_share.specs.Views.{IsLoadedFor, OpenWith, RestsWith}
use Rattle.scan_share.specs.Walks.{load_walk, capture_walk, shift_out}

-- the chain, where it is told, made these cycles in so many calls
abbrev pub Makes : ℕ → List Clock → Option ChainState → Option ChainState → Type 0
Makes calls clocks before after = Both before after (λ old new. new ≡ after_calls calls clocks old)

-- some answers, of those that were told ahead, were taken
pub record TakesAny (before after : Option (List Bool)) : Type 0 where
  pub taken : List Bool
  pub is : TakesFirst before after taken

-- so many bits were read out, and then the chain went on to Pause-DR
pub record Reads (before after : Option ChainState) (ahead ahead_after : Option (List Bool)) (holds holds_after : List Bool → List Bool) (count : ℕ) : Type 0 where
  pub out : List Bool
  pub last : Bool
  pub counted : length out ≡ count
  pub held : (more : List Bool) → holds_after more ≡ holds (out ++ more)
  pub made : Makes (calls_for count + 1) (shift_out count ++ with_tms false ∷ []) before after
  pub answered : Both before after (λ old new. out ≡ answers (shift_out count) old)
  pub taken : TakesFirst ahead ahead_after (out ++ last ∷ [])

-- the cycles from Run-Test/Idle to Shift-DR past Capture-DR: by way of an instruction scan of these bits, or straight where they are
-- loaded already
abbrev pub entry_walk : (is_loaded : Bool) → List Bool → List Clock
entry_walk true bits = capture_walk
entry_walk false bits = load_walk bits ++ capture_walk

-- and the calls that make them, for an instruction scan of so many bits
abbrev pub entry_calls : (is_loaded : Bool) → ℕ → ℕ
entry_calls true count = 1
entry_calls false count = calls_for count + 2

-- from Run-Test/Idle to Shift-DR, so many bits read out, and on to Pause-DR
pub record ScansOut (is_loaded : Bool) (bits : List Bool) (before after : Option ChainState) (ahead ahead_after : Option (List Bool)) (holds holds_after : List Bool → List Bool) (count : ℕ) : Type 0 where
  pub way : List Bool
  pub out : List Bool
  pub last : Bool
  pub counted : length out ≡ count
  pub held : (more : List Bool) → holds_after more ≡ holds (out ++ more)
  pub made : Makes (entry_calls is_loaded (length bits) + (calls_for count + 1)) (entry_walk is_loaded bits ++ (shift_out count ++ with_tms false ∷ [])) before after
  pub answered : Both before after (λ old new. out ≡ answers (shift_out count) (after_cycles (entry_walk is_loaded bits) old))
  pub taken : TakesFirst ahead ahead_after (way ++ (out ++ last ∷ []))

-- so many bits were read out for a group
pub record ReadsGroup (layout : LayoutShape) (group : List ℕ) (codes : List (List Bool)) (before after : Option ChainState) (ahead ahead_after : Option (List Bool)) (holds holds_after : List Bool → List Bool) : Type 0 where
  pub out : List Bool
  pub counted : length out ≡ scan_length layout group codes
  pub held : (more : List Bool) → holds_after more ≡ holds (out ++ more)
  pub captures : Both before after (Captures layout group codes (own_bits layout group codes out))
  pub read : Both ahead ahead_after (λ told left. IsReadOut layout group codes told left (own_bits layout group codes out))

-- the chain has an open scan under these codes of a grant
pub record IsOpenUnder (layout : LayoutShape) (grant : ℕ) (words : List ℕ) (chain : Option ChainState) : Type 0 where
  pub loaded : List ℕ
  pub loaded_is : IsLoadedFor layout grant words loaded
  pub open_is : Told chain (OpenWith loaded)

-- these codes are to be loaded into a chain at rest, and are loaded already, or are not
pub record IsReady (is_loaded : Bool) (loaded : List ℕ) (chain : Option ChainState) : Type 0 where
  pub before : List ℕ
  pub rests : Told chain (RestsWith before)
  pub same : is_loaded ≡ true → before ≡ loaded
  pub differ : is_loaded ≡ false → before ≢ loaded

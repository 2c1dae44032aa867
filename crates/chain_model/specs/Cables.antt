-- What a cable tells of its chain, and what its calls do to that.
use Rattle.std.specs.Prelude.{◌≡◌, ◌<◌, ℕ, List, [], length}
use Rattle.std.specs.declared.option.Option.{Option}
use Rattle.base_types.specs.Tellings.{Both}
use Rattle.scan_bits.specs.Words.{number_of}
use Rattle.chain_model.specs.Chains.{ChainState, powered}
use Rattle.chain_model.specs.Cycles.{Clock, after_call, answers}

-- there is a device on the chain
abbrev pub HasDevice : ChainState → Type 0
HasDevice chain = 0 < length chain.devices

-- the chain, where it is told, made these cycles in one call, and the word is what they answered, the first in its lowest bit
abbrev pub Clocked : Option ChainState → Option ChainState → List Clock → ℕ → Type 0
Clocked before after clocks word = Both before after (λ old new. (new ≡ after_call clocks old) × (word ≡ number_of (answers clocks old)))

-- the chain without devices, at power-up
abbrev pub empty_chain : ChainState
empty_chain = powered [] []

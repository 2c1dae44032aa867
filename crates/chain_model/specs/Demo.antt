-- The chain of one demo device.
use Rattle.std.specs.Prelude.{false, List, [], ◌∷◌, replicate}
use Rattle.part_model.specs.Plans.{OpcodeEntry, AccessEntry}
use Rattle.part_model.specs.Demo.{demo_part, demo_plan}
use Rattle.chain_model.specs.Chains.{ChainState, Placed, powered}

-- the demo device with its four pins at 0
abbrev pub demo_board : Placed
demo_board = record { part = demo_part; pins = replicate 4 false }

-- the chain of the demo device alone, at power-up
abbrev pub powered_demo : ChainState
powered_demo = powered (demo_board ∷ []) []

-- the lists of its plan
abbrev pub demo_opcodes : List OpcodeEntry
demo_opcodes = demo_plan.opcodes

abbrev pub demo_access : List AccessEntry
demo_access = demo_plan.access

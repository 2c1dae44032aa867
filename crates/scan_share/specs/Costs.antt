-- Worked rows: what scans of a chain of two demo devices cost, each device of a grant of its own.
use Rattle.std.specs.Prelude.{ℕ, Bool, List, [], ◌∷◌}
use Rattle.scan_bits.specs.Words.{bits_of}
use Rattle.part_model.specs.Demo.{demo_part}
use Rattle.chain_model.specs.Chains.{ChainState, powered}
use Rattle.chain_model.specs.Cycles.{after_calls}
use Rattle.chain_model.specs.Demo.{demo_board}
use Rattle.grant_table.specs.declared.Protocol.TheVariants.{Xvc}
use Rattle.grant_table.specs.Layouts.{LayoutShape, group_of}
use Rattle.grant_table.specs.Faults.{layout_of}
use Rattle.scan_share.specs.Scans.{capture_cycles, codes_during, with_codes}
use Rattle.scan_share.specs.Walks.{start_walk}

-- two demo devices, and a grant of each
abbrev pub two_grants : LayoutShape
two_grants = layout_of (demo_part ∷ demo_part ∷ [])
    (record { devices = 1 ∷ []; port = 2542; protocol = Xvc } ∷ record { devices = 2 ∷ []; port = 2543; protocol = Xvc } ∷ []) []

-- the code of USER1, which selects the register USER of eight bits
abbrev pub user_code : List (List Bool)
user_code = bits_of 4 8 ∷ []

-- their chain, started
abbrev pub two_started : ChainState
two_started = after_calls 1 start_walk (powered (demo_board ∷ demo_board ∷ []) [])

-- and after a capture for the first grant under that code
abbrev pub two_loaded : ChainState
two_loaded = record two_started { devices = with_codes two_started.devices (codes_during two_grants (group_of two_grants.grants 0) user_code) }

-- the cycles of a capture for a grant under that code
abbrev pub user_cycles : ℕ → ChainState → ℕ
user_cycles grant chain = capture_cycles two_grants (group_of two_grants.grants grant) user_code chain

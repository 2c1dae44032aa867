-- The cycles of TCK of a scan of the shared chain. TDI is 0 where no bit is stated.
use Rattle.std.specs.Prelude.{ℕ, Bool, true, false, List, [], ◌∷◌, ◌++◌, replicate}
use Rattle.chain_model.specs.Cycles.{Clock}
use Rattle.scan_walks.specs.Walks.{with_tms, shift_in}

-- from Run-Test/Idle: an instruction scan of these bits, to Update-IR
abbrev pub load_walk : List Bool → List Clock
load_walk bits = (with_tms true ∷ with_tms true ∷ with_tms false ∷ with_tms false ∷ []) ++ shift_in bits ++ with_tms true ∷ []

-- from Run-Test/Idle or Update-IR: to Shift-DR, past Capture-DR
abbrev pub capture_walk : List Clock
capture_walk = with_tms true ∷ with_tms false ∷ with_tms false ∷ []

-- so many zeros, for which as many bits come out
abbrev pub shift_out : ℕ → List Clock
shift_out count = shift_in (replicate count false)

-- from Run-Test/Idle or Update-IR: a capture, and so many bits read out, to Pause-DR
abbrev pub read_walk : ℕ → List Clock
read_walk count = capture_walk ++ shift_out count ++ with_tms false ∷ []

-- from Pause-DR: these bits written and updated, to Run-Test/Idle
abbrev pub write_walk : List Bool → List Clock
write_walk bits = (with_tms true ∷ with_tms false ∷ []) ++ shift_in bits ++ with_tms true ∷ with_tms false ∷ []

-- from power-up to Run-Test/Idle, by way of Test-Logic-Reset
abbrev pub start_walk : List Clock
start_walk = with_tms true ∷ with_tms true ∷ with_tms true ∷ with_tms true ∷ with_tms true ∷ with_tms false ∷ []

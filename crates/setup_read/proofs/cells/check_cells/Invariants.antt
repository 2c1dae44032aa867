use Rattle.std.proofs.Common.{◌≡◌, suc, drop}
use Rattle.chain_model.specs.Boards.{EachHasEnds}
use Rattle.setup_read.specs.Boards.{wired}
use Rattle.setup_read.proofs.cells.check_cells.Given as goal

abbrev pub invariant-loop-index : goal.invariant-loop-index
invariant-loop-index l =
    (wired l.boards 1 l.nets ≡ wired l.boards (suc l.index) (drop l.index l.nets))
    × (EachHasEnds l.boards (drop l.index l.nets) → EachHasEnds l.boards l.nets)

use Rattle.std.proofs.Common.{◌≡◌, ◌++◌, map, drop}
use Rattle.setup_read.proofs.read.parts_of.Given as goal

abbrev pub invariant-loop-board : goal.invariant-loop-board
invariant-loop-board l = l.parts.items ++ map (λ board. board.part) (drop l.board-index l.boards) ≡ map (λ board. board.part) l.boards

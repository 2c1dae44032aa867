use Rattle.setup_read.proofs.BoardLaws.{Going}
use Rattle.setup_read.proofs.boards.devices_of.Given as goal

abbrev pub invariant-loop-index : goal.invariant-loop-index
invariant-loop-index g l = Going (g.S.Shelf.files l.fn.shelf) (g.S.Shelf.files l.shelf) (g.S.Shelf.fault_count l.fn.shelf) (g.S.Shelf.fault_count l.shelf) (g.S.Shelf.loads l.fn.shelf) (g.S.Shelf.loads l.shelf) l.entries l.index l.names l.boards

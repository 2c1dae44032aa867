use Rattle.std.proofs.Common.{◌∙◌, sym, arith}
use Rattle.setup_read.proofs.BoardLaws.{cells_found, no_cells}
use Rattle.setup_read.proofs.cells.cells_at.Goals as goal

pub returns-then-place-boards : goal.returns-then-place-boards
returns-then-place-boards c =
    c.len_of.ensures
    ∙ sym (cells_found c.args.boards.now c.args.place c.index-boards-place.result (omega (arith, c.if-place-boards)))

pub returns-else-place-boards : goal.returns-else-place-boards
returns-else-place-boards c = sym (no_cells c.args.boards.now c.args.place (omega (arith, c.if-place-boards)))

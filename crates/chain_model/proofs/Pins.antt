-- Boards that have their pin values.
use Rattle.std.proofs.Common.{List, [], ◌∷◌, ◌++◌}
use Rattle.chain_model.specs.declared.cable.Board.{Board}
use Rattle.chain_model.specs.Boards.{HasPins, EachHasPins}

-- one board more
pub one_more : (boards : List Board) (board : Board) → EachHasPins boards → HasPins board → EachHasPins (boards ++ board ∷ [])
one_more [] board each has = (has, tt)
one_more (first ∷ boards) board each has = (each.0, one_more boards board each.1 has)

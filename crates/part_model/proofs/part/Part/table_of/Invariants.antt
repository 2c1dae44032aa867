use Rattle.std.proofs.Common.{◌≡◌, length}
use Rattle.part_model.specs.CodeTables.{IsTableOf}
use Rattle.part_model.proofs.part.Part.table_of.Given as goal

abbrev pub invariant-loop-code : goal.invariant-loop-code
invariant-loop-code l = (length l.table ≡ l.code) × IsTableOf l.self l.table

use Rattle.std.proofs.Common.{◌≡◌, drop}
use Rattle.part_model.specs.NameIndexes.{hash_from}
use Rattle.part_model.proofs.name_index.hash.Given as goal

abbrev pub invariant-loop-byte : goal.invariant-loop-byte
invariant-loop-byte l = hash_from l.hash (drop l.byte-index l.name) ≡ hash_from 0 l.name

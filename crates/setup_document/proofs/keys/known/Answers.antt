use Rattle.setup_document.proofs.KeyLaws.{known_found, known_refused}
use Rattle.std.proofs.Common.{rules}
use Rattle.setup_document.proofs.keys.known.Goals as goal

pub returns-then-has_known_keys : goal.returns-then-has_known_keys
returns-then-has_known_keys c = known_found c.args.place c.args.table.now.entries (search rules)

pub returns-else-has_known_keys : goal.returns-else-has_known_keys
returns-else-has_known_keys c = rw c.refused.ensures (known_refused c.args.place c.args.table.now.entries (search rules))

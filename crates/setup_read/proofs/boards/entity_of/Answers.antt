use Rattle.std.proofs.Common.{rules}
use Rattle.setup_read.proofs.BoardLaws.{read_told}
use Rattle.setup_read.proofs.LoadLaws.{no_first, counts_nothing}
use Rattle.setup_read.proofs.boards.entity_of.Goals as goal

pub returns-in-Ok-clause-read : goal.returns-in-Ok-clause-read
returns-in-Ok-clause-read g c = read_told (g.S.Shelf.files c.args.shelf.now) c.args.device c.args.name.now c.in-Ok.text.items c.entity_in.result (search (rules, c.in-Ok.ensures.given)) (search (rules, c.entity_in.ensures.is))

pub returns-in-Ok-clause-cause : goal.returns-in-Ok-clause-cause
returns-in-Ok-clause-cause g c = counts_nothing _ _ c.entity_in.result c.entity_in.ensures.loads (search (rules, c.in-Ok.ensures.cause))

pub returns-in-Err-Memory-clause-first : goal.returns-in-Err-Memory-clause-first
returns-in-Err-Memory-clause-first g c = no_first _ _ _ (search (rules, c.in-Err-Memory.ensures.loads))

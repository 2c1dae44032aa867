use Rattle.std.proofs.Common.{rules, arith}
use Rattle.setup_read.proofs.BoardLaws.{item_left, told_failure, went_on}
use Rattle.setup_read.proofs.LoadLaws.{loaded_first}
use Rattle.setup_read.proofs.boards.devices_of.Goals as goal

pub returns-in_err-name-clause-read : goal.returns-in_err-name-clause-read
returns-in_err-name-clause-read g c =
    let left = item_left c.args.entries.now c.loop-index.index c.index-entries-index.result (omega (arith, c.loop-index-test)) c.index-entries-index.is in
    told_failure (g.S.Shelf.files c.args.shelf.now) (g.S.Shelf.files c.loop-index.shelf) c.args.entries.now c.loop-index.index _ c.index-entries-index.result c.loop-index.names c.loop-index.boards c.in_err-name.field-0.0 c.device_of.result c.from_residual.result
    c.loop-index.invariant.files_kept (omega (arith, c.requires, c.loop-index-test)) left (search rules) (search rules) c.loop-index.invariant.read c.device_of.ensures.read

pub returns-in_err-name-clause-first : goal.returns-in_err-name-clause-first
returns-in_err-name-clause-first g c =
    let left = item_left c.args.entries.now c.loop-index.index c.index-entries-index.result (omega (arith, c.loop-index-test)) c.index-entries-index.is in
    loaded_first _ (g.S.Shelf.loads c.loop-index.shelf) _ c.args.entries.now c.loop-index.index c.index-entries-index.result left c.loop-index.invariant.loaded (search (rules, c.device_of.ensures.first))

pub returns-in_err-push-clause-first : goal.returns-in_err-push-clause-first
returns-in_err-push-clause-first g c =
    let left = item_left c.args.entries.now c.loop-index.index c.index-entries-index.result (omega (arith, c.loop-index-test)) c.index-entries-index.is in
    loaded_first _ (g.S.Shelf.loads c.loop-index.shelf) _ c.args.entries.now c.loop-index.index c.index-entries-index.result left c.loop-index.invariant.loaded (search (rules, c.device_of.ensures.first))

pub returns-in_err-push-2-clause-first : goal.returns-in_err-push-2-clause-first
returns-in_err-push-2-clause-first g c =
    let left = item_left c.args.entries.now c.loop-index.index c.index-entries-index.result (omega (arith, c.loop-index-test)) c.index-entries-index.is in
    loaded_first _ (g.S.Shelf.loads c.loop-index.shelf) _ c.args.entries.now c.loop-index.index c.index-entries-index.result left c.loop-index.invariant.loaded (search (rules, c.device_of.ensures.first))

pub loop-index-preserved : goal.loop-index-preserved
loop-index-preserved g c =
    let left = item_left c.args.entries.now c.loop-index.index c.index-entries-index.result (omega (arith, c.loop-index-test)) c.index-entries-index.is in
    went_on (g.S.Shelf.files c.args.shelf.now) (g.S.Shelf.files c.loop-index.shelf) (g.S.Shelf.files c.device_of.new.shelf)
    (g.S.Shelf.fault_count c.args.shelf.now) (g.S.Shelf.fault_count c.loop-index.shelf) (g.S.Shelf.fault_count c.device_of.new.shelf)
    (g.S.Shelf.loads c.args.shelf.now) (g.S.Shelf.loads c.loop-index.shelf) (g.S.Shelf.loads c.device_of.new.shelf)
    c.args.entries.now c.loop-index.index _ _ c.index-entries-index.result c.loop-index.names _ c.loop-index.boards _ c.in_ok-name.name c.in_ok-name.board c.device_of.result
    c.loop-index.invariant left (omega arith) (omega (arith, c.requires, c.loop-index-test)) (search rules)
    c.device_of.ensures.files (search rules) (search rules)
    (search (rules, c.in_ok-push.ensures.added)) (search (rules, c.in_ok-push-2.ensures.added)) (search rules)
    c.device_of.ensures.read

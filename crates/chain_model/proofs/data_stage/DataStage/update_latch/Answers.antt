use Rattle.std.proofs.Common.{ap, slice_set}
use Rattle.chain_model.proofs.Staged.{latch_behind}
use Rattle.chain_model.proofs.data_stage.DataStage.update_latch.Goals as goal

pub returns-then-is_behind-clause-latched : goal.returns-then-is_behind-clause-latched
returns-then-is_behind-clause-latched c latch =
    ap (slice_set c.args.named.now c.args.at)
    (latch_behind c.args.self.now c.args.pins.now latch c.index-named-at.result c.shift_all.new.register c.args.named.now c.args.at c.requires.standing (c.is_behind.ensures.source c.if-is_behind.true) c.requires.there
    (c.requires.long latch) c.shift_all.ensures)

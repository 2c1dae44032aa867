use Rattle.std.proofs.Common.{◌≡◌, ◌++◌}
use Rattle.chain_model.specs.DataStages.{last, Stands, SameCapture}
use Rattle.chain_model.proofs.data_stage.DataStage.take_rest.Given as goal

abbrev pub invariant-loop-self : goal.invariant-loop-self
invariant-loop-self l = record {
  bits : l.self.came.bits ++ last l.self.left l.source.bits ≡ l.fn.self.came.bits ++ last l.fn.self.left l.source.bits;
  stands : Stands l.self l.source.bits;
  same : SameCapture l.fn.self l.self;
}

abbrev pub decreases-loop-self : goal.decreases-loop-self
decreases-loop-self l = l.self.left

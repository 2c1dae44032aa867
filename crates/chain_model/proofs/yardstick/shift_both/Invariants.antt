use Rattle.chain_model.specs.Cables.{HasDevice}
use Rattle.chain_model.proofs.yardstick.shift_both.Given as goal

abbrev pub invariant-loop-left : goal.invariant-loop-left
invariant-loop-left l = HasDevice l.chain.chain

abbrev pub decreases-loop-left : goal.decreases-loop-left
decreases-loop-left l = l.left

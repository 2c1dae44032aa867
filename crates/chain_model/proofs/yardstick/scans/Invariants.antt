use Rattle.chain_model.specs.Cables.{HasDevice}
use Rattle.chain_model.proofs.yardstick.scans.Given as goal

abbrev pub invariant-loop-shifts : goal.invariant-loop-shifts
invariant-loop-shifts l = HasDevice l.chain.chain

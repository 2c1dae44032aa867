use Rattle.chain_model.specs.Cables.{HasDevice}
use Rattle.chain_model.proofs.yardstick.walk_scans.Given as goal

abbrev pub invariant-loop-codes : goal.invariant-loop-codes
invariant-loop-codes l = HasDevice l.chain.chain

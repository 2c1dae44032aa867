use Rattle.chain_model.specs.Cables.{HasDevice}
use Rattle.chain_model.proofs.yardstick.walk_words.Given as goal

abbrev pub invariant-loop-i : goal.invariant-loop-i
invariant-loop-i l = HasDevice l.chain.chain

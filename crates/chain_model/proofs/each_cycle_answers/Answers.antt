use Rattle.chain_model.proofs.Calls.{length-answers}
use Rattle.chain_model.proofs.each_cycle_answers.Goals as goal

pub returns : goal.returns
returns c = length-answers

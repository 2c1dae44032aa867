use Rattle.chain_model.proofs.Calls.{after_calls-append, answers-calls}
use Rattle.chain_model.proofs.calls_in_two_rows.Goals as goal

pub returns-clause-chain : goal.returns-clause-chain
returns-clause-chain c = after_calls-append

pub returns-clause-answers : goal.returns-clause-answers
returns-clause-answers c = answers-calls

use Rattle.chain_model.proofs.Staged.{joined_bits}
use Rattle.chain_model.proofs.WordRun.{next_bound}
use Rattle.chain_model.proofs.data_stage.joined_word.Goals as goal

pub returns-clause-bits : goal.returns-clause-bits
returns-clause-bits c = joined_bits c.args.count c.args.low c.args.more c.args.high c.requires.low c.requires.high c.requires.few

pub returns-clause-bound : goal.returns-clause-bound
returns-clause-bound c = next_bound c.args.low c.args.high c.args.count c.args.more c.requires.low c.requires.high c.requires.few

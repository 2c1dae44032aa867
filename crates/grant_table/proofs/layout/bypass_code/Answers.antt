use Rattle.grant_table.proofs.Ones.{ones_word}
use Rattle.grant_table.proofs.layout.bypass_code.Goals as goal

pub returns : goal.returns
returns c = rw c.ir_len.ensures.is (ones_word c.args.part.now c.ir_len.ensures.part)

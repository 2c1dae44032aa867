use Rattle.chain_model.proofs.Latches.{code_read}
use Rattle.virtual_tap.proofs.instruction.InstructionRegister.staged_code.Goals as goal

pub returns-clause-is : goal.returns-clause-is
returns-clause-is c =
    rw (← c.self.view_is) (code_read c.self.inside.stage.bits c.ir_len.result c.self.inside.part.ir_length c.word.result c.ir_len.ensures.is c.self.invariant.long c.word.ensures.bits)

use Rattle.bsdl_read.proofs.Going.{lies_at}
use Rattle.bsdl_read.proofs.opcodes.OpcodeReading.tokens.Goals as goal

pub inside-requires : goal.inside-requires
inside-requires c = lies_at c.args.text.now 0 c.args.tokens.now c.loop-token.token-index _ c.requires c.loop-token-test.true

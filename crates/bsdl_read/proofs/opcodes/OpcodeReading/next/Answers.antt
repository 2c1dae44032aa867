use Rattle.bsdl_read.specs.Opcodes.{view}
use Rattle.bsdl_read.proofs.OpcodeParts.{whole_is_read}
use Rattle.bsdl_read.proofs.opcodes.OpcodeReading.next.Goals as goal

pub returns-in-Some-clause-goes : goal.returns-in-Some-clause-goes
returns-in-Some-clause-goes c =
    whole_is_read (view c.args.self.now) (view c.whole.new.self) c.args.bytes.now _ _ _ (c.is_between.ensures c.if-is_between.true) c.in_ok-whole.ensures c.in-Some.ensures.is

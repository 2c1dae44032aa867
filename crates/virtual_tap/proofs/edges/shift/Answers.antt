use Rattle.virtual_tap.proofs.Cycling.{out_instructions}
use Rattle.virtual_tap.proofs.edges.shift.Goals as goal

pub returns-in-ShiftIr-clause-out : goal.returns-in-ShiftIr-clause-out
returns-in-ShiftIr-clause-out c =
    rw c.in-ShiftIr.is (out_instructions c.args.instructions.now.registers c.args.n c.args.tdi c.shift.result c.requires.stages (c.shift.ensures.out c.requires.some))

use Rattle.std.proofs.Common.{◌∙◌, arith, ap, map, sym, List}
use Rattle.part_model.specs.Parts.{DeviceType}
use Rattle.chain_model.specs.declared.cable.Board.{Board}
use Rattle.chain_model.specs.Boards.{HasLatchBit}
use Rattle.chain_tests.proofs.DeviceTypes.{of_board}
use Rattle.chain_tests.proofs.random_groups.bank.Bank.latch.Goals as goal

pub latch-requires-clause-there : goal.latch-requires-clause-there
latch-requires-clause-there c =
    of_board (λ (part : DeviceType). HasLatchBit part c.args.register c.args.at) c.self.inside.chain.chain.devices c.deref.result.now c.args.device c.in_ok-board.board.now
    (c.self.invariant.0 ∙ ap (λ (boards : List Board). map (λ board. board.part) boards) (sym c.deref.ensures.value)) c.in_ok-board.ensures.lookup.1
    (omega (arith, c.if-register-regs.false, c.regs.ensures), sym c.has_latch.ensures ∙ c.if-not-has_latch.false, omega (arith, c.if-at-len_of.false, c.len_of.ensures))

use Rattle.std.proofs.Common.{◌∙◌, arith, ap, map, List}
use Rattle.chain_model.specs.declared.cable.Board.{Board}
use Rattle.scan_share.specs.Scans.{types_of}
use Rattle.chain_tests.proofs.DeviceTypes.{types_powered}
use Rattle.chain_tests.proofs.random_groups.bank.Bank.assembled.Goals as goal

pub invariant_of-result : goal.invariant_of-result
invariant_of-result c = (
  ap types_of c.in-Ok.ensures.assembled ∙ types_powered c.deref-2.result.now ∙ ap (λ (boards : List Board). map (λ board. board.part) boards) c.deref-2.ensures.value,
  omega (arith, c.if-count-eq0.false, c.len-count.ensures),
  c.in-Ok.ensures.trst ∙ c.empty-chain.ensures.trst,
)

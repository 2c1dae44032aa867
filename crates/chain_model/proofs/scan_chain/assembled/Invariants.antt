use Rattle.std.proofs.Common.{◌≡◌, ◌++◌, drop, map}
use Rattle.chain_model.specs.Chains.{powered_device}
use Rattle.chain_model.specs.Boards.{placed, EachHasPins}
use Rattle.chain_model.proofs.scan_chain.assembled.Given as goal

abbrev pub invariant-loop-board : goal.invariant-loop-board
invariant-loop-board l = record {
  devices : l.devices.items ++ map powered_device (map placed (drop l.board-index l.boards)) ≡ map powered_device (map placed l.boards);
  pins : EachHasPins (drop l.board-index l.boards);
}

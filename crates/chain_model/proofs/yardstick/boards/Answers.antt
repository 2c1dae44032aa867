use Rattle.chain_model.proofs.Pins.{one_more}
use Rattle.chain_model.proofs.yardstick.boards.Goals as goal

pub loop-device-preserved : goal.loop-device-preserved
loop-device-preserved c = rw c.in_ok-push.ensures.items (one_more _ _ c.loop-device.invariant c.in_ok-board.ensures)

use Rattle.plays.proofs.Isolation.{waits_behind}
use Rattle.plays.proofs.who_waits_waits_behind_an_open_scan.Goals as goal

pub returns : goal.returns
returns c = waits_behind

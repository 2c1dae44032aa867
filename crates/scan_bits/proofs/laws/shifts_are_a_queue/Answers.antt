use Rattle.scan_bits.proofs.Queue.{queue_out, queue_rest}
use Rattle.scan_bits.proofs.laws.shifts_are_a_queue.Goals as goal

pub returns-clause-out : goal.returns-clause-out
returns-clause-out c = queue_out

pub returns-clause-rest : goal.returns-clause-rest
returns-clause-rest c = queue_rest

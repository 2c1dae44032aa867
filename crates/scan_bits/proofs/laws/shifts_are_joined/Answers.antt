use Rattle.scan_bits.proofs.Queue.{shifted_all-append, shifted_out-append}
use Rattle.scan_bits.proofs.laws.shifts_are_joined.Goals as goal

pub returns-clause-all : goal.returns-clause-all
returns-clause-all c = shifted_all-append

pub returns-clause-out : goal.returns-clause-out
returns-clause-out c = shifted_out-append

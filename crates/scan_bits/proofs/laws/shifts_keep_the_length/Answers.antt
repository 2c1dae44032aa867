use Rattle.scan_bits.proofs.Queue.{length-shifted, length-shifted_all, length-shifted_out}
use Rattle.scan_bits.proofs.laws.shifts_keep_the_length.Goals as goal

pub returns-clause-one : goal.returns-clause-one
returns-clause-one c = length-shifted

pub returns-clause-all : goal.returns-clause-all
returns-clause-all c = length-shifted_all

pub returns-clause-out : goal.returns-clause-out
returns-clause-out c = length-shifted_out

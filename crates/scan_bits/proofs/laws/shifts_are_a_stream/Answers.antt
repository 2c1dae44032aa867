use Rattle.scan_bits.proofs.Queue.{stream_out, stream_rest}
use Rattle.scan_bits.proofs.laws.shifts_are_a_stream.Goals as goal

pub returns-clause-out : goal.returns-clause-out
returns-clause-out c = stream_out

pub returns-clause-rest : goal.returns-clause-rest
returns-clause-rest c = stream_rest

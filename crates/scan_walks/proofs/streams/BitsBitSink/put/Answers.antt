use Rattle.std.proofs.Common.{arith, length-append}
use Rattle.scan_bits.specs.Words.{bits_of}
use Rattle.scan_bits.proofs.WordLaws.{length-bits_of}
use Rattle.scan_walks.proofs.streams.BitsBitSink.put.Goals as goal

pub returns-clause-room : goal.returns-clause-room
returns-clause-room c =
    rw c.push_word.ensures (omega (arith, length-append c.args.self.now.bits (bits_of c.args.n c.args.word), length-bits_of c.args.n c.args.word, c.requires.room))

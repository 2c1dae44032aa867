use Rattle.scan_bits.proofs.WordLaws.{length-bits_of}
use Rattle.scan_walks.proofs.tests.bits.Goals as goal

pub returns : goal.returns
returns c = rw (c.push_word.ensures, c.in_ok-bits.ensures) (length-bits_of c.args.count c.args.word)

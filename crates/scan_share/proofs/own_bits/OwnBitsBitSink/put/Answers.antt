use Rattle.std.proofs.Common.{arith, ◌-◌, ap, length, length-append, replicate, false}
use Rattle.scan_bits.specs.Words.{bits_of}
use Rattle.scan_bits.specs.BitLists.{BitList}
use Rattle.scan_bits.proofs.WordLaws.{length-bits_of}
use Rattle.scan_share.proofs.Gathering.{put_room, woven_short}
use Rattle.scan_share.proofs.own_bits.OwnBitsBitSink.put.Goals as goal

pub own_of-own-requires-clause-left : goal.own_of-own-requires-clause-left
own_of-own-requires-clause-left g c =
    omega (arith, c.requires.room, woven_short (g.R.ScanRuns.marks c.args.self.now.runs.now) (replicate (c.args.self.now.into.now.room - length c.args.self.now.into.now.bits) false))

pub returns-then-own-gt0-clause-room : goal.returns-then-own-gt0-clause-room
returns-then-own-gt0-clause-room g c =
    put_room c.args.n c.args.word c.own_of-own.result.count c.own_of-own.result.bits (c.args.self.now.into.now.room - length c.args.self.now.into.now.bits) (c.push_word.new.self.room - length c.push_word.new.self.bits)
    (g.R.ScanRuns.marks c.args.self.now.runs.now) (g.R.ScanRuns.marks c.own_of-own.new.runs) c.own_of-own.ensures.taken c.requires.room
    (omega (
      arith,
      ap (λ (b : BitList). b.room) c.push_word.ensures,
      ap (λ (b : BitList). length b.bits) c.push_word.ensures,
      length-append c.args.self.now.into.now.bits (bits_of c.own_of-own.result.count c.own_of-own.result.bits),
      length-bits_of c.own_of-own.result.count c.own_of-own.result.bits,
    ))

use Rattle.scan_bits.proofs.Held.{held_is}
use Rattle.std.proofs.Common.{sym}
use Rattle.scan_bits.proofs.bits.Bits.len.Goals as goal

pub returns-clause-count : goal.returns-clause-count
returns-clause-count c =
    let self = c.self.inside in
    sym (held_is self.words.items self.words.len self.start self.count self.room c.args.self.now self.words.ok.0 c.self.invariant c.self.view_is).0

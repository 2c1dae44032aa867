use Rattle.scan_bits.proofs.Held.{held_is}
use Rattle.std.proofs.Common.{arith}
use Rattle.scan_bits.proofs.bits.Bits.copy_from.Goals as goal

pub copy_bits-self-inside-requires-clause-room : goal.copy_bits-self-inside-requires-clause-room
copy_bits-self-inside-requires-clause-room c =
    let self = c.self.inside in
    let other = c.other.inside in
    let mine = held_is self.words.items self.words.len self.start self.count self.room c.args.self.now self.words.ok.0 c.self.invariant c.self.view_is in
    let its = held_is other.words.items other.words.len other.start other.count other.room c.args.other.now other.words.ok.0 c.other.invariant c.other.view_is in
    omega (arith, mine, its, c.requires, c.self.invariant.roomy, c.deref_mut.ensures.len)

pub invariant_of-self : goal.invariant_of-self
invariant_of-self c =
    let self = c.self.inside in
    let other = c.other.inside in
    let mine = held_is self.words.items self.words.len self.start self.count self.room c.args.self.now self.words.ok.0 c.self.invariant c.self.view_is in
    let its = held_is other.words.items other.words.len other.start other.count other.room c.args.other.now other.words.ok.0 c.other.invariant c.other.view_is in
    record {
      within = omega (arith, mine, its, c.requires, c.self.invariant.roomy, c.copy_bits-self-inside.ensures.place);
      counted = omega (arith, mine, its, c.requires);
      roomy = c.self.invariant.roomy;
      small = c.self.invariant.small;
    }

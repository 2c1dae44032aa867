use Rattle.scan_bits.proofs.Held.{held_is}
use Rattle.std.proofs.Common.{arith}
use Rattle.scan_bits.proofs.bits.Bits.push.Goals as goal

pub invariant_of-self : goal.invariant_of-self
invariant_of-self c =
    let self = c.self.inside in
    let held = held_is self.words.items self.words.len self.start self.count self.room c.args.self.now self.words.ok.0 c.self.invariant c.self.view_is in
    record {
      within = omega (arith, c.append_bits-self-inside.ensures.within, c.deref_mut.ensures.len);
      counted = omega (arith, held, c.requires);
      roomy = c.self.invariant.roomy;
      small = c.self.invariant.small;
    }

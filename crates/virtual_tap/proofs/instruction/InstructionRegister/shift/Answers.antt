use Rattle.scan_bits.specs.Words.{bits_of}
use Rattle.virtual_tap.proofs.Shifting.{shifted_fits}
use Rattle.virtual_tap.proofs.instruction.InstructionRegister.shift.Goals as goal

pub invariant_of-self : goal.invariant_of-self
invariant_of-self c = shifted_fits c.self.inside.part c.self.inside.stage c.turn_word.new.self (bits_of c.args.n c.args.tdi) c.self.invariant c.turn_word.ensures.bits

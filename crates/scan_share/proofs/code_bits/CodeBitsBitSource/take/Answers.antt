use Rattle.std.proofs.Common.{◌++◌, take, refl}
use Rattle.scan_bits.specs.Words.{bits_of}
use Rattle.scan_bits.specs.Registers.{joined}
use Rattle.scan_share.specs.Scans.{codes_of}
use Rattle.scan_share.proofs.Packing.{front_taken}
use Rattle.scan_share.proofs.Taking.{taken_word, taken_left}
use Rattle.scan_share.proofs.code_bits.CodeBitsBitSource.take.Goals as goal

pub returns-then-self-n-clause-word : goal.returns-then-self-n-clause-word
returns-then-self-n-clause-word c =
    rw (← c.self.view_is) (
    taken_word c.split.result.0.bits c.args.n c.args.n (bits_of c.split.result.1.count c.split.result.1.bits ++ joined (take c.self.inside.place (codes_of c.self.inside.layout.now.parts c.self.inside.codes.now)))
    (bits_of c.self.inside.code.count c.self.inside.code.bits ++ joined (take c.self.inside.place (codes_of c.self.inside.layout.now.parts c.self.inside.codes.now))) refl
    (front_taken c.split.result.0.bits c.args.n c.split.result.1.count c.split.result.1.bits (bits_of c.self.inside.code.count c.self.inside.code.bits) (joined (take c.self.inside.place (codes_of c.self.inside.layout.now.parts c.self.inside.codes.now))) c.split.ensures.bound c.split.ensures.bits)
    )

pub returns-then-self-n-clause-left : goal.returns-then-self-n-clause-left
returns-then-self-n-clause-left c =
    rw (← c.self.view_is) (
    taken_left c.split.result.0.bits c.args.n c.args.n (bits_of c.split.result.1.count c.split.result.1.bits ++ joined (take c.self.inside.place (codes_of c.self.inside.layout.now.parts c.self.inside.codes.now)))
    (bits_of c.self.inside.code.count c.self.inside.code.bits ++ joined (take c.self.inside.place (codes_of c.self.inside.layout.now.parts c.self.inside.codes.now))) refl
    (front_taken c.split.result.0.bits c.args.n c.split.result.1.count c.split.result.1.bits (bits_of c.self.inside.code.count c.self.inside.code.bits) (joined (take c.self.inside.place (codes_of c.self.inside.layout.now.parts c.self.inside.codes.now))) c.split.ensures.bound c.split.ensures.bits)
    )

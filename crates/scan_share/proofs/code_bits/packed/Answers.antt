use Rattle.std.proofs.Common.{arith, ◌-◌, ◌++◌, take, refl}
use Rattle.scan_bits.specs.Words.{bits_of}
use Rattle.scan_bits.specs.Registers.{joined}
use Rattle.scan_share.specs.Scans.{codes_of}
use Rattle.scan_share.proofs.Packing.{code_left, whole_code, first_of_code}
use Rattle.scan_share.proofs.Taking.{taken_word, taken_left}
use Rattle.scan_share.proofs.code_bits.packed.Goals as goal

pub overflow_sub-below : goal.overflow_sub-below
overflow_sub-below c =
    code_left (codes_of c.args.layout.now.parts c.args.codes.now) c.loop-done.below c.loop-done.word c.loop-done.done c.args.n (bits_of c.args.code.count c.args.code.bits ++ joined (take c.args.place (codes_of c.args.layout.now.parts c.args.codes.now))) (omega (arith, c.loop-done-test.true)) c.requires.left c.loop-done.invariant.taken

pub code_at-next-requires-clause-within : goal.code_at-next-requires-clause-within
code_at-next-requires-clause-within c =
    omega (
      arith,
      c.requires.load.within,
      c.loop-done.invariant.within,
      code_left (codes_of c.args.layout.now.parts c.args.codes.now) c.loop-done.below c.loop-done.word c.loop-done.done c.args.n (bits_of c.args.code.count c.args.code.bits ++ joined (take c.args.place (codes_of c.args.layout.now.parts c.args.codes.now))) (omega (arith, c.loop-done-test.true)) c.requires.left c.loop-done.invariant.taken,
    )

pub returns-then-end-n-clause-word : goal.returns-then-end-n-clause-word
returns-then-end-n-clause-word c =
    taken_word _ c.args.n c.args.n (bits_of c.split.result.1.count c.split.result.1.bits ++ joined (take (c.loop-done.below - 1) (codes_of c.args.layout.now.parts c.args.codes.now))) (bits_of c.args.code.count c.args.code.bits ++ joined (take c.args.place (codes_of c.args.layout.now.parts c.args.codes.now))) refl
    (first_of_code (codes_of c.args.layout.now.parts c.args.codes.now) c.loop-done.below c.loop-done.word c.loop-done.done c.args.n c.split.result.0.bits c.split.result.1.count c.split.result.1.bits (bits_of c.code_at-next.result.count c.code_at-next.result.bits) (bits_of c.args.code.count c.args.code.bits ++ joined (take c.args.place (codes_of c.args.layout.now.parts c.args.codes.now)))
    c.requires.few (omega (arith, c.loop-done-test.true)) c.requires.left c.split.ensures.bound c.split.ensures.bits c.code_at-next.ensures.is c.loop-done.invariant.taken)

pub returns-then-end-n-clause-left : goal.returns-then-end-n-clause-left
returns-then-end-n-clause-left c =
    taken_left _ c.args.n c.args.n (bits_of c.split.result.1.count c.split.result.1.bits ++ joined (take (c.loop-done.below - 1) (codes_of c.args.layout.now.parts c.args.codes.now))) (bits_of c.args.code.count c.args.code.bits ++ joined (take c.args.place (codes_of c.args.layout.now.parts c.args.codes.now))) refl
    (first_of_code (codes_of c.args.layout.now.parts c.args.codes.now) c.loop-done.below c.loop-done.word c.loop-done.done c.args.n c.split.result.0.bits c.split.result.1.count c.split.result.1.bits (bits_of c.code_at-next.result.count c.code_at-next.result.bits) (bits_of c.args.code.count c.args.code.bits ++ joined (take c.args.place (codes_of c.args.layout.now.parts c.args.codes.now)))
    c.requires.few (omega (arith, c.loop-done-test.true)) c.requires.left c.split.ensures.bound c.split.ensures.bits c.code_at-next.ensures.is c.loop-done.invariant.taken)

pub loop-done-smaller : goal.loop-done-smaller
loop-done-smaller c =
    omega (
      arith,
      code_left (codes_of c.args.layout.now.parts c.args.codes.now) c.loop-done.below c.loop-done.word c.loop-done.done c.args.n (bits_of c.args.code.count c.args.code.bits ++ joined (take c.args.place (codes_of c.args.layout.now.parts c.args.codes.now))) (omega (arith, c.loop-done-test.true)) c.requires.left c.loop-done.invariant.taken,
    )

pub loop-done-preserved : goal.loop-done-preserved
loop-done-preserved c = record {
  fits = omega (arith, c.if-end-n.false);
  within = omega (arith, c.loop-done.invariant.within);
  taken = whole_code (codes_of c.args.layout.now.parts c.args.codes.now) c.loop-done.below c.loop-done.word c.loop-done.done c.args.n c.code_at-next.result.count c.code_at-next.result.bits (bits_of c.args.code.count c.args.code.bits ++ joined (take c.args.place (codes_of c.args.layout.now.parts c.args.codes.now)))
      c.requires.few (omega (arith, c.loop-done-test.true)) c.requires.left (omega (arith, c.if-end-n.false)) c.code_at-next.ensures.bound c.code_at-next.ensures.is c.loop-done.invariant.taken;
}

pub returns-clause-word : goal.returns-clause-word
returns-clause-word c =
    taken_word c.loop-done.word c.loop-done.done c.args.n (joined (take c.loop-done.below (codes_of c.args.layout.now.parts c.args.codes.now))) (bits_of c.args.code.count c.args.code.bits ++ joined (take c.args.place (codes_of c.args.layout.now.parts c.args.codes.now))) (omega (arith, c.loop-done-test.false, c.loop-done.invariant.fits)) c.loop-done.invariant.taken

pub returns-clause-left : goal.returns-clause-left
returns-clause-left c =
    taken_left c.loop-done.word c.loop-done.done c.args.n (joined (take c.loop-done.below (codes_of c.args.layout.now.parts c.args.codes.now))) (bits_of c.args.code.count c.args.code.bits ++ joined (take c.args.place (codes_of c.args.layout.now.parts c.args.codes.now))) (omega (arith, c.loop-done-test.false, c.loop-done.invariant.fits)) c.loop-done.invariant.taken

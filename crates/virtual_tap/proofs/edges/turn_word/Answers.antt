use Rattle.std.proofs.Common.{◌≡◌, length, arith}
use Rattle.scan_bits.specs.Words.{bits_of}
use Rattle.virtual_tap.proofs.Cycling.{out_none, out_empty, out_some, empty_stays}
use Rattle.virtual_tap.proofs.edges.turn_word.Goals as goal

pub returns-in_default-clause-out : goal.returns-in_default-clause-out
returns-in_default-clause-out c = out_none c.args.register.now c.args.n c.args.tdi c.ones.result c.in_default.is c.ones.ensures.is

pub returns-then-len-eq0-clause-out : goal.returns-then-len-eq0-clause-out
returns-then-len-eq0-clause-out c =
    let none : length c.in-Some.bits.bits ≡ 0 = omega (arith, c.len.ensures.count, c.if-len-eq0.true) in
    out_empty c.args.register.now c.in-Some.bits c.args.n c.args.tdi c.ones-then-len-eq0.result c.in-Some.is none c.ones-then-len-eq0.ensures.is

pub returns-then-len-eq0-clause-after : goal.returns-then-len-eq0-clause-after
returns-then-len-eq0-clause-after c =
    let none : length c.in-Some.bits.bits ≡ 0 = omega (arith, c.len.ensures.count, c.if-len-eq0.true) in
    empty_stays c.args.register.now c.in-Some.bits (bits_of c.args.n c.args.tdi) c.in-Some.is none

pub returns-clause-out : goal.returns-clause-out
returns-clause-out c = out_some c.args.register.now c.in-Some.bits c.args.n c.args.tdi c.turn_word.result c.in-Some.is (omega (arith, c.len.ensures.count, c.if-len-eq0.false)) c.turn_word.ensures.out

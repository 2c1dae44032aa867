use Rattle.std.proofs.Common.{◌≡◌, ◌≤◌, ◌+◌, length, drop, sym, ◌∙◌, ap, arith, length-drop}
use Rattle.chain_model.specs.Tapes.{TapeView}
use Rattle.chain_model.proofs.Tape.{taken_bits}
use Rattle.chain_model.proofs.tape_bench.TapeBench.take.Goals as goal

pub returns-clause-bits : goal.returns-clause-bits
returns-clause-bits c =
    let left : length c.args.self.now.left ≡ length (drop c.self.inside.taken c.self.inside.answers.bits) = ap (λ (t : TapeView). length t.left) (sym c.self.view_is) in
    let within : c.self.inside.taken + c.args.n ≤ length c.self.inside.answers.bits = omega (arith, left, length-drop c.self.inside.taken c.self.inside.answers.bits, c.requires.left, c.self.invariant) in
    ap (λ (t : TapeView). t.left) (sym c.self.view_is)
    ∙ taken_bits c.self.inside.answers.bits c.self.inside.taken _ c.args.n c.word-word.result within c.next_place-self-inside.ensures c.word-word.ensures.bits

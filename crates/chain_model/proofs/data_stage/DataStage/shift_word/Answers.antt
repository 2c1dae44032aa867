use Rattle.std.proofs.Common.{◌≡◌, ◌+◌, ◌-◌, ◌/◌, ◌^◌, ◌∙◌, sym, ap, arith}
use Rattle.std.proofs.lemmas.Nat.{shr_below}
use Rattle.scan_bits.specs.BitLists.{BitList}
use Rattle.scan_bits.specs.Words.{bits_of}
use Rattle.scan_bits.proofs.Queue.{length-shifted_all}
use Rattle.chain_model.specs.DataStages.{staged}
use Rattle.chain_model.proofs.Staged.{none_left, split_out, split_rest, held_stands}
use Rattle.chain_model.proofs.data_stage.DataStage.shift_word.Goals as goal

pub returns-then-self-eq0-clause-stands : goal.returns-then-self-eq0-clause-stands
returns-then-self-eq0-clause-stands c =
    held_stands c.args.self.now _ c.args.source.now.bits _ c.if-self-eq0.true (length-shifted_all c.args.self.now.came.bits (bits_of c.args.n c.args.tdi)) c.requires.stands c.shift_word.ensures.bits

pub shift_word-high-requires-clause-bound : goal.shift_word-high-requires-clause-bound
shift_word-high-requires-clause-bound c = shr_below c.args.tdi (c.args.n - c.args.self.now.left) c.args.self.now.left (let e : c.args.n - c.args.self.now.left + c.args.self.now.left ≡ c.args.n = omega arith in rw e c.requires.bound)

pub returns-clause-out : goal.returns-clause-out
returns-clause-out c =
    let source = c.args.source.now.bits in
    let middle = c.shift_captured-low.new.self in
    split_out (staged c.args.self.now source) middle.came.bits c.args.n c.args.self.now.left c.args.tdi c.shift_captured-low.result c.shift_word-high.result c.joined_word.result (omega arith)
    (sym (none_left source middle.came.bits middle.left (omega (arith, c.shift_captured-low.ensures.left))) ∙ c.shift_captured-low.ensures.bits) c.shift_captured-low.ensures.out c.shift_word-high.ensures.out c.joined_word.ensures.bits

pub returns-clause-bits : goal.returns-clause-bits
returns-clause-bits c =
    let source = c.args.source.now.bits in
    let middle = c.shift_captured-low.new.self in
    none_left source c.shift_word-high.new.stage.bits middle.left (omega (arith, c.shift_captured-low.ensures.left))
    ∙ split_rest (staged c.args.self.now source) middle.came.bits c.shift_word-high.new.stage.bits c.args.n c.args.self.now.left c.args.tdi (omega arith)
    (sym (none_left source middle.came.bits middle.left (omega (arith, c.shift_captured-low.ensures.left))) ∙ c.shift_captured-low.ensures.bits)
    (ap (λ (list : BitList). list.bits) c.shift_word-high.ensures.bits)

pub returns-clause-stands : goal.returns-clause-stands
returns-clause-stands c =
    let middle = c.shift_captured-low.new.self in
    held_stands middle _ c.args.source.now.bits _ (omega (arith, c.shift_captured-low.ensures.left)) (length-shifted_all middle.came.bits (bits_of (c.args.n - c.args.self.now.left) (c.args.tdi / 2 ^ c.args.self.now.left)))
    c.shift_captured-low.ensures.stands c.shift_word-high.ensures.bits

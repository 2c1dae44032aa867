use Rattle.std.proofs.Common.{◌∙◌, ◌<◌, ◌^◌, ap, arith, subst, sym, ℕ, Some}
use Rattle.std.specs.List.{slice_index_or}
use Rattle.scan_bits.specs.Words.{bits_of}
use Rattle.scan_share.proofs.Places.{code_at, code_below, length-words, read_at}
use Rattle.scan_share.proofs.code_bits.code_at.Goals as goal

pub bounds-codes-place : goal.bounds-codes-place
bounds-codes-place c = omega (arith, c.requires.within, length-words c.args.layout.now.parts c.args.codes.now c.requires.codes)

pub returns-clause-is : goal.returns-clause-is
returns-clause-is c =
    code_at c.args.layout.now.parts c.args.codes.now c.args.place (slice_index_or c.args.codes.now c.args.place 0) c.part.result.now c.part.ensures.is
    (read_at c.args.codes.now c.args.place 0 (omega (arith, c.requires.within, length-words c.args.layout.now.parts c.args.codes.now c.requires.codes)))
    ∙ ap (λ (n : ℕ). Some (bits_of n (slice_index_or c.args.codes.now c.args.place 0))) (sym c.ir_len.ensures.is)

pub returns-clause-bound : goal.returns-clause-bound
returns-clause-bound c =
    subst (λ (n : ℕ). slice_index_or c.args.codes.now c.args.place 0 < 2 ^ n) (sym c.ir_len.ensures.is)
    (code_below c.args.layout.now.parts c.args.codes.now c.args.place (slice_index_or c.args.codes.now c.args.place 0) c.part.result.now c.requires.codes c.part.ensures.is
    (read_at c.args.codes.now c.args.place 0 (omega (arith, c.requires.within, length-words c.args.layout.now.parts c.args.codes.now c.requires.codes))))

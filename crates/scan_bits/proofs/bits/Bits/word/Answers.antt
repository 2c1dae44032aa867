use Rattle.scan_bits.proofs.Held.{held_is, word_held}
use Rattle.scan_bits.specs.Words.{number_of}
use Rattle.scan_bits.specs.Rows.{bits_of_row, window}
use Rattle.std.proofs.Common.{◌+◌, ◌∙◌, ap, arith}
use Rattle.scan_bits.proofs.bits.Bits.word.Goals as goal

pub returns-clause-bits : goal.returns-clause-bits
returns-clause-bits c =
    let self = c.self.inside in
    let held = held_is self.words.items self.words.len self.start self.count self.room c.args.self.now self.words.ok.0 c.self.invariant c.self.view_is in
    c.row_word.ensures.bits ∙ ap (λ q. number_of (window (bits_of_row 64 q) (self.start + c.args.at) c.args.n)) c.deref.ensures.value ∙ ap number_of (word_held self.words.items self.start self.count self.room c.args.at c.args.n c.args.self.now c.self.view_is (omega (arith, held, c.requires.within)))

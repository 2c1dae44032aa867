use Rattle.scan_bits.proofs.Held.{held_is, put_held}
use Rattle.scan_bits.specs.BitLists.{BitList}
use Rattle.scan_bits.specs.Words.{bits_of}
use Rattle.scan_bits.specs.Rows.{bits_of_row, window, written}
use Rattle.std.proofs.Common.{◌+◌, ◌∙◌, ap, arith}
use Rattle.std.proofs.lemmas.List.{with_items_is}
use Rattle.scan_bits.proofs.bits.Bits.put_word.Goals as goal

pub returns : goal.returns
returns c =
    let self = c.self.inside in
    let held = held_is self.words.items self.words.len self.start self.count self.room c.args.self.now self.words.ok.0 c.self.invariant c.self.view_is in
    let items = with_items_is self.words c.put_row_word.new.words (c.put_row_word.ensures.length ∙ c.deref_mut.ensures.len) in
    let bits = ap (λ q. window (bits_of_row 64 q) self.start self.count) items
    ∙ put_held self.words.items c.put_row_word.new.words self.start self.count self.room c.args.at c.args.n c.args.value c.args.self.now c.self.view_is
    (c.put_row_word.ensures.bits ∙ ap (λ q. written (bits_of_row 64 q) (self.start + c.args.at) (bits_of c.args.n c.args.value)) c.deref_mut.ensures.value) (omega (arith, held, c.requires.within)) (omega (arith, c.self.invariant.within, self.words.ok.0)) in
    λ i. record { bits = bits i; room = ap (λ (b : BitList). b.room) c.self.view_is i }

use Rattle.scan_bits.proofs.Held.{turned_out, turned_rest}
use Rattle.scan_bits.proofs.WordLaws.{length-bits_of}
use Rattle.scan_bits.specs.BitLists.{BitList}
use Rattle.scan_bits.specs.Words.{bits_of, number_of}
use Rattle.scan_bits.specs.Rows.{bits_of_row, window}
use Rattle.std.proofs.Common.{◌+◌, ◌++◌, ◌∙◌, ap}
use Rattle.std.proofs.lemmas.List.{with_items_is}
use Rattle.scan_bits.proofs.bits.Bits.turn_word.Goals as goal

pub returns-clause-out : goal.returns-clause-out
returns-clause-out c =
    let self = c.self.inside in
    let more = bits_of c.args.n c.args.tdi in
    let items = with_items_is self.words c.append_bits-start.new.words (c.append_bits-start.ensures.length ∙ c.deref_mut.ensures.len) in
    let stream = c.append_bits-start.ensures.bits ∙ (λ i. window (bits_of_row 64 (c.deref_mut.ensures.value i)) self.start self.count ++ more) ∙ (λ i. (c.self.view_is i).bits ++ more) in
    c.row_word.ensures.bits ∙ ap (λ q. number_of (window (bits_of_row 64 q) c.append_bits-start.result c.args.n)) (c.deref.ensures.value ∙ items) ∙ ap number_of (turned_out (bits_of_row 64 c.append_bits-start.new.words) c.append_bits-start.result self.count c.args.n c.args.self.now.bits more stream (length-bits_of c.args.n c.args.tdi))

pub returns-clause-bits : goal.returns-clause-bits
returns-clause-bits c =
    let self = c.self.inside in
    let start = c.append_bits-start.result in
    let new = c.append_bits-start.new.words in
    let more = bits_of c.args.n c.args.tdi in
    let items = with_items_is self.words new (c.append_bits-start.ensures.length ∙ c.deref_mut.ensures.len) in
    let stream = c.append_bits-start.ensures.bits ∙ (λ i. window (bits_of_row 64 (c.deref_mut.ensures.value i)) self.start self.count ++ more) ∙ (λ i. (c.self.view_is i).bits ++ more) in
    let bits = ap (λ q. window (bits_of_row 64 q) (start + c.args.n) self.count) items
    ∙ turned_rest (bits_of_row 64 new) start self.count c.args.n c.args.self.now.bits more stream (length-bits_of c.args.n c.args.tdi) in
    λ i. record { bits = bits i; room = ap (λ (b : BitList). b.room) c.self.view_is i }

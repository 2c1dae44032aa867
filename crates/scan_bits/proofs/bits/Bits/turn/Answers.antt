use Rattle.scan_bits.proofs.Held.{one_bit, turned_rest}
use Rattle.scan_bits.specs.BitLists.{BitList}
use Rattle.scan_bits.specs.Words.{bits_of}
use Rattle.scan_bits.specs.Rows.{bits_of_row, window}
use Rattle.std.proofs.Common.{◌+◌, ◌++◌, ◌∷◌, [], ◌∙◌, ap, refl}
use Rattle.std.proofs.lemmas.List.{with_items_is}
use Rattle.scan_bits.proofs.bits.Bits.turn.Goals as goal

pub returns-clause-bits : goal.returns-clause-bits
returns-clause-bits c =
    let self = c.self.inside in
    let now = c.args.self.now in
    let start = c.append_bits-start.result in
    let new = c.append_bits-start.new.words in
    let items = with_items_is self.words new (c.append_bits-start.ensures.length ∙ c.deref_mut.ensures.len) in
    let stream = c.append_bits-start.ensures.bits ∙ (λ i. window (bits_of_row 64 (c.deref_mut.ensures.value i)) self.start self.count ++ bits_of 1 c.from.result) ∙ (λ i. (c.self.view_is i).bits ++ one_bit c.args.tdi c.from.result c.from.ensures i) in
    let bits = ap (λ q. window (bits_of_row 64 q) (start + 1) self.count) items
    ∙ turned_rest (bits_of_row 64 new) start self.count 1 now.bits (c.args.tdi ∷ []) stream refl in
    λ i. record { bits = bits i; room = ap (λ (b : BitList). b.room) c.self.view_is i }

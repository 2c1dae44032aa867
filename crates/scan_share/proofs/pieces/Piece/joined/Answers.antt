use Rattle.std.proofs.Common.{◌∙◌, sym}
use Rattle.std.proofs.lemmas.List.{append-nil}
use Rattle.std.proofs.lemmas.Nat.{pow_pos}
use Rattle.std.proofs.Math.Nat.{mod-lt}
use Rattle.scan_share.proofs.Gathering.{joined_piece}
use Rattle.scan_share.proofs.pieces.Piece.joined.Goals as goal

pub returns-clause-bits : goal.returns-clause-bits
returns-clause-bits c =
    sym (append-nil _)
    ∙ (joined_piece c.args.self.bits c.args.self.count c.args.word c.args.count c.low_bits.result c.requires.few c.requires.some c.requires.bound c.low_bits.ensures
    (rw c.low_bits.ensures (mod-lt c.args.word (pow_pos c.args.count)))).is

pub returns-clause-bound : goal.returns-clause-bound
returns-clause-bound c =
    (joined_piece c.args.self.bits c.args.self.count c.args.word c.args.count c.low_bits.result c.requires.few c.requires.some c.requires.bound c.low_bits.ensures
    (rw c.low_bits.ensures (mod-lt c.args.word (pow_pos c.args.count)))).small

use Rattle.std.proofs.Common.{◌++◌, ◌-◌, ◌∙◌, ap, refl}
use Rattle.scan_bits.specs.BitLists.{BitList}
use Rattle.chain_model.specs.DataStages.{last}
use Rattle.chain_model.proofs.Staged.{captured_out, captured_rest, captured_stands}
use Rattle.chain_model.proofs.data_stage.DataStage.shift_captured.Goals as goal

pub returns-clause-out : goal.returns-clause-out
returns-clause-out c =
    captured_out c.args.source.now.bits c.args.self.now.came.bits c.args.self.now.left c.args.n c.args.tdi c.word-word.result c.len.result c.requires.left c.requires.stands.left c.len.ensures.count c.word-word.ensures.bits

pub returns-clause-bits : goal.returns-clause-bits
returns-clause-bits c =
    ap (λ (came : BitList). last (c.args.self.now.left - c.args.n) c.args.source.now.bits ++ came.bits) c.push_word.ensures
    ∙ captured_rest c.args.source.now.bits c.args.self.now.came.bits c.args.self.now.left c.args.n c.args.tdi c.requires.left c.requires.stands.left

pub returns-clause-stands : goal.returns-clause-stands
returns-clause-stands c = captured_stands c.args.self.now _ c.args.source.now.bits c.args.n c.args.tdi c.requires.left c.requires.stands refl c.push_word.ensures

use Rattle.std.proofs.Common.{◌∙◌, ap}
use Rattle.scan_bits.specs.BitLists.{BitList}
use Rattle.chain_model.specs.declared.data_stage.DataStage.{DataStage}
use Rattle.chain_model.specs.DataStages.{staged, stage_bits}
use Rattle.chain_model.proofs.Staged.{boundary_behind, boundary_settled}
use Rattle.chain_model.proofs.data_stage.DataStage.update_boundary.Goals.{then-not-is_behind_pins, else-not-is_behind_pins}
use Rattle.chain_model.proofs.data_stage.DataStage.update_boundary.Goals as goal

pub returns-clause-bits : goal.returns-clause-bits
returns-clause-bits c =
    let copied = ap (λ (list : BitList). list.bits) c.copy_from.ensures in
    elim c.if-not-is_behind_pins.branch [
      | then-not-is_behind_pins w ↦
          boundary_settled c.args.pins.now.bits (stage_bits c.args.self.now c.args.pins.now c.args.named.now) c.copy_from.new.self.bits c.requires.long
          (copied ∙ ap (λ (stage : DataStage). stage.came.bits) (w.self-is ∙ w.settle.ensures) ∙ ap (λ (list : BitList). staged c.args.self.now list.bits) w.source.ensures)
      | else-not-is_behind_pins w ↦
          boundary_behind c.args.self.now c.args.pins.now c.args.named.now c.copy_from.new.self.bits c.requires.standing (c.is_behind_pins.ensures w.if-not-is_behind_pins.false) c.requires.long
          (copied ∙ ap (λ (stage : DataStage). stage.came.bits) w.self-is)
    ]

use Rattle.std.proofs.Common.{◌≡◌, ◌∙◌, ap, sym, length, arith, false, [], replicate}
use Rattle.std.proofs.lemmas.List.{length-replicate}
use Rattle.scan_bits.specs.BitLists.{BitList}
use Rattle.chain_model.specs.declared.data_stage.DataStage.{DataStage}
use Rattle.part_model.specs.Parts.{DeviceType, selected}
use Rattle.chain_model.specs.Boards.{placed}
use Rattle.chain_model.specs.Devices.{bits_in, stage_room, Selects}
use Rattle.chain_model.proofs.Latches.{few_bits, zeros_fit, powered_seen}
use Rattle.chain_model.proofs.Staged.{held_bits, held_there}
use Rattle.chain_model.proofs.device.Device.powered.Goals as goal

pub invariant_of-result : goal.invariant_of-result
invariant_of-result c =
    let part = c.in_ok-part.part in
    let room : c.max.result ≡ stage_room part = omega (arith, c.max.ensures, c.longest.ensures) in
    let selects : Selects part part.reset_code c.select-register.result = record { is = c.select-register.ensures.is ∙ ap (selected part) c.reset_code-code.ensures.is; there = c.select-register.ensures.there } in (
      record {
        ir_few = few_bits part c.ir_len.ensures.part;
        ir_length = ap (λ (list : BitList). length list.bits) c.in_ok-ir_stage.ensures ∙ length-replicate c.ir_len.result false ∙ c.ir_len.ensures.is;
        ir_room = ap (λ (list : BitList). list.room) c.in_ok-ir_stage.ensures ∙ c.ir_len.ensures.is;
        dr_room = ap (λ (stage : DataStage). stage.came.room) c.in_ok-dr_stage.ensures ∙ room;
        standing = held_there c.in_ok-dr_stage.dr_stage [] c.max.result c.in_ok-pins.pins c.in_ok-named.named.items c.in_ok-dr_stage.ensures (omega arith);
        pins_length = ap (λ (list : BitList). length list.bits) c.in_ok-pins.ensures ∙ c.requires ∙ ap (λ (p : DeviceType). p.boundary_length) (sym c.in_ok-part.ensures);
        latches = zeros_fit part c.in_ok-boundary.boundary c.in_ok-named.named.items (c.in_ok-boundary.ensures ∙ (λ i. record { bits = replicate (c.len_of.ensures i) false; room = c.len_of.ensures i })) c.in_ok-named.ensures;
      },
      record { is = c.select-register.ensures.is; there = c.select-register.ensures.there },
      selects,
    )

pub returns : goal.returns
returns c =
    powered_seen c.in_ok-part.part (placed c.args.board.now) _ c.in_ok-pins.pins.bits _ c.in_ok-ir_stage.ir_stage c.in_ok-boundary.boundary c.in_ok-named.named.items
    c.in_ok-part.ensures c.reset_code-code.ensures.is (ap bits_in c.in_ok-ir_stage.ensures ∙ ap (λ n. replicate n false) c.ir_len.ensures.is) (held_bits c.in_ok-dr_stage.dr_stage [] c.max.result c.in_ok-pins.pins c.in_ok-named.named.items c.in_ok-dr_stage.ensures) (ap bits_in c.in_ok-pins.ensures)
    (ap (λ (list : BitList). length list.bits) c.in_ok-pins.ensures ∙ c.requires ∙ ap (λ (p : DeviceType). p.boundary_length) (sym c.in_ok-part.ensures))
    (ap bits_in c.in_ok-boundary.ensures ∙ ap (λ n. replicate n false) c.len_of.ensures) c.in_ok-named.ensures

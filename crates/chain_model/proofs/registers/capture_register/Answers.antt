use Rattle.std.proofs.Common.{◌≤◌, ◌<◌, ◌-◌, length, refl, sym, ◌∙◌, ap, arith}
use Rattle.std.proofs.lemmas.List.{get_or_default}
use Rattle.scan_bits.specs.BitLists.{BitList}
use Rattle.part_model.specs.Parts.{numbered, length_of}
use Rattle.chain_model.specs.declared.data_stage.Source.TheVariants.{Pins, Latch}
use Rattle.chain_model.specs.Devices.{stage_room}
use Rattle.chain_model.proofs.Staged.{held_bits, captured_bits, captured_there}
use Rattle.chain_model.proofs.Unwired.{pin_values-unwired}
use Rattle.chain_model.proofs.Latches.{latch_length, latch_captured, captured_named, count_named, stage_holds, code_captured}
use Rattle.chain_model.proofs.registers.capture_register.Goals as goal

pub returns-in-1-clause-captured : goal.returns-in-1-clause-captured
returns-in-1-clause-captured c chain place device none part pins named =
    rw c.in-1.is (captured_bits c.capture.new.self Pins c.len.result c.args.stage.now.came.room c.args.pins.now c.args.pins.now c.args.named.now c.capture.ensures refl c.len.ensures.count
    ∙ sym (pin_values-unwired chain place 0 device.content.pins none ∙ pins))

pub returns-in-2-clause-captured : goal.returns-in-2-clause-captured
returns-in-2-clause-captured c chain place device none part pins named =
    rw c.in-2.is (held_bits c.load-in-2.new.self _ c.args.stage.now.came.room c.args.pins.now c.args.named.now c.load-in-2.ensures ∙ code_captured _ device.part.idcode _ (c.idcode.ensures ∙ ap (λ p. p.idcode) (sym part)) (c.from.ensures ∙ c.unwrap_or.ensures))

pub returns-in_default-clause-standing : goal.returns-in_default-clause-standing
returns-in_default-clause-standing c =
    let at = c.args.register - 4 in
    let latch = c.index-named-at.result in
    let there : at < length c.args.named.now = omega (arith, c.in_default, c.requires.there, count_named c.args.part.now.named c.args.named.now c.requires.lengths) in
    let long = latch_length c.args.part.now c.args.named.now c.args.register latch c.requires.lengths (omega (arith, c.in_default)) c.requires.there in
    let holds : length_of c.args.part.now (numbered c.args.register) ≤ stage_room c.args.part.now = stage_holds c.args.part.now (numbered c.args.register) in
    captured_there c.capture-in_default.new.self (Latch at) c.len-in_default.result c.args.stage.now.came.room c.args.pins.now _ c.args.named.now c.capture-in_default.ensures
    (get_or_default c.args.named.now at c.args.pins.now latch there) (c.len-in_default.ensures.count ∙ ap (λ (l : BitList). length l.bits) c.index-named-at.is) (omega (arith, c.len-in_default.ensures.count, ap (λ (l : BitList). length l.bits) c.index-named-at.is, long, holds, c.requires.room)) there

pub returns-in_default-clause-long : goal.returns-in_default-clause-long
returns-in_default-clause-long c =
    let at = c.args.register - 4 in
    let latch = c.index-named-at.result in
    let there : at < length c.args.named.now = omega (arith, c.in_default, c.requires.there, count_named c.args.part.now.named c.args.named.now c.requires.lengths) in
    ap (λ bits. length bits) (captured_bits c.capture-in_default.new.self (Latch at) c.len-in_default.result c.args.stage.now.came.room c.args.pins.now _ c.args.named.now c.capture-in_default.ensures
    (get_or_default c.args.named.now at c.args.pins.now latch there) (c.len-in_default.ensures.count ∙ ap (λ (l : BitList). length l.bits) c.index-named-at.is))
    ∙ latch_length c.args.part.now c.args.named.now c.args.register latch c.requires.lengths (omega (arith, c.in_default)) c.requires.there

pub returns-in_default-clause-captured : goal.returns-in_default-clause-captured
returns-in_default-clause-captured c chain place device none part pins named =
    let at = c.args.register - 4 in
    let latch = c.index-named-at.result in
    let le : 4 ≤ c.args.register = omega (arith, c.in_default) in
    let there : at < length c.args.named.now = omega (arith, c.in_default, c.requires.there, count_named c.args.part.now.named c.args.named.now c.requires.lengths) in
    captured_bits c.capture-in_default.new.self (Latch at) c.len-in_default.result c.args.stage.now.came.room c.args.pins.now _ c.args.named.now c.capture-in_default.ensures
    (get_or_default c.args.named.now at c.args.pins.now latch there) (c.len-in_default.ensures.count ∙ ap (λ (l : BitList). length l.bits) c.index-named-at.is)
    ∙ latch_captured device.content c.args.named.now c.args.register latch named le there
    ∙ captured_named chain place device c.args.register le

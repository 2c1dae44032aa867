use Rattle.std.proofs.Common.{◌≡◌, ◌<◌, ◌+◌, ◌∷◌, ◌++◌, ◌∙◌, ℕ, List, ap, drop, length, map, sym, arith, true}
use Rattle.std.proofs.lemmas.Grind.{common_steps}
use Rattle.part_model.specs.Parts.{numbered}
use Rattle.part_model.specs.Plans.{OpcodeEntry, is_listed, register_for}
use Rattle.part_model.proofs.NameIndexLaws.{item_listed}
use Rattle.part_model.proofs.SelectionLaws.{one_selected}
use Rattle.part_model.proofs.selections.selected_registers.Goals as goal

pub loop-opcode-preserved : goal.loop-opcode-preserved
loop-opcode-preserved c =
    let access = c.args.plan.now.access in
    let opcodes = c.args.plan.now.opcodes in
    let opcode = c.opcode-item.result in
    let rest = drop (c.loop-opcode.opcode-index + 1) opcodes in
    let here : drop c.loop-opcode.opcode-index opcodes ≡ opcode ∷ rest = grind (arith, common_steps) in
    let names = map (λ (opcode : OpcodeEntry). opcode.name) opcodes in
    let listed : is_listed c.as_str.result.now names ≡ true = rw c.as_str.ensures (item_listed opcodes rest c.loop-opcode.opcode-index opcode here) in
    let is : numbered c.register_for.result ≡ register_for access opcode.name = rw c.as_str.ensures at (c.register_for.ensures.is access names c.requires.mentions listed c.requires.named) in
    let within : c.register_for.result < 4 + length c.args.index.now.known.registers.items = c.register_for.ensures.within access names c.requires.mentions listed c.requires.named in
    let f = λ (opcode : OpcodeEntry). register_for access opcode.name in (
      ap (λ (items : List ℕ). map numbered items ++ map f rest) c.in_ok-push.ensures.items
          ∙ one_selected f c.loop-opcode.found.items c.register_for.result opcode rest is
          ∙ ap (λ (left : List OpcodeEntry). map numbered c.loop-opcode.found.items ++ map f left) (sym here)
          ∙ c.loop-opcode.invariant.0,
      grind (arith, common_steps, within),
    )

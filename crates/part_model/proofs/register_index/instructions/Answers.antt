use Rattle.std.proofs.Common.{◌≡◌, ◌∷◌, ◌||◌, ◌+◌, ◌∙◌, [], List, ap, drop, map, sym, arith}
use Rattle.std.specs.Option.{is_some}
use Rattle.std.specs.declared.option.Option.TheVariants.{None}
use Rattle.std.proofs.lemmas.Grind.{common_steps}
use Rattle.part_model.specs.NameIndexes.{value_of}
use Rattle.part_model.specs.Parts.{same_name}
use Rattle.part_model.specs.Plans.{OpcodeEntry, is_listed}
use Rattle.part_model.proofs.NameIndexLaws.{one_listed, one_untold, or_false}
use Rattle.part_model.proofs.register_index.instructions.Goals as goal

pub loop-opcode-preserved : goal.loop-opcode-preserved
loop-opcode-preserved c =
    let opcode = c.opcode-item.result in
    let rest = drop (c.loop-opcode.opcode-index + 1) c.args.opcodes.now in
    let here : drop c.loop-opcode.opcode-index c.args.opcodes.now ≡ opcode ∷ rest = grind (arith, common_steps) in
    let added = rw c.as_str.ensures at c.in_ok-add.ensures.added in (
      λ name.
          one_listed (value_of c.loop-opcode.index name) (value_of c.add.new.self name) (same_name name opcode.name) (is_listed name (map (λ opcode. opcode.name) rest)) None (added name)
          ∙ ap (λ (left : List OpcodeEntry). is_some (value_of c.loop-opcode.index name) || is_listed name (map (λ opcode. opcode.name) left)) (sym here)
          ∙ c.loop-opcode.invariant.0 name,
      λ name. one_untold (value_of c.loop-opcode.index name) (value_of c.add.new.self name) (same_name name opcode.name) (c.loop-opcode.invariant.1 name) (added name),
    )

pub returns-clause-lists : goal.returns-clause-lists
returns-clause-lists c =
    let none : drop c.loop-opcode.opcode-index c.args.opcodes.now ≡ [] = grind (arith, common_steps) in
    record {
      are = λ name.
          sym (or_false (is_some (value_of c.loop-opcode.index name)))
          ∙ ap (λ (left : List OpcodeEntry). is_some (value_of c.loop-opcode.index name) || is_listed name (map (λ opcode. opcode.name) left)) (sym none)
          ∙ c.loop-opcode.invariant.0 name;
    }

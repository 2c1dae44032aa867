use Rattle.std.proofs.Common.{[], sym, ap, ◌∙◌}
use Rattle.std.specs.Option.{option_map}
use Rattle.part_model.specs.NameIndexes.{told}
use Rattle.part_model.proofs.PlaceLaws.{mentioned_there}
use Rattle.part_model.proofs.register_index.RegisterIndex.register_for.Goals as goal

pub returns-in-Some-clause-within : goal.returns-in-Some-clause-within
returns-in-Some-clause-within c = λ accesses instructions mentions listed named.
    let found = sym (mentions.is c.args.instruction.now listed) ∙ ap told (sym c.find.ensures) ∙ sym c.told.ensures ∙ ap (option_map (λ name. name.now)) c.in-Some.is in
    c.register_named.ensures.within (rw named (mentioned_there accesses [] c.args.instruction.now c.in-Some.name.now found))

use Rattle.std.proofs.Common.{rules}
use Rattle.std.specs.declared.option.Option.TheVariants.{Some}
use Rattle.part_model.specs.NameIndexes.{value_among}
use Rattle.part_model.proofs.NameIndexLaws.{none_filled, kept_filled, one_filled, one_changed}
use Rattle.part_model.proofs.name_index.fill_among.Goals as goal

pub returns-in-None-clause-filled : goal.returns-in-None-clause-filled
returns-in-None-clause-filled g c = λ other. none_filled (value_among c.args.several.now) c.args.name.now other c.args.value (search rules)

pub returns-in-Some-Some-clause-filled : goal.returns-in-Some-Some-clause-filled
returns-in-Some-Some-clause-filled g c = λ other. kept_filled (value_among c.args.several.now) c.args.name.now other c.args.value c.in-Some-Some.field-0-0 (search rules)

pub returns-in_ok-insert-in-Some-None-clause-filled : goal.returns-in_ok-insert-in-Some-None-clause-filled
returns-in_ok-insert-in-Some-None-clause-filled g c = λ other. one_filled (value_among c.args.several.now) (value_among c.insert.new.self other) c.args.name.now other c.args.value (search rules)
    (one_changed c.args.several.now c.insert.new.self c.args.name c.hash.result (Some (Some c.args.value)) c.hash.ensures c.in_ok-insert-in-Some-None.ensures.updates.0 other)

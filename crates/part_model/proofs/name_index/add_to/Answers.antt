use Rattle.std.proofs.Common.{arith, true, ◌≡◌, ◌∙◌}
use Rattle.std.specs.BTreeMap.Entry.{entry_value, map_with_value}
use Rattle.std.specs.declared.option.Option.TheVariants.{Some}
use Rattle.part_model.specs.NameIndexes.{value_among}
use Rattle.part_model.specs.Parts.{same_name}
use Rattle.part_model.proofs.NameIndexLaws.{one_changed, own_value}
use Rattle.part_model.proofs.name_index.add_to.Goals as goal

pub returns-in-Occupied-clause-added : goal.returns-in-Occupied-clause-added
returns-in-Occupied-clause-added g c = λ other.
    let is = c.hash.ensures in
    let written = one_changed c.args.several.now (map_with_value c.in_ok-entry.entry c.or_insert.result.now) c.args.name c.hash.result (Some c.or_insert.result.now) is (c.in_ok-entry.ensures.update.0 c.or_insert.result.now).0 other in
    let own : same_name other c.args.name.now ≡ true → entry_value c.in_ok-entry.entry ≡ value_among c.args.several.now other = λ same. c.in_ok-entry.ensures.value ∙ own_value c.args.several.now c.args.name c.hash.result is other same in
    grind (arith, written, own)

pub returns-in-Vacant-clause-added : goal.returns-in-Vacant-clause-added
returns-in-Vacant-clause-added g c = λ other.
    let is = c.hash.ensures in
    let written = one_changed c.args.several.now (map_with_value c.in_ok-entry.entry c.or_insert-in-Vacant.result.now) c.args.name c.hash.result (Some c.or_insert-in-Vacant.result.now) is (c.in_ok-entry.ensures.update.0 c.or_insert-in-Vacant.result.now).0 other in
    let own : same_name other c.args.name.now ≡ true → entry_value c.in_ok-entry.entry ≡ value_among c.args.several.now other = λ same. c.in_ok-entry.ensures.value ∙ own_value c.args.several.now c.args.name c.hash.result is other same in
    grind (arith, written, own)

use Rattle.std.proofs.Common.{List, [], ◌∷◌, ◌++◌, ◌≡◌, ◌∙◌, ap, sym, subst, true, false, length, arith, rules}
use Rattle.std.specs.Option.{is_some, option_map}
use Rattle.part_model.specs.declared.registers.DataRegister.{DataRegister}
use Rattle.part_model.specs.NameIndexes.{Knows, value_of}
use Rattle.part_model.specs.Parts.{named_of}
use Rattle.part_model.specs.Plans.{is_listed, length_named, length_or, names_known, standard_names}
use Rattle.part_model.proofs.NameIndexLaws.{knows_after, knows_still, named_joined, some_mapped}
use Rattle.part_model.proofs.registers.mention.Goals as goal

pub returns-clause-places : goal.returns-clause-places
returns-clause-places c =
    let register : DataRegister = record { name = c.args.access.now.register; length = c.unwrap_or-length.result } in
    let place : c.len-place.result ≡ length c.args.known.now.registers.items = omega arith in
    let after = knows_after c.args.known.now.registers.items register _ c.args.known.now.places c.add.new.self c.requires.places place (λ name. rw (← c.as_str-name.ensures) (c.in_ok-add.ensures.added name)) in
    let pushed = c.in_ok-push.ensures.items ∙ ap (λ name. c.args.known.now.registers.items ++ record { name = name; length = c.unwrap_or-length.result } ∷ []) c.in_ok-copy.ensures.ok in
    subst (λ (registers : List DataRegister). Knows (named_of registers) c.add.new.self) (sym pushed) after

pub returns-then-is_known-clause-places : goal.returns-then-is_known-clause-places
returns-then-is_known-clause-places c =
    let name = c.as_str-name.result.now in
    let mapped : c.length_of-earlier.result ≡ option_map (λ found. found.1) (value_of c.args.known.now.places name) = c.length_of-earlier.ensures ∙ ap (option_map (λ found. found.1)) c.in_ok-add.ensures.earlier in
    let some : is_some (value_of c.args.known.now.places name) ≡ true = some_mapped (λ found. found.1) _ (ap is_some (sym mapped) ∙ sym c.is_known.ensures.some ∙ c.if-is_known.true) in
    knows_still (named_of c.args.known.now.registers.items) name _ c.args.known.now.places c.add.new.self c.requires.places some c.in_ok-add.ensures.added

pub returns-clause-is : goal.returns-clause-is
returns-clause-is c =
    let items = c.args.known.now.registers.items in
    let name = c.args.access.now.register in
    let same : c.length_of-earlier.result ≡ length_named (named_of items) name = search rules in
    let apart : is_listed name standard_names ≡ false = search rules in
    let unknown : is_listed name (names_known (named_of items)) ≡ false = sym (c.is_known.ensures.is (named_of items) name same) ∙ c.if-is_known.false in
    let stated : c.unwrap_or-length.result ≡ length_or c.args.access.now.length 0 = search rules in
    let register : DataRegister = record { name = name; length = length_or c.args.access.now.length 0 } in
    let pushed = c.in_ok-push.ensures.items
    ∙ ap (λ spelled. items ++ record { name = spelled; length = c.unwrap_or-length.result } ∷ []) c.in_ok-copy.ensures.ok
    ∙ ap (λ length. items ++ record { name = name; length = length } ∷ []) stated in
    ap named_of pushed ∙ named_joined items register _ _ apart unknown

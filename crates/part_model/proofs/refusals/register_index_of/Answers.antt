use Rattle.std.proofs.Common.{◌≡◌, ◌∷◌, ◌+◌, List, [], drop, map, rules, arith, subst}
use Rattle.std.proofs.lemmas.Grind.{common_steps}
use Rattle.std.specs.declared.option.Option.TheVariants.{None}
use Rattle.part_model.specs.NameIndexes.{Awaits}
use Rattle.part_model.specs.Parts.{named_of}
use Rattle.part_model.specs.Plans.{AccessEntry, accesses_refusal, named_after}
use Rattle.part_model.proofs.NameIndexLaws.{all_heard}
use Rattle.part_model.proofs.refusals.register_index_of.Goals as goal

pub loop-access-preserved : goal.loop-access-preserved
loop-access-preserved c =
    let accesses = c.args.plan.now.access in
    let access = c.access-item.result in
    let rest = drop (c.loop-access.access-index + 1) accesses in
    let here : drop c.loop-access.access-index accesses ≡ access ∷ rest = grind (arith, common_steps) in
    let refusal : accesses_refusal c.args.plan.now (named_of c.length_before.new.known.registers.items) rest ≡ accesses_refusal c.args.plan.now [] accesses = search rules in
    let named : named_after (named_of c.length_before.new.known.registers.items) rest ≡ named_after [] accesses = search rules in
    let none : c.in_ok-refusal.field-0 ≡ None = c.in_default.is in
    let before = subst (λ (left : List AccessEntry). Awaits left accesses c.loop-access.mentioned) here c.loop-access.invariant.5 in
    (c.in_ok-before.ensures.few, refusal, named, c.in_ok-before.ensures.places, c.in_ok-refusal.ensures.lists, c.in_ok-refusal.ensures.awaits none rest accesses before)

pub returns-clause-mentions : goal.returns-clause-mentions
returns-clause-mentions c =
    let accesses = c.args.plan.now.access in
    let none : drop c.loop-access.access-index accesses ≡ [] = grind (arith, common_steps) in
    let awaits = subst (λ (left : List AccessEntry). Awaits left accesses c.loop-access.mentioned) none c.loop-access.invariant.5 in
    all_heard accesses (map (λ opcode. opcode.name) c.args.plan.now.opcodes) c.loop-access.mentioned awaits c.loop-access.invariant.4

use Rattle.std.proofs.Common.{◌≡◌, ◌<◌, ◌-◌, ◌^◌, [], drop, map, length}
use Rattle.part_model.specs.NameIndexes.{Awaits, Knows, Lists}
use Rattle.part_model.specs.Parts.{named_of}
use Rattle.part_model.specs.Plans.{accesses_refusal, named_after}
use Rattle.part_model.proofs.refusals.register_index_of.Given as goal

abbrev pub invariant-loop-access : goal.invariant-loop-access
invariant-loop-access l = (length l.known.registers.items < 2 ^ 32 - 4)
    × (accesses_refusal l.plan (named_of l.known.registers.items) (drop l.access-index l.plan.access) ≡ accesses_refusal l.plan [] l.plan.access)
    × (named_after (named_of l.known.registers.items) (drop l.access-index l.plan.access) ≡ named_after [] l.plan.access)
    × Knows (named_of l.known.registers.items) l.known.places
    × Lists (map (λ opcode. opcode.name) l.plan.opcodes) l.mentioned
    × Awaits (drop l.access-index l.plan.access) l.plan.access l.mentioned

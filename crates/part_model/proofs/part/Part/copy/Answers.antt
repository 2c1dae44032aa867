use Rattle.part_model.proofs.part.Part.copy.Goals as goal

pub invariant_of-result : goal.invariant_of-result
invariant_of-result c = rw (c.from_vec.ensures, c.from_vec-2.ensures, c.in_ok-opcodes.ensures, c.in_ok-named.ensures, c.in_ok-table.ensures, c.as_slice.ensures, c.as_slice-2.ensures) c.self.invariant

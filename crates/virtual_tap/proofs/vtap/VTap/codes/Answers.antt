use Rattle.virtual_tap.specs.Instructions.{parts_of}
use Rattle.virtual_tap.proofs.Loaded.{codes_are, words_fit}
use Rattle.virtual_tap.proofs.vtap.VTap.codes.Goals as goal

pub returns-clause-words : goal.returns-clause-words
returns-clause-words c = rw (← c.self.view_is) (codes_are (parts_of c.self.inside.instructions.registers) c.codes.result.now c.self.inside.instructions.codes c.codes.ensures)

pub returns-clause-fit : goal.returns-clause-fit
returns-clause-fit c = rw (← c.self.view_is) (words_fit (parts_of c.self.inside.instructions.registers) c.codes.result.now c.self.inside.instructions.codes c.codes.ensures)

use Rattle.part_model.proofs.Accepted.{part_is_sound}
use Rattle.part_model.proofs.parts_are_sound.Goals as goal

pub returns : goal.returns
returns c = part_is_sound

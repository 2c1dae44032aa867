use Rattle.part_model.proofs.PartLaws.{captured_ends_in_01}
use Rattle.part_model.proofs.captured_ends_in_01.Goals as goal

pub returns : goal.returns
returns c = captured_ends_in_01

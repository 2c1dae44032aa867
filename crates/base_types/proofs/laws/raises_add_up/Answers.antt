use Rattle.base_types.proofs.CountLaws.{raised_twice}
use Rattle.base_types.proofs.laws.raises_add_up.Goals as goal

pub returns : goal.returns
returns c = raised_twice

use Rattle.base_types.proofs.TellingLaws.{takings_joined}
use Rattle.base_types.proofs.laws.takings_may_be_joined.Goals as goal

pub returns : goal.returns
returns g c = takings_joined

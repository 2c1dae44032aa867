use Rattle.std.proofs.Common.{◌∙◌, ap}
use Rattle.base_types.proofs.TellingLaws.{both_joined}
use Rattle.base_types.proofs.laws.calls_may_be_joined.Goals as goal

pub returns : goal.returns
returns g c = λ first second old between new. both_joined _ _ _ (λ x y z one two. two ∙ ap second one) old between new

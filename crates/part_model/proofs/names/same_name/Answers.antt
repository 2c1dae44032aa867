use Rattle.part_model.proofs.PlaceLaws.{other_lengths}
use Rattle.part_model.proofs.names.same_name.Goals as goal

pub returns-else-left-right : goal.returns-else-left-right
returns-else-left-right c = other_lengths c.args.left.now c.args.right.now c.if-left-right.false

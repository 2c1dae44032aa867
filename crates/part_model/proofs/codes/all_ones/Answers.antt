use Rattle.part_model.proofs.MaskLaws.{all_set}
use Rattle.part_model.proofs.codes.all_ones.Goals as goal

pub returns : goal.returns
returns c = all_set c.args.count c.args.code c.ones-mask.result c.ones-mask.ensures.is c.ones-mask.ensures.bound

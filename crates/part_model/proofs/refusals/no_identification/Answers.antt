use Rattle.std.proofs.Common.{◌∙◌}
use Rattle.part_model.proofs.RegisterNameLaws.{another_register}
use Rattle.part_model.proofs.refusals.no_identification.Goals as goal

pub returns-in_default : goal.returns-in_default
returns-in_default c = another_register c.args.plan.now.idcode c.args.access.now.register c.args.access.now.instructions (λ is. c.in_default.not-DeviceId (c.requires ∙ is))

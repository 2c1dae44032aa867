use Rattle.std.proofs.Common.{sym, ap, arith}
use Rattle.part_model.specs.Parts.{DeviceType, register_count}
use Rattle.part_model.proofs.NumberLaws.{length_numbered}
use Rattle.part_model.proofs.PlaceLaws.{length-named_of}
use Rattle.part_model.proofs.part.Part.len_of.Goals as goal

pub returns-in_default : goal.returns-in_default
returns-in_default c = length_numbered c.args.self.now c.self.inside.named c.args.reg c.get.result.now (sym (ap (λ (p : DeviceType). p.named) c.self.view_is))
    (omega (arith, c.in_default)) (omega (arith, c.in_default, c.requires, ap register_count c.self.view_is, length-named_of c.self.inside.named)) c.get.ensures

use Rattle.std.proofs.Common.{refl}
use Rattle.share_top.proofs.Lines.{grant_told}
use Rattle.share_top.proofs.print.grant_line.Goals as goal

pub returns : goal.returns
returns c =
    grant_told c.args.layout.now c.args.grant c.grant_text.result.items c.protocol.result c.port.result c.group.result.now c.bits_of_group.result c.longest.result _ c.grant_text.ensures refl
    c.protocol.ensures c.port.ensures c.group.ensures.is c.bits_of_group.ensures c.longest.ensures.is

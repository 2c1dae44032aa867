use Rattle.std.proofs.Common.{ap, arith}
use Rattle.std.proofs.lemmas.List.{take_all}
use Rattle.scan_bits.specs.Registers.{joined}
use Rattle.scan_share.specs.Scans.{codes_of}
use Rattle.scan_share.proofs.Places.{length-codes}
use Rattle.scan_share.proofs.code_bits.CodeBits.new.Goals as goal

pub returns : goal.returns
returns c =
    ap joined (take_all c.devices.result (codes_of c.args.layout.now.parts c.args.codes.now)
    (omega (arith, c.devices.ensures.is, length-codes c.args.layout.now.parts c.args.codes.now c.requires)))

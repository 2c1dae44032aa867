use Rattle.std.proofs.Common.{◌∙◌, ap, ◌+◌}
use Rattle.scan_share.proofs.CodeTests.{ones_are, below_next}
use Rattle.scan_share.proofs.codes.is_code.Goals as goal

pub returns : goal.returns
returns c = below_next c.args.code c.bypass_code.result _ (ap (λ n. n + 1) c.bypass_code.ensures ∙ ones_are c.args.part.now.ir_length)

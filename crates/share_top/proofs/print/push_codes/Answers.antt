use Rattle.std.proofs.Common.{◌++◌, ◌∙◌, ap}
use Rattle.std.specs.Prelude.{codes}
use Rattle.share_top.proofs.Lines.{code_shown}
use Rattle.share_top.proofs.print.push_codes.Goals as goal

pub returns-clause-is : goal.returns-clause-is
returns-clause-is c =
    c.push_hex-2.ensures.is
    ∙ (λ i. (((c.push_hex.ensures.is
    ∙ ap (λ h. (c.args.line.now.items ++ codes " capture ") ++ h) (code_shown c.args.part.now.ir_length c.capture_code.result c.args.part.now.ir_captures c.capture_code.ensures.is c.capture_code.ensures.bound)) i)
    ++ codes " reset ") ++ code_shown c.args.part.now.ir_length c.reset_code.result c.args.part.now.reset_code c.reset_code.ensures.is c.reset_code.ensures.bound i)

use Rattle.std.proofs.Common.{sym, ◌∙◌, arith}
use Rattle.xvc_frame.proofs.Numbers.{are_bytes}
use Rattle.xvc_frame.proofs.Steps.{tells_getinfo}
use Rattle.xvc_frame.proofs.front.step_of.Goals as goal

pub returns-then-begins_with : goal.returns-then-begins_with
returns-then-begins_with c = tells_getinfo c.args.vector c.args.held.now (are_bytes c.args.held.now (λ i. omega (arith, c.type_inv.held i))) c.requires.ends (sym c.begins_with.ensures ∙ c.if-begins_with.true)

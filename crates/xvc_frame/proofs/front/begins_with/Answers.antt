use Rattle.std.proofs.Common.{◌∙◌}
use Rattle.xvc_frame.proofs.Prefixes.{begins_pointwise}
use Rattle.xvc_frame.proofs.front.begins_with.Goals as goal

pub returns : goal.returns
returns c = c.starts_with.ensures.value ∙ begins_pointwise c.args.word.now c.args.held.now

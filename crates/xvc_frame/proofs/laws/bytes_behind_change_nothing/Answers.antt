use Rattle.xvc_frame.proofs.Fronts.{front-append, refused-append}
use Rattle.xvc_frame.proofs.laws.bytes_behind_change_nothing.Goals as goal

pub returns-clause-message : goal.returns-clause-message
returns-clause-message c = front-append

pub returns-clause-refusal : goal.returns-clause-refusal
returns-clause-refusal c = refused-append

use Rattle.xvc_frame.proofs.Cases.{framed, unframed}
use Rattle.xvc_frame.proofs.Steps.{front_is_message}
use Rattle.xvc_frame.proofs.laws.front_is_the_message.Goals as goal

pub returns-clause-framed : goal.returns-clause-framed
returns-clause-framed c = framed

pub returns-clause-message : goal.returns-clause-message
returns-clause-message c = unframed

pub returns-clause-part : goal.returns-clause-part
returns-clause-part c = front_is_message

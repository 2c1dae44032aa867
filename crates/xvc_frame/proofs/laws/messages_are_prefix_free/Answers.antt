use Rattle.xvc_frame.proofs.Encodings.{apart, one_message, not_refused}
use Rattle.xvc_frame.proofs.laws.messages_are_prefix_free.Goals as goal

pub returns-clause-prefix : goal.returns-clause-prefix
returns-clause-prefix c = apart

pub returns-clause-one : goal.returns-clause-one
returns-clause-one c = one_message

pub returns-clause-refused : goal.returns-clause-refused
returns-clause-refused c = not_refused

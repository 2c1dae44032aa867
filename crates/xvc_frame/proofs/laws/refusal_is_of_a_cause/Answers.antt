use Rattle.xvc_frame.proofs.Refusals.{refused_is, refused_so}
use Rattle.xvc_frame.proofs.laws.refusal_is_of_a_cause.Goals as goal

pub returns-clause-cause : goal.returns-clause-cause
returns-clause-cause c = refused_is

pub returns-clause-refused : goal.returns-clause-refused
returns-clause-refused c = refused_so

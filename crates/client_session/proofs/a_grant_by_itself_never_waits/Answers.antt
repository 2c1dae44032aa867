use Rattle.client_session.proofs.Itself.{none_waits}
use Rattle.client_session.proofs.a_grant_by_itself_never_waits.Goals as goal

pub returns : goal.returns
returns c = none_waits

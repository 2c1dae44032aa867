use Rattle.hub.proofs.Shutting.{shut_once}
use Rattle.hub.proofs.sessions.Sessions.shut.Goals as goal

pub returns-clause-shuts : goal.returns-clause-shuts
returns-clause-shuts g c = shut_once _ _ _ _ c.give_left.ensures.shuts c.shut.ensures.told

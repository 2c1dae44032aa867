use Rattle.hub.proofs.OnTheWire.{given_only, given_shut, open_can}
use Rattle.std.proofs.Common.{[]}
use Rattle.hub.proofs.LettingGo.{told_last}
use Rattle.hub.proofs.Shutting.{give_shuts_none}
use Rattle.hub.proofs.sessions.Sessions.give_last.Goals as goal

pub returns-then-not-is_empty-clause-only : goal.returns-then-not-is_empty-clause-only
returns-then-not-is_empty-clause-only g c = given_only _ _ _ _ _ c.give-given.ensures.told

pub returns-then-not-is_empty-clause-can : goal.returns-then-not-is_empty-clause-can
returns-then-not-is_empty-clause-can g c = given_shut _ _ _ _ _ (open_can _ _ c.requires.open) c.give-given.ensures.told

pub returns-then-not-is_empty-clause-shuts : goal.returns-then-not-is_empty-clause-shuts
returns-then-not-is_empty-clause-shuts g c = give_shuts_none _ _ _ [] _ _ c.give-given.ensures.told

pub returns-then-not-is_empty-clause-gave : goal.returns-then-not-is_empty-clause-gave
returns-then-not-is_empty-clause-gave g c = told_last _ _ _ _ _ _ c.reply-piece.ensures c.requires.open c.give-given.ensures.told

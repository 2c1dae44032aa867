use Rattle.std.proofs.Common.{◌∙◌, ap, sym}
use Rattle.grant_table.specs.Layouts.{group_of}
use Rattle.scan_share.specs.PrivateChains.{entries_at}
use Rattle.share_top.proofs.SessionLaws.{free_shows}
use Rattle.share_top.proofs.pipe.memory.Goals as goal

pub returns-clause-session : goal.returns-clause-session
returns-clause-session c = record {
  grant_is = c.in_ok-session.ensures.grant;
  layout_is = ap (λ grant. entries_at c.args.setup.now.layout.parts (group_of c.args.setup.now.layout.grants grant)) c.in_ok-session.ensures.grant ∙ sym c.in_ok-session.ensures.parts;
  free = c.in_ok-session.ensures.free.0;
  given = c.in_ok-session.ensures.free.1;
  fit = c.in_ok-session.ensures.free.2;
  trst = c.in_ok-session.ensures.trst ∙ c.uses_trst.ensures;
  shows = free_shows c.args.setup.now c.args.grant c.in_ok-session.session.view c.uses_trst.result c.uses_trst.ensures c.requires.whole.parts c.in_ok-session.ensures.protocol c.in_ok-session.ensures.shows;
}

use Rattle.std.proofs.Common.{◌∙◌, ap, subst, sym}
use Rattle.chain_token.specs.Tokens.{holder_of}
use Rattle.client_session.specs.Desks.{SideFits}
use Rattle.client_session.specs.Turns.{is_holder}
use Rattle.chain_tests.proofs.sessions.served.Goals as goal

pub serve-requires-clause-desk : goal.serve-requires-clause-desk
serve-requires-clause-desk c = record {
  holds = ap (λ side. is_holder (holder_of side) c.open.new.self.grant) c.new-in-Ok.ensures.free ∙ sym c.open.ensures.shut;
  fits = subst (SideFits c.in-Some.layout c.open.new.self.grant c.open.new.self.view.tap.codes) (sym c.new-in-Ok.ensures.free) tt;
}

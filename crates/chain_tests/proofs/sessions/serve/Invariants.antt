use Rattle.std.proofs.Common.{◌≡◌, ◌<◌, [], false, length}
use Rattle.client_session.specs.declared.Stand.TheVariants.{Going}
use Rattle.client_session.specs.Desks.{IsDesk}
use Rattle.client_session.specs.Stores.{IsOfLayout}
use Rattle.client_session.specs.Turns.{is_among}
use Rattle.chain_token.specs.Tokens.{waiting}
use Rattle.chain_tests.proofs.sessions.serve.Given as goal

abbrev pub invariant-loop-left : goal.invariant-loop-left
invariant-loop-left l = record {
  layout_is : IsOfLayout l.layout l.session;
  grant : l.session.grant < length l.layout.grants;
  going : l.session.view.stand ≡ Going;
  fit : l.session.view.spent ≡ false;
  given : l.session.view.reply ≡ [];
  desk_is : IsDesk l.layout l.session.grant l.session.view.tap l.desk;
  line : is_among l.session.grant (waiting l.desk) ≡ false;
}

abbrev pub decreases-loop-left : goal.decreases-loop-left
decreases-loop-left l = length l.left

use Rattle.std.proofs.Common.{subst}
use Rattle.client_session.specs.Desks.{cable_of}
use Rattle.lone_session.proofs.Turns.{DropsTo, drops}
use Rattle.lone_session.proofs.drop_peer.Goals as goal

pub returns-clause-dropped : goal.returns-clause-dropped
returns-clause-dropped g c = λ old_desk start taken replies reached.
    subst (λ st. DropsTo st c.args.layout.now c.args.session.now.grant old_desk c.in_ok-stop.desk (g.C.Cable.chain (cable_of c.in_ok-stop.desk.side)) start taken replies) c.in-Ended.is
    (drops c.args.layout.now c.args.session.now.grant c.requires.sound c.args.session.now.view c.gone.new.self.view old_desk start taken replies c.args.desk c.in_ok-stop.desk c.requires.ready.going (g.C.Cable.chain (cable_of c.args.desk.side)) (g.C.Cable.chain (cable_of c.in_ok-stop.desk.side)) c.in_ok-stop.stop c.requires.ready.given reached c.in_ok-stop.ensures.came)

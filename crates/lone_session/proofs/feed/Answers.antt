use Rattle.std.proofs.Common.{◌+◌, length, subst}
use Rattle.client_session.specs.Sessions.{view_taken}
use Rattle.client_session.specs.Desks.{IsBlocked, cable_of}
use Rattle.client_session.proofs.Calling.{always_err}
use Rattle.lone_session.proofs.Alone.{alone_kept, ends_itself, never_waits, takes_more}
use Rattle.lone_session.proofs.Turns.{feeds, feeds_front}
use Rattle.lone_session.proofs.feed.Goals as goal

pub returns-clause-fed : goal.returns-clause-fed
returns-clause-fed g c = λ old_desk start taken replies reached.
    feeds c.args.layout.now c.args.session.now.grant c.requires.sound c.args.session.now.view c.feed.new.self.view old_desk start taken replies c.args.desk c.in_ok-stop.desk c.requires.ready.going (g.C.Cable.chain (cable_of c.args.desk.side)) (g.C.Cable.chain (cable_of c.in_ok-stop.desk.side)) c.args.piece.now c.in_ok-stop.stop reached c.in_ok-stop.ensures.came

pub returns-in_err-stop-clause-failed : goal.returns-in_err-stop-clause-failed
returns-in_err-stop-clause-failed g c = always_err c.from_residual.result (λ old_desk start taken replies reached.
    feeds_front c.args.layout.now c.args.session.now.grant c.requires.sound c.args.session.now.view c.feed.new.self.view old_desk start taken replies c.args.desk c.args.desk c.requires.ready.going (g.C.Cable.chain (cable_of c.args.desk.side)) c.args.piece.now reached c.in_err-stop.ensures.failed)

pub returns-clause-moves : goal.returns-clause-moves
returns-clause-moves g c =
    never_waits c.args.session.now.grant c.in_ok-stop.desk c.in_ok-stop.stop (alone_kept c.args.session.now.grant c.args.desk c.in_ok-stop.desk c.in_ok-stop.ensures.others c.requires.ready.alone)
    (λ waits. subst (λ n. IsBlocked n c.in_ok-stop.desk) c.in_ok-stop.ensures.kept.grant (c.in_ok-stop.ensures.blocked waits))

pub returns-clause-taken : goal.returns-clause-taken
returns-clause-taken g c = takes_more c.args.session.now.view c.feed.new.self.view c.args.piece.now c.in_ok-stop.stop c.in_ok-stop.ensures.taken c.requires.some c.requires.wanted

pub returns-clause-itself : goal.returns-clause-itself
returns-clause-itself g c = ends_itself c.args.session.now.view c.args.piece.now (view_taken c.args.session.now.view + length c.args.piece.now) c.in_ok-stop.stop c.in_ok-stop.ensures.stops

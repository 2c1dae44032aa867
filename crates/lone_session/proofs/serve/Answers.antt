use Rattle.std.proofs.Common.{◌∙◌, arith, subst, sym}
use Rattle.std.specs.Prelude.{IfNone}
use Rattle.client_session.specs.Desks.{IsSound, cable_of}
use Rattle.client_session.proofs.Calling.{always_err}
use Rattle.lone_session.specs.Serving.{ServedFrom}
use Rattle.lone_session.specs.Steps.{GoesOn, IsReady, StepCauses, TurnedTo}
use Rattle.lone_session.proofs.Runs.{cut_off, kept_more, served_between}
use Rattle.lone_session.proofs.serve.Goals as goal

pub loop-served-preserved : goal.loop-served-preserved
loop-served-preserved g c =
    let causes = subst (λ o. StepCauses o (g.I.Source.fault_count c.loop-served.input) (g.I.Source.fault_count c.turn.new.input) (g.C.Cable.fault_count (cable_of c.loop-served.desk.side)) (g.C.Cable.fault_count (cable_of c.in_ok-served.next.side)) (g.O.Sink.fault_count c.loop-served.out) (g.O.Sink.fault_count c.turn.new.out)) c.in_default.is c.in_ok-served.ensures.causes in
    record {
      ready = subst (λ o. IfNone o (IsReady c.args.layout.now c.turn.new.session c.in_ok-served.next (g.C.Cable.chain (cable_of c.in_ok-served.next.side)) (g.C.Cable.trst (cable_of c.in_ok-served.next.side)))) c.in_default.is c.in_ok-served.ensures.ready;
      buffer = omega (arith, c.in_ok-served.ensures.buffer, c.loop-served.invariant.buffer);
      kept = kept_more c.args.session.now c.loop-served.session c.turn.new.session c.loop-served.invariant.kept c.in_ok-served.ensures.kept;
      mark = c.in_ok-served.ensures.mark ∙ c.loop-served.invariant.mark;
      trst = c.in_ok-served.ensures.trst ∙ c.loop-served.invariant.trst;
      source = causes.0 ∙ c.loop-served.invariant.source;
      cable = causes.1 ∙ c.loop-served.invariant.cable;
      sink = causes.2 ∙ c.loop-served.invariant.sink;
      went = λ left sent old_desk start first.
          subst (λ n. GoesOn c.args.layout.now n c.turn.new.session.view left (g.I.Source.left c.turn.new.input) sent (g.O.Sink.sent c.turn.new.out) old_desk c.in_ok-served.next (g.C.Cable.chain (cable_of c.in_ok-served.next.side)) start) (sym c.in_ok-served.ensures.kept.grant)
          (subst (λ o. TurnedTo o c.args.layout.now c.loop-served.session.grant c.turn.new.session.view left (g.I.Source.left c.turn.new.input) sent (g.O.Sink.sent c.turn.new.out) old_desk c.in_ok-served.next (g.C.Cable.chain (cable_of c.in_ok-served.next.side)) start) c.in_default.is (c.in_ok-served.ensures.went left sent old_desk start (c.loop-served.invariant.went left sent old_desk start first)));
    }

pub returns-in-Some-clause-served : goal.returns-in-Some-clause-served
returns-in-Some-clause-served g c = λ start.
    served_between c.args.layout.now c.args.session.now.grant (subst (IsSound c.args.layout.now) c.grant.ensures c.sound.ensures) c.args.session.now.view (g.I.Source.left c.args.input.now) (g.I.Source.left c.turn.new.input) (g.O.Sink.sent c.args.out.now) (g.O.Sink.sent c.turn.new.out) c.args.desk start c.requires.ready.going c.in-Some.served c.in_ok-served.next (g.C.Cable.chain (cable_of c.args.desk.side)) (g.C.Cable.chain (cable_of c.in_ok-served.next.side))
    (λ old_desk first. subst (λ n. ServedFrom c.args.layout.now n c.in-Some.served (g.I.Source.left c.args.input.now) (g.I.Source.left c.turn.new.input) (g.O.Sink.sent c.args.out.now) (g.O.Sink.sent c.turn.new.out) old_desk c.in_ok-served.next (g.C.Cable.chain (cable_of c.in_ok-served.next.side)) start) c.loop-served.invariant.kept.grant
    (subst (λ o. TurnedTo o c.args.layout.now c.loop-served.session.grant c.turn.new.session.view (g.I.Source.left c.args.input.now) (g.I.Source.left c.turn.new.input) (g.O.Sink.sent c.args.out.now) (g.O.Sink.sent c.turn.new.out) old_desk c.in_ok-served.next (g.C.Cable.chain (cable_of c.in_ok-served.next.side)) start) c.in-Some.is (c.in_ok-served.ensures.went (g.I.Source.left c.args.input.now) (g.O.Sink.sent c.args.out.now) old_desk start (c.loop-served.invariant.went (g.I.Source.left c.args.input.now) (g.O.Sink.sent c.args.out.now) old_desk start first))))

pub returns-in_err-served-clause-failed : goal.returns-in_err-served-clause-failed
returns-in_err-served-clause-failed g c = always_err c.from_residual.result (λ start.
    cut_off c.args.layout.now c.args.session.now.grant (subst (IsSound c.args.layout.now) c.grant.ensures c.sound.ensures) c.args.session.now.view (g.I.Source.left c.args.input.now) (g.I.Source.left c.turn.new.input) (g.O.Sink.sent c.args.out.now) (g.O.Sink.sent c.turn.new.out) c.args.desk start c.requires.ready.going (g.C.Cable.chain (cable_of c.args.desk.side))
    (λ old_desk first. c.in_err-served.ensures.failed (g.I.Source.left c.args.input.now) (g.O.Sink.sent c.args.out.now) old_desk start (c.loop-served.invariant.went (g.I.Source.left c.args.input.now) (g.O.Sink.sent c.args.out.now) old_desk start first)))

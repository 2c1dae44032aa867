use Rattle.std.proofs.Common.{◌≡◌, ◌++◌, ◌∙◌, ap, subst, sym}
use Rattle.std.specs.Io.KnownBytes.{Appends}
use Rattle.ports.specs.Streams.{AppendsFront}
use Rattle.client_session.specs.Desks.{cable_of}
use Rattle.client_session.specs.Stores.{SessionState}
use Rattle.client_session.proofs.Calling.{always_err}
use Rattle.lone_session.specs.Steps.{Closed, FedTo, Reached}
use Rattle.lone_session.proofs.Runs.{cut_unwritten, err_so, not_err_so, not_ok_so, ok_so, on_ended, on_more, on_unwritten}
use Rattle.lone_session.proofs.answer.Goals as goal

pub returns-then-is_err-clause-went : goal.returns-then-is_err-clause-went
returns-then-is_err-clause-went g c = λ left between rest sent old_desk start consumed went.
    on_unwritten c.args.layout.now c.args.session.now.grant c.args.session.now.view left between rest sent (g.O.Sink.sent c.args.out.now) old_desk c.args.desk (g.C.Cable.chain (cable_of c.args.desk.side)) start went c.args.piece.now consumed c.feed.new.session.view.reply (g.O.Sink.sent c.give-written.new.out) c.in_ok-stop.desk (g.C.Cable.chain (cable_of c.in_ok-stop.desk.side)) c.in-Ended.end
    (err_so (AppendsFront (g.O.Sink.sent c.args.out.now) (g.O.Sink.sent c.give-written.new.out) c.feed.new.session.view.reply) c.give-written.result c.is_err.result c.is_err.ensures.value c.if-is_err.true c.give-written.ensures.front)
    (subst (λ st. FedTo st c.args.layout.now c.args.session.now.grant c.feed.new.session.view old_desk c.in_ok-stop.desk (g.C.Cable.chain (cable_of c.in_ok-stop.desk.side)) start (went.taken ++ c.args.piece.now) (went.given ++ c.feed.new.session.view.reply)) c.in-Ended.is (c.in_ok-stop.ensures.fed old_desk start went.taken went.given went.reached)).0

pub returns-else-is_err-clause-went : goal.returns-else-is_err-clause-went
returns-else-is_err-clause-went g c = λ left between rest sent old_desk start consumed went.
    let closed = subst (λ st. FedTo st c.args.layout.now c.args.session.now.grant c.feed.new.session.view old_desk c.in_ok-stop.desk (g.C.Cable.chain (cable_of c.in_ok-stop.desk.side)) start (went.taken ++ c.args.piece.now) (went.given ++ c.feed.new.session.view.reply)) c.in-Ended.is (c.in_ok-stop.ensures.fed old_desk start went.taken went.given went.reached) in
    on_ended c.args.layout.now c.args.session.now.grant c.args.session.now.view left between rest sent (g.O.Sink.sent c.args.out.now) old_desk c.args.desk (g.C.Cable.chain (cable_of c.args.desk.side)) start went c.args.piece.now consumed c.feed.new.session.view.reply (g.O.Sink.sent c.give-written.new.out) c.in_ok-stop.desk (g.C.Cable.chain (cable_of c.in_ok-stop.desk.side)) c.in-Ended.end
    (not_err_so (Appends (g.O.Sink.sent c.args.out.now) (g.O.Sink.sent c.give-written.new.out) c.feed.new.session.view.reply) c.give-written.result c.is_err.result c.is_err.ensures.value c.if-is_err.false c.give-written.ensures.whole)
    closed.0 closed.1

pub returns-then-is_ok-clause-went : goal.returns-then-is_ok-clause-went
returns-then-is_ok-clause-went g c = λ left between rest sent old_desk start consumed went.
    let reached = subst (λ v. Reached c.args.layout.now c.args.session.now.grant v old_desk c.in_ok-stop.desk (g.C.Cable.chain (cable_of c.in_ok-stop.desk.side)) start (went.taken ++ c.args.piece.now) (went.given ++ c.feed.new.session.view.reply)) (sym (ap (λ (s : SessionState). s.view) c.give-written.ensures.session))
    (subst (λ st. FedTo st c.args.layout.now c.args.session.now.grant c.feed.new.session.view old_desk c.in_ok-stop.desk (g.C.Cable.chain (cable_of c.in_ok-stop.desk.side)) start (went.taken ++ c.args.piece.now) (went.given ++ c.feed.new.session.view.reply)) c.in-Done.is (c.in_ok-stop.ensures.fed old_desk start went.taken went.given went.reached)) in
    on_more c.args.layout.now c.args.session.now.grant c.args.session.now.view left between rest sent (g.O.Sink.sent c.args.out.now) old_desk c.args.desk (g.C.Cable.chain (cable_of c.args.desk.side)) start went c.args.piece.now consumed c.feed.new.session.view.reply (g.O.Sink.sent c.give-written.new.out) c.in_ok-stop.desk (g.C.Cable.chain (cable_of c.in_ok-stop.desk.side)) c.give-written.new.session.view
    (ok_so (Appends (g.O.Sink.sent c.args.out.now) (g.O.Sink.sent c.give-written.new.out) c.feed.new.session.view.reply) c.give-written.result c.is_ok.result c.is_ok.ensures.value c.if-is_ok.true c.give-written.ensures.whole)
    reached

pub returns-in_err-_end-in-Done-clause-failed : goal.returns-in_err-_end-in-Done-clause-failed
returns-in_err-_end-in-Done-clause-failed g c = always_err c.from_residual-in_err-_end-in-Done.result (λ left between rest sent old_desk start consumed went.
    let reached = subst (λ v. Reached c.args.layout.now c.args.session.now.grant v old_desk c.in_ok-stop.desk (g.C.Cable.chain (cable_of c.in_ok-stop.desk.side)) start (went.taken ++ c.args.piece.now) (went.given ++ c.feed.new.session.view.reply)) (sym (ap (λ (s : SessionState). s.view) c.give-written.ensures.session))
    (subst (λ st. FedTo st c.args.layout.now c.args.session.now.grant c.feed.new.session.view old_desk c.in_ok-stop.desk (g.C.Cable.chain (cable_of c.in_ok-stop.desk.side)) start (went.taken ++ c.args.piece.now) (went.given ++ c.feed.new.session.view.reply)) c.in-Done.is (c.in_ok-stop.ensures.fed old_desk start went.taken went.given went.reached)) in
    cut_unwritten c.args.layout.now c.args.session.now.grant c.args.session.now.view left between rest sent (g.O.Sink.sent c.args.out.now) old_desk c.args.desk (g.C.Cable.chain (cable_of c.args.desk.side)) start went c.args.piece.now consumed c.feed.new.session.view.reply (g.O.Sink.sent c.give-written.new.out) c.in_ok-stop.desk (g.C.Cable.chain (cable_of c.in_ok-stop.desk.side)) c.give-written.new.session.view
    (ap (λ (s : SessionState). s.view.stand) c.give-written.ensures.session ∙ (c.in_ok-stop.ensures.ready c.in-Done.is).going) (ap (λ (s : SessionState). s.view.reply) c.give-written.ensures.session)
    (not_ok_so (AppendsFront (g.O.Sink.sent c.args.out.now) (g.O.Sink.sent c.give-written.new.out) c.feed.new.session.view.reply) c.give-written.result c.is_ok.result c.is_ok.ensures.value c.if-is_ok.false c.give-written.ensures.front)
    reached)

pub returns-in_ok-_end-in-Done-clause-went : goal.returns-in_ok-_end-in-Done-clause-went
returns-in_ok-_end-in-Done-clause-went g c = λ left between rest sent old_desk start consumed went.
    let reached = subst (λ v. Reached c.args.layout.now c.args.session.now.grant v old_desk c.in_ok-stop.desk (g.C.Cable.chain (cable_of c.in_ok-stop.desk.side)) start (went.taken ++ c.args.piece.now) (went.given ++ c.feed.new.session.view.reply)) (sym (ap (λ (s : SessionState). s.view) c.give-written.ensures.session))
    (subst (λ st. FedTo st c.args.layout.now c.args.session.now.grant c.feed.new.session.view old_desk c.in_ok-stop.desk (g.C.Cable.chain (cable_of c.in_ok-stop.desk.side)) start (went.taken ++ c.args.piece.now) (went.given ++ c.feed.new.session.view.reply)) c.in-Done.is (c.in_ok-stop.ensures.fed old_desk start went.taken went.given went.reached)) in
    let same : c.give-written.new.session.grant ≡ c.args.session.now.grant = ap (λ (s : SessionState). s.grant) c.give-written.ensures.session ∙ c.in_ok-stop.ensures.kept.grant in
    let closed = c.in_ok-_end-in-Done.ensures.dropped old_desk start (went.taken ++ c.args.piece.now) (went.given ++ c.feed.new.session.view.reply) (subst (λ n. Reached c.args.layout.now n c.give-written.new.session.view old_desk c.in_ok-stop.desk (g.C.Cable.chain (cable_of c.in_ok-stop.desk.side)) start (went.taken ++ c.args.piece.now) (went.given ++ c.feed.new.session.view.reply)) (sym same) reached) in
    on_unwritten c.args.layout.now c.args.session.now.grant c.args.session.now.view left between rest sent (g.O.Sink.sent c.args.out.now) old_desk c.args.desk (g.C.Cable.chain (cable_of c.args.desk.side)) start went c.args.piece.now consumed c.feed.new.session.view.reply (g.O.Sink.sent c.give-written.new.out) c.in_ok-_end-in-Done.desk (g.C.Cable.chain (cable_of c.in_ok-_end-in-Done.desk.side)) c.in_ok-_end-in-Done._end
    (not_ok_so (AppendsFront (g.O.Sink.sent c.args.out.now) (g.O.Sink.sent c.give-written.new.out) c.feed.new.session.view.reply) c.give-written.result c.is_ok.result c.is_ok.ensures.value c.if-is_ok.false c.give-written.ensures.front)
    (subst (λ n. Closed c.args.layout.now n old_desk c.in_ok-_end-in-Done.desk (g.C.Cable.chain (cable_of c.in_ok-_end-in-Done.desk.side)) start (went.taken ++ c.args.piece.now) (went.given ++ c.feed.new.session.view.reply) c.in_ok-_end-in-Done._end) same closed)

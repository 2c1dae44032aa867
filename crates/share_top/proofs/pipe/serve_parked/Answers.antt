use Rattle.std.proofs.Common.{[], ap, sym, subst, slice_get, ◌∙◌}
use Rattle.client_session.specs.Desks.{cable_of}
use Rattle.lone_session.specs.Serving.{ServedCauses}
use Rattle.share_top.specs.Pipes.{private_seat}
use Rattle.share_top.proofs.SessionLaws.{seat_types}
use Rattle.share_top.proofs.PipeLaws.{cut_over, end_causes, ran_over}
use Rattle.share_top.proofs.pipe.serve_parked.Goals as goal

pub returns-in-Ok-clause-ran : goal.returns-in-Ok-clause-ran
returns-in-Ok-clause-ran g c shape found = (
  c.in-Ok.ensures.ends,
  ran_over g.B.Cable.chain c.args.setup.now c.open.new.self.grant shape (ap (slice_get c.args.setup.now.layout.grants) c.open.ensures.kept.grant ∙ found) c.requires.sound c.open.new.self.view c.args.parked c.new.result c.new.ensures.free c.new.ensures.none
      (c.open.ensures.shown 0 (private_seat c.args.setup.now shape) [] (seat_types c.args.setup.now c.args.session.now.grant shape found c.requires.sound ∙ c.requires.session.layout_is) (c.requires.session.shows shape found))
      c.requires.started (g.I.Source.left c.args.input.now) (g.I.Source.left c.serve.new.input) (g.O.Sink.sent c.args.out.now) (g.O.Sink.sent c.serve.new.out)
      c.in-Ok.served c.in-Ok.desk c.leave.result c.in-Ok.ensures.served c.leave.ensures,
)

pub returns-in-Ok-clause-causes : goal.returns-in-Ok-clause-causes
returns-in-Ok-clause-causes g c shelf =
    end_causes c.in-Ok.served
    (record { shelf = shelf; source = g.I.Source.fault_count c.args.input.now; cable = g.B.Cable.fault_count c.args.parked.cable; sink = g.O.Sink.fault_count c.args.out.now })
    (record { shelf = shelf; source = g.I.Source.fault_count c.serve.new.input; cable = g.B.Cable.fault_count c.leave.result; sink = g.O.Sink.fault_count c.serve.new.out })
    c.requires.counts
    (subst (λ a. ServedCauses c.in-Ok.served (g.I.Source.fault_count c.args.input.now) (g.I.Source.fault_count c.serve.new.input) (g.B.Cable.fault_count c.args.parked.cable) (g.B.Cable.fault_count a) (g.O.Sink.fault_count c.args.out.now) (g.O.Sink.fault_count c.serve.new.out)) (sym c.leave.ensures)
    (subst (λ side. ServedCauses c.in-Ok.served (g.I.Source.fault_count c.args.input.now) (g.I.Source.fault_count c.serve.new.input) (g.B.Cable.fault_count (cable_of side)) (g.B.Cable.fault_count (cable_of c.in-Ok.desk.side)) (g.O.Sink.fault_count c.args.out.now) (g.O.Sink.fault_count c.serve.new.out)) c.new.ensures.free
    c.in-Ok.ensures.causes))

pub returns-in-Err-clause-ran : goal.returns-in-Err-clause-ran
returns-in-Err-clause-ran g c shape found =
    cut_over g.B.Cable.chain c.args.setup.now c.open.new.self.grant shape (ap (slice_get c.args.setup.now.layout.grants) c.open.ensures.kept.grant ∙ found) c.requires.sound c.open.new.self.view c.args.parked c.new.result c.new.ensures.free c.new.ensures.none
    (c.open.ensures.shown 0 (private_seat c.args.setup.now shape) [] (seat_types c.args.setup.now c.args.session.now.grant shape found c.requires.sound ∙ c.requires.session.layout_is) (c.requires.session.shows shape found))
    c.requires.started (g.I.Source.left c.args.input.now) (g.I.Source.left c.serve.new.input) (g.O.Sink.sent c.args.out.now) (g.O.Sink.sent c.serve.new.out)
    c.in-Err.ensures.failed

use Rattle.client_session.specs.Desks.{cable_of}
use Rattle.client_session.proofs.Entering.{entered}
use Rattle.client_session.proofs.shift.enter.Goals as goal

pub returns-clause-entered : goal.returns-clause-entered
returns-clause-entered g c = entered c.args.layout.now c.args.grant c.args.at c.args.queue c.args.frame.now c.put_bit.new.frame c.args.tap.now c.capture.new.tap c.captured_cycle.new.tap c.tdo.result c.tms-tms.result c.in_ok-desk.desk (g.C.Cable.chain c.args.parked.cable) (g.C.Cable.chain (cable_of c.in_ok-desk.desk.side))
    c.in_ok-desk.ensures.opened c.tdo.ensures c.put_bit.ensures.bit c.captured_cycle.ensures.scan c.tms-tms.ensures c.captured_cycle.ensures.moved

use Rattle.std.proofs.Common.{◌==◌, ap, sym}
use Rattle.hub.specs.Resting.{names}
use Rattle.hub.specs.Standing.{opens_none}
use Rattle.hub.proofs.Giving.{keeps_same}
use Rattle.hub.proofs.Openings.{found_follows, found_follows_ok}
use Rattle.hub.proofs.Ends.{found_ends, found_ends_ok}
use Rattle.hub.proofs.Resting.{found_rests, found_rests_ok, none_found}
use Rattle.hub.proofs.sessions.Sessions.attend.Goals as goal

pub returns-in-Ready-clause-stands : goal.returns-in-Ready-clause-stands
returns-in-Ready-clause-stands g c = found_follows_ok c.args.found c.args.self.now.table.hub c.serve_conn.new.self.table.hub (g.C.Cable.chain c.args.self.now.table.cable) (g.C.Cable.chain c.serve_conn.new.self.table.cable) (g.W.Wire.told c.args.wire.now) (g.W.Wire.told c.serve_conn.new.wire) c.serve_conn.result (ap opens_none c.in-Ready.is) c.serve_conn.ensures.stands

pub returns-in-Room-clause-stands : goal.returns-in-Room-clause-stands
returns-in-Room-clause-stands g c = found_follows_ok c.args.found c.args.self.now.table.hub c.serve_conn-in-Room.new.self.table.hub (g.C.Cable.chain c.args.self.now.table.cable) (g.C.Cable.chain c.serve_conn-in-Room.new.self.table.cable) (g.W.Wire.told c.args.wire.now) (g.W.Wire.told c.serve_conn-in-Room.new.wire) c.serve_conn-in-Room.result (ap opens_none c.in-Room.is) c.serve_conn-in-Room.ensures.stands

pub returns-in-Nothing-clause-stands : goal.returns-in-Nothing-clause-stands
returns-in-Nothing-clause-stands g c = found_follows c.args.found c.args.self.now.table.hub c.args.self.now.table.hub (g.C.Cable.chain c.args.self.now.table.cable) (g.C.Cable.chain c.args.self.now.table.cable) (g.W.Wire.told c.args.wire.now) (g.W.Wire.told c.args.wire.now) (ap opens_none c.in-Nothing.is) (keeps_same c.args.self.now.table.hub (g.C.Cable.chain c.args.self.now.table.cable) (g.W.Wire.told c.args.wire.now))

pub returns-in-End-clause-stands : goal.returns-in-End-clause-stands
returns-in-End-clause-stands g c = found_follows c.args.found c.args.self.now.table.hub c.args.self.now.table.hub (g.C.Cable.chain c.args.self.now.table.cable) (g.C.Cable.chain c.args.self.now.table.cable) (g.W.Wire.told c.args.wire.now) (g.W.Wire.told c.args.wire.now) (ap opens_none c.in-End.is) (keeps_same c.args.self.now.table.hub (g.C.Cable.chain c.args.self.now.table.cable) (g.W.Wire.told c.args.wire.now))

pub returns-in-Ready-clause-ends : goal.returns-in-Ready-clause-ends
returns-in-Ready-clause-ends g c = found_ends_ok c.args.found c.args.self.now.table.hub c.serve_conn.new.self.table.hub (g.C.Cable.chain c.args.self.now.table.cable) (g.W.Wire.told c.args.wire.now) (g.W.Wire.told c.serve_conn.new.wire) c.serve_conn.result (ap opens_none c.in-Ready.is) c.serve_conn.ensures.ends

pub returns-in-Room-clause-ends : goal.returns-in-Room-clause-ends
returns-in-Room-clause-ends g c = found_ends_ok c.args.found c.args.self.now.table.hub c.serve_conn-in-Room.new.self.table.hub (g.C.Cable.chain c.args.self.now.table.cable) (g.W.Wire.told c.args.wire.now) (g.W.Wire.told c.serve_conn-in-Room.new.wire) c.serve_conn-in-Room.result (ap opens_none c.in-Room.is) c.serve_conn-in-Room.ensures.ends

pub returns-in-Nothing-clause-ends : goal.returns-in-Nothing-clause-ends
returns-in-Nothing-clause-ends g c = found_ends c.args.found c.args.self.now.table.hub c.args.self.now.table.hub (g.C.Cable.chain c.args.self.now.table.cable) (g.W.Wire.told c.args.wire.now) (g.W.Wire.told c.args.wire.now) (ap opens_none c.in-Nothing.is) (λ setting earlier s since. since)

pub returns-in-End-clause-ends : goal.returns-in-End-clause-ends
returns-in-End-clause-ends g c = found_ends c.args.found c.args.self.now.table.hub c.args.self.now.table.hub (g.C.Cable.chain c.args.self.now.table.cable) (g.W.Wire.told c.args.wire.now) (g.W.Wire.told c.args.wire.now) (ap opens_none c.in-End.is) (λ setting earlier s since. since)

pub returns-in-Opened-clause-rests : goal.returns-in-Opened-clause-rests
returns-in-Opened-clause-rests g c = found_rests c.args.found (λ other. c.in-Opened.conn == other) c.args.self.now.table.hub c.admit.new.self.table.hub (g.W.Wire.told c.args.wire.now) (g.W.Wire.told c.admit.new.wire) (λ other. sym (ap (λ found. names found other) c.in-Opened.is)) c.admit.ensures.rests

pub returns-in-Ready-clause-rests : goal.returns-in-Ready-clause-rests
returns-in-Ready-clause-rests g c = found_rests_ok c.args.found (λ other. c.in-Ready.conn == other) c.args.self.now.table.hub c.serve_conn.new.self.table.hub (g.W.Wire.told c.args.wire.now) (g.W.Wire.told c.serve_conn.new.wire) c.serve_conn.result (λ other. sym (ap (λ found. names found other) c.in-Ready.is)) c.serve_conn.ensures.rests

pub returns-in-Room-clause-rests : goal.returns-in-Room-clause-rests
returns-in-Room-clause-rests g c = found_rests_ok c.args.found (λ other. c.in-Room.conn == other) c.args.self.now.table.hub c.serve_conn-in-Room.new.self.table.hub (g.W.Wire.told c.args.wire.now) (g.W.Wire.told c.serve_conn-in-Room.new.wire) c.serve_conn-in-Room.result (λ other. sym (ap (λ found. names found other) c.in-Room.is)) c.serve_conn-in-Room.ensures.rests

pub returns-in-Nothing-clause-rests : goal.returns-in-Nothing-clause-rests
returns-in-Nothing-clause-rests g c = none_found c.args.found c.args.self.now.table.hub (g.W.Wire.told c.args.wire.now) (λ other. ap (λ found. names found other) c.in-Nothing.is)

pub returns-in-End-clause-rests : goal.returns-in-End-clause-rests
returns-in-End-clause-rests g c = none_found c.args.found c.args.self.now.table.hub (g.W.Wire.told c.args.wire.now) (λ other. ap (λ found. names found other) c.in-End.is)

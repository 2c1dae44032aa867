use Rattle.std.proofs.Common.{arith, sym, subst, []}
use Rattle.base_types.specs.Tellings.{Told}
use Rattle.hub.specs.Served.{ConnsAreOpen}
use Rattle.hub.proofs.Places.{admitted_below}
use Rattle.hub.proofs.Beginning.{new_can, told_begun, turned_away}
use Rattle.hub.proofs.Shutting.{away_shut}
use Rattle.hub.proofs.OnTheWire.{known_can, shut_only}
use Rattle.hub.proofs.Openings.{admitted_granted, away_follows}
use Rattle.hub.proofs.Ends.{away_ends}
use Rattle.hub.proofs.Resting.{away_rests, new_rests}
use Rattle.hub.proofs.sessions.Sessions.admit.Goals as goal

pub begin-requires-clause-grant : goal.begin-requires-clause-grant
begin-requires-clause-grant g c = omega (arith, c.requires.whole.seats, admitted_below c.args.self.now.table.hub c.args.port c.in-Some.grant (sym c.in-Some.ensures))

pub shut-requires : goal.shut-requires
shut-requires g c = record { «open» = new_can c.args.conn c.args.port c.args.self.now.table.hub _ c.requires.opens }

pub returns-in-Some-clause-conns : goal.returns-in-Some-clause-conns
returns-in-Some-clause-conns g c = subst (λ gone. Told (g.W.Wire.told c.args.wire.now) (ConnsAreOpen c.begin.new.self.table.hub gone [])) (sym c.begin.ensures.gone)
    (told_begun c.in-Some.grant c.args.conn c.args.port c.args.self.now.table.hub c.begin.new.self.table.hub c.args.self.now.gone.items _ (omega (arith, c.requires.whole.flags, admitted_below c.args.self.now.table.hub c.args.port c.in-Some.grant (sym c.in-Some.ensures))) c.begin.ensures.begun c.requires.opens c.requires.conns)

pub returns-in-None-clause-conns : goal.returns-in-None-clause-conns
returns-in-None-clause-conns g c = turned_away c.args.conn c.args.port c.args.self.now.table.hub c.args.self.now.gone.items _ _ c.requires.opens c.requires.conns c.shut.ensures.told

pub returns-in-None-clause-shuts : goal.returns-in-None-clause-shuts
returns-in-None-clause-shuts g c = away_shut c.args.conn c.args.port c.args.self.now.table.hub _ _ c.in-None.ensures c.shut.ensures.told

pub returns-in-None-clause-known : goal.returns-in-None-clause-known
returns-in-None-clause-known g c = known_can c.args.conn _ _ (new_can c.args.conn c.args.port c.args.self.now.table.hub _ c.requires.opens) (shut_only c.args.conn _ _ c.shut.ensures.told)

pub returns-in-None-clause-stands : goal.returns-in-None-clause-stands
returns-in-None-clause-stands g c = away_follows c.args.self.now.table.hub c.args.self.now.gone.items _ c.args.conn c.args.port _ _ c.requires.whole c.in-None.ensures (g.met.W.Wire.is_wire c.args.wire.now) (g.met.W.Wire.is_wire c.shut.new.self) c.shut.ensures.told

pub returns-in-None-clause-ends : goal.returns-in-None-clause-ends
returns-in-None-clause-ends g c = away_ends c.args.self.now.table.hub c.args.self.now.gone.items (g.C.Cable.chain c.args.self.now.table.cable) c.args.conn c.args.port (g.W.Wire.told c.args.wire.now) (g.W.Wire.told c.shut.new.self) c.requires.whole c.in-None.ensures (g.met.W.Wire.is_wire c.args.wire.now) c.shut.ensures.told

pub returns-in-Some-clause-ends : goal.returns-in-Some-clause-ends
returns-in-Some-clause-ends g c = c.begin.ensures.ends c.args.port (g.W.Wire.told c.args.wire.now) (g.met.W.Wire.is_wire c.args.wire.now) (admitted_granted c.args.self.now.table.hub c.args.port c.in-Some.grant c.in-Some.ensures)

pub returns-in-Some-clause-rests : goal.returns-in-Some-clause-rests
returns-in-Some-clause-rests g c = new_rests c.in-Some.grant c.args.conn c.args.port c.args.self.now.table.hub c.begin.new.self.table.hub (g.W.Wire.told c.args.wire.now) (omega (arith, c.requires.whole.ready, admitted_below c.args.self.now.table.hub c.args.port c.in-Some.grant (sym c.in-Some.ensures)))
    c.begin.ensures.begun c.begin.ensures.ready c.requires.opens

pub returns-in-None-clause-rests : goal.returns-in-None-clause-rests
returns-in-None-clause-rests g c = away_rests c.args.conn c.args.port c.args.self.now.table.hub (g.W.Wire.told c.args.wire.now) (g.W.Wire.told c.shut.new.self) c.requires.opens c.shut.ensures.told

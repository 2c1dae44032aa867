use Rattle.std.proofs.Common.{arith, ap, refl, take}
use Rattle.wire_port.specs.Offers.{Answer}
use Rattle.client_session.specs.Sessions.{is_here, is_taken}
use Rattle.hub.proofs.AfterCalls.{here_is_open}
use Rattle.hub.proofs.OnTheWire.{took_bytes, take_lost}
use Rattle.hub.proofs.Shutting.{take_shuts_none, shuts_then_ok}
use Rattle.hub.specs.Served.{is_gone}
use Rattle.hub.proofs.OnTheWire.{in_use_open, known_open, known_then_ok, taken_only}
use Rattle.hub.proofs.Events.{lost_keeps, none_keeps, took_keeps}
use Rattle.hub.proofs.Ends.{came_ends, left_ends, untaken_ends}
use Rattle.hub.proofs.Resting.{comes_then_ok, lost_comes_ok, only_stay, same_none, set_comes, took_not}
use Rattle.hub.proofs.Rounds.{came_served_ok}
use Rattle.hub.proofs.sessions.Sessions.take_piece.Goals as goal

pub take-requires-clause-open : goal.take-requires-clause-open
take-requires-clause-open g c = here_is_open c.args.self.now.table.hub c.args.self.now.gone.items c.args.grant c.args.conn _ c.requires.calm (ap is_here c.requires.going) c.requires.conn c.requires.conns

pub use_bytes-requires-clause-conns : goal.use_bytes-requires-clause-conns
use_bytes-requires-clause-conns g c = took_bytes c.args.self.now.table.hub c.args.self.now.gone.items c.args.conn _ _ _ c.requires.conns c.in-Bytes.ensures.told

pub lose-requires-clause-conns : goal.lose-requires-clause-conns
lose-requires-clause-conns g c = take_lost c.args.self.now.table.hub c.args.self.now.gone.items c.args.grant c.args.conn _ _ (omega (arith, c.requires.whole.flags, c.requires.whole.seats, c.requires.grant)) c.requires.conn (ap is_taken c.requires.going) c.requires.conns c.in-Gone.ensures.told

pub returns-in-Bytes-clause-shuts : goal.returns-in-Bytes-clause-shuts
returns-in-Bytes-clause-shuts g c = shuts_then_ok _ c.args.self.now.table.hub.ended _ _ _ _ _ (take_shuts_none c.args.conn (Answer.Bytes (take c.in-Bytes.count c.take.new.buf)) c.args.self.now.table.hub.ended _ _ c.in-Bytes.ensures.told) c.use_bytes.ensures.shuts

pub returns-in-Gone-clause-shuts : goal.returns-in-Gone-clause-shuts
returns-in-Gone-clause-shuts g c = shuts_then_ok _ c.args.self.now.table.hub.ended _ _ _ _ _ (take_shuts_none c.args.conn Answer.Gone c.args.self.now.table.hub.ended _ _ c.in-Gone.ensures.told) c.lose.ensures.shuts

pub returns-in-Bytes-clause-known : goal.returns-in-Bytes-clause-known
returns-in-Bytes-clause-known g c = known_then_ok _ _ _ _ (known_open c.args.conn (is_gone c.args.self.now.gone.items c.args.grant) _ _ (in_use_open c.args.self.now.table.hub c.args.self.now.gone.items c.args.grant c.args.conn _ (ap is_taken c.requires.going) c.requires.conn c.requires.conns)
    (taken_only c.args.conn (Answer.Bytes (take c.in-Bytes.count c.take.new.buf)) _ _ c.in-Bytes.ensures.told)) c.use_bytes.ensures.known

pub returns-in-Gone-clause-known : goal.returns-in-Gone-clause-known
returns-in-Gone-clause-known g c = known_then_ok _ _ _ _ (known_open c.args.conn (is_gone c.args.self.now.gone.items c.args.grant) _ _ (in_use_open c.args.self.now.table.hub c.args.self.now.gone.items c.args.grant c.args.conn _ (ap is_taken c.requires.going) c.requires.conn c.requires.conns)
    (taken_only c.args.conn Answer.Gone _ _ c.in-Gone.ensures.told)) c.lose.ensures.known

pub returns-in-Bytes-clause-stands : goal.returns-in-Bytes-clause-stands
returns-in-Bytes-clause-stands g c = took_keeps _ c.args.conn (take c.in-Bytes.count c.take.new.buf) c.args.self.now.table.hub c.use_bytes.new.self.table.hub (g.C.Cable.chain c.args.self.now.table.cable) (g.C.Cable.chain c.use_bytes.new.self.table.cable)
    (g.W.Wire.told c.args.wire.now) (g.W.Wire.told c.take.new.self) (g.W.Wire.told c.use_bytes.new.wire) c.in-Bytes.ensures.told (rw c.requires.conn c.use_bytes.ensures.stands)

pub returns-in-NotNow-clause-stands : goal.returns-in-NotNow-clause-stands
returns-in-NotNow-clause-stands g c = none_keeps (λ cable. g.C.Cable.chain cable) c.args.self.now.table c.set_ready.new.self _ c.args.self.now.gone.items c.args.grant c.args.conn (g.W.Wire.told c.args.wire.now) (g.W.Wire.told c.take.new.self)
    c.requires.calm.flagged c.requires.going c.requires.given c.requires.conn c.requires.conns c.in-NotNow.ensures.told c.set_ready.ensures

pub returns-in-Gone-clause-stands : goal.returns-in-Gone-clause-stands
returns-in-Gone-clause-stands g c = lost_keeps _ c.args.conn c.args.self.now.table.hub c.lose.new.self.table.hub (g.C.Cable.chain c.args.self.now.table.cable) (g.C.Cable.chain c.lose.new.self.table.cable)
    (g.W.Wire.told c.args.wire.now) (g.W.Wire.told c.take.new.self) (g.W.Wire.told c.lose.new.wire) c.in-Gone.ensures.told (rw c.requires.conn c.lose.ensures.stands)

pub returns-in-Bytes-clause-ends : goal.returns-in-Bytes-clause-ends
returns-in-Bytes-clause-ends g c = came_ends _ c.args.conn (take c.in-Bytes.count c.take.new.buf) c.args.self.now.table.hub c.use_bytes.new.self.table.hub (g.C.Cable.chain c.args.self.now.table.cable)
    (g.W.Wire.told c.args.wire.now) (g.W.Wire.told c.take.new.self) (g.W.Wire.told c.use_bytes.new.wire) c.in-Bytes.ensures.told (rw c.requires.conn c.use_bytes.ensures.ends)

pub returns-in-NotNow-clause-ends : goal.returns-in-NotNow-clause-ends
returns-in-NotNow-clause-ends g c = untaken_ends c.args.conn c.args.self.now.table.hub c.set_ready.new.self.hub (g.C.Cable.chain c.args.self.now.table.cable) (g.W.Wire.told c.args.wire.now) (g.W.Wire.told c.take.new.self)
    (ap (λ table. table.hub.ended) c.set_ready.ensures) c.in-NotNow.ensures.told

pub returns-in-Gone-clause-ends : goal.returns-in-Gone-clause-ends
returns-in-Gone-clause-ends g c = left_ends _ c.args.conn c.args.self.now.table.hub c.lose.new.self.table.hub (g.C.Cable.chain c.args.self.now.table.cable)
    (g.W.Wire.told c.args.wire.now) (g.W.Wire.told c.take.new.self) (g.W.Wire.told c.lose.new.wire) c.in-Gone.ensures.told (rw c.requires.conn c.lose.ensures.ends)

pub returns-in-Bytes-clause-at_rest : goal.returns-in-Bytes-clause-at_rest
returns-in-Bytes-clause-at_rest g c = comes_then_ok c.args.grant c.args.self.now.table.hub c.args.self.now.table.hub c.use_bytes.new.self.table.hub (g.W.Wire.told c.args.wire.now) (g.W.Wire.told c.take.new.self) (g.W.Wire.told c.use_bytes.new.wire) c.use_bytes.result
    (only_stay c.args.grant c.args.conn c.args.self.now.table.hub c.args.self.now.table.hub c.args.self.now.gone.items (g.W.Wire.told c.args.wire.now) (g.W.Wire.told c.take.new.self) (ap is_taken c.requires.going) c.requires.conn (same_none c.args.self.now.table.hub) (λ other ne. refl) c.requires.conns
    (taken_only c.args.conn (Answer.Bytes (take c.in-Bytes.count c.take.new.buf)) _ _ c.in-Bytes.ensures.told)) c.use_bytes.ensures.at_rest

pub returns-in-NotNow-clause-at_rest : goal.returns-in-NotNow-clause-at_rest
returns-in-NotNow-clause-at_rest g c = set_comes c.args.self.now.table.hub c.args.self.now.table c.set_ready.new.self c.args.grant _ (g.W.Wire.told c.args.wire.now) (g.W.Wire.told c.take.new.self) c.set_ready.ensures (omega (arith, c.requires.whole.seats, c.requires.whole.ready, c.requires.grant))
    (only_stay c.args.grant c.args.conn c.args.self.now.table.hub c.args.self.now.table.hub c.args.self.now.gone.items (g.W.Wire.told c.args.wire.now) (g.W.Wire.told c.take.new.self) (ap is_taken c.requires.going) c.requires.conn (same_none c.args.self.now.table.hub) (λ other ne. refl) c.requires.conns
    (taken_only c.args.conn Answer.NotNow _ _ c.in-NotNow.ensures.told)) (λ off. took_not c.args.grant c.args.conn c.args.self.now.table.hub c.args.self.now.table.hub (g.W.Wire.told c.args.wire.now) (g.W.Wire.told c.take.new.self) c.requires.conn (same_none c.args.self.now.table.hub) c.in-NotNow.ensures.told)

pub returns-in-Gone-clause-at_rest : goal.returns-in-Gone-clause-at_rest
returns-in-Gone-clause-at_rest g c = lost_comes_ok c.args.grant c.args.self.now.table.hub c.args.self.now.table.hub c.lose.new.self.table.hub (g.W.Wire.told c.args.wire.now) (g.W.Wire.told c.take.new.self) (g.W.Wire.told c.lose.new.wire) c.lose.result
    (only_stay c.args.grant c.args.conn c.args.self.now.table.hub c.args.self.now.table.hub c.args.self.now.gone.items (g.W.Wire.told c.args.wire.now) (g.W.Wire.told c.take.new.self) (ap is_taken c.requires.going) c.requires.conn (same_none c.args.self.now.table.hub) (λ other ne. refl) c.requires.conns
    (taken_only c.args.conn Answer.Gone _ _ c.in-Gone.ensures.told)) c.lose.ensures.others c.lose.ensures.away

pub returns-in-Bytes-clause-served : goal.returns-in-Bytes-clause-served
returns-in-Bytes-clause-served g c = came_served_ok c.args.grant c.args.conn c.in-Bytes.count c.take.new.buf c.args.self.now.table.hub c.use_bytes.new.self.table.hub (g.W.Wire.told c.args.wire.now) (g.W.Wire.told c.take.new.self) (g.W.Wire.told c.use_bytes.new.wire) c.use_bytes.result
    c.requires.conn c.in-Bytes.ensures.bound.0 c.in-Bytes.ensures.bound.1 c.in-Bytes.ensures.told c.use_bytes.ensures.known

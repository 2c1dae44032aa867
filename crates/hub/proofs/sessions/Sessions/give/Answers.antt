use Rattle.wire_port.specs.Offers.{Answer}
use Rattle.std.proofs.Common.{◌<◌, ap, arith, length, refl, subst, sym, take}
use Rattle.hub.proofs.AfterCalls.{open_set}
use Rattle.hub.proofs.OnTheWire.{gave_none, give_lost}
use Rattle.hub.proofs.Shutting.{give_shuts_none, shuts_then}
use Rattle.hub.specs.Served.{is_gone}
use Rattle.hub.proofs.OnTheWire.{given_only, in_use_open, known_open, known_then}
use Rattle.hub.proofs.Giving.{bytes_keep, lost_keeps, none_keeps, some_bytes}
use Rattle.hub.proofs.Ends.{given_ends, lost_ends}
use Rattle.hub.proofs.Resting.{gave_not, gave_short, only_stay, same_none, set_same, set_stay, stay_then, told_no_more}
use Rattle.hub.proofs.Rounds.{here_not_going}
use Rattle.session_table.specs.Tables.{stand_at}
use Rattle.hub.proofs.sessions.Sessions.give.Goals as goal

pub lose-requires-clause-conns : goal.lose-requires-clause-conns
lose-requires-clause-conns g c = give_lost c.args.self.now.table.hub c.args.self.now.gone.items c.args.grant c.args.conn (length c.reply-piece.result.now) _ _ (omega (arith, c.requires.whole.flags, c.requires.whole.seats, c.requires.grant)) c.requires.conn c.requires.taken c.requires.conns c.in-Gone.ensures.told

pub returns-in-NotNow-clause-conns : goal.returns-in-NotNow-clause-conns
returns-in-NotNow-clause-conns g c = open_set c.args.self.now.table c.set_ready-in-NotNow.new.self _ c.args.self.now.gone.items _ c.set_ready-in-NotNow.ensures (gave_none c.args.self.now.table.hub c.args.self.now.gone.items c.args.conn (length c.reply-piece.result.now) _ _ c.requires.conns c.in-NotNow.ensures.told)

pub returns-in_ok-lose-in-Gone-clause-shuts : goal.returns-in_ok-lose-in-Gone-clause-shuts
returns-in_ok-lose-in-Gone-clause-shuts g c = shuts_then _ c.args.self.now.table.hub.ended _ _ _ _ (give_shuts_none c.args.conn (length c.reply-piece.result.now) Answer.Gone c.args.self.now.table.hub.ended _ _ c.in-Gone.ensures.told) c.in_ok-lose-in-Gone.ensures.shuts

pub returns-in_ok-lose-in-Gone-clause-known : goal.returns-in_ok-lose-in-Gone-clause-known
returns-in_ok-lose-in-Gone-clause-known g c = known_then _ _ _ (known_open c.args.conn (is_gone c.args.self.now.gone.items c.args.grant) _ _ (in_use_open c.args.self.now.table.hub c.args.self.now.gone.items c.args.grant c.args.conn _ c.requires.taken c.requires.conn c.requires.conns)
    (given_only c.args.conn (length c.reply-piece.result.now) Answer.Gone _ _ c.in-Gone.ensures.told)) c.in_ok-lose-in-Gone.ensures.known

pub returns-in-Bytes-clause-stands : goal.returns-in-Bytes-clause-stands
returns-in-Bytes-clause-stands g c = bytes_keep c.args.self.now.table.hub c.gave.new.self.table.hub c.args.self.now.gone.items c.args.grant c.args.conn c.in-Bytes.count c.reply-piece.result.now (g.C.Cable.chain c.args.self.now.table.cable) (g.C.Cable.chain c.gave.new.self.table.cable) (g.W.Wire.told c.args.wire.now) (g.W.Wire.told c.give.new.self)
    c.requires.conn c.reply-piece.ensures (some_bytes (length c.reply-piece.result.now) c.if-is_empty.ensures) c.requires.conns c.in-Bytes.ensures.told c.gave.ensures.stands

pub returns-in-NotNow-clause-stands : goal.returns-in-NotNow-clause-stands
returns-in-NotNow-clause-stands g c = none_keeps (λ cable. g.C.Cable.chain cable) c.args.self.now.table c.set_ready-in-NotNow.new.self _ c.args.self.now.gone.items c.args.grant c.args.conn c.reply-piece.result.now (g.W.Wire.told c.args.wire.now) (g.W.Wire.told c.give.new.self)
    c.set_ready-in-NotNow.ensures c.requires.whole c.requires.calm c.reply-piece.ensures (some_bytes (length c.reply-piece.result.now) c.if-is_empty.ensures) c.requires.conn c.requires.conns c.in-NotNow.ensures.told

pub returns-in_ok-lose-in-Gone-clause-stands : goal.returns-in_ok-lose-in-Gone-clause-stands
returns-in_ok-lose-in-Gone-clause-stands g c = lost_keeps c.args.self.now.table.hub c.lose.new.self.table.hub c.args.grant c.args.conn (length c.reply-piece.result.now) (g.C.Cable.chain c.args.self.now.table.cable) (g.C.Cable.chain c.lose.new.self.table.cable) (g.W.Wire.told c.args.wire.now) (g.W.Wire.told c.give.new.self) (g.W.Wire.told c.lose.new.wire)
    c.requires.conn c.in-Gone.ensures.told c.in_ok-lose-in-Gone.ensures.stands

pub returns-in-Bytes-clause-ends : goal.returns-in-Bytes-clause-ends
returns-in-Bytes-clause-ends g c = given_ends c.args.conn (length c.reply-piece.result.now) (Answer.Bytes (take c.in-Bytes.count c.reply-piece.result.now)) c.args.self.now.table.hub c.gave.new.self.table.hub (g.C.Cable.chain c.args.self.now.table.cable) (g.W.Wire.told c.args.wire.now) (g.W.Wire.told c.give.new.self)
    refl c.gave.ensures.ended c.in-Bytes.ensures.told

pub returns-in-NotNow-clause-ends : goal.returns-in-NotNow-clause-ends
returns-in-NotNow-clause-ends g c = given_ends c.args.conn (length c.reply-piece.result.now) Answer.NotNow c.args.self.now.table.hub c.set_ready-in-NotNow.new.self.hub (g.C.Cable.chain c.args.self.now.table.cable) (g.W.Wire.told c.args.wire.now) (g.W.Wire.told c.give.new.self)
    refl (ap (λ table. table.hub.ended) c.set_ready-in-NotNow.ensures) c.in-NotNow.ensures.told

pub returns-in_ok-lose-in-Gone-clause-ends : goal.returns-in_ok-lose-in-Gone-clause-ends
returns-in_ok-lose-in-Gone-clause-ends g c = lost_ends c.args.self.now.table.hub c.lose.new.self.table.hub c.args.grant c.args.conn (length c.reply-piece.result.now) (g.C.Cable.chain c.args.self.now.table.cable) (g.W.Wire.told c.args.wire.now) (g.W.Wire.told c.give.new.self) (g.W.Wire.told c.lose.new.wire)
    c.requires.conn c.in-Gone.ensures.told c.in_ok-lose-in-Gone.ensures.ends

pub returns-in-Bytes-clause-others : goal.returns-in-Bytes-clause-others
returns-in-Bytes-clause-others g c = only_stay c.args.grant c.args.conn c.args.self.now.table.hub c.gave.new.self.table.hub c.args.self.now.gone.items (g.W.Wire.told c.args.wire.now) (g.W.Wire.told c.give.new.self) c.requires.taken c.requires.conn c.gave.ensures.same c.gave.ensures.ready c.requires.conns
    (given_only c.args.conn (length c.reply-piece.result.now) (Answer.Bytes (take c.in-Bytes.count c.reply-piece.result.now)) _ _ c.in-Bytes.ensures.told)

pub returns-in-Bytes-clause-short : goal.returns-in-Bytes-clause-short
returns-in-Bytes-clause-short g c = λ some. gave_short c.args.grant c.args.conn c.in-Bytes.count c.reply-piece.result.now c.args.self.now.table.hub c.gave.new.self.table.hub (g.W.Wire.told c.args.wire.now) (g.W.Wire.told c.give.new.self) c.requires.conn c.gave.ensures.same
    (subst (λ reply. c.in-Bytes.count < length reply) (sym c.reply-piece.ensures) (c.gave.ensures.part some)) c.in-Bytes.ensures.told

pub returns-in-NotNow-clause-others : goal.returns-in-NotNow-clause-others
returns-in-NotNow-clause-others g c = set_stay c.args.self.now.table.hub c.args.self.now.table c.set_ready-in-NotNow.new.self c.args.grant _ (g.W.Wire.told c.args.wire.now) (g.W.Wire.told c.give.new.self) c.set_ready-in-NotNow.ensures
    (only_stay c.args.grant c.args.conn c.args.self.now.table.hub c.args.self.now.table.hub c.args.self.now.gone.items (g.W.Wire.told c.args.wire.now) (g.W.Wire.told c.give.new.self) c.requires.taken c.requires.conn (same_none c.args.self.now.table.hub) (λ other ne. refl) c.requires.conns
    (given_only c.args.conn (length c.reply-piece.result.now) Answer.NotNow _ _ c.in-NotNow.ensures.told))

pub returns-in-NotNow-clause-short : goal.returns-in-NotNow-clause-short
returns-in-NotNow-clause-short g c = λ some. gave_not c.args.grant c.args.conn (length c.reply-piece.result.now) c.args.self.now.table.hub c.set_ready-in-NotNow.new.self.hub (g.W.Wire.told c.args.wire.now) (g.W.Wire.told c.give.new.self) c.requires.conn
    (set_same c.args.self.now.table c.set_ready-in-NotNow.new.self _ c.set_ready-in-NotNow.ensures) c.in-NotNow.ensures.told

pub returns-in_ok-lose-in-Gone-clause-others : goal.returns-in_ok-lose-in-Gone-clause-others
returns-in_ok-lose-in-Gone-clause-others g c = stay_then c.args.grant c.args.self.now.table.hub c.args.self.now.table.hub c.lose.new.self.table.hub (g.W.Wire.told c.args.wire.now) (g.W.Wire.told c.give.new.self) (g.W.Wire.told c.lose.new.wire)
    (only_stay c.args.grant c.args.conn c.args.self.now.table.hub c.args.self.now.table.hub c.args.self.now.gone.items (g.W.Wire.told c.args.wire.now) (g.W.Wire.told c.give.new.self) c.requires.taken c.requires.conn (same_none c.args.self.now.table.hub) (λ other ne. refl) c.requires.conns
    (given_only c.args.conn (length c.reply-piece.result.now) Answer.Gone _ _ c.in-Gone.ensures.told)) c.in_ok-lose-in-Gone.ensures.others

pub returns-in_ok-lose-in-Gone-clause-short : goal.returns-in_ok-lose-in-Gone-clause-short
returns-in_ok-lose-in-Gone-clause-short g c = λ some. told_no_more c.lose.new.self.table.hub c.args.grant (g.W.Wire.told c.lose.new.wire) (here_not_going (stand_at c.lose.new.self.table.hub c.args.grant) c.in_ok-lose-in-Gone.ensures.away)

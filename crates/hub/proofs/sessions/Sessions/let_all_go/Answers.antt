use Rattle.std.proofs.Common.{◌≡◌, ℕ, Bool, ◌<◌, ◌+◌, ◌∷◌, ◌∙◌, refl, ap, sym, subst, arith, length, drop, List}
use Rattle.plays.specs.Plays.{SessionEnd}
use Rattle.session_table.specs.Tables.{TableView}
use Rattle.session_table.specs.Shown.{session_end}
use Rattle.hub.specs.Served.{ready_as}
use Rattle.hub.specs.Standing.{StandsOnBut}
use Rattle.hub.proofs.Ends.{follow_none, more_ends}
use Rattle.hub.proofs.LettingGo.{let_more}
use Rattle.hub.proofs.Resting.{keep_none, keep_then, let_rests}
use Rattle.hub.proofs.Shutting.{due_first, due_more, due_done}
use Rattle.hub.proofs.SeatLists.{lets_first, lets_more, nothing_left}
use Rattle.hub.proofs.OnTheWire.{known_same, known_then, first_there, first_open, rest_left, rest_open}
use Rattle.hub.proofs.sessions.Sessions.let_all_go.Goals as goal

there : {C : Type 0} (first now : TableView C) (at : ℕ) (flags : List Bool) (ended : SessionEnd) → now ≡ ready_as flags first → drop at now.hub.ended ≡ ended ∷ drop (at + 1) now.hub.ended
    → drop at first.hub.ended ≡ ended ∷ drop (at + 1) first.hub.ended
there first now at flags ended is at_now = subst (λ list. drop at list ≡ ended ∷ drop (at + 1) list) (ap (λ table. table.hub.ended) is) at_now

pub let_go-requires-clause-grant : goal.let_go-requires-clause-grant
let_go-requires-clause-grant g c = subst (λ table. c.ended_at-ended.result.grant < length table.hub.seats) (sym c.loop-at.invariant.table.table) (first_there c.args.self.now.table.hub _ _ (session_end c.ended_at-ended.result) (there c.args.self.now.table c.loop-at.self.table c.loop-at.at _ (session_end c.ended_at-ended.result) c.loop-at.invariant.table.table c.ended_at-ended.ensures) c.loop-at.invariant.left)

pub let_go-requires-clause-flags : goal.let_go-requires-clause-flags
let_go-requires-clause-flags g c = subst (λ gone. c.ended_at-ended.result.grant < length gone.items) (sym c.loop-at.invariant.gone) (omega (arith, c.requires.flags.flags, c.requires.flags.seats, first_there c.args.self.now.table.hub _ _ (session_end c.ended_at-ended.result) (there c.args.self.now.table c.loop-at.self.table c.loop-at.at _ (session_end c.ended_at-ended.result) c.loop-at.invariant.table.table c.ended_at-ended.ensures) c.loop-at.invariant.left))

pub let_go-requires-clause-open : goal.let_go-requires-clause-open
let_go-requires-clause-open g c = rw c.loop-at.invariant.gone (first_open c.args.self.now.table.hub c.args.self.now.gone.items _ _ (session_end c.ended_at-ended.result) _ (there c.args.self.now.table c.loop-at.self.table c.loop-at.at _ (session_end c.ended_at-ended.result) c.loop-at.invariant.table.table c.ended_at-ended.ensures) c.loop-at.invariant.left c.loop-at.invariant.conns)

pub loop-at-init : goal.loop-at-init
loop-at-init g c = record {
  table = lets_first c.args.self.now.table c.args.earlier;
  gone = refl;
  left = c.requires.left;
  conns = c.requires.conns;
  due = due_first (drop c.args.earlier c.args.self.now.table.hub.ended) (g.W.Wire.told c.args.wire.now);
  known = known_same (g.W.Wire.told c.args.wire.now);
  rests = keep_none c.args.self.now.table.hub (g.W.Wire.told c.args.wire.now);
  stands = λ setting stands. stands;
  ends = λ setting stands. follow_none setting (drop c.args.earlier c.args.self.now.table.hub.ended) c.args.self.now.table.hub (g.C.Cable.chain c.args.self.now.table.cable) (g.W.Wire.told c.args.wire.now) stands;
  door = refl;
  faults = refl;
}

pub loop-at-preserved : goal.loop-at-preserved
loop-at-preserved g c = record {
  table = lets_more c.args.self.now.table c.loop-at.self.table c.let_go.new.self.table _ c.loop-at.at (session_end c.ended_at-ended.result) c.ended_at-ended.ensures c.loop-at.invariant.table c.let_go.ensures.ready;
  gone = c.let_go.ensures.gone ∙ c.loop-at.invariant.gone;
  left = rest_left c.args.self.now.table.hub _ _ (session_end c.ended_at-ended.result) (there c.args.self.now.table c.loop-at.self.table c.loop-at.at _ (session_end c.ended_at-ended.result) c.loop-at.invariant.table.table c.ended_at-ended.ensures) c.loop-at.invariant.left;
  conns = rest_open c.args.self.now.table.hub c.args.self.now.gone.items _ _ (session_end c.ended_at-ended.result) _ _ (there c.args.self.now.table c.loop-at.self.table c.loop-at.at _ (session_end c.ended_at-ended.result) c.loop-at.invariant.table.table c.ended_at-ended.ensures) c.loop-at.invariant.left c.loop-at.invariant.conns c.let_go.ensures.only;
  due = due_more (drop c.args.earlier c.args.self.now.table.hub.ended) _ _ (session_end c.ended_at-ended.result) _ _ _ (there c.args.self.now.table c.loop-at.self.table c.loop-at.at _ (session_end c.ended_at-ended.result) c.loop-at.invariant.table.table c.ended_at-ended.ensures) c.loop-at.invariant.due c.let_go.ensures.shuts;
  known = known_then _ _ _ c.loop-at.invariant.known c.let_go.ensures.known;
  rests = keep_then c.args.self.now.table.hub c.loop-at.self.table.hub c.let_go.new.self.table.hub (g.W.Wire.told c.args.wire.now) (g.W.Wire.told c.loop-at.wire) (g.W.Wire.told c.let_go.new.wire) c.loop-at.invariant.rests
      (let_rests c.args.self.now.table c.loop-at.self.table c.let_go.new.self.table _ c.args.self.now.gone.items _ _ (session_end c.ended_at-ended.result) (g.W.Wire.told c.loop-at.wire) (g.W.Wire.told c.let_go.new.wire) c.loop-at.invariant.table.table c.let_go.ensures.ready
      (there c.args.self.now.table c.loop-at.self.table c.loop-at.at _ (session_end c.ended_at-ended.result) c.loop-at.invariant.table.table c.ended_at-ended.ensures) c.loop-at.invariant.left c.loop-at.invariant.conns c.let_go.ensures.only);
  stands = λ setting stands. let_more g.C.Cable.chain setting c.args.self.now.table c.loop-at.self.table c.let_go.new.self.table _ c.args.self.now.gone.items c.loop-at.self.gone.items c.loop-at.at (session_end c.ended_at-ended.result) _ _
      c.loop-at.invariant.table.table (ap (λ gone. gone.items) c.loop-at.invariant.gone) (there c.args.self.now.table c.loop-at.self.table c.loop-at.at _ (session_end c.ended_at-ended.result) c.loop-at.invariant.table.table c.ended_at-ended.ensures)
      c.loop-at.invariant.left c.loop-at.invariant.conns (c.let_go.ensures.stands setting) (c.loop-at.invariant.stands setting stands);
  ends = λ setting stands. more_ends g.C.Cable.chain setting c.args.self.now.table c.loop-at.self.table _ c.args.self.now.gone.items c.loop-at.self.gone.items c.loop-at.at (session_end c.ended_at-ended.result) (g.W.Wire.told c.args.wire.now) (g.W.Wire.told c.loop-at.wire) (g.W.Wire.told c.let_go.new.wire)
      c.loop-at.invariant.table.table (ap (λ gone. gone.items) c.loop-at.invariant.gone) (there c.args.self.now.table c.loop-at.self.table c.loop-at.at _ (session_end c.ended_at-ended.result) c.loop-at.invariant.table.table c.ended_at-ended.ensures)
      c.loop-at.invariant.left c.loop-at.invariant.conns (c.let_go.ensures.ends setting) (c.loop-at.invariant.stands setting stands) (c.loop-at.invariant.ends setting stands);
  door = c.let_go.ensures.door ∙ c.loop-at.invariant.door;
  faults = c.let_go.ensures.faults ∙ c.loop-at.invariant.faults;
}

pub returns-clause-shuts : goal.returns-clause-shuts
returns-clause-shuts g c = due_done (drop c.args.earlier c.args.self.now.table.hub.ended) _ _ _ (nothing_left c.args.self.now.table.hub.ended c.loop-at.at (omega (arith, c.ended_count-at-end.ensures))) c.loop-at.invariant.due

pub returns-clause-stands : goal.returns-clause-stands
returns-clause-stands g c setting stands = subst (λ left. StandsOnBut setting left c.loop-at.self.table.hub (g.C.Cable.chain c.loop-at.self.table.cable) (g.W.Wire.told c.loop-at.wire))
    (nothing_left c.args.self.now.table.hub.ended c.loop-at.at (omega (arith, c.ended_count-at-end.ensures))) (c.loop-at.invariant.stands setting stands)

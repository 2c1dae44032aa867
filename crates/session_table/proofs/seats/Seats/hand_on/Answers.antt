use Rattle.std.proofs.Common.{◌≡◌, ◌+◌, ◌∙◌, arith, suc, subst, sym}
use Rattle.client_session.specs.Desks.{cable_of}
use Rattle.plays.specs.Plays.{handed_on_times}
use Rattle.session_table.specs.Going.{HandedOn}
use Rattle.session_table.proofs.Handing.{fronts_back, handed_end, handed_long, handed_more}
use Rattle.session_table.proofs.Passing.{kept_both, line_both}
use Rattle.session_table.proofs.Playing.{on_err}
use Rattle.session_table.proofs.Readying.{ready_both}
use Rattle.session_table.proofs.seats.Seats.hand_on.Goals as goal

pub loop-preserved : goal.loop-preserved
loop-preserved g c = record {
  few = omega arith;
  may = c.in_ok-desk.ensures.may;
  kept = kept_both c.args.self.now c.loop.self c.hand_to.new.self c.loop.invariant.kept c.in_ok-desk.ensures.kept;
  went = line_both c.args.self.now c.loop.self c.hand_to.new.self c.loop.invariant.kept c.in_ok-desk.ensures.went c.loop.invariant.went;
  ready = ready_both c.args.self.now c.loop.self c.hand_to.new.self c.loop.invariant.went c.loop.invariant.ready c.in_ok-desk.ensures.went c.in_ok-desk.ensures.ready;
  mark = c.in_ok-desk.ensures.mark ∙ c.loop.invariant.mark;
  trst = c.in_ok-desk.ensures.trst ∙ c.loop.invariant.trst;
  faults = c.in_ok-desk.ensures.cause.kept ∙ c.loop.invariant.faults;
  played = λ setting given play att calm.
      (let e : suc c.loop.counter ≡ c.loop.counter + 1 = omega arith in
      subst (λ n. HandedOn setting c.args.self.now c.hand_to.new.self c.in_ok-desk.desk given (g.C.Cable.chain (cable_of c.in_ok-desk.desk.side)) play n) e
      (handed_more setting given play c.args.self.now c.loop.self c.hand_to.new.self c.loop.desk c.in_ok-desk.desk (g.C.Cable.chain (cable_of c.loop.desk.side)) (g.C.Cable.chain (cable_of c.in_ok-desk.desk.side)) c.loop.counter
      (c.loop.invariant.played setting given play att calm) (c.in_ok-desk.ensures.played setting given (handed_on_times c.loop.counter setting play))));
}

pub loop-smaller : goal.loop-smaller
loop-smaller g c = omega arith

pub returns-in_default-clause-played : goal.returns-in_default-clause-played
returns-in_default-clause-played g c = λ setting given play att calm.
    handed_end setting given play c.args.self.now c.loop.self c.args.desk c.loop.desk (g.C.Cable.chain (cable_of c.args.desk.side)) (g.C.Cable.chain (cable_of c.loop.desk.side)) c.loop.counter att calm (c.loop.invariant.played setting given play att calm) (sym c.next.ensures ∙ c.in_default.is)

pub returns-in_err-desk-clause-failed : goal.returns-in_err-desk-clause-failed
returns-in_err-desk-clause-failed g c = on_err c.from_residual.result (λ setting given play att calm.
    fronts_back setting c.hand_to.new.self given play c.loop.counter (c.in_err-desk.ensures.failed setting given (handed_on_times c.loop.counter setting play) (c.loop.invariant.played setting given play att calm).gone.attends))

pub returns-clause-played : goal.returns-clause-played
returns-clause-played g c = λ setting given play att calm.
    handed_long setting given play c.args.self.now c.loop.self c.args.desk c.loop.desk (g.C.Cable.chain (cable_of c.args.desk.side)) (g.C.Cable.chain (cable_of c.loop.desk.side)) c.loop.counter c.requires.may.fits att calm (c.loop.invariant.played setting given play att calm) (omega arith)

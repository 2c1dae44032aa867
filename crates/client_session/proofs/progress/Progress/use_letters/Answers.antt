use Rattle.std.proofs.Common.{subst, sym, ◌∙◌}
use Rattle.client_session.specs.declared.halt.Halt.TheVariants.{Waits}
use Rattle.client_session.specs.Stores.{unused_of}
use Rattle.client_session.specs.Ends.{letters_end}
use Rattle.client_session.specs.Desks.{Attends, WaitsBlocked, cable_of}
use Rattle.client_session.specs.Calls.{ComesTo, HaltsAt, HasReplied, LinesTo, LinesWell, ShowsSeat}
use Rattle.client_session.proofs.Others.{others_more}
use Rattle.client_session.proofs.Lettering.{attends_quietly, failed_so, settings_more}
use Rattle.client_session.proofs.ByBytes.{halts_by}
use Rattle.client_session.proofs.progress.Progress.use_letters.Goals as goal
use Rattle.client_session.proofs.Coming.{comes_more}

pub returns-in-Err-clause-went : goal.returns-in-Err-clause-went
returns-in-Err-clause-went g c = λ given base_desk base turn whole attends.
    let told = g.C.Cable.chain (cable_of c.loop-act.desk.side) in
    let shows = ShowsSeat c.loop-act.self c.args.grant given in
    let halts = HaltsAt c.in-Err.halt c.args.layout.now c.loop-act.self c.args.grant given in
    comes_more c.args.layout.now c.args.grant (Attends c.args.layout.now c.args.grant base_desk base shows c.loop-act.desk told) (Attends c.args.layout.now c.args.grant base_desk base halts c.loop-act.desk told) turn
    (c.loop-act.invariant.went given base_desk base turn whole attends)
    (λ next there. attends_quietly c.args.layout.now c.args.grant c.requires.sound base_desk base next c.loop-act.desk shows halts told (c.in-Err.ensures.went c.args.layout.now c.args.grant given next) there)

pub returns-in_err-waits-clause-failed : goal.returns-in_err-waits-clause-failed
returns-in_err-waits-clause-failed g c = failed_so c.from_residual.result (λ given base_desk base turn whole attends.
    comes_more c.args.layout.now c.args.grant (Attends c.args.layout.now c.args.grant base_desk base (ShowsSeat c.loop-act.self c.args.grant given) c.loop-act.desk (g.C.Cable.chain (cable_of c.loop-act.desk.side))) (HasReplied c.use_letter.new.self given) turn
    (c.loop-act.invariant.went given base_desk base turn whole attends)
    (λ next there. c.in_err-waits.ensures.failed given base_desk base next whole there))

pub returns-then-waits-clause-went : goal.returns-then-waits-clause-went
returns-then-waits-clause-went g c = λ given base_desk base turn whole attends.
    comes_more c.args.layout.now c.args.grant (Attends c.args.layout.now c.args.grant base_desk base (ShowsSeat c.loop-act.self c.args.grant given) c.loop-act.desk (g.C.Cable.chain (cable_of c.loop-act.desk.side)))
    (Attends c.args.layout.now c.args.grant base_desk base (HaltsAt Waits c.args.layout.now c.use_letter.new.self c.args.grant given) c.in_ok-waits.next (g.C.Cable.chain (cable_of c.in_ok-waits.next.side))) turn
    (c.loop-act.invariant.went given base_desk base turn whole attends)
    (λ next there. subst (λ waits. ComesTo c.args.layout.now c.args.grant (Attends c.args.layout.now c.args.grant base_desk base (LinesTo waits c.args.layout.now c.use_letter.new.self c.args.grant given) c.in_ok-waits.next (g.C.Cable.chain (cable_of c.in_ok-waits.next.side))) next)
    c.if-waits.true (c.in_ok-waits.ensures.went given base_desk base next whole there))

pub loop-act-preserved : goal.loop-act-preserved
loop-act-preserved g c = record {
  keeps = c.use_letter.ensures.keeps;
  same = settings_more c.args.self.now c.loop-act.self c.use_letter.new.self c.loop-act.invariant.same c.use_letter.ensures.same;
  taken = c.use_letter.ensures.taken ∙ c.loop-act.invariant.taken;
  ends = c.in_ok-waits.ensures.ends ∙ c.loop-act.invariant.ends;
  fit = c.in_ok-waits.ensures.fit;
  none = subst (λ waits. LinesWell waits c.use_letter.new.self) c.if-waits.false c.in_ok-waits.ensures.waits;
  desk_is = c.in_ok-waits.ensures.desk;
  others = others_more c.args.grant c.args.desk c.loop-act.desk c.in_ok-waits.next c.loop-act.invariant.others c.in_ok-waits.ensures.others;
  whole = c.in_ok-waits.ensures.whole;
  line = c.in_ok-waits.ensures.line ∙ c.if-waits.false;
  mark = c.in_ok-waits.ensures.mark ∙ c.loop-act.invariant.mark;
  trst = c.in_ok-waits.ensures.trst ∙ c.loop-act.invariant.trst;
  faults = c.in_ok-waits.ensures.cause.kept ∙ c.loop-act.invariant.faults;
  went = λ given base_desk base turn whole attends.
      comes_more c.args.layout.now c.args.grant (Attends c.args.layout.now c.args.grant base_desk base (ShowsSeat c.loop-act.self c.args.grant given) c.loop-act.desk (g.C.Cable.chain (cable_of c.loop-act.desk.side)))
      (Attends c.args.layout.now c.args.grant base_desk base (ShowsSeat c.use_letter.new.self c.args.grant given) c.in_ok-waits.next (g.C.Cable.chain (cable_of c.in_ok-waits.next.side))) turn
      (c.loop-act.invariant.went given base_desk base turn whole attends)
      (λ next there. subst (λ waits. ComesTo c.args.layout.now c.args.grant (Attends c.args.layout.now c.args.grant base_desk base (LinesTo waits c.args.layout.now c.use_letter.new.self c.args.grant given) c.in_ok-waits.next (g.C.Cable.chain (cable_of c.in_ok-waits.next.side))) next)
      c.if-waits.false (c.in_ok-waits.ensures.went given base_desk base next whole there));
}

pub returns-in-Err-clause-blocked : goal.returns-in-Err-clause-blocked
returns-in-Err-clause-blocked g c = subst (λ waits. WaitsBlocked waits c.args.grant c.loop-act.desk) (sym c.in-Err.ensures.waits) tt

pub returns-then-waits-clause-blocked : goal.returns-then-waits-clause-blocked
returns-then-waits-clause-blocked g c = subst (λ waits. WaitsBlocked waits c.args.grant c.in_ok-waits.next) c.if-waits.true c.in_ok-waits.ensures.blocked

pub returns-in-Err-clause-ends : goal.returns-in-Err-clause-ends
returns-in-Err-clause-ends g c =
    halts_by (letters_end c.args.self.now.used (unused_of c.args.self.now.input)) (letters_end c.loop-act.self.used (unused_of c.loop-act.self.input)) c.in-Err.halt (sym c.loop-act.invariant.ends) c.in-Err.ensures.ends

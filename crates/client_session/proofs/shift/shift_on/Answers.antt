use Rattle.std.proofs.Common.{ap, subst, ◌∙◌}
use Rattle.client_session.specs.Desks.{Attends, LegTo, LegWithin, WaitsBlocked, cable_of}
use Rattle.client_session.specs.Going.{GoesTo, ShiftsAt}
use Rattle.client_session.specs.declared.shift.Leg.TheVariants.{Made, On, Waits}
use Rattle.client_session.specs.Messaging.{waits_after}
use Rattle.client_session.proofs.Entering.{more_legs}
use Rattle.client_session.proofs.Others.{others_more}
use Rattle.client_session.proofs.shift.shift_on.Goals as goal

pub returns-in-Made-clause-went : goal.returns-in-Made-clause-went
returns-in-Made-clause-went g c = λ base_desk base turn whole attends.
    more_legs c.args.layout.now c.args.grant base_desk base turn (ShiftsAt c.loop-leg.frame c.loop-leg.tap c.loop-leg.at c.args.grant) (LegTo Made c.args.layout.now c.next_leg.new.frame c.next_leg.new.tap c.args.cycles c.args.grant)
    c.loop-leg.desk c.in_ok-leg.next (g.C.Cable.chain (cable_of c.loop-leg.desk.side)) (g.C.Cable.chain (cable_of c.in_ok-leg.next.side)) (c.loop-leg.invariant.went base_desk base turn whole attends)
    (λ here there. subst (λ leg. GoesTo c.args.layout.now c.args.grant (Attends c.args.layout.now c.args.grant base_desk base (LegTo leg c.args.layout.now c.next_leg.new.frame c.next_leg.new.tap c.args.cycles c.args.grant) c.in_ok-leg.next (g.C.Cable.chain (cable_of c.in_ok-leg.next.side))) here)
    c.in-Made.is (c.in_ok-leg.ensures.went base_desk base here whole there))

pub returns-in-Waits-clause-went : goal.returns-in-Waits-clause-went
returns-in-Waits-clause-went g c = λ base_desk base turn whole attends.
    more_legs c.args.layout.now c.args.grant base_desk base turn (ShiftsAt c.loop-leg.frame c.loop-leg.tap c.loop-leg.at c.args.grant) (LegTo (Waits c.in-Waits.cycle) c.args.layout.now c.next_leg.new.frame c.next_leg.new.tap c.args.cycles c.args.grant)
    c.loop-leg.desk c.in_ok-leg.next (g.C.Cable.chain (cable_of c.loop-leg.desk.side)) (g.C.Cable.chain (cable_of c.in_ok-leg.next.side)) (c.loop-leg.invariant.went base_desk base turn whole attends)
    (λ here there. subst (λ leg. GoesTo c.args.layout.now c.args.grant (Attends c.args.layout.now c.args.grant base_desk base (LegTo leg c.args.layout.now c.next_leg.new.frame c.next_leg.new.tap c.args.cycles c.args.grant) c.in_ok-leg.next (g.C.Cable.chain (cable_of c.in_ok-leg.next.side))) here)
    c.in-Waits.is (c.in_ok-leg.ensures.went base_desk base here whole there))

pub returns-in-Made-clause-others : goal.returns-in-Made-clause-others
returns-in-Made-clause-others g c = others_more c.args.grant c.args.desk c.loop-leg.desk c.in_ok-leg.next c.loop-leg.invariant.others c.in_ok-leg.ensures.others

pub returns-in-Made-clause-line : goal.returns-in-Made-clause-line
returns-in-Made-clause-line g c = λ free. c.in_ok-leg.ensures.line (c.loop-leg.invariant.line free) ∙ ap waits_after c.in-Made.is

pub returns-in-Waits-clause-others : goal.returns-in-Waits-clause-others
returns-in-Waits-clause-others g c = others_more c.args.grant c.args.desk c.loop-leg.desk c.in_ok-leg.next c.loop-leg.invariant.others c.in_ok-leg.ensures.others

pub returns-in-Waits-clause-line : goal.returns-in-Waits-clause-line
returns-in-Waits-clause-line g c = λ free. c.in_ok-leg.ensures.line (c.loop-leg.invariant.line free) ∙ ap waits_after c.in-Waits.is

pub loop-leg-preserved : goal.loop-leg-preserved
loop-leg-preserved g c =
    let on = subst (λ leg. LegWithin leg c.next_leg.new.tap c.loop-leg.at c.args.cycles) c.in-On.is c.in_ok-leg.ensures.within in
    record {
      within = on.1;
      vector = c.in_ok-leg.ensures.vector ∙ c.loop-leg.invariant.vector;
      held = c.in_ok-leg.ensures.held;
      same = (c.in_ok-leg.ensures.same.0 ∙ c.loop-leg.invariant.same.0, c.in_ok-leg.ensures.same.1 ∙ c.loop-leg.invariant.same.1);
      there = c.in_ok-leg.ensures.there;
      low = c.in_ok-leg.ensures.low;
      desk_is = c.in_ok-leg.ensures.desk;
      others = others_more c.args.grant c.args.desk c.loop-leg.desk c.in_ok-leg.next c.loop-leg.invariant.others c.in_ok-leg.ensures.others;
      line = λ free. c.in_ok-leg.ensures.line (c.loop-leg.invariant.line free) ∙ ap waits_after c.in-On.is;
      whole = c.in_ok-leg.ensures.whole;
      mark = c.in_ok-leg.ensures.mark ∙ c.loop-leg.invariant.mark;
      trst = c.in_ok-leg.ensures.trst ∙ c.loop-leg.invariant.trst;
      faults = c.in_ok-leg.ensures.cause.kept ∙ c.loop-leg.invariant.faults;
      went = λ base_desk base turn whole attends.
          more_legs c.args.layout.now c.args.grant base_desk base turn (ShiftsAt c.loop-leg.frame c.loop-leg.tap c.loop-leg.at c.args.grant) (LegTo (On c.in-On.cycle) c.args.layout.now c.next_leg.new.frame c.next_leg.new.tap c.args.cycles c.args.grant)
          c.loop-leg.desk c.in_ok-leg.next (g.C.Cable.chain (cable_of c.loop-leg.desk.side)) (g.C.Cable.chain (cable_of c.in_ok-leg.next.side)) (c.loop-leg.invariant.went base_desk base turn whole attends)
          (λ here there. subst (λ leg. GoesTo c.args.layout.now c.args.grant (Attends c.args.layout.now c.args.grant base_desk base (LegTo leg c.args.layout.now c.next_leg.new.frame c.next_leg.new.tap c.args.cycles c.args.grant) c.in_ok-leg.next (g.C.Cable.chain (cable_of c.in_ok-leg.next.side))) here)
          c.in-On.is (c.in_ok-leg.ensures.went base_desk base here whole there));
    }

pub returns-in-Waits-clause-blocked : goal.returns-in-Waits-clause-blocked
returns-in-Waits-clause-blocked g c = subst (λ leg. WaitsBlocked (waits_after leg) c.args.grant c.in_ok-leg.next) c.in-Waits.is c.in_ok-leg.ensures.blocked

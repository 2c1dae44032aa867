use Rattle.std.proofs.Common.{◌≡◌, ◌∙◌, ap, inl, inr, subst, sym, true, [], ◌∷◌}
use Rattle.client_session.specs.Acts.Act.{SetLines}
use Rattle.client_session.specs.Desks.{Attends, WaitsBlocked, cable_of}
use Rattle.client_session.specs.Edges.{EdgesTo, MakesEdge}
use Rattle.client_session.proofs.LineActs.{comes_edge, comes_still, comes_wait, lines_still, other_level, same_letters, same_level}
use Rattle.client_session.proofs.progress.Progress.set_lines.Goals.{then-self-via-then-self, then-self-via-else-self+then-self-tck}
use Rattle.client_session.proofs.progress.Progress.set_lines.Goals as goal

pub returns-then-self-clause-went : goal.returns-then-self-clause-went
returns-then-self-clause-went g c = λ given base_desk base turn whole attends.
    comes_still c.args.layout.now c.args.grant c.requires.sound base_desk base turn c.args.self.now c.requires.protocol given (SetLines c.args.tck c.args.tms c.args.tdi) c.args.tck c.args.self.now.trst c.args.desk (g.C.Cable.chain (cable_of c.args.desk.side)) c.requires.none
    (lines_still c.args.self.now c.args.grant given turn c.args.tck c.args.tms c.args.tdi (elim c.then-self.branch [
      | then-self-via-then-self w ↦ inl w.if-self.true
      | then-self-via-else-self+then-self-tck w ↦ inr (same_level c.args.self.now.tck c.args.tck w.if-self-tck.true)
    ])) attends

pub returns-then-waits-clause-went : goal.returns-then-waits-clause-went
returns-then-waits-clause-went g c = λ given base_desk base turn whole attends.
    let up : c.args.tck ≡ true = (c.in_ok-waits.ensures.waits c.if-waits.true).0 in
    comes_wait c.args.layout.now c.args.grant c.requires.sound base_desk base turn c.args.self.now c.requires.protocol given c.args.tck c.args.tms c.args.tdi c.make_edge.new.tap c.keep_edge.new.input c.keep_edge.ensures.same
    c.if-self.false (other_level c.args.self.now.tck c.args.tck c.if-self-tck.false) c.args.desk c.in_ok-waits.desk (g.C.Cable.chain (cable_of c.args.desk.side)) (g.C.Cable.chain (cable_of c.in_ok-waits.desk.side))
    (c.keep_edge.ensures.acts ∙ ap (λ level. SetLines level c.args.tms c.args.tdi ∷ []) (sym up))
    (subst (λ waits. Attends c.args.layout.now c.args.grant base_desk base (MakesEdge c.args.tck c.args.tms c.args.tdi c.args.self.now.tap c.args.grant) c.args.desk (g.C.Cable.chain (cable_of c.args.desk.side)) turn
    → EdgesTo waits c.args.layout.now c.args.grant c.make_edge.new.tap base_desk base c.in_ok-waits.desk (g.C.Cable.chain (cable_of c.in_ok-waits.desk.side)) turn) c.if-waits.true (c.in_ok-waits.ensures.went base_desk base turn whole)) attends

pub returns-clause-went : goal.returns-clause-went
returns-clause-went g c = λ given base_desk base turn whole attends.
    comes_edge c.args.layout.now c.args.grant c.requires.sound base_desk base turn c.args.self.now c.requires.protocol given c.args.tck c.args.tms c.args.tdi c.make_edge.new.tap c.args.self.now.input (same_letters c.args.self.now.input)
    c.if-self.false (other_level c.args.self.now.tck c.args.tck c.if-self-tck.false) c.args.desk c.in_ok-waits.desk (g.C.Cable.chain (cable_of c.args.desk.side)) (g.C.Cable.chain (cable_of c.in_ok-waits.desk.side)) c.requires.none
    (subst (λ waits. Attends c.args.layout.now c.args.grant base_desk base (MakesEdge c.args.tck c.args.tms c.args.tdi c.args.self.now.tap c.args.grant) c.args.desk (g.C.Cable.chain (cable_of c.args.desk.side)) turn
    → EdgesTo waits c.args.layout.now c.args.grant c.make_edge.new.tap base_desk base c.in_ok-waits.desk (g.C.Cable.chain (cable_of c.in_ok-waits.desk.side)) turn) c.if-waits.false (c.in_ok-waits.ensures.went base_desk base turn whole)) attends

pub returns-then-waits-clause-blocked : goal.returns-then-waits-clause-blocked
returns-then-waits-clause-blocked g c = subst (λ waits. WaitsBlocked waits c.args.grant c.in_ok-waits.desk) c.if-waits.true c.in_ok-waits.ensures.blocked

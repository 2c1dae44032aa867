use Rattle.std.proofs.Common.{◌≡◌, ◌∙◌, sym, subst, ap, Some, None}
use Rattle.client_session.specs.declared.halt.Halt.TheVariants as halts
use Rattle.client_session.specs.Desks.{Attends, cable_of}
use Rattle.client_session.specs.Calls.{HaltsAt, ended_by, is_waiting}
use Rattle.client_session.proofs.Stopping.{stops_resting, stops_there, stops_waiting}
use Rattle.client_session.proofs.progress.Progress.settle.Goals as goal
use Rattle.client_session.proofs.progress.Progress.settle.Goals.{in-Rests, in-Ends}

pub returns-in-Waits-clause-went : goal.returns-in-Waits-clause-went
returns-in-Waits-clause-went g c = λ given base_desk base turn whole here attends.
    stops_waiting c.args.layout.now c.args.grant base_desk base given c.args.self.now c.args.gone c.args.desk (g.C.Cable.chain (cable_of c.args.desk.side)) turn here
    (subst (λ halt. Attends c.args.layout.now c.args.grant base_desk base (HaltsAt halt c.args.layout.now c.args.self.now c.args.grant given) c.args.desk (g.C.Cable.chain (cable_of c.args.desk.side)) turn) c.in-Waits.is attends)

pub returns-in-None-clause-went : goal.returns-in-None-clause-went
returns-in-None-clause-went g c = λ given base_desk base turn whole here attends. elim c.match-halt.branch [
  | in-Rests w ↦
      let none = sym w.end-is ∙ c.in-None.is in
      let stays = w.end_at_rest-end.ensures.here none in
      stops_resting c.args.layout.now c.args.grant base_desk base given c.args.self.now c.args.desk (g.C.Cable.chain (cable_of c.args.desk.side)) turn (here ∙ stays)
      (c.requires.line ∙ ap is_waiting w.in-Rests.is)
      (λ at there h. w.end_at_rest-end.ensures.due c.args.grant given at (h ∙ sym stays) there ∙ ap (λ end. ended_by end at.seat) none)
      (subst (λ halt. Attends c.args.layout.now c.args.grant base_desk base (HaltsAt halt c.args.layout.now c.args.self.now c.args.grant given) c.args.desk (g.C.Cable.chain (cable_of c.args.desk.side)) turn) w.in-Rests.is attends)
  | in-Ends w ↦ absurd (let q : Some w.in-Ends.end ≡ None = sym w.end-is ∙ c.in-None.is in cc)
]

pub returns-in_ok-next-in-Some-clause-went : goal.returns-in_ok-next-in-Some-clause-went
returns-in_ok-next-in-Some-clause-went g c = λ given base_desk base turn whole here attends. elim c.match-halt.branch [
  | in-Rests w ↦
      let some = sym w.end-is ∙ c.in-Some.is in
      c.in_ok-next-in-Some.ensures.went c.in-Some.end given base_desk base turn whole
      (stops_there c.args.layout.now c.args.grant base_desk base given c.in-Some.end c.args.self.now c.args.desk (g.C.Cable.chain (cable_of c.args.desk.side)) turn c.requires.keeps
      (λ there. w.end_at_rest-end.ensures.due c.args.grant given turn here there ∙ ap (λ end. ended_by end turn.seat) some)
      (subst (λ halt. Attends c.args.layout.now c.args.grant base_desk base (HaltsAt halt c.args.layout.now c.args.self.now c.args.grant given) c.args.desk (g.C.Cable.chain (cable_of c.args.desk.side)) turn) w.in-Rests.is attends))
  | in-Ends w ↦
      let same : w.in-Ends.end ≡ c.in-Some.end = (let q : Some w.in-Ends.end ≡ Some c.in-Some.end = sym w.end-is ∙ c.in-Some.is in cc) in
      c.in_ok-next-in-Some.ensures.went c.in-Some.end given base_desk base turn whole
      (subst (λ halt. Attends c.args.layout.now c.args.grant base_desk base (HaltsAt halt c.args.layout.now c.args.self.now c.args.grant given) c.args.desk (g.C.Cable.chain (cable_of c.args.desk.side)) turn) (w.in-Ends.is ∙ ap halts.Ends same) attends)
]

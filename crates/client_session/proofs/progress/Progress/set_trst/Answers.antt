use Rattle.std.proofs.Common.{inl, inr}
use Rattle.client_session.specs.Acts.Act.{SetTrst}
use Rattle.client_session.specs.Desks.{cable_of}
use Rattle.client_session.proofs.LineActs.{comes_reset, comes_still, trst_still}
use Rattle.client_session.proofs.progress.Progress.set_trst.Goals.{then-not-level-via-then-not-level, then-not-level-via-else-not-level+then-self}
use Rattle.client_session.proofs.progress.Progress.set_trst.Goals as goal

pub returns-then-not-level-clause-went : goal.returns-then-not-level-clause-went
returns-then-not-level-clause-went g c = λ given base_desk base turn whole attends.
    comes_still c.args.layout.now c.args.grant c.requires.sound base_desk base turn c.args.self.now c.requires.protocol given (SetTrst c.args.level) c.args.self.now.tck c.args.level c.args.desk (g.C.Cable.chain (cable_of c.args.desk.side)) c.requires.none
    (trst_still c.args.self.now c.args.grant given turn c.args.level (elim c.then-not-level.branch [
      | then-not-level-via-then-not-level w ↦ inl w.if-not-level.true
      | then-not-level-via-else-not-level+then-self w ↦ inr w.if-self.true
    ])) attends

pub returns-clause-went : goal.returns-clause-went
returns-clause-went g c = λ given base_desk base turn whole attends.
    comes_reset c.args.layout.now c.args.grant c.requires.sound base_desk base turn c.args.self.now c.requires.protocol given c.args.level c.reset.new.tap c.args.desk c.in_ok-desk.desk (g.C.Cable.chain (cable_of c.args.desk.side)) (g.C.Cable.chain (cable_of c.in_ok-desk.desk.side))
    c.if-not-level.false c.if-self.false c.requires.none (c.in_ok-desk.ensures.went base_desk base turn whole) attends

use Rattle.std.proofs.Common.{ap, refl, sym}
use Rattle.client_session.specs.declared.input.Input.TheVariants.{Xvc}
use Rattle.client_session.specs.declared.input.Work.TheVariants.{Shifting}
use Rattle.client_session.specs.Messaging.{frame_of}
use Rattle.client_session.proofs.Messaging.{begins, begun_keeps, shift_held}
use Rattle.client_session.proofs.progress.Progress.begin_shift.Goals as goal

pub returns-clause-keeps : goal.returns-clause-keeps
returns-clause-keeps c =
    begun_keeps c.args.self.now (record c.args.self.now { input = Xvc (record { frame = c.in-Xvc.messages.frame; work = Shifting c.args.cycles 0 }); used = c.args.self.now.taken }) c.args.cycles c.requires.taken (record { tap = refl; protocol = sym c.requires.taken.replied.protocol; uses_trst = refl; vector = refl; tck = refl; trst = refl })
    refl refl refl refl refl (sym (ap frame_of c.in-Xvc.is))

pub returns-clause-went : goal.returns-clause-went
returns-clause-went c = λ layout grant given turn shows.
    let taken = c.requires.taken in
    let held = shift_held c.args.self.now.vector c.args.cycles (frame_of c.args.self.now.input) taken.told.message taken.replied.vector taken.told.is_message taken.told.is_framed taken.told.said_is in
    begins c.args.self.now grant given turn taken.replied taken.work shows layout taken.told.message taken.told.is_framed (record c.args.self.now { input = Xvc (record { frame = c.in-Xvc.messages.frame; work = Shifting c.args.cycles 0 }); used = c.args.self.now.taken }) c.args.cycles held.1
    (record { tap = refl; protocol = sym taken.replied.protocol; uses_trst = refl; vector = refl; tck = refl; trst = refl }) refl refl (sym (ap frame_of c.in-Xvc.is)) taken.replied.pending

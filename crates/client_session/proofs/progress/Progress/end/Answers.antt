use Rattle.std.proofs.Common.{◌≤◌, false, arith, length, refl, subst, sym}
use Rattle.client_session.specs.Desks.{cable_of}
use Rattle.client_session.specs.Stores.{replied}
use Rattle.client_session.proofs.Emptied.{reply_kept, room_left}
use Rattle.client_session.proofs.Stopping.{stops_ended}
use Rattle.client_session.proofs.progress.Progress.end.Goals as goal

pub returns-clause-keeps : goal.returns-clause-keeps
returns-clause-keeps g c = record {
  some = c.requires.keeps.some;
  most = c.requires.keeps.most;
  input = c.forget.ensures.keeps _ c.requires.keeps.input;
  said = room_left c.args.self.now.input c.forget.new.self c.args.self.now.said.items c.forget.ensures.protocol c.forget.ensures.unused c.forget.ensures.awaits c.requires.keeps.said;
  pending = subst (λ whole. c.args.self.now.pending ≤ length whole) (sym (c.forget.ensures.replied c.args.self.now.said.items)) c.requires.keeps.pending;
  taken = rw (c.forget.ensures.unused) (omega arith);
  few = omega arith;
}

pub returns-clause-went : goal.returns-clause-went
returns-clause-went g c = λ end given base_desk base turn whole attends.
    stops_ended c.args.layout.now c.args.grant base_desk base given c.args.self.now (record c.args.self.now { tap = c.close.new.tap; tck = false; trst = false; used = 0; taken = 0; input = c.forget.new.self })
    end c.args.desk c.in_ok-next.next (g.C.Cable.chain (cable_of c.args.desk.side)) (g.C.Cable.chain (cable_of c.in_ok-next.next.side)) turn
    (record { grant = c.in_ok-next.ensures.same.0; parts = c.in_ok-next.ensures.same.1; protocol = c.forget.ensures.protocol; uses_trst = refl; vector = refl })
    (record {
      ended = (c.in_ok-next.ensures.shut, refl, refl, refl, c.forget.ensures.awaits);
      unused = c.forget.ensures.unused;
      used = refl;
      acts = c.forget.ensures.acts;
      sampled = c.forget.ensures.sampled;
      reply = reply_kept (replied c.args.self.now.input c.args.self.now.said.items) (replied c.forget.new.self c.args.self.now.said.items) c.args.self.now.pending (c.forget.ensures.replied c.args.self.now.said.items);
    })
    (c.in_ok-next.ensures.went base_desk base turn whole) attends

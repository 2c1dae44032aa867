use Rattle.client_session.proofs.progress.Progress.begin.Goals as goal
use Rattle.std.proofs.Common.{arith, subst, sym}
use Rattle.client_session.specs.Stores.{HasRoomToSay}
use Rattle.client_session.proofs.Emptied.{nothing_said}

pub returns-clause-keeps : goal.returns-clause-keeps
returns-clause-keeps c = record {
  some = c.requires.keeps.some;
  most = c.requires.keeps.most;
  input = c.clear.ensures.keeps _ c.requires.keeps.input;
  said = subst (HasRoomToSay c.clear.new.self) (sym c.clear-2.ensures) (nothing_said c.clear.new.self c.clear.ensures.empty.unused);
  pending = omega arith;
  taken = rw (c.clear.ensures.empty.unused) (omega arith);
  few = omega arith;
}

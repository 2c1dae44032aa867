use Rattle.std.proofs.Common.{◌≡◌, ◌<◌, ℕ, false}
use Rattle.slab.specs.Slab.{get}
use Rattle.mio_wire.specs.Tables.{holds}
use Rattle.mio_wire.proofs.link.Links.key_of.Given as goal

abbrev pub invariant-loop-key : goal.invariant-loop-key
invariant-loop-key l = (key : ℕ) → key < l.key → holds l.conn (get l.self.table key) ≡ false

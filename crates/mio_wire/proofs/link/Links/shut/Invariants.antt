use Rattle.std.proofs.Common.{◌≡◌, ◌<◌, ◌≤◌, length, ℕ, false}
use Rattle.slab.specs.Slab.{get}
use Rattle.mio_wire.specs.Tables.{holds, KeepsOthers}
use Rattle.mio_wire.proofs.link.Links.shut.Given as goal

abbrev pub invariant-loop-key : goal.invariant-loop-key
invariant-loop-key l =
    ((key : ℕ) → key < l.key → holds l.conn (get l.self.table key) ≡ false)
    × (length l.self.table.slots ≤ l.fn.self.table.capacity)
    × (l.self.table.capacity ≡ l.fn.self.table.capacity)
    × KeepsOthers l.conn l.fn.self.table l.self.table

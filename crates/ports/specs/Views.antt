-- What contracts see of the sources and sinks in memory.
use Rattle.std.specs.Prelude.{ℕ, List}
use Rattle.base_types.specs.Calls.{CallPlan}

-- the bytes that are left, the piece sizes, and the reads made and to fail
pub record MemSourceView : Type 0 where
  pub left : List ℕ
  pub pieces : List ℕ
  pub reads : CallPlan
  pub faults : ℕ

-- the bytes that went out, the room for all bytes, the most bytes of one write, and the writes made and to fail
pub record MemSinkView : Type 0 where
  pub sent : List ℕ
  pub room : ℕ
  pub most : ℕ
  pub writes : CallPlan
  pub faults : ℕ

-- What one read of a source in memory, and one write to a sink in memory, do.
use Rattle.std.specs.Prelude.{ℕ, ◌-◌, ◌++◌, min, max, Bool, List, length, drop, slice_index_or, ◌||◌, eqb}
use Rattle.base_types.specs.Counts.{raised}
use Rattle.base_types.specs.Calls.{CallPlan, after_call, fails_at}
use Rattle.ports.specs.Views.{MemSourceView, MemSinkView}

-- how many bytes read number `call`, counted from 1, may give to a buffer: an entry 0 counts as 1, and after the list it is as many as the buffer holds
abbrev pub piece_at : List ℕ → ℕ → ℕ → ℕ
piece_at pieces call buffer = min buffer (max 1 (slice_index_or pieces (call - 1) buffer))

-- the number of the next call
abbrev pub next_call : CallPlan → ℕ
next_call plan = raised plan.made 1

-- whether the next read fails
abbrev pub read_fails : MemSourceView → Bool
read_fails s = fails_at s.reads.fails (next_call s.reads)

-- how many bytes the next read takes where it does not fail
abbrev pub read_size : MemSourceView → ℕ → ℕ
read_size s buffer = min (length s.left) (piece_at s.pieces (next_call s.reads) buffer)

-- the source after a read that took so many bytes
abbrev pub after_read : MemSourceView → ℕ → MemSourceView
after_read s taken = record s { left = drop taken s.left; reads = after_call s.reads }

-- the source after a read that failed
abbrev pub after_failed_read : MemSourceView → MemSourceView
after_failed_read s = record s { reads = after_call s.reads; faults = raised s.faults 1 }

-- whether the next write fails: it is listed, or there is no room left
abbrev pub write_fails : MemSinkView → Bool
write_fails s = eqb (s.room - length s.sent) 0 || fails_at s.writes.fails (next_call s.writes)

-- how many bytes of a piece the next write takes where it does not fail
abbrev pub write_size : MemSinkView → ℕ → ℕ
write_size s piece = min piece (min s.most (s.room - length s.sent))

-- the sink after a write that took these bytes
abbrev pub after_write : MemSinkView → List ℕ → MemSinkView
after_write s taken = record s { sent = s.sent ++ taken; writes = after_call s.writes }

-- the sink after a write that failed
abbrev pub after_failed_write : MemSinkView → MemSinkView
after_failed_write s = record s { writes = after_call s.writes; faults = raised s.faults 1 }

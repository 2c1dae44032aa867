-- Laws of counts that stay at their last value.
use Rattle.std.proofs.Common.{◌≡◌, ◌+◌, ◌-◌, ◌^◌, ◌≤◌, ◌<◌, ℕ, arith}
use Rattle.base_types.specs.Counts.{raised, Rose}

pub raised_twice : (count first second : ℕ) → raised (raised count first) second ≡ raised count (first + second)
raised_twice count first second = omega arith

pub rose_up : (before now : ℕ) → before < now → Rose before now
rose_up before now up = omega (arith, up)

pub up_rose : (before now : ℕ) → before < 2 ^ 64 - 1 → Rose before now → before < now
up_rose before now below rose = omega (arith, below, rose)

pub rose_first : (before between now : ℕ) → Rose before between → between ≤ now → Rose before now
rose_first before between now rose later = omega (arith, rose, later)

pub rose_second : (before between now : ℕ) → before ≤ between → Rose between now → Rose before now
rose_second before between now later rose = omega (arith, later, rose)

use Rattle.std.proofs.Common.{◌≡◌, drop, length}
use Rattle.scan_share.specs.Codes.{put_at}
use Rattle.scan_share.proofs.codes.put_own.Given as goal

abbrev pub invariant-loop-i : goal.invariant-loop-i
invariant-loop-i l = record {
  same : put_at (drop l.i l.group) (drop l.i l.own) l.codes ≡ put_at l.group l.own l.fn.codes;
  long : length l.codes ≡ length l.fn.codes;
}

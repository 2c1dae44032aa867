use Rattle.std.proofs.Common.{◌≡◌, ◌≤◌, ◌<◌, ◌-◌, ◌^◌, true}
use Rattle.std.specs.List.{list_all}
use Rattle.bsdl_lex.specs.Tokens.{is_digit}
use Rattle.bsdl_read.specs.Contents.{number_from}
use Rattle.bsdl_read.specs.Places.{between}
use Rattle.bsdl_read.proofs.places.number_at.Given as goal

abbrev pub invariant-loop-stop : goal.invariant-loop-stop
invariant-loop-stop l = (l.start ≤ l.stop) × (l.stop ≤ l.end) × (l.stop - l.start < 10) × (l.value < 10 ^ (l.stop - l.start)) × (list_all is_digit (between l.text l.start l.stop) ≡ true) × (l.value ≡ number_from 0 (between l.text l.start l.stop))

abbrev pub decreases-loop-stop : goal.decreases-loop-stop
decreases-loop-stop l = l.end - l.stop

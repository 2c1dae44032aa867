use Rattle.std.proofs.Common.{◌≡◌, ◌-◌, ◌≤◌, drop, length}
use Rattle.bsdl_lex.specs.Tokens.{lexed_from, SpansRise}
use Rattle.bsdl_lex.proofs.Reading.{with_front}
use Rattle.bsdl_lex.proofs.all_tokens.Given as goal

abbrev pub invariant-loop-at : goal.invariant-loop-at
invariant-loop-at l = (l.at ≤ length l.text) × SpansRise 0 l.found.items l.at × (with_front l.found.items (lexed_from l.at 0 (drop l.at l.text)) ≡ lexed_from 0 0 l.text)

abbrev pub decreases-loop-at : goal.decreases-loop-at
decreases-loop-at l = length l.text - l.at

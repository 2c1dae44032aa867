use Rattle.std.proofs.Common.{◌∙◌, sym}
use Rattle.wire_port.proofs.Cuts.{words_end, words_go_on}
use Rattle.wire_port.proofs.words.next_word.Goals as goal

pub returns-then-count-eq0 : goal.returns-then-count-eq0
returns-then-count-eq0 c = words_end c.args.text.now _ _ c.run.ensures.is c.split_at.ensures.back (sym c.run-count.ensures.is ∙ c.if-count-eq0.true)

pub returns : goal.returns
returns c = words_go_on c.args.text.now _ _ _ _ _ c.run.ensures.is c.split_at.ensures.back c.run-count.ensures.is c.if-count-eq0.false c.split_at-2.ensures.front c.split_at-2.ensures.back

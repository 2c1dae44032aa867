use Rattle.bsdl_lex.specs.Tokens.{in_word}
use Rattle.bsdl_read.proofs.Spans.{passes-front}
use Rattle.bsdl_read.proofs.contents.split_word.Goals as goal

pub returns-clause-letters : goal.returns-clause-letters
returns-clause-letters c = rw (c.split_at.ensures.front, c.word_length.ensures.is) (passes-front in_word c.args.bytes.now)

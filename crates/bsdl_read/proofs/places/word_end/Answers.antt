use Rattle.std.proofs.Common.{ap, ◌∙◌, sym, arith}
use Rattle.std.specs.List.{prefix_len}
use Rattle.bsdl_lex.specs.Tokens.{in_word}
use Rattle.bsdl_read.proofs.Betweens.{word_at}
use Rattle.bsdl_read.proofs.places.word_end.Goals as goal

pub returns-clause-word : goal.returns-clause-word
returns-clause-word c =
    word_at c.args.text.now c.args.start c.args.end _ _ _ (omega (arith, c.if-start-end.false)) c.requires (sym c.is_letter.ensures ∙ c.if-not-is_letter.false) (c.word_length-count.ensures.is ∙ ap (prefix_len in_word) c.split_at.ensures.back)
    (omega (arith, c.min.ensures))

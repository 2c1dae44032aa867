use Rattle.std.proofs.Common.{arith}
use Rattle.bsdl_read.specs.Accesses.{view}
use Rattle.bsdl_read.proofs.AccessWords.{register_is_read, name_is_read}
use Rattle.bsdl_read.proofs.Betweens.{parted}
use Rattle.bsdl_read.proofs.accesses.AccessReading.next_part.Goals as goal

pub returns-in-Some-clause-goes : goal.returns-in-Some-clause-goes
returns-in-Some-clause-goes c =
    register_is_read (view c.args.self.now) (view c.register_word.new.self) _ _ _ (c.awaits_register.ensures.stage c.if-awaits_register.true) (c.awaits_register.ensures.none c.if-awaits_register.true) c.in_ok-register_word.ensures
    (parted c.args.text.now c.args.start c.in-Some.stop c.args.end (omega (arith, c.in-Some.ensures.word.rises)) c.in-Some.ensures.ends) c.in-Some.ensures.word.has_name

pub returns-in-Some-word_end-clause-goes : goal.returns-in-Some-word_end-clause-goes
returns-in-Some-word_end-clause-goes c =
    name_is_read (view c.args.self.now) (view c.name_word.new.self) _ _ _ (c.awaits_name.ensures c.if-awaits_name.true) c.in_ok-name_word.ensures
    (parted c.args.text.now c.args.start c.in-Some-word_end.stop c.args.end (omega (arith, c.in-Some-word_end.ensures.word.rises)) c.in-Some-word_end.ensures.ends) c.in-Some-word_end.ensures.word.has_name

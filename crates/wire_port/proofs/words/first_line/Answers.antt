use Rattle.wire_port.proofs.Cuts.{line_ended, last_line}
use Rattle.wire_port.proofs.words.first_line.Goals as goal

pub returns-in-Some-clause-lines : goal.returns-in-Some-clause-lines
returns-in-Some-clause-lines c = line_ended c.args.text.now _ _ _ _ _ c.run.ensures.is c.split_at.ensures.front c.split_at.ensures.back c.in-Some.ensures.cases.0

pub returns-in-None-clause-lines : goal.returns-in-None-clause-lines
returns-in-None-clause-lines c = last_line c.args.text.now _ _ _ c.run.ensures.is c.split_at.ensures.front c.split_at.ensures.back c.in-None.ensures.cases

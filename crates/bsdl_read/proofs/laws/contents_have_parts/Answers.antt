use Rattle.bsdl_read.proofs.Contenting.{one_content, opcodes_law, opcodes_refused, patterns_law, patterns_refused, accesses_law, last_digit}
use Rattle.bsdl_read.proofs.AccessParts.{accesses_refused}
use Rattle.bsdl_read.proofs.laws.contents_have_parts.Goals as goal

pub returns-clause-one : goal.returns-clause-one
returns-clause-one c = one_content

pub returns-clause-opcodes : goal.returns-clause-opcodes
returns-clause-opcodes c = opcodes_law

pub returns-clause-no_opcodes : goal.returns-clause-no_opcodes
returns-clause-no_opcodes c = opcodes_refused

pub returns-clause-patterns : goal.returns-clause-patterns
returns-clause-patterns c = patterns_law

pub returns-clause-no_pattern : goal.returns-clause-no_pattern
returns-clause-no_pattern c = patterns_refused

pub returns-clause-accesses : goal.returns-clause-accesses
returns-clause-accesses c = accesses_law

pub returns-clause-numbers : goal.returns-clause-numbers
returns-clause-numbers c = last_digit

pub returns-clause-no_accesses : goal.returns-clause-no_accesses
returns-clause-no_accesses c = accesses_refused

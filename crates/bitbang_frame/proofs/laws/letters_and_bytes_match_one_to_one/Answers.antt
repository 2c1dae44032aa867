use Rattle.bitbang_frame.proofs.OneToOne.{one_byte, each_letter}
use Rattle.bitbang_frame.proofs.laws.letters_and_bytes_match_one_to_one.Goals as goal

pub returns-clause-one : goal.returns-clause-one
returns-clause-one c = one_byte

pub returns-clause-each : goal.returns-clause-each
returns-clause-each c = each_letter

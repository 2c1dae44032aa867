use Rattle.std.proofs.Common.{◌∙◌, ap}
use Rattle.std.proofs.Math.Nat.{mod-lt}
use Rattle.std.proofs.lemmas.Nat.{pow_pos}
use Rattle.scan_bits.specs.Words.{bits_of}
use Rattle.scan_bits.proofs.WordLaws.{bits_of-mod}
use Rattle.chain_model.proofs.WordRun.{low_word}
use Rattle.chain_model.proofs.scan_chain.low_bits.Goals as goal

pub returns-clause-bits : goal.returns-clause-bits
returns-clause-bits c = ap (bits_of c.args.n) (low_word c.args.word c.args.n c.requires.1) ∙ bits_of-mod c.args.n c.args.word

pub returns-clause-bound : goal.returns-clause-bound
returns-clause-bound c = rw (low_word c.args.word c.args.n c.requires.1) (mod-lt c.args.word (pow_pos c.args.n))

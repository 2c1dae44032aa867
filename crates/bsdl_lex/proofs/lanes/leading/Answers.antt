use Rattle.std.proofs.Common.{arith}
use Rattle.bsdl_lex.specs.Tokens.{belongs}
use Rattle.bsdl_lex.proofs.Masks.{all_lead, some_lead}
use Rattle.bsdl_lex.proofs.lanes.leading.Goals as goal

pub returns-then-ends-eq0 : goal.returns-then-ends-eq0
returns-then-ends-eq0 c = all_lead (belongs c.args.class) c.args.bytes c.ends-ends.result c.fits-bytes.0 c.ends-ends.ensures c.if-ends-eq0.true

pub returns-else-ends-eq0 : goal.returns-else-ends-eq0
returns-else-ends-eq0 c = some_lead (belongs c.args.class) c.args.bytes c.ends-ends.result c.fits-bytes.0 c.ends-ends.ensures (omega arith)

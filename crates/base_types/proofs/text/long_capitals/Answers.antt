use Rattle.base_types.proofs.TextLaws.{written_is_text}
use Rattle.base_types.proofs.text.long_capitals.Goals as goal

pub from_utf8_unchecked-requires : goal.from_utf8_unchecked-requires
from_utf8_unchecked-requires c = written_is_text _ c.args.letters.now _ c.loop-letter.invariant.0 c.loop-letter-test.false c.requires

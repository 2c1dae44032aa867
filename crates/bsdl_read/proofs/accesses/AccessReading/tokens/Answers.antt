use Rattle.bsdl_read.proofs.Going.{lies_at}
use Rattle.bsdl_read.proofs.accesses.AccessReading.tokens.Goals as goal

pub places_inside-start-requires : goal.places_inside-start-requires
places_inside-start-requires c = lies_at c.args.text.now 0 c.args.tokens.now c.loop-token.token-index _ c.requires c.loop-token-test.true

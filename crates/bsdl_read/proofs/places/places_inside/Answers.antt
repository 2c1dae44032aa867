use Rattle.std.proofs.Common.{refl}
use Rattle.bsdl_read.proofs.Betweens.{inside_is}
use Rattle.bsdl_read.proofs.places.places_inside.Goals as goal

pub returns-in-Text-clause-is : goal.returns-in-Text-clause-is
returns-in-Text-clause-is c = inside_is c.args.text.now c.args.token (rw c.in-Text.is refl) c.if-token-ge2.true

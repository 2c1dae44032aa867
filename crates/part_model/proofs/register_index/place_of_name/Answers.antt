use Rattle.std.proofs.Common.{◌≡◌, ◌<◌, length, arith}
use Rattle.part_model.specs.Parts.{named_of}
use Rattle.part_model.specs.Plans.{place_of_name}
use Rattle.part_model.proofs.PlaceLaws.{place_bound, place_within, length-named_of}
use Rattle.part_model.proofs.register_index.place_of_name.Goals as goal

pub returns-clause-is : goal.returns-clause-is
returns-clause-is c = grind (arith, length-named_of c.args.known.now.registers.items, c.requires.places.places c.args.name.now)

pub returns-clause-bound : goal.returns-clause-bound
returns-clause-bound c =
    let known = c.args.known.now.registers.items in
    let is : c.place_or.result ≡ place_of_name (named_of known) c.args.name.now = grind (arith, length-named_of known, c.requires.places.places c.args.name.now) in
    omega (arith, is, place_bound (named_of known) c.args.name.now, length-named_of known)

pub returns-clause-within : goal.returns-clause-within
returns-clause-within c = λ listed.
    let known = c.args.known.now.registers.items in
    let is : c.place_or.result ≡ place_of_name (named_of known) c.args.name.now = grind (arith, length-named_of known, c.requires.places.places c.args.name.now) in
    let within : place_of_name (named_of known) c.args.name.now < length (named_of known) = place_within (named_of known) c.args.name.now listed in
    omega (arith, is, within, length-named_of known)

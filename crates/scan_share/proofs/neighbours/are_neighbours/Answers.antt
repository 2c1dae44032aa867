use Rattle.scan_share.proofs.Adjacent.{neighbours_found, neighbours_told}
use Rattle.scan_share.proofs.neighbours.are_neighbours.Goals as goal

pub returns-in-Some-Some-clause-found : goal.returns-in-Some-Some-clause-found
returns-in-Some-Some-clause-found c =
    neighbours_found c.args.group.now c.in-Some-Some.first.now c.in-Some-Some.last.now c.requires.rising c.in-Some-Some.ensures.value c.in-Some-Some.ensures'.value

pub returns-in-Some-Some-clause-all : goal.returns-in-Some-Some-clause-all
returns-in-Some-Some-clause-all c =
    neighbours_told c.args.group.now c.in-Some-Some.first.now c.in-Some-Some.last.now c.in-Some-Some.ensures.value c.in-Some-Some.ensures'.value

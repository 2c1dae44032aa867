use Rattle.bsdl_read.proofs.AccessFronts.{other_length}
use Rattle.bsdl_read.proofs.access_fronts.is_runbist.Goals as goal

pub returns-else-count-eq7 : goal.returns-else-count-eq7
returns-else-count-eq7 c = other_length _ _ _ _ c.requires c.if-count-eq7.false

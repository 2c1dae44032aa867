use Rattle.xvc_frame.proofs.Wants.{fewest, enough, enough_where, none_begins, missing}
use Rattle.xvc_frame.proofs.laws.want_is_the_fewest.Goals as goal

pub returns-clause-fewest : goal.returns-clause-fewest
returns-clause-fewest c = λ vector message bytes more h. fewest vector bytes more message h

pub returns-clause-enough : goal.returns-clause-enough
returns-clause-enough c = λ vector message bytes more small h. enough_where vector bytes more message small h

pub returns-clause-otherwise : goal.returns-clause-otherwise
returns-clause-otherwise c = enough

pub returns-clause-none : goal.returns-clause-none
returns-clause-none c = λ vector message bytes more x. none_begins vector bytes more x message

pub returns-clause-missing : goal.returns-clause-missing
returns-clause-missing c = missing

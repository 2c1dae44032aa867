use Rattle.virtual_tap.proofs.Levels.{low_stays, rise_scans, open_scans, fall_scans, closed_scans}
use Rattle.virtual_tap.proofs.scans_have_their_states.Goals as goal

pub returns-clause-rise : goal.returns-clause-rise
returns-clause-rise c = rise_scans

pub returns-clause-opened : goal.returns-clause-opened
returns-clause-opened c = open_scans

pub returns-clause-fall : goal.returns-clause-fall
returns-clause-fall c = fall_scans

pub returns-clause-closed : goal.returns-clause-closed
returns-clause-closed c = closed_scans

pub returns-clause-low : goal.returns-clause-low
returns-clause-low c = low_stays

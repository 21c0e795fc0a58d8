use Rattle.later_states.proofs.Tables.{later-same, later-changed, later-twice, later-fewer}
use Rattle.later_states.proofs.laws.later_tables.Goals as goal

pub returns-clause-same : goal.returns-clause-same
returns-clause-same c = later-same

pub returns-clause-changed : goal.returns-clause-changed
returns-clause-changed c = later-changed

pub returns-clause-twice : goal.returns-clause-twice
returns-clause-twice c = later-twice

pub returns-clause-fewer : goal.returns-clause-fewer
returns-clause-fewer c = later-fewer

use Rattle.later_states.proofs.States.{state-same, state-with_stream, state-with_rows, state-with_run, state-with_work, state-with_collection, state-twice, state-fewer}
use Rattle.later_states.proofs.laws.later_states.Goals as goal

pub returns-clause-same : goal.returns-clause-same
returns-clause-same c = state-same

pub returns-clause-stream : goal.returns-clause-stream
returns-clause-stream c = state-with_stream

pub returns-clause-rows : goal.returns-clause-rows
returns-clause-rows c = state-with_rows

pub returns-clause-run : goal.returns-clause-run
returns-clause-run c = state-with_run

pub returns-clause-work : goal.returns-clause-work
returns-clause-work c = state-with_work

pub returns-clause-collection : goal.returns-clause-collection
returns-clause-collection c = state-with_collection

pub returns-clause-twice : goal.returns-clause-twice
returns-clause-twice c = state-twice

pub returns-clause-fewer : goal.returns-clause-fewer
returns-clause-fewer c = state-fewer

use Rattle.folder.proofs.Steps.{next_stream, next_rows, next_run, next_work, next_collection}
use Rattle.folder.proofs.ResultStates.{work-is-run}
use Rattle.folder.proofs.laws.next_states.Goals as goal

pub returns-clause-stream : goal.returns-clause-stream
returns-clause-stream g c = λ care store s name columns settled valid fits. next_stream care _ s settled valid name columns fits

pub returns-clause-rows : goal.returns-clause-rows
returns-clause-rows g c = λ care store s place rows settled valid fits typed only. next_rows care _ s settled valid place rows fits typed only

pub returns-clause-run : goal.returns-clause-run
returns-clause-run g c = λ care store s program settled valid fits. next_run care _ s settled valid program fits

pub returns-clause-work : goal.returns-clause-work
returns-clause-work g c = λ care store s program reads dropped kept settled valid fits ready. next_work care _ s settled valid program reads dropped kept fits ready

pub returns-clause-collection : goal.returns-clause-collection
returns-clause-collection g c = λ care store s ids settled valid fits. next_collection care _ s settled valid ids fits

pub returns-clause-nothing_kept : goal.returns-clause-nothing_kept
returns-clause-nothing_kept g c = work-is-run

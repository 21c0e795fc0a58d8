use Rattle.plan_laws.proofs.JoinedRows.{filter_joined, project_joined}
use Rattle.plan_laws.proofs.growth_of_rows.rows_of_joined_lists.Goals as goal

pub returns-clause-filter : goal.returns-clause-filter
returns-clause-filter c = filter_joined

pub returns-clause-project : goal.returns-clause-project
returns-clause-project c = project_joined

use Rattle.gathering.proofs.HeldRows.{chain_held, distinct_held, group_held}
use Rattle.gathering.proofs.laws.rows_that_are_held.Goals as goal

pub returns-clause-chain : goal.returns-clause-chain
returns-clause-chain c = chain_held

pub returns-clause-distinct : goal.returns-clause-distinct
returns-clause-distinct c = distinct_held

pub returns-clause-group : goal.returns-clause-group
returns-clause-group c = group_held

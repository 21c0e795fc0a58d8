use Rattle.plan_laws.proofs.Growing.{filter_fails, project_fails, filter_grows, project_grows, distinct_grows, order_gives, takes_in_new}
use Rattle.plan_laws.proofs.growth_of_rows.growth_of_one_input.Goals as goal

pub returns-clause-filter : goal.returns-clause-filter
returns-clause-filter c = λ child before after old new more test kept more_kept grows. filter_grows child before after old new more grows test kept more_kept

pub returns-clause-project : goal.returns-clause-project
returns-clause-project c = λ child before after old new more columns kept more_kept grows. project_grows child before after old new more grows columns kept more_kept

pub returns-clause-distinct : goal.returns-clause-distinct
returns-clause-distinct c = distinct_grows

pub returns-clause-order : goal.returns-clause-order
returns-clause-order c = λ child before after old new more keys grows. order_gives child before after old new more grows keys (c.total_order.ensures keys)

pub returns-clause-order_takes_in : goal.returns-clause-order_takes_in
returns-clause-order_takes_in c = λ child before after old new more keys grows. takes_in_new child before after old new more grows

pub returns-clause-filter_overflow : goal.returns-clause-filter_overflow
returns-clause-filter_overflow c = λ child before after old new more test grows. filter_fails child before after old new more grows test

pub returns-clause-project_overflow : goal.returns-clause-project_overflow
returns-clause-project_overflow c = λ child before after old new more columns grows. project_fails child before after old new more grows columns

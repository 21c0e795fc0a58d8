use Rattle.growth_laws.proofs.FormsMade.{form_made, order_ascends, groups_differ, join_ascends, join_within}
use Rattle.growth_laws.proofs.forms.forms_of_results.Goals as goal

pub returns-clause-form : goal.returns-clause-form
returns-clause-form c = form_made

pub returns-clause-order : goal.returns-clause-order
returns-clause-order c = order_ascends c.total_order.ensures

pub returns-clause-groups : goal.returns-clause-groups
returns-clause-groups c = groups_differ

pub returns-clause-join : goal.returns-clause-join
returns-clause-join c = join_ascends

pub returns-clause-positions : goal.returns-clause-positions
returns-clause-positions c = join_within

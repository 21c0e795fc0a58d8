use Rattle.plan_laws.proofs.JoinedRows.{order_joined, merge_ordered}
use Rattle.plan_laws.proofs.growth_of_rows.order_of_joined_lists.Goals as goal

pub returns-clause-in_parts : goal.returns-clause-in_parts
returns-clause-in_parts c = λ keys. order_joined keys (c.total_order.ensures keys)

pub returns-clause-merged : goal.returns-clause-merged
returns-clause-merged c = λ keys. merge_ordered keys (c.total_order.ensures keys)

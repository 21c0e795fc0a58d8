use Rattle.rows_core.proofs.TotalOrder.{row_cmp_total}
use Rattle.rows_core.proofs.order.total_order.Goals as goal

pub returns : goal.returns
returns c = row_cmp_total

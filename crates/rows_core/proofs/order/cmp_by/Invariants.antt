-- The keys so far don't tell the rows apart.
use Rattle.std.proofs.Common.{◌≡◌, drop}
use Rattle.rows_core.specs.RowOrder.{row_cmp}
use Rattle.rows_core.proofs.order.cmp_by.Given as goal

abbrev pub invariant-loop-key : goal.invariant-loop-key
invariant-loop-key l = row_cmp l.keys l.a l.b ≡ row_cmp (drop l.key-index l.keys) l.a l.b

-- The rows of the extents so far.
use Rattle.std.proofs.Common.{◌≡◌, ◌≤◌, ◌*◌, sum_by, take}
use Rattle.catalog_core.proofs.stream.count_rows.Given as goal

abbrev pub invariant-loop-extent : goal.invariant-loop-extent
invariant-loop-extent l = record {
  counted : l.rows ≡ sum_by (λ extent. extent.rows) (take l.extent-index l.extents);
  small : l.rows ≤ l.extent-index * 4294967295;
}

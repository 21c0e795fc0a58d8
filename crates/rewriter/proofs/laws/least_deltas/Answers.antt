use Rattle.rewriter.proofs.LeastParts.{delta_unchanged, delta_scan, delta_row, delta_distinct, delta_concat, delta_join}
use Rattle.rewriter.proofs.laws.least_deltas.Goals as goal

pub returns : goal.returns
returns c = record {
  unchanged = delta_unchanged;
  scan = delta_scan;
  by_row = delta_row;
  distinct = delta_distinct;
  concat = delta_concat;
  join = delta_join;
}

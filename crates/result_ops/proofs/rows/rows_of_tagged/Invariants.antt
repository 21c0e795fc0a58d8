-- The rows so far, and then those of the others.
use Rattle.std.proofs.Common.{◌≡◌, ◌++◌, length, map}
use Rattle.std.specs.Vec.Iter.{into_iter_items, into_iter_len}
use Rattle.result_ops.proofs.rows.rows_of_tagged.Given as goal

abbrev pub invariant-loop-tagged : goal.invariant-loop-tagged
invariant-loop-tagged l = record {
  left : into_iter_len l.tagged-iterator ≡ length (into_iter_items l.tagged-iterator);
  rows : map (λ tagged. tagged.row) l.fn.joined ≡ l.rows.items ++ map (λ tagged. tagged.row) (into_iter_items l.tagged-iterator);
}

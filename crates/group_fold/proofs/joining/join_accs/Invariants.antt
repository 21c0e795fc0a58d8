-- The accumulators so far are joined, and the others are as they were.
use Rattle.std.proofs.Common.{◌≡◌, ◌++◌, take, drop, length}
use Rattle.row_blob.specs.Kept.{AreEach}
use Rattle.plan_laws.specs.GrowthOfGroups.{joined_accs}
use Rattle.plan_laws.specs.GroupBounds.{IsAccOf}
use Rattle.group_fold.proofs.joining.join_accs.Given as goal

abbrev pub invariant-loop-i : goal.invariant-loop-i
invariant-loop-i l = record {
  long : length l.olds.items ≡ length l.aggs;
  new_long : length l.news.items ≡ length l.aggs;
  rest : AreEach IsAccOf (drop l.i l.aggs) (drop l.i l.olds.items);
  new_rest : AreEach IsAccOf (drop l.i l.aggs) (drop l.i l.news.items);
  joined : joined_accs l.aggs l.initial.olds.items l.initial.news.items ≡ take l.i l.olds.items ++ joined_accs (drop l.i l.aggs) (drop l.i l.olds.items) (drop l.i l.news.items);
}

-- The accumulators so far have taken in the row, and the others are as they were.
use Rattle.std.proofs.Common.{◌≡◌, [], ◌∷◌, ◌++◌, map, take, drop, length}
use Rattle.std.specs.List.{AllByRecursion}
use Rattle.row_blob.specs.Kept.{AreEach}
use Rattle.plan_laws.specs.KeptForm.{acc_of}
use Rattle.plan_laws.specs.GrowthOfGroups.{joined_accs}
use Rattle.plan_laws.specs.GroupBounds.{IsAccOf, HasNumber}
use Rattle.group_fold.proofs.accumulate.take_in.Given as goal

abbrev pub invariant-loop-i : goal.invariant-loop-i
invariant-loop-i l = record {
  long : length l.accs.items ≡ length l.aggs;
  rest : AreEach IsAccOf (drop l.i l.aggs) (drop l.i l.accs.items);
  joined : joined_accs l.aggs l.initial.accs.items (map (acc_of (l.row ∷ [])) l.aggs) ≡ take l.i l.accs.items ++ joined_accs (drop l.i l.aggs) (drop l.i l.accs.items) (map (acc_of (l.row ∷ [])) (drop l.i l.aggs));
  numbers : AllByRecursion (λ agg. HasNumber agg l.row) (take l.i l.aggs);
}

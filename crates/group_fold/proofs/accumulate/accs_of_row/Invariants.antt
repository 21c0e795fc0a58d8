-- The accumulators so far, and the numbers that they took in.
use Rattle.std.proofs.Common.{◌≡◌, [], ◌∷◌, map, take}
use Rattle.std.specs.List.{AllByRecursion}
use Rattle.plan_laws.specs.KeptForm.{acc_of}
use Rattle.plan_laws.specs.GroupBounds.{HasNumber}
use Rattle.group_fold.proofs.accumulate.accs_of_row.Given as goal

abbrev pub invariant-loop-agg : goal.invariant-loop-agg
invariant-loop-agg l = record {
  accs : l.accs.items ≡ map (acc_of (l.row ∷ [])) (take l.agg-index l.aggs);
  numbers : AllByRecursion (λ agg. HasNumber agg l.row) (take l.agg-index l.aggs);
}

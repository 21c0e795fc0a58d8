-- Accumulators within the bounds have values.
use Rattle.std.proofs.Common.{List, [], ◌∷◌, arith}
use Rattle.std.specs.List.{All, AllByRecursion}
use Rattle.std.proofs.lemmas.List.Elements.{All-from_recursion, recursion_from_All}
use Rattle.row_blob.specs.declared.kept.Acc.{Acc}
use Rattle.row_blob.specs.declared.kept.Acc.TheVariants as acc
use Rattle.row_blob.specs.declared.kept.GroupRow.{GroupRow}
use Rattle.row_blob.specs.Kept.{AreEach}
use Rattle.plan_core.specs.declared.agg.Agg.{Agg}
use Rattle.plan_core.specs.declared.agg.Agg.TheVariants as agg
use Rattle.plan_laws.specs.GroupBounds.{IsAccOf, AreGroups, HasAverage, HaveAverages}
use Rattle.group_fold.specs.Finish.{HasValue}

has_value : (a : Agg) (x : Acc) → IsAccOf a x → HasAverage x → HasValue x
has_value a (acc.Sum s) h average = tt
has_value a (acc.Pick v) h average = tt
has_value agg.Count (acc.Count n) h average = omega (arith, h.1)
has_value (agg.Avg c) (acc.Avg s n) h average = (h.1.0, omega (arith, h.1.1), h.0, average)
has_value _ _ h average = absurd h

have_values : (aggs : List Agg) (accs : List Acc) → AreEach IsAccOf aggs accs → AllByRecursion HasAverage accs → AllByRecursion HasValue accs
have_values [] [] each all = tt
have_values [] (x ∷ accs) each all = absurd each
have_values (a ∷ aggs) [] each all = absurd each
have_values (a ∷ aggs) (x ∷ accs) each all = (has_value a x each.0 all.0, have_values aggs accs each.1 all.1)

pub groups_have_values : (aggs : List Agg) (groups : List GroupRow) → AreGroups aggs groups → HaveAverages groups → All (λ group. All HasValue group.accs) groups
groups_have_values aggs groups bounds averages = λ i group within.
    All-from_recursion HasValue _ (have_values aggs _ (bounds.1 i group within) (recursion_from_All HasAverage _ (averages i group within)))

use Rattle.rows_core.specs.Equality.{row_eq-Decides}
use Rattle.plan_canon.proofs.StepMeaning.{fused_columns, no_projection}
use Rattle.plan_canon.proofs.laws.projections_mean_the_same.Goals as goal

pub returns : goal.returns
returns c = record {
  fused = λ schemas p es fs kinds h may lists typed.
      fused_columns c.total_order.ensures (λ a b e. (row_eq-Decides a b).0 e) c.typed_plans_give_typed_rows.ensures schemas p es fs kinds lists h may typed;
  all_columns = λ schemas p fs kinds h are lists typed.
      no_projection c.total_order.ensures (λ a b e. (row_eq-Decides a b).0 e) c.typed_plans_give_typed_rows.ensures schemas p fs kinds lists h are typed;
}

use Rattle.std.proofs.Common.{refl}
use Rattle.rows_core.specs.Equality.{row_eq-Decides}
use Rattle.plan_canon.proofs.NormalPlans.{plan_ends}
use Rattle.plan_canon.proofs.StepTyping.{all_steps_typing, all_steps_leaves}
use Rattle.plan_canon.proofs.StepMeaning.{all_steps_same}
use Rattle.plan_canon.proofs.laws.normal_plans_mean_the_same.Goals as goal

pub returns : goal.returns
returns c = record {
  typing = λ schemas plan kinds h. all_steps_typing schemas kinds (plan_ends schemas plan).0 h;
  leaves = λ schemas plan. all_steps_leaves schemas plan (plan_ends schemas plan).0 refl;
  meaning = λ schemas plan kinds h.
      all_steps_same c.total_order.ensures (λ a b e. (row_eq-Decides a b).0 e) c.typed_plans_give_typed_rows.ensures schemas plan kinds (plan_ends schemas plan).0 h;
}

use Rattle.rows_core.specs.Equality.{row_eq-Decides}
use Rattle.plan_canon.specs.Steps.{more}
use Rattle.plan_canon.specs.PlanRules.{plan_step}
use Rattle.plan_canon.proofs.Reached.{at_step, behind_step}
use Rattle.plan_canon.proofs.StepTyping.{step_typing, step_leaves, SameLeaves}
use Rattle.plan_canon.proofs.StepMeaning.{step_same}
use Rattle.plan_canon.proofs.laws.each_step_means_the_same.Goals as goal

pub returns : goal.returns
returns c = record {
  typing = step_typing;
  leaves = λ schemas plan next e. at_step (SameLeaves schemas plan) e (step_leaves schemas plan);
  meaning = λ schemas plan next kinds h e.
      step_same c.total_order.ensures (λ a b e. (row_eq-Decides a b).0 e) c.typed_plans_give_typed_rows.ensures schemas plan next kinds h e;
  normal = λ schemas plan next normal e.
      (λ ends. (more e ends.0, ends.1), λ ends. (behind_step (plan_step schemas) next ends.0 e ends.1, ends.1));
}

use Rattle.std.proofs.Common.{List, ap, sym, subst, ◌∙◌}
use Rattle.plan_core.specs.PlainPlan.{plan_of}
use Rattle.plan_core.specs.PlanTyping.{Kinds}
use Rattle.plan_laws.specs.KeptForm.{rows_of_kept}
use Rattle.result_ops.specs.declared.made.Made.{Made}
use Rattle.result_ops.proofs.FitResults.{rows_fit}
use Rattle.executor.proofs.making.outcome_of_made.Goals as goal

pub returns-clause-kinds : goal.returns-clause-kinds
returns-clause-kinds c = λ (schemas : List Kinds) fit.
    rows_fit schemas (plan_of c.args.rewriting.now.plan) c.args.made.kept _ fit (ap (λ (m : Made). rows_of_kept m.kept) (sym c.in_ok-own.ensures.made) ∙ c.in_ok-rows.ensures)

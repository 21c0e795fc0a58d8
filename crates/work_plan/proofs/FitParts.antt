-- The inputs of a fit plan are fit, at their parts of its cuts.
use Rattle.std.proofs.Common.{ℕ, List, None, length-append, arith}
use Rattle.rows_core.specs.declared.order.Key.{Key}
use Rattle.plan_core.specs.declared.agg.Agg.{Agg}
use Rattle.plan_core.specs.PlainExpr.{PlainExpr}
use Rattle.plan_core.specs.PlainPlan.{PlainPlan, Filter, Project, Distinct, Group, Join, Concat, Order, leaves}
use Rattle.plan_core.specs.PlanTyping.{Kinds}
use Rattle.plan_canon.specs.PlanRules.{plan_step}
use Rattle.plan_canon.proofs.Reached.{nowhere}
use Rattle.estimator.specs.Cuts.{Cuts}
use Rattle.rewrite_core.specs.IsRewriting.{lefts, rights}
use Rattle.executor.proofs.Typings as typing
use Rattle.catalog_types.specs.declared.snapshot.StreamState.{StreamState}
use Rattle.catalog_core.specs.Programs.{kinds_of_streams}
use Rattle.work_plan.specs.Fitting.{IsFit}
use Rattle.work_plan.proofs.CutParts.{left-cuts, right-cuts}

module _ (streams : List StreamState) where
  abbrev kinds : List Kinds
  kinds = kinds_of_streams streams

  pub of-filter : (child : PlainPlan) (test : PlainExpr) (c : Cuts) → IsFit streams (Filter child test) c → IsFit streams child c
  of-filter child test c fit = record {
    over = record { typed = typing.of_filter kinds child test fit.over.typed; are_cuts = fit.over.are_cuts };
    normal = (nowhere (λ x. Filter x test) (plan_step kinds child) _ fit.normal).0;
    spelled = fit.spelled.0;
    literals = fit.literals.0;
    deep = let deep = fit.deep in omega (arith, deep);
    few = fit.few;
  }

  pub of-project : (child : PlainPlan) (columns : List PlainExpr) (c : Cuts) → IsFit streams (Project child columns) c → IsFit streams child c
  of-project child columns c fit = record {
    over = record { typed = typing.of_project kinds child columns fit.over.typed; are_cuts = fit.over.are_cuts };
    normal = (nowhere (λ x. Project x columns) (plan_step kinds child) _ fit.normal).0;
    spelled = fit.spelled.0;
    literals = fit.literals.0;
    deep = let deep = fit.deep in omega (arith, deep);
    few = fit.few;
  }

  pub of-distinct : (child : PlainPlan) (c : Cuts) → IsFit streams (Distinct child) c → IsFit streams child c
  of-distinct child c fit = record {
    over = record { typed = typing.of_distinct kinds child fit.over.typed; are_cuts = fit.over.are_cuts };
    normal = (nowhere Distinct (plan_step kinds child) None fit.normal).0;
    spelled = fit.spelled;
    literals = fit.literals;
    deep = let deep = fit.deep in omega (arith, deep);
    few = fit.few;
  }

  pub of-group : (child : PlainPlan) (keys : List ℕ) (aggs : List Agg) (c : Cuts) → IsFit streams (Group child keys aggs) c → IsFit streams child c
  of-group child keys aggs c fit = record {
    over = record { typed = typing.of_group kinds child keys aggs fit.over.typed; are_cuts = fit.over.are_cuts };
    normal = (nowhere (λ x. Group x keys aggs) (plan_step kinds child) None fit.normal).0;
    spelled = fit.spelled.0;
    literals = fit.literals;
    deep = let deep = fit.deep in omega (arith, deep);
    few = fit.few;
  }

  pub of-order : (child : PlainPlan) (keys : List Key) (c : Cuts) → IsFit streams (Order child keys) c → IsFit streams child c
  of-order child keys c fit = record {
    over = record { typed = typing.of_order kinds child keys fit.over.typed; are_cuts = fit.over.are_cuts };
    normal = (nowhere (λ x. Order x keys) (plan_step kinds child) None fit.normal).0;
    spelled = fit.spelled.0;
    literals = fit.literals;
    deep = let deep = fit.deep in omega (arith, deep);
    few = fit.few;
  }

  pub left-of-join : (left right : PlainPlan) (on : List (ℕ × ℕ)) (c : Cuts) → IsFit streams (Join left right on) c → IsFit streams left (lefts left c)
  left-of-join left right on c fit = record {
    over = record { typed = (typing.of_join kinds left right on fit.over.typed).0; are_cuts = left-cuts streams (leaves left) (leaves right) c fit.over.are_cuts };
    normal = (nowhere (λ x. Join x right on) (plan_step kinds left) _ fit.normal).0;
    spelled = fit.spelled.0;
    literals = fit.literals.0;
    deep = let deep = fit.deep in omega (arith, deep);
    few = let few = fit.few in omega (arith, few, length-append (leaves left) (leaves right));
  }

  pub right-of-join : (left right : PlainPlan) (on : List (ℕ × ℕ)) (c : Cuts) → IsFit streams (Join left right on) c → IsFit streams right (rights left c)
  right-of-join left right on c fit = record {
    over = record { typed = (typing.of_join kinds left right on fit.over.typed).1; are_cuts = right-cuts streams (leaves left) (leaves right) c fit.over.are_cuts };
    normal = (nowhere (λ y. Join left y on) (plan_step kinds right) None (nowhere (λ x. Join x right on) (plan_step kinds left) _ fit.normal).1).0;
    spelled = fit.spelled.1;
    literals = fit.literals.1;
    deep = let deep = fit.deep in omega (arith, deep);
    few = let few = fit.few in omega (arith, few, length-append (leaves left) (leaves right));
  }

  pub left-of-concat : (left right : PlainPlan) (c : Cuts) → IsFit streams (Concat left right) c → IsFit streams left (lefts left c)
  left-of-concat left right c fit = record {
    over = record { typed = (typing.of_concat kinds left right fit.over.typed).0; are_cuts = left-cuts streams (leaves left) (leaves right) c fit.over.are_cuts };
    normal = (nowhere (λ x. Concat x right) (plan_step kinds left) _ fit.normal).0;
    spelled = fit.spelled.0;
    literals = fit.literals.0;
    deep = let deep = fit.deep in omega (arith, deep);
    few = let few = fit.few in omega (arith, few, length-append (leaves left) (leaves right));
  }

  pub right-of-concat : (left right : PlainPlan) (c : Cuts) → IsFit streams (Concat left right) c → IsFit streams right (rights left c)
  right-of-concat left right c fit = record {
    over = record { typed = (typing.of_concat kinds left right fit.over.typed).1; are_cuts = right-cuts streams (leaves left) (leaves right) c fit.over.are_cuts };
    normal = (nowhere (Concat left) (plan_step kinds right) None (nowhere (λ x. Concat x right) (plan_step kinds left) _ fit.normal).1).0;
    spelled = fit.spelled.1;
    literals = fit.literals.1;
    deep = let deep = fit.deep in omega (arith, deep);
    few = let few = fit.few in omega (arith, few, length-append (leaves left) (leaves right));
  }

-- The rewriting that computes each node of a plan.
use Rattle.estimator.specs.Cuts.{Cuts}
use Rattle.plan_core.specs.PlainPlan.{PlainPlan}
use Rattle.plan_core.specs.PlainPlan as plan
use Rattle.rewrite_core.specs.IsRewriting.{lefts, rights}
use Rattle.rewrite_core.specs.PlainRewriting.{PlainRewriting, Node, Scan, One, Two}

abbrev pub computed : PlainPlan → Cuts → PlainRewriting
computed (plan.Scan stream) c = Node (plan.Scan stream) c Scan
computed (plan.Filter child test) c = Node (plan.Filter child test) c (One (computed child c))
computed (plan.Project child columns) c = Node (plan.Project child columns) c (One (computed child c))
computed (plan.Distinct child) c = Node (plan.Distinct child) c (One (computed child c))
computed (plan.Group child keys aggs) c = Node (plan.Group child keys aggs) c (One (computed child c))
computed (plan.Join left right on) c = Node (plan.Join left right on) c (Two (computed left (lefts left c)) (computed right (rights left c)))
computed (plan.Concat left right) c = Node (plan.Concat left right) c (Two (computed left (lefts left c)) (computed right (rights left c)))
computed (plan.Order child keys) c = Node (plan.Order child keys) c (One (computed child c))

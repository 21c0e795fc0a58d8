use Rattle.plan_core.specs.PlainPlan.{plan_of}
use Rattle.rewrite_core.proofs.Looking.{holds, never}
use Rattle.postfix_plans.proofs.Lists.{first_best, best_among}
use Rattle.postfix_plans.proofs.looking.+best_in.Goals.{else-comes_before-via-then-comes_before+else-is_further, else-comes_before-via-else-comes_before}
use Rattle.postfix_plans.proofs.looking.+best_in.Goals as goal

pub returns-then-is_further : goal.returns-then-is_further
returns-then-is_further t c =
    first_best c.args.results.now c.first-item.result (plan_of c.args.plan.now) c.args.cuts.now _ _ c.in-len1-up.len_at_least c.first-item.is (c.if-comes_before.ensures.0 holds) (c.if-is_further.ensures.0 holds)
    c.in_ok-hit-in-len1-up.ensures c.in_ok-best-in-len1-up.ensures

pub returns-else-comes_before : goal.returns-else-comes_before
returns-else-comes_before t c =
    best_among c.args.results.now c.first-item.result (plan_of c.args.plan.now) c.args.cuts.now _ c.in-len1-up.len_at_least c.first-item.is
    (λ comes further. elim c.else-comes_before.branch [
      | else-comes_before-via-then-comes_before+else-is_further w ↦ never (w.if-is_further.ensures.1 further)
      | else-comes_before-via-else-comes_before w ↦ never (w.if-comes_before.ensures.1 comes)
    ])
    c.in_ok-best-in-len1-up.ensures

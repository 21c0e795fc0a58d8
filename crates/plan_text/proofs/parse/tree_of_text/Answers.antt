use Rattle.std.proofs.Common.{rules}
use Rattle.plan_text.specs.PlainNamed.{tree_of}
use Rattle.plan_text.specs.PlanReading.{plan_at}
use Rattle.plan_text.specs.Draft.{limits}
use Rattle.plan_text.proofs.Whole.{means_some, none_means}
use Rattle.plan_text.proofs.parse.tree_of_text.Goals as goal

pub returns-in-Some : goal.returns-in-Some
returns-in-Some c = means_some tree_of (plan_at limits 32) c.args.text.now c.in-Some.tokens.items c.as_slice.result.now (search rules) c.as_slice.ensures.value c.whole_plan.result c.whole_plan.ensures

pub returns-in-None : goal.returns-in-None
returns-in-None c = none_means (plan_at limits 32) c.args.text.now (search rules)

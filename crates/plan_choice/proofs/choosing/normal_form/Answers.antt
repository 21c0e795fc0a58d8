use Rattle.std.proofs.Common.{IfOk, List, subst}
use Rattle.plan_core.specs.PlanTyping.{Kinds}
use Rattle.plan_canon.specs.Normal.{IsNormalFormOf}
use Rattle.plan_choice.proofs.choosing.normal_form.Goals as goal

pub returns : goal.returns
returns c = subst (λ (kinds : List Kinds). IfOk c.canon.result (λ normal. IsNormalFormOf kinds c.args.plan.plan normal.plan)) c.schemas.ensures c.canon.ensures.normal

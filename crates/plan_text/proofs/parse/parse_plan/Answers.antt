use Rattle.plan_text.proofs.Whole.{answer_plan, answer_none, answer_large}
use Rattle.plan_text.proofs.Texts.{plan_texts}
use Rattle.plan_text.proofs.parse.parse_plan.Goals as goal

pub returns-clause-found : goal.returns-clause-found
returns-clause-found c = answer_plan plan_texts c.args.text.now (λ plan. plan) c.plan_of_text.result c.plan_of_text.ensures

pub returns-clause-syntax : goal.returns-clause-syntax
returns-clause-syntax c = answer_none plan_texts c.args.text.now (λ plan. plan) c.plan_of_text.result c.plan_of_text.ensures

pub returns-clause-limit : goal.returns-clause-limit
returns-clause-limit c = answer_large plan_texts c.args.text.now (λ plan. plan) c.plan_of_text.result c.plan_of_text.ensures

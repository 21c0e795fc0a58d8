use Rattle.plan_text.specs.PlainNamed.{expr_of}
use Rattle.plan_text.proofs.Whole.{answer_plan, answer_none, answer_large}
use Rattle.plan_text.proofs.Texts.{expr_texts}
use Rattle.plan_text.proofs.parse.parse_expr.Goals as goal

pub returns-clause-found : goal.returns-clause-found
returns-clause-found c = answer_plan expr_texts c.args.text.now expr_of c.expr_of_text.result c.expr_of_text.ensures

pub returns-clause-syntax : goal.returns-clause-syntax
returns-clause-syntax c = answer_none expr_texts c.args.text.now expr_of c.expr_of_text.result c.expr_of_text.ensures

pub returns-clause-limit : goal.returns-clause-limit
returns-clause-limit c = λ what is.
    let s = answer_large expr_texts c.args.text.now expr_of c.expr_of_text.result c.expr_of_text.ensures what is in
    (s.2.0, (s.0, s.1, s.2.1))

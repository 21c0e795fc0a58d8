use Rattle.std.proofs.Common.{Ok, ap, map, ◌∙◌}
use Rattle.rows_core.specs.Value.{kind_of}
use Rattle.plan_core.specs.ExpressionKind.{IsTyped}
use Rattle.plan_core.specs.PlainExpr.{expr_of}
use Rattle.row_ops.proofs.Tests.{given_failed, given_passed, left_rest, typed_rest}
use Rattle.row_ops.proofs.filter.where_rows.Goals as goal

pub loop-row-preserved-in-Continue-branch-2 : goal.loop-row-preserved-in-Continue-branch-2
loop-row-preserved-in-Continue-branch-2 c =
    let at = c.loop-row in
    let steps = c.in-Some.ensures.steps in
    record {
      left = left_rest _ _ _ steps.0 _ _ at.invariant.left steps.1;
      typed = typed_rest _ _ _ steps.0 (λ row. IsTyped (map kind_of row) (expr_of c.args.test.now)) at.invariant.typed;
      given = given_passed _ _ _ steps.0 (expr_of c.args.test.now) _ at.kept.items at.invariant.given _ (c.in_ok-passes.ensures ∙ ap Ok c.if-branch.true) c.in_ok-push_row.ensures;
    }

pub loop-row-preserved : goal.loop-row-preserved
loop-row-preserved c =
    let at = c.loop-row in
    let steps = c.in-Some.ensures.steps in
    record {
      left = left_rest _ _ _ steps.0 _ _ at.invariant.left steps.1;
      typed = typed_rest _ _ _ steps.0 (λ row. IsTyped (map kind_of row) (expr_of c.args.test.now)) at.invariant.typed;
      given = given_failed _ _ _ steps.0 (expr_of c.args.test.now) _ at.kept.items at.invariant.given (c.in_ok-passes.ensures ∙ ap Ok c.if-branch.false);
    }

use Rattle.std.proofs.Common.{rules, sym, ap, ◌∙◌, subst, ◌≤◌, length, map, take, drop, All}
use Rattle.rows_core.specs.Value.{kind_of}
use Rattle.plan_core.specs.ExpressionKind.{IsTyped}
use Rattle.plan_core.specs.PlainExpr.{expr_of}
use Rattle.plan_core.specs.PlainPlan.{plan_of, leaf_count}
use Rattle.plan_laws.specs.TypedOn.{IsTypedOn}
use Rattle.plan_laws.proofs.TypedParts.{test_typed, columns_typed, join_parts, concat_parts, typed_as, meaning_as}
use Rattle.plan_evaluator.proofs.evaluator.+evaluate.Goals as goal

pub filter_rows-requires : goal.filter_rows-requires
filter_rows-requires n c =
    test_typed c.typed_plans_give_typed_rows.ensures (plan_of c.in-Filter.child.value) (expr_of c.in-Filter.test) c.args.lists.now c.items.result.now
    (subst (λ p. IsTypedOn (plan_of p) c.args.lists.now) c.in-Filter.is c.requires)
    (meaning_as c.deref.result.now _ _ _ c.in_ok-rows-in-Filter.rows c.deref.ensures c.items.ensures c.in_ok-rows-in-Filter.ensures)

pub project_rows-requires : goal.project_rows-requires
project_rows-requires n c =
    subst (λ columns. All (λ row. All (λ column. IsTyped (map kind_of row) (expr_of column)) columns) c.items-in-Project.result.now) (sym c.items-in-Project-2.ensures)
    (columns_typed c.typed_plans_give_typed_rows.ensures (plan_of c.in-Project.child.value) c.in-Project.columns c.args.lists.now c.items-in-Project.result.now
    (subst (λ p. IsTypedOn (plan_of p) c.args.lists.now) c.in-Project.is c.requires)
    (meaning_as c.deref-in-Project.result.now _ _ _ c.in_ok-rows-in-Project.rows c.deref-in-Project.ensures c.items-in-Project.ensures c.in_ok-rows-in-Project.ensures))

pub lists_of_parts-requires : goal.lists_of_parts-requires
lists_of_parts-requires n c =
    subst (λ p. leaf_count (plan_of p) ≤ length c.args.lists.now) (sym c.deref-in-Join.ensures)
    (join_parts (plan_of c.in-Join.left.value) (plan_of c.in-Join.right.value) c.in-Join.on c.args.lists.now (subst (λ p. IsTypedOn (plan_of p) c.args.lists.now) c.in-Join.is c.requires)).enough

pub evaluate-requires-in-Join : goal.evaluate-requires-in-Join
evaluate-requires-in-Join n c = (
  search rules,
  typed_as c.deref-in-Join-2.result.now c.in-Join.left.value c.in_ok-first-in-Join.first.now (take (leaf_count (plan_of c.in-Join.left.value)) c.args.lists.now) c.deref-in-Join-2.ensures
      (c.in_ok-first-in-Join.ensures.0 ∙ ap (λ p. take (leaf_count (plan_of p)) c.args.lists.now) c.deref-in-Join.ensures)
      (join_parts (plan_of c.in-Join.left.value) (plan_of c.in-Join.right.value) c.in-Join.on c.args.lists.now (subst (λ p. IsTypedOn (plan_of p) c.args.lists.now) c.in-Join.is c.requires)).left_typed,
)

pub evaluate-requires-in-Join-2 : goal.evaluate-requires-in-Join-2
evaluate-requires-in-Join-2 n c = (
  search rules,
  typed_as c.deref-in-Join-3.result.now c.in-Join.right.value c.in_ok-first-in-Join.others.now (drop (leaf_count (plan_of c.in-Join.left.value)) c.args.lists.now) c.deref-in-Join-3.ensures
      (c.in_ok-first-in-Join.ensures.1 ∙ ap (λ p. drop (leaf_count (plan_of p)) c.args.lists.now) c.deref-in-Join.ensures)
      (join_parts (plan_of c.in-Join.left.value) (plan_of c.in-Join.right.value) c.in-Join.on c.args.lists.now (subst (λ p. IsTypedOn (plan_of p) c.args.lists.now) c.in-Join.is c.requires)).right_typed,
)

pub lists_of_parts-requires-in-Concat : goal.lists_of_parts-requires-in-Concat
lists_of_parts-requires-in-Concat n c =
    subst (λ p. leaf_count (plan_of p) ≤ length c.args.lists.now) (sym c.deref-in-Concat.ensures)
    (concat_parts (plan_of c.in-Concat.left.value) (plan_of c.in-Concat.right.value) c.args.lists.now (subst (λ p. IsTypedOn (plan_of p) c.args.lists.now) c.in-Concat.is c.requires)).enough

pub evaluate-requires-in-Concat : goal.evaluate-requires-in-Concat
evaluate-requires-in-Concat n c = (
  search rules,
  typed_as c.deref-in-Concat-2.result.now c.in-Concat.left.value c.in_ok-first-in-Concat.first.now (take (leaf_count (plan_of c.in-Concat.left.value)) c.args.lists.now) c.deref-in-Concat-2.ensures
      (c.in_ok-first-in-Concat.ensures.0 ∙ ap (λ p. take (leaf_count (plan_of p)) c.args.lists.now) c.deref-in-Concat.ensures)
      (concat_parts (plan_of c.in-Concat.left.value) (plan_of c.in-Concat.right.value) c.args.lists.now (subst (λ p. IsTypedOn (plan_of p) c.args.lists.now) c.in-Concat.is c.requires)).left_typed,
)

pub evaluate-requires-in-Concat-2 : goal.evaluate-requires-in-Concat-2
evaluate-requires-in-Concat-2 n c = (
  search rules,
  typed_as c.deref-in-Concat-3.result.now c.in-Concat.right.value c.in_ok-first-in-Concat.others.now (drop (leaf_count (plan_of c.in-Concat.left.value)) c.args.lists.now) c.deref-in-Concat-3.ensures
      (c.in_ok-first-in-Concat.ensures.1 ∙ ap (λ p. drop (leaf_count (plan_of p)) c.args.lists.now) c.deref-in-Concat.ensures)
      (concat_parts (plan_of c.in-Concat.left.value) (plan_of c.in-Concat.right.value) c.args.lists.now (subst (λ p. IsTypedOn (plan_of p) c.args.lists.now) c.in-Concat.is c.requires)).right_typed,
)

-- The rows that the child gives have the kinds of its columns.
use Rattle.std.proofs.Common.{refl, sym, subst, [], ◌∷◌, map, All}
use Rattle.rows_core.specs.Value.{kind_of}
use Rattle.plan_core.specs.ExpressionKind.{IsTyped}
use Rattle.plan_core.specs.PlainExpr.{expr_of}
use Rattle.plan_core.specs.PlainPlan.{plan_of}
use Rattle.plan_laws.specs.TypedOn.{IsTypedOn}
use Rattle.plan_laws.proofs.TypedParts.{test_typed, columns_typed, meaning_as}
use Rattle.gathering.proofs.chain.+chain_rows.Goals as goal

pub filtered-requires : goal.filtered-requires
filtered-requires t c =
    test_typed c.typed_plans_give_typed_rows.ensures (plan_of c.in-Filter.child.value) (expr_of c.in-Filter.test) (c.args.rows.items ∷ []) c.in_ok-input-in-Filter.input.rows.items
    (subst (λ p. IsTypedOn (plan_of p) (c.args.rows.items ∷ [])) c.in-Filter.is c.requires.typed)
    (meaning_as c.deref.result.now _ _ _ _ c.deref.ensures refl c.in_ok-input-in-Filter.ensures.0)

pub projected-requires : goal.projected-requires
projected-requires t c =
    subst (λ columns. All (λ row. All (λ column. IsTyped (map kind_of row) (expr_of column)) columns) c.in_ok-input-in-Project.input.rows.items) (sym c.items.ensures)
    (columns_typed c.typed_plans_give_typed_rows.ensures (plan_of c.in-Project.child.value) c.in-Project.columns (c.args.rows.items ∷ []) c.in_ok-input-in-Project.input.rows.items
    (subst (λ p. IsTypedOn (plan_of p) (c.args.rows.items ∷ [])) c.in-Project.is c.requires.typed)
    (meaning_as c.deref-in-Project.result.now _ _ _ _ c.deref-in-Project.ensures refl c.in_ok-input-in-Project.ensures.0))

-- What the typing of plans rests on.
use Rattle.std.proofs.Common.{◌≡◌, refl, sym, ap, List, [], ◌∷◌, length, map, ◌==◌, true, false, None}
use Rattle.std.proofs.lemmas.List.{length-map}
use Rattle.plan_core.specs.declared.expr.Expr.{Expr}
use Rattle.plan_core.specs.PlainExpr.{expr_of}
use Rattle.plan_core.specs.PlanTyping.{Kinds, all_there, column_kind_of, project_kinds}

pub kinds_of_columns : (kinds : Kinds) (columns : List Expr)
    → map (λ e. column_kind_of kinds (expr_of e)) columns ≡ map (column_kind_of kinds) (map expr_of columns)
kinds_of_columns kinds [] = refl
kinds_of_columns kinds (e ∷ columns) = ap (λ ks. column_kind_of kinds (expr_of e) ∷ ks) (kinds_of_columns kinds columns)

pub project_kinds_of : (kinds : Kinds) (columns : List Expr) → (length columns == 0) ≡ false
    → project_kinds (map expr_of columns) kinds ≡ all_there (map (λ e. column_kind_of kinds (expr_of e)) columns)
project_kinds_of kinds columns some = rw (length-map columns expr_of, some) (ap all_there (sym (kinds_of_columns kinds columns)))

pub project_kinds_of_none : (kinds : Kinds) (columns : List Expr) → (length columns == 0) ≡ true → project_kinds (map expr_of columns) kinds ≡ None
project_kinds_of_none kinds columns none = rw (length-map columns expr_of, none) refl

-- those two
pub ruleset kinds_of_project = (project_kinds_of, project_kinds_of_none)

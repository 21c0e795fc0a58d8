-- The count, and the items so far.
use Rattle.std.proofs.Common.{◌≡◌, ◌++◌, map, take}
use Rattle.std.specs.List.{flat_map}
use Rattle.plan_core.specs.PlainExpr.{expr_of}
use Rattle.plan_spelling.specs.Spelling.{expr_spelling}
use Rattle.plan_spelling.proofs.spelling.put_exprs.Given as goal

abbrev pub invariant-loop-expr : goal.invariant-loop-expr
invariant-loop-expr l = l.out.items ≡ l.initial.out.items ++ flat_map expr_spelling (map expr_of (take l.expr-index l.exprs))

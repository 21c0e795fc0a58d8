-- Operations of two arguments, by what their typing says; and columns.
use Rattle.std.proofs.Common.{◌∙◌, subst, rules, map, IsSome}
use Rattle.rows_core.specs.Value.{kind_of}
use Rattle.plan_core.specs.PlainExpr.{expr_of}
use Rattle.plan_core.proofs.ExprLaws.{column_kind, typed_call, divides, call_of_two_kinds}
use Rattle.plan_core.proofs.evaluation.+ev.Goals as goal

pub call_of_two-requires-clause-kinds : goal.call_of_two-requires-clause-kinds
call_of_two-requires-clause-kinds t c =
    let typed = rw c.in-Call2.is at c.requires in
    let left = rw c.deref-in-Call2.ensures at c.in_ok-left-in-Call2.ensures.kind in
    let right = rw c.deref-in-Call2-2.ensures at c.in_ok-right-in-Call2.ensures.kind in
    subst IsSome (call_of_two_kinds (map kind_of c.args.row.now) c.in-Call2.number (expr_of c.in-Call2.left.value) (expr_of c.in-Call2.right.value) _ _ typed left right) typed

pub call_of_two-requires-clause-divisor : goal.call_of_two-requires-clause-divisor
call_of_two-requires-clause-divisor t c =
    let typed = rw c.in-Call2.is at c.requires in
    let known = typed_call (map kind_of c.args.row.now) c.in-Call2.number (expr_of c.in-Call2.left.value) (expr_of c.in-Call2.right.value) typed in
    divides _ (expr_of c.in-Call2.right.value) c.args.row.now _ _ known.divisor (rw c.deref-in-Call2-2.ensures at c.in_ok-right-in-Call2.ensures.meaning)

pub returns-in_ok-column_cell-in-Column-clause-kind : goal.returns-in_ok-column_cell-in-Column-clause-kind
returns-in_ok-column_cell-in-Column-clause-kind t c = search (rules, column_kind)

pub returns-in_ok-call_of_two-in-Call2-clause-kind : goal.returns-in_ok-call_of_two-in-Call2-clause-kind
returns-in_ok-call_of_two-in-Call2-clause-kind t c =
    let typed = rw c.in-Call2.is at c.requires in
    let left = rw c.deref-in-Call2.ensures at c.in_ok-left-in-Call2.ensures.kind in
    let right = rw c.deref-in-Call2-2.ensures at c.in_ok-right-in-Call2.ensures.kind in
    rw c.in-Call2.is (call_of_two_kinds (map kind_of c.args.row.now) c.in-Call2.number (expr_of c.in-Call2.left.value) (expr_of c.in-Call2.right.value) _ _ typed left right ∙ c.in_ok-call_of_two-in-Call2.ensures.kind)

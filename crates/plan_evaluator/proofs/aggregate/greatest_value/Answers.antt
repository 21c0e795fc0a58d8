use Rattle.std.proofs.Common.{rules, sym, ap, ◌∙◌, [], ◌∷◌, ◌++◌}
use Rattle.plan_core.specs.Aggregate.{values_of, greatest_value}
use Rattle.plan_evaluator.proofs.Loops.{greatest_step, from_last}
use Rattle.plan_evaluator.proofs.aggregate.greatest_value.Goals as goal

pub loop-row-init : goal.loop-row-init
loop-row-init c =
    from_last greatest_value c.args.column c.args.rows.now c.in-Some.others.now c.in-Some.last.now c.in_ok-greatest.greatest (search rules) c.in_ok-greatest.ensures

pub loop-row-preserved : goal.loop-row-preserved
loop-row-preserved c =
    c.loop-row.invariant
    ∙ greatest_step c.args.column c.loop-row.rest.now c.in-Some-split_last.front.now c.in-Some-split_last.row.now c.in_ok-column_of.field-0 c.loop-row.greatest (search rules) c.in_ok-column_of.ensures
    ∙ ap (λ v. greatest_value (values_of c.args.column c.in-Some-split_last.front.now ++ v ∷ [])) (sym c.greater-greatest.ensures)

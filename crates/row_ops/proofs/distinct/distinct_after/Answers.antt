use Rattle.std.proofs.Common.{◌∙◌, ap, not, subst}
use Rattle.std.specs.List.{filter}
use Rattle.plan_core.specs.Columns.{Rows}
use Rattle.row_ops.proofs.Sets.{LendsThoseOf, if_ok_then, left_new, lends}
use Rattle.row_ops.proofs.distinct.distinct_after.Goals as goal

pub returns : goal.returns
returns c =
    let first = c.in_ok-new.ensures in
    let lent = subst (λ (set : Rows). LendsThoseOf set c.in_ok-known.known.keys c.args.old.now) first c.in_ok-known.ensures in
    if_ok_then _ _ c.rows_of_set.result
    (λ new is. is ∙ c.leave_out.ensures ∙ ap (filter (λ row. not (lends c.in_ok-known.known.keys row))) first ∙ left_new c.args.old.now c.args.rows.items c.in_ok-known.known.keys lent)
    c.rows_of_set.ensures

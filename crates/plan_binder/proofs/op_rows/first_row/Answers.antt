use Rattle.std.proofs.Common.{◌∙◌, ap, unwrap_or}
use Rattle.scalar_ops.specs.Table.{same_op}
use Rattle.plan_binder.specs.OpRows.{first_row}
use Rattle.plan_binder.proofs.OpRowLaws.{place_below}
use Rattle.plan_binder.proofs.op_rows.first_row.Goals as goal

pub number_of-requires : goal.number_of-requires
number_of-requires c = place_below (λ row. same_op row.op c.args.op) c.first_in.result c.first_in.ensures

pub returns : goal.returns
unfolding first_row
returns c = c.unwrap_or.ensures ∙ ap (λ o. unwrap_or o 0) (c.number_of.ensures ∙ c.first_in.ensures)

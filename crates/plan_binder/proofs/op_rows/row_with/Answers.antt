use Rattle.std.proofs.Common.{◌∙◌}
use Rattle.scalar_ops.specs.Table.{is_row_for}
use Rattle.plan_binder.specs.OpRows.{row_with}
use Rattle.plan_binder.proofs.OpRowLaws.{place_below}
use Rattle.plan_binder.proofs.op_rows.row_with.Goals as goal

pub number_of-requires : goal.number_of-requires
number_of-requires c = place_below (is_row_for c.args.op c.args.kinds.now) c.find.result c.find.ensures

pub returns : goal.returns
unfolding row_with
returns c = c.number_of.ensures ∙ c.find.ensures

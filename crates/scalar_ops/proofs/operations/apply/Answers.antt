-- Rows from 24 on take two truth values, and two truth values are what is matched.
use Rattle.std.proofs.Common.{rules, ◌≡◌, ◌∙◌, ap, length, arith}
use Rattle.scalar_ops.proofs.TruthRows.{truth_row, two_truths}
use Rattle.scalar_ops.proofs.operations.apply.Goals as goal
use Rattle.scalar_ops.proofs.operations.apply.Goals.{in_default-via-then-cells-lt2, in_default-via-else-cells-lt2+then-cells-lt3+in-Bool+in-Int-1, in_default-via-else-cells-lt2+then-cells-lt3+in-Int-1, in_default-via-else-cells-lt2+else-cells-lt3}

pub unreachable-requires : goal.unreachable-requires
unreachable-requires c =
    let row = truth_row c.args.row c.if-row-lt-FIRST_OF_TRUTHS.false c.requires.row in
    let two = two_truths c.args.cells.now (c.requires.kinds ∙ row.kinds) in
    let two_long : length c.args.cells.now ≡ 2 = ap length two.are in
    elim c.in_default.branch [
      | in_default-via-then-cells-lt2 w ↦ search rules
      | in_default-via-else-cells-lt2+then-cells-lt3+in-Bool+in-Int-1 w ↦ search (rules, two.are)
      | in_default-via-else-cells-lt2+then-cells-lt3+in-Int-1 w ↦ search (rules, two.are)
      | in_default-via-else-cells-lt2+else-cells-lt3 w ↦ search rules
    ]

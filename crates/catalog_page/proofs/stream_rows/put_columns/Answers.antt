use Rattle.catalog_page.specs.Page.{column_pieces}
use Rattle.catalog_page.proofs.Written.{rows_start, rows_more, rows_end}
use Rattle.catalog_page.proofs.stream_rows.put_columns.Goals as goal

pub loop-column-init : goal.loop-column-init
loop-column-init c = rows_start _

pub loop-column-preserved : goal.loop-column-preserved
loop-column-preserved c =
    rows_more column_pieces _ _ _ _ _ _ c.loop-column-test.true c.column-item.is c.loop-column.invariant c.in_ok-put_column.ensures

pub returns : goal.returns
returns c = rows_end column_pieces _ _ _ _ c.loop-column-test.false c.loop-column.invariant

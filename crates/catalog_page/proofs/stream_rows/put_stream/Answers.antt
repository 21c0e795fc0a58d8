use Rattle.catalog_page.specs.Page.{stream_row}
use Rattle.catalog_page.proofs.Written.{puts}
use Rattle.catalog_page.proofs.stream_rows.put_stream.Goals as goal

pub returns : goal.returns
unfolding stream_row
returns c =
    let columns = rw c.columns.ensures.columns at c.in_ok-put_columns.ensures in
    puts _ _ _ _ _ (puts _ _ _ _ _ c.in_ok-put_stream_head.ensures columns) c.in_ok-put_stream_numbers.ensures

use Rattle.catalog_page.specs.Page.{result_row}
use Rattle.catalog_page.proofs.Written.{puts}
use Rattle.catalog_page.proofs.result_rows.put_result.Goals as goal

pub returns : goal.returns
unfolding result_row
returns c =
    let cuts = rw c.items.ensures at c.in_ok-put_cuts.ensures in
    puts _ _ _ _ _ (puts _ _ _ _ _ (puts _ _ _ _ _ (puts _ _ _ _ _ c.in_ok-put_result_head.ensures c.in_ok-put_plan.ensures)
    c.in_ok-put_fragment.ensures) cuts) c.in_ok-put_result_numbers.ensures

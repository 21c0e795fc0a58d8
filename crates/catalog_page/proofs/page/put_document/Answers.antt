use Rattle.catalog_page.specs.Page.{document}
use Rattle.catalog_page.proofs.Written.{puts}
use Rattle.catalog_page.proofs.page.put_document.Goals as goal

pub returns : goal.returns
unfolding document
returns c =
    puts _ _ _ _ _ (puts _ _ _ _ _ (puts _ _ _ _ _ (puts _ _ _ _ _ (puts _ _ _ _ _ (puts _ _ _ _ _
    c.in_ok-put_head.ensures c.in_ok-put_streams.ensures) c.in_ok-put_fragment.ensures) c.in_ok-put_programs.ensures)
    c.in_ok-put_fragment-2.ensures) c.in_ok-put_results.ensures) c.in_ok-put_fragment-3.ensures

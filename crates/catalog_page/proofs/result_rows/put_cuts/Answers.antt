use Rattle.catalog_page.specs.Page.{cut_pieces}
use Rattle.catalog_page.proofs.Written.{rows_start, rows_more, rows_end}
use Rattle.catalog_page.proofs.result_rows.put_cuts.Goals as goal

pub loop-cut-init : goal.loop-cut-init
loop-cut-init c = rows_start _

pub loop-cut-preserved : goal.loop-cut-preserved
loop-cut-preserved c =
    rows_more (cut_pieces c.args.catalogue.now.streams.items) _ _ _ _ _ _ c.loop-cut-test.true c.cut-item.is c.loop-cut.invariant c.in_ok-put_cut.ensures

pub returns : goal.returns
returns c = rows_end (cut_pieces c.args.catalogue.now.streams.items) _ _ _ _ c.loop-cut-test.false c.loop-cut.invariant

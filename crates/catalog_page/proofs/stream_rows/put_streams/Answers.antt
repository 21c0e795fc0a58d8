use Rattle.std.proofs.Common.{map}
use Rattle.catalog_page.specs.Plain.{kept_of}
use Rattle.catalog_page.specs.Page.{stream_row}
use Rattle.catalog_page.proofs.Written.{rows_start, rows_more, rows_end}
use Rattle.catalog_page.proofs.stream_rows.put_streams.Goals as goal

pub loop-stream-init : goal.loop-stream-init
loop-stream-init c = rows_start _

pub loop-stream-preserved : goal.loop-stream-preserved
loop-stream-preserved c =
    let same = c.deref-stream-items.ensures.value in
    rows_more (stream_row (map kept_of c.args.catalogue.now.results.items)) _ _ _ _ _ _ (rw same at c.loop-stream-test.true) (rw same at c.stream-item.is) c.loop-stream.invariant c.in_ok-put_stream.ensures

pub returns : goal.returns
returns c =
    let same = c.deref-stream-items.ensures.value in
    rows_end (stream_row (map kept_of c.args.catalogue.now.results.items)) _ _ _ _ (rw same at c.loop-stream-test.false) c.loop-stream.invariant

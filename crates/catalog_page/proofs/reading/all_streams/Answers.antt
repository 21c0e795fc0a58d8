use Rattle.serde_json.specs.View.{view}
use Rattle.catalog_page.specs.Told.{stream_in}
use Rattle.catalog_page.proofs.Lists.{finds_seen}
use Rattle.catalog_page.proofs.reading.all_streams.Goals as goal

pub returns : goal.returns
returns c = finds_seen (λ v. v.items) c.each_stream.result stream_in view c.args.values.now c.each_stream.ensures

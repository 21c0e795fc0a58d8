use Rattle.serde_json.specs.View.{view}
use Rattle.catalog_page.specs.declared.key.Key.TheVariants as key
use Rattle.catalog_page.specs.Told.{stream_in}
use Rattle.catalog_page.proofs.Lists.{each_tells}
use Rattle.catalog_page.proofs.reading.streams_of.Goals as goal

pub returns : goal.returns
returns c = each_tells (λ v. v.items) key.Streams stream_in (view c.args.value.now) _ c.all_streams-found.result c.located.result c.in_ok-values.ensures c.all_streams-found.ensures c.located.ensures

use Rattle.serde_json.specs.View.{view}
use Rattle.catalog_page.specs.Told.{cut}
use Rattle.catalog_page.proofs.Lists.{finds_seen}
use Rattle.catalog_page.proofs.lines.all_cuts.Goals as goal

pub returns : goal.returns
returns c = finds_seen (λ cuts. cuts.items) c.cuts_of.result (cut c.args.key) view c.args.values.now c.cuts_of.ensures

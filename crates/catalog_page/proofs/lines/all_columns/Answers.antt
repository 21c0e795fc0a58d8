use Rattle.serde_json.specs.View.{view}
use Rattle.catalog_page.specs.Told.{column}
use Rattle.catalog_page.proofs.Lists.{finds_seen}
use Rattle.catalog_page.proofs.lines.all_columns.Goals as goal

pub returns : goal.returns
returns c = finds_seen (λ columns. columns.items) c.columns_of.result (column c.args.key) view c.args.values.now c.columns_of.ensures

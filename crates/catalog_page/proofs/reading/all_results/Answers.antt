use Rattle.std.proofs.Common.{◌+◌, map}
use Rattle.catalog_page.specs.Plain.{kept_of}
use Rattle.serde_json.specs.View.{view}
use Rattle.catalog_page.specs.Told.{kept_in}
use Rattle.catalog_page.proofs.Lists.{finds_seen}
use Rattle.catalog_page.proofs.reading.all_results.Goals as goal

pub returns : goal.returns
returns c = finds_seen (λ v. map kept_of v.items) c.each_result.result (kept_in (c.args.tick + 1)) view c.args.values.now c.each_result.ensures

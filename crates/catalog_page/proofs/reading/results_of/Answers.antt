use Rattle.std.proofs.Common.{◌+◌, map}
use Rattle.catalog_page.specs.Plain.{kept_of}
use Rattle.serde_json.specs.View.{view}
use Rattle.catalog_page.specs.declared.key.Key.TheVariants as key
use Rattle.catalog_page.specs.Told.{kept_in}
use Rattle.catalog_page.proofs.Lists.{each_tells}
use Rattle.catalog_page.proofs.reading.results_of.Goals as goal

pub returns : goal.returns
returns c = each_tells (λ v. map kept_of v.items) key.Entries (kept_in (c.args.tick + 1)) (view c.args.value.now) _ c.all_results-found.result c.located.result c.in_ok-values.ensures c.all_results-found.ensures c.located.ensures

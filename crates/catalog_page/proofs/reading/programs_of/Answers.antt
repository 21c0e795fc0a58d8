use Rattle.serde_json.specs.View.{view}
use Rattle.catalog_page.specs.declared.key.Key.TheVariants as key
use Rattle.catalog_page.specs.Told.{program_in}
use Rattle.catalog_page.proofs.Lists.{each_tells}
use Rattle.catalog_page.proofs.reading.programs_of.Goals as goal

pub returns : goal.returns
returns c = each_tells (λ v. v.items) key.Programs program_in (view c.args.value.now) _ c.all_programs-found.result c.located.result c.in_ok-values.ensures c.all_programs-found.ensures c.located.ensures

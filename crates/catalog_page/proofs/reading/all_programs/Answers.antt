use Rattle.serde_json.specs.View.{view}
use Rattle.catalog_page.specs.Told.{program_in}
use Rattle.catalog_page.proofs.Lists.{finds_seen}
use Rattle.catalog_page.proofs.reading.all_programs.Goals as goal

pub returns : goal.returns
returns c = finds_seen (λ v. v.items) c.each_program.result program_in view c.args.values.now c.each_program.ensures

use Rattle.catalog_page.specs.Plain.{catalogue_of}
use Rattle.catalog_page.proofs.line.page_of_line.Goals as goal

pub returns-clause-page : goal.returns-clause-page
returns-clause-page c = record {
  catalogue = catalogue_of c.in_ok-catalogue.catalogue;
  is_told = c.in_ok-catalogue.ensures;
  page_is = c.in_ok-page.ensures;
}

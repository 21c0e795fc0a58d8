-- What the page of a line is.
use Rattle.std.specs.Prelude.{◌≡◌, ℕ, List, map, Ok}
use Rattle.std.specs.List.Sorted.{IsPermutation}
use Rattle.catalog_page.specs.declared.catalogue.Catalogue.{Catalogue}
use Rattle.catalog_page.specs.declared.catalogue.Kept.{Kept}
use Rattle.catalog_page.specs.declared.catalogue.Keyed.{Keyed}
use Rattle.catalog_page.specs.Markup.{written}
use Rattle.catalog_page.specs.Order.{AreInOrder}
use Rattle.catalog_page.specs.Page.{document}
use Rattle.catalog_page.specs.Plain.{PlainCatalogue, kept_of}
use Rattle.catalog_page.specs.ProgramKeys.{AreKeyed}
use Rattle.catalog_page.specs.Told.{told}

-- the document of its streams, of its programs with their keys, and of its kept results in the order in which a collection at
-- the next tick takes them
pub record IsPageOfCatalogue (catalogue : PlainCatalogue) (page : List ℕ) : Type 0 where
  pub results : List Kept
  pub same : IsPermutation catalogue.results (map kept_of results)
  pub in_order : AreInOrder results
  pub programs : List Keyed
  pub keyed : AreKeyed catalogue.streams catalogue.programs programs
  pub is : page ≡ written (document catalogue.streams programs (map kept_of results) catalogue.tick)

-- the page of the catalogue that the line tells
pub record IsPageOf (line : List ℕ) (page : List ℕ) : Type 0 where
  pub catalogue : PlainCatalogue
  pub is_told : told line ≡ Ok catalogue
  pub page_is : IsPageOfCatalogue catalogue page

-- the same with its kept results in order
pub record IsOrdered (before after : Catalogue) : Type 0 where
  pub streams : after.streams.items ≡ before.streams.items
  pub programs : after.programs.items ≡ before.programs.items
  pub tick : after.tick ≡ before.tick
  pub same : IsPermutation before.results.items after.results.items
  pub in_order : AreInOrder after.results.items

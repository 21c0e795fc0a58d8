-- The order in which a collection takes kept results: the greater ratio first, the length of the file times the ticks since its last
-- use by its uses times its machine time, and of the same ones the smaller id.
use Rattle.std.specs.Prelude.{List}
use Rattle.std.specs.List.Sorted.{IsSortedByKey}
use Rattle.collector.specs.Candidates.{standing}
use Rattle.collector.specs.Standing.{standing_cmp}
use Rattle.catalog_page.specs.declared.catalogue.Kept.{Kept}

abbrev pub AreInOrder : List Kept → Type 0
AreInOrder = IsSortedByKey (λ k. standing k.standing) standing_cmp

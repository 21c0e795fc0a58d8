use Rattle.std.proofs.Common.{◌∙◌, sym, ap, map, Option, List, Ok}
use Rattle.serde_json.specs.Data.{Data, Items}
use Rattle.serde_json.specs.View.{view}
use Rattle.std.specs.Option.{option_map}
use Rattle.catalog_page.specs.Told.{items, or_else, list_of}
use Rattle.catalog_page.proofs.Lists.{list_of-items_of}
use Rattle.catalog_page.proofs.values.items.Goals as goal

pub returns-in-Some : goal.returns-in-Some
unfolding items
returns-in-Some c =
    ap (λ (o : Option Items). or_else c.args.key (option_map list_of o)) (sym c.in-Some.ensures)
    ∙ ap (λ (l : List Data). Ok l) (list_of-items_of (map view c.in-Some.values.now.items) ∙ ap (map view) (sym c.as_slice.ensures.value))

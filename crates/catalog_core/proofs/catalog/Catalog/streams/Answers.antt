use Rattle.std.proofs.Common.{◌∙◌, ap, map}
use Rattle.catalog_core.specs.Streams.{name_of, columns_of}
use Rattle.catalog_core.proofs.Places.{names-states, columns-states}
use Rattle.catalog_core.proofs.catalog.Catalog.streams.Goals as goal

pub returns-clause-names : goal.returns-clause-names
returns-clause-names c =
    ap (λ streams. map name_of streams) c.as_slice.ensures.value ∙ names-states c.args.self.now.streams.items

pub returns-clause-columns : goal.returns-clause-columns
returns-clause-columns c =
    ap (λ streams. map columns_of streams) c.as_slice.ensures.value ∙ columns-states c.args.self.now.streams.items

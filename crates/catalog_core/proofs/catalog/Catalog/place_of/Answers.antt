use Rattle.std.proofs.Common.{◌∙◌}
use Rattle.catalog_core.proofs.Places.{place-is}
use Rattle.catalog_core.proofs.catalog.Catalog.place_of.Goals as goal

pub returns-clause-place : goal.returns-clause-place
returns-clause-place c =
    c.get_index_of.ensures.index ∙ place-is c.args.self.now.names.keys c.args.self.now.streams.items c.args.name.now c.args.self.now.named

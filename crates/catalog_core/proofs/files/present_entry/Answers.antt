use Rattle.std.proofs.Common.{sym, ap, ◌∙◌}
use Rattle.std.specs.Option.{option_copied}
use Rattle.catalog_core.specs.Catalogs.{table_of}
use Rattle.catalog_core.proofs.AskedResults.{none-there}
use Rattle.catalog_core.proofs.files.present_entry.Goals as goal

pub unreachable-requires : goal.unreachable-requires
unreachable-requires c =
    none-there (table_of c.args.catalog.now).entries c.args.id (sym c.entry.ensures ∙ ap option_copied c.in-None.is) c.requires

use Rattle.std.proofs.Common.{List, sym, subst}
use Rattle.std.specs.List.{AllByRecursion}
use Rattle.catalog_types.specs.PlainEntry.{PlainEntry}
use Rattle.catalog_types.specs.declared.program.Program.{Program}
use Rattle.catalog_types.specs.declared.snapshot.StreamState.{StreamState}
use Rattle.catalog_core.specs.Catalogs.{table_of}
use Rattle.catalog_line.specs.Readable.{IsReadable, HasStreams}
use Rattle.catalog_line.proofs.ReadableLemmas.{programs-are_readable, entries-have_streams}
use Rattle.catalog_line.proofs.line.catalog_value.Goals as goal

pub entries_value-requires : goal.entries_value-requires
entries_value-requires c =
    subst (λ (s : List StreamState). AllByRecursion (HasStreams s) c.entries.result.now) (sym c.streams.ensures.states)
    (subst (λ (e : List PlainEntry). AllByRecursion (HasStreams (table_of c.args.catalog.now).streams) e) (sym c.entries.ensures.entries) (entries-have_streams (table_of c.args.catalog.now) c.streams.ensures.table))

pub programs_value-requires : goal.programs_value-requires
programs_value-requires c = subst (λ (p : List Program). AllByRecursion IsReadable p) (sym c.programs.ensures) (programs-are_readable (table_of c.args.catalog.now) c.streams.ensures.table)

use Rattle.std.proofs.Common.{sym, subst}
use Rattle.rewrite_core.specs.Entries.{AreSound}
use Rattle.catalog_core.specs.Catalogs.{table_of}
use Rattle.plan_choice.proofs.choosing.cheapest.Goals as goal

pub least-requires-clause-sound : goal.least-requires-clause-sound
least-requires-clause-sound c = subst AreSound (sym c.results.ensures.entries) c.results.ensures.sound

pub least-requires-clause-cuts : goal.least-requires-clause-cuts
least-requires-clause-cuts c = c.cuts_of_tables.ensures.cuts (table_of c.args.catalog.now) c.args.plan.now.plan c.args.cuts.now c.requires

use Rattle.std.proofs.Common.{refl, []}
use Rattle.entry_table.specs.Work.{none_kept}
use Rattle.catalog_core.proofs.Kept.{change-keeps}
use Rattle.catalog_core.proofs.Places.{first-table}
use Rattle.catalog_core.proofs.laws.tables_stay_tables.Goals as goal

pub returns-clause-first : goal.returns-clause-first
returns-clause-first c = first-table [] [] none_kept refl refl refl

pub returns-clause-kept : goal.returns-clause-kept
returns-clause-kept c = change-keeps

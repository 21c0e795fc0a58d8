-- The bodies of a log lead to a table.
use Rattle.std.proofs.Common.{refl, sym, subst, ℕ, Bool, List, [], ◌∷◌}
use Rattle.outside_traits.specs.View.{View}
use Rattle.entry_table.specs.Work.{none_kept}
use Rattle.record_codec.specs.declared.form.Form.{Form}
use Rattle.record_codec.specs.Forms.{newest}
use Rattle.catalog_core.specs.IsTable.{IsTable}
use Rattle.catalog_core.specs.Table.{Table, empty_table, after}
use Rattle.catalog_core.proofs.Kept.{change-keeps}
use Rattle.catalog_core.proofs.Places.{first-table}
use Rattle.journal_store.specs.declared.journal.Journal.{Journal}
use Rattle.folder.specs.Replay.{Replays, due_in}
use Rattle.folder.specs.Standing.{Stands}

replays-table : (f : Form) (due : Bool) (t t' : Table) (bodies : List (List ℕ)) → Replays f due t bodies t' → IsTable t → IsTable t'
replays-table f due t t' [] run is = subst IsTable (sym run.1) is
replays-table f due t t' (body ∷ more) run is = replays-table f _ (after run.0 t) t' more run.3 (change-keeps run.0 t run.2.1 is)

pub stands-table : (v : View) (t : Table) (journal : Journal) → Stands v t journal → IsTable t
stands-table v t journal stands = replays-table newest (due_in stands.generation) empty_table t stands.bodies stands.replays (first-table [] [] none_kept refl refl refl)

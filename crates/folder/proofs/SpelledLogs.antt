-- The table to which a log leads has a spelling as a checkpoint.
use Rattle.std.proofs.Common.{ℕ, Bool, false, List, [], ◌∷◌, refl, sym, subst}
use Rattle.record_codec.specs.declared.form.Form.{Form}
use Rattle.record_codec.proofs.Newer.{newer}
use Rattle.catalog_core.specs.IsTable.{IsTable}
use Rattle.catalog_core.specs.Table.{Table, empty_table, after}
use Rattle.catalog_core.proofs.Kept.{change-keeps}
use Rattle.catalog_core.proofs.Places.{first-table}
use Rattle.entry_table.specs.Work.{none_kept}
use Rattle.folder.specs.Spelled.{IsSpelledTable}
use Rattle.folder.proofs.Staying.{stays-spelled}
use Rattle.folder.specs.Replay.{Replays}

empty_is_table : IsTable empty_table
empty_is_table = first-table [] [] none_kept refl refl refl

first_spelled : IsSpelledTable empty_table
first_spelled = record { streams = tt; programs = tt; entries = tt }

replays_table : (f : Form) (due : Bool) (t : Table) (bodies : List (List ℕ)) (t' : Table) → IsTable t → IsSpelledTable t → Replays f due t bodies t' → IsTable t' × IsSpelledTable t'
replays_table f due t [] t' is spelled run = (subst IsTable (sym run.1) is, subst IsSpelledTable (sym run.1) spelled)
replays_table f due t (body ∷ more) t' is spelled run =
    replays_table f false (after run.0 t) more t' (change-keeps run.0 t run.2.1 is) (stays-spelled run.0 t (newer f run.0 run.1.0.0) run.2.1 is spelled) run.3

pub log_table : (f : Form) (due : Bool) (bodies : List (List ℕ)) (t : Table) → Replays f due empty_table bodies t → IsTable t
log_table f due bodies t run = (replays_table f due empty_table bodies t empty_is_table first_spelled run).0

pub log_spelled : (f : Form) (due : Bool) (bodies : List (List ℕ)) (t : Table) → Replays f due empty_table bodies t → IsSpelledTable t
log_spelled f due bodies t run = (replays_table f due empty_table bodies t empty_is_table first_spelled run).1

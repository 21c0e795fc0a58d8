-- The table and the journal of a folder that was loaded.
use Rattle.std.specs.Prelude.{◌≡◌, ℕ, length, Result, Ok, Err, Vec, ⊤}
use Rattle.std.specs.declared.alloc.Global.{Global}
use Rattle.outside_traits.specs.View.{View}
use Rattle.gated_log.specs.Logs.{contents}
use Rattle.catalog_core.specs.Table.{Table, empty_table}
use Rattle.catalog_core.specs.Catalogs.{table_of}
use Rattle.catalog_core.specs.declared.catalog.Catalog.{Catalog}
use Rattle.journal_store.specs.declared.journal.Journal.{Journal}
use Rattle.journal_store.specs.Readings.{generation_file}
use Rattle.journal_store.specs.Journals.{generation_of}
use Rattle.journal_store.specs.declared.refusal.JournalRefusal.{JournalRefusal}
use Rattle.folder.specs.State.{State}
use Rattle.folder.specs.Replay.{Replays, StopsReplay, due_in, form_in}
use Rattle.folder.specs.Refusals.{journal_as}
use Rattle.folder.specs.Sound.{Care}
use Rattle.folder.specs.Standing.{StandsIn, MeansIn, Stands, Means}
use Rattle.folder.specs.declared.folder.Folder.{Folder}
use Rattle.folder.specs.declared.found.Found.{Found}
use Rattle.folder.specs.declared.refusal.LoadRefusal.{LoadRefusal}
use Rattle.folder.specs.declared.refusal.LoadRefusal.TheVariants.{Fault, NotAStore, Memory}

abbrev pub catalog_of : Folder → Catalog
catalog_of folder = folder.catalog

abbrev pub journal_of : Folder → Journal
journal_of folder = folder.journal

abbrev pub table_in : Folder → Table
table_in folder = table_of folder.catalog

-- after each crash now the logs read as the folder's table
abbrev pub FolderStands : View → Folder → Type 0
FolderStands v folder = Stands v (table_in folder) (journal_of folder)

-- it means this state, with which the store is left
abbrev pub FolderMeans : Care → View → Folder → State → Type 0
FolderMeans care v folder s = Means care v (table_in folder) (journal_of folder) s

-- ---- what was found may be of an older form

abbrev pub FoundStands : View → Found → Type 0
FoundStands v found = StandsIn found.form v (table_in found.folder) (journal_of found.folder)

abbrev pub FoundMeans : Care → View → Found → State → Type 0
FoundMeans care v found s = MeansIn found.form care v (table_in found.folder) (journal_of found.folder) s

-- What was read of the journal leads to this folder, or to this refusal.
abbrev pub Gives : Result (Journal × Vec (Vec ℕ Global) Global) JournalRefusal → Result Found LoadRefusal → Type 0
Gives (Ok r) (Ok found) =
    (journal_of found.folder ≡ r.0)
    × Replays (form_in (contents r.1.items)) (due_in (generation_of r.0)) empty_table (contents r.1.items) (table_in found.folder)
    × (found.bodies ≡ length r.1.items) × (found.form ≡ form_in (contents r.1.items))
Gives (Ok r) (Err Fault) = ⊥
Gives (Ok r) (Err (NotAStore file at)) =
    (file ≡ generation_file (generation_of r.0))
    × StopsReplay (form_in (contents r.1.items)) (due_in (generation_of r.0)) empty_table 8 (contents r.1.items) at
Gives (Ok r) (Err Memory) = ⊤
Gives (Err why) (Ok found) = ⊥
Gives (Err why) (Err refusal) = refusal ≡ journal_as why

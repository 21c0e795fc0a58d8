-- The files of a store that its folder doesn't name.
use Rattle.std.specs.Prelude.{◌⊎◌, ℕ, List, [], ◌∷◌, ◌++◌}
use Rattle.outside_traits.specs.Runs.{Spans}
use Rattle.outside_traits.specs.View.{View}
use Rattle.folder.specs.Strays.{IsStray, OnlyNamed}
use Rattle.catalog_core.specs.OwnFiles.{files_in}
use Rattle.catalog_core.specs.Table.{Table}
use Rattle.journal_store.specs.Journals.{generation_of}
use Rattle.journal_store.specs.Readings.{generation_file, users_file, IsJournalFile, IsUnfinished}
use Rattle.folder.specs.Folders.{journal_of, table_in}
use Rattle.folder.specs.Replay.{ReadsAs}
use Rattle.folder.specs.declared.folder.Folder.{Folder}

-- the root names a generation
abbrev pub HasRoot : (ℕ → List ℕ) → Type 0
HasRoot files = IsUnfinished (files 0) → ⊥

-- the files of the table's extents and kept results, the root, the log of this generation, and the users' file
abbrev pub named_by : ℕ → Table → List ℕ
named_by generation t = files_in t.streams t.entries ++ 0 ∷ generation_file generation ∷ users_file ∷ []

abbrev pub named_in : Folder → List ℕ
named_in folder = named_by (generation_of (journal_of folder)) (table_in folder)

-- only files that the folder names are there
abbrev pub HasOnlyNamed : View → Folder → Type 0
HasOnlyNamed v folder = OnlyNamed v (named_in folder)

-- These files are those of a folder with a root, and it names none of this number.
pub record IsUnnamed (files : ℕ → List ℕ) (file : ℕ) : Type 0 where
  pub has_root : HasRoot files
  pub t : Table
  pub reading : ReadsAs files t
  pub stray : IsStray (named_by reading.generation t) file

-- a log, or such a file
abbrev pub IsLogOrUnnamed : (ℕ → List ℕ) → ℕ → Type 0
IsLogOrUnnamed files file = IsJournalFile file ⊎ IsUnnamed files file

-- No file but these is changed, nor what a crash since leaves of one.
abbrev pub ChangesUnnamed : View → View → Type 0
ChangesUnnamed old new = Spans (IsUnnamed old.files) (λ image. Unit {0}) old new

abbrev pub ChangesLogsOrUnnamed : View → View → Type 0
ChangesLogsOrUnnamed old new = Spans (IsLogOrUnnamed old.files) (λ image. Unit {0}) old new

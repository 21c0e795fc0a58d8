-- When files are those of a state.
use Rattle.std.specs.Prelude.{◌≡◌, ◌⊎◌, ℕ, List, take}
use Rattle.rows_core.specs.declared.file_ref.FileRef.{FileRef}
use Rattle.extent_files.specs.Files.{digest_of}
use Rattle.journal_store.specs.Readings.{IsJournalFile}
use Rattle.folder.specs.State.{State, Names, IsValid, table}
use Rattle.folder.specs.Replay.{ReadsAs}

-- How much is known of a file: that it has its bytes, or that its digest shows where it hasn't.
pub data Care : Type 0 where
  Shown : Care
  Whole : Care

-- The file's first bytes, as many as count, are these; or another digest shows that they aren't.
abbrev pub Holds : Care → FileRef → List ℕ → List ℕ → Type 0
Holds Whole at bytes file = take at.len file ≡ bytes
Holds Shown at bytes file = digest_of (take at.len file) ≡ at.digest → take at.len file ≡ bytes

-- so does each file that the state names
abbrev pub HoldsAll : Care → State → (ℕ → List ℕ) → Type 0
HoldsAll care s files = (at : FileRef) (bytes : List ℕ) → Names s at bytes → Holds care at bytes (files at.file)

-- The files are those of the state: the logs read as its table, and the files that it names hold their bytes, or, with
-- the care `Shown`, show damage.
pub record IsSound (care : Care) (files : ℕ → List ℕ) (s : State) : Type 0 where
  pub reading : ReadsAs files (table s)
  pub valid : IsValid s
  pub holds : HoldsAll care s files

-- the files of which this speaks: the logs, and those that the state names
abbrev pub Speaks : State → ℕ → Type 0
Speaks s g = IsJournalFile g ⊎ ((at : FileRef) × (bytes : List ℕ) × Names s at bytes × (g ≡ at.file))

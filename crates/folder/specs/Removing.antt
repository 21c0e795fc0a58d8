-- Files that a table names no more, and their removal.
use Rattle.std.specs.Prelude.{◌≡◌, ◌≢◌, ℕ, ◌<◌, false, List}
use Rattle.std.specs.List.{All, Contains}
use Rattle.outside_traits.specs.Runs.{Spans}
use Rattle.outside_traits.specs.View.{View}
use Rattle.catalog_types.specs.PlainEntry.{PlainEntry}
use Rattle.catalog_types.specs.declared.extent.Extent.{Extent}
use Rattle.catalog_types.specs.declared.snapshot.StreamState.{StreamState}
use Rattle.catalog_core.specs.Table.{Table}

-- The table names the file no more: its number was given before the next one, and no extent and no kept result has it.
pub record IsFree (t : Table) (file : ℕ) : Type 0 where
  pub given : (0 < file) × (file < t.next_file)
  pub no_extent : (stream : StreamState) (extent : Extent) → Contains t.streams stream → Contains stream.extents extent → extent.file.file ≢ file
  pub no_result : (e : PlainEntry) → Contains t.entries e → e.file.file ≢ file

-- no file but these is changed, nor what a crash since leaves of one
abbrev pub ChangesAmong : List ℕ → View → View → Type 0
ChangesAmong files old new = Spans (Contains files) (λ image. Unit {0}) old new

-- none of them is there
abbrev pub AreGone : View → List ℕ → Type 0
AreGone v files = All (λ file. v.there file ≡ false) files

-- How a session stands to its store, and what a step does to both.
use Rattle.std.specs.Prelude.{◌≡◌, ◌⊎◌, ℕ, ◌≤◌, false, List, ⊤}
use Rattle.std.specs.List.{Contains}
use Rattle.outside_traits.specs.Counts.{Rose}
use Rattle.outside_traits.specs.Runs.{Narrows, Spans}
use Rattle.outside_traits.specs.View.{View, Counts}
use Rattle.catalog_core.specs.Table.{Table}
use Rattle.catalog_types.specs.PlainEntry.{PlainEntry}
use Rattle.entry_table.specs.Ids.{is_there}
use Rattle.script_text.specs.declared.answer.Answer.{Answer}
use Rattle.script_text.specs.declared.answer.Answer.TheVariants.{Refused}
use Rattle.script_text.specs.declared.item.Command.{Command}
use Rattle.script_text.specs.declared.item.Command.TheVariants as command
use Rattle.folder.specs.Folders.{FolderMeans, journal_of, table_in}
use Rattle.folder.specs.Left.{Follows, IsLeft, IsLeftWith, Since}
use Rattle.folder.specs.Sound.{Care}
use Rattle.folder.specs.State.{State}
use Rattle.folder.specs.Written.{IsFrom}
use Rattle.folder.specs.declared.folder.Folder.{Folder}
use Rattle.journal_store.specs.Journals.{generation_of}
use Rattle.journal_store.specs.Readings.{generation_file}
use Rattle.folder_session.specs.declared.session.FolderSession.{FolderSession}
use Rattle.folder_session.specs.Machine.{Step}

abbrev pub folder_of : FolderSession → Folder
folder_of session = session.folder

-- the session means this state, which the store is left with
pub record Stands (care : Care) (v : View) (session : FolderSession) (s : State) : Type 0 where
  pub means : FolderMeans care v (folder_of session) s
  pub left : IsLeft care v s s

-- the answer is the machine's, the session means the state after it, and each crash since leaves the state before or that
pub record Performs (care : Care) (u v : View) (held : List ℕ) (session : FolderSession) (s : State) (command : Command) (given : Answer) : Type 0 where
  pub new : State
  pub step : Step care held s command given new
  pub stands : Stands care v session new
  pub since : Since care s new u v

-- The store failed in the command, which would have been recorded: each crash since leaves the state before or after it, and so
-- the store is left.
pub record Breaks (care : Care) (u v : View) (held : List ℕ) (s : State) (command : Command) : Type 0 where
  pub answer : Answer
  pub new : State
  pub step : Step care held s command answer new
  pub recorded : Follows s new
  pub since : Since care s new u v
  pub left : IsLeftWith care v s new

-- a change was recorded: the session means the next state, and each crash since leaves the one before or that
pub record Records (care : Care) (u v : View) (session : FolderSession) (s new : State) : Type 0 where
  pub stands : Stands care v session new
  pub since : Since care s new u v

-- the store failed while it was recorded, or before
pub record KeepsNot (care : Care) (u v : View) (s new : State) : Type 0 where
  pub recorded : Follows s new
  pub since : Since care s new u v
  pub left : IsLeftWith care v s new

-- a refusal changes no file: each crash since leaves what a crash left before
abbrev pub LeavesWhereRefused : Answer → View → View → Type 0
LeavesWhereRefused (Refused why) u v = Narrows u v
LeavesWhereRefused _ u v = ⊤

abbrev pub IsLogInUse : Folder → ℕ → Type 0
IsLogInUse folder file = file ≡ generation_file (generation_of (journal_of folder))

-- the log in use, and files that no state names yet
abbrev pub IsWritten : Folder → ℕ → Type 0
IsWritten folder file = IsLogInUse folder file ⊎ IsFrom (table_in folder).next_file file

-- the log in use, and the next file
abbrev pub IsAppended : Folder → ℕ → Type 0
IsAppended folder file = IsLogInUse folder file ⊎ (file ≡ (table_in folder).next_file)

abbrev pub AppendsAtMost : Folder → View → View → Type 0
AppendsAtMost folder u v = Spans (IsAppended folder) (λ image. Unit {0}) u v

-- it has the file of a kept result
abbrev pub IsOfResult : Folder → ℕ → Type 0
IsOfResult folder file = (e : PlainEntry) × Contains (table_in folder).entries e × (e.file.file ≡ file)

-- the files that work changes: those that it writes, and those of kept results, which it removes
abbrev pub IsChangedByWork : Folder → ℕ → Type 0
IsChangedByWork folder file = IsWritten folder file ⊎ IsOfResult folder file

abbrev pub WorkChangesAtMost : Folder → View → View → Type 0
WorkChangesAtMost folder u v = Spans (IsChangedByWork folder) (λ image. Unit {0}) u v

-- the files that a command may change: the log in use; an append the next file, a run, a fetch or the close of a job others that no
-- state names yet, and these and a collection those of kept results, which they remove
abbrev pub MayChange : Folder → Command → ℕ → Type 0
MayChange folder (command.Stream name columns) file = IsLogInUse folder file
MayChange folder (command.Append name lines) file = IsAppended folder file
MayChange folder (command.Run name tree) file = IsChangedByWork folder file
MayChange folder (command.Fetch name as_run) file = IsChangedByWork folder file
MayChange folder (command.Collect reclaim) file = IsLogInUse folder file ⊎ IsOfResult folder file
MayChange folder command.Entries file = ⊥
MayChange folder command.Catalog file = ⊥
MayChange folder (command.OpenJob job name tree) file = ⊥
MayChange folder (command.Step job) file = ⊥
MayChange folder (command.DropJob job) file = ⊥
MayChange folder (command.Close job) file = IsChangedByWork folder file

-- no other file is changed, nor what a crash since leaves of one
abbrev pub ChangesAtMost : Folder → Command → View → View → Type 0
ChangesAtMost folder c u v = Spans (MayChange folder c) (λ image. Unit {0}) u v

-- no file is changed but the log in use and these
abbrev pub RecordsAndRemoves : Folder → List ℕ → View → View → Type 0
RecordsAndRemoves folder files u v = Spans (λ file. IsLogInUse folder file ⊎ Contains files file) (λ image. Unit {0}) u v

-- no file is changed but those that are written and these
abbrev pub WritesAndRemoves : Folder → List ℕ → View → View → Type 0
WritesAndRemoves folder files u v = Spans (λ file. IsWritten folder file ⊎ Contains files file) (λ image. Unit {0}) u v

-- the files of the kept results that the first table has and the second one hasn't aren't there, unless a removal failed
abbrev pub AreGoneSince : Table → Table → View → Counts → Counts → Type 0
AreGoneSince t u v old new = Rose old.removes new.removes ⊎ ((e : PlainEntry) → Contains t.entries e → is_there u.entries e.id ≡ false → v.there e.file.file ≡ false)

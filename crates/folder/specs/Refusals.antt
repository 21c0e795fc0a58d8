-- Reasons of the crates below, as reasons why a folder isn't loaded.
use Rattle.std.specs.Prelude.{ℕ, ◌+◌, ◌^◌, ◌<◌, ◌≤◌, Bool, List, length, ⊤}
use Rattle.record_codec.specs.declared.form.Form.{Form}
use Rattle.record_codec.specs.declared.refusal.ChangeRefusal.{ChangeRefusal}
use Rattle.record_codec.specs.declared.refusal.ChangeRefusal.TheVariants as of_change
use Rattle.catalog_core.specs.Table.{Table}
use Rattle.catalog_core.specs.declared.refusal.CatalogRefusal.{CatalogRefusal}
use Rattle.catalog_core.specs.declared.refusal.CatalogRefusal.TheVariants as of_catalog
use Rattle.journal_store.specs.declared.refusal.JournalRefusal.{JournalRefusal}
use Rattle.journal_store.specs.declared.refusal.JournalRefusal.TheVariants as of_journal
use Rattle.folder.specs.Replay.{StopsIn}
use Rattle.folder.specs.declared.refusal.LoadRefusal.{LoadRefusal}
use Rattle.folder.specs.declared.refusal.LoadRefusal.TheVariants as load
use Rattle.folder.specs.declared.replay.ReplayRefusal.{ReplayRefusal}
use Rattle.folder.specs.declared.replay.ReplayRefusal.TheVariants as replay

-- why the journal isn't loaded
abbrev pub journal_as : JournalRefusal → LoadRefusal
journal_as of_journal.Fault = load.Fault
journal_as (of_journal.NotAStore file at) = load.NotAStore file at
journal_as of_journal.Memory = load.Memory

-- why a body isn't read as a change
abbrev pub change_as : ChangeRefusal → ReplayRefusal
change_as (of_change.NotChange at) = replay.Stops at
change_as of_change.Memory = replay.Memory

-- why a change isn't made
abbrev pub catalog_as : CatalogRefusal → ReplayRefusal
catalog_as of_catalog.Misfit = replay.Stops 0
catalog_as of_catalog.Memory = replay.Memory

-- why the log in this file isn't replayed
abbrev pub replay_as : ℕ → ReplayRefusal → LoadRefusal
replay_as file (replay.Stops at) = load.NotAStore file at
replay_as file replay.Memory = load.Memory

-- the same with the place counted from the log's start, in which the body begins at this place
abbrev pub from_place : ℕ → ReplayRefusal → ReplayRefusal
from_place place (replay.Stops at) = replay.Stops (place + at)
from_place place replay.Memory = replay.Memory

abbrev pub FitsFrom : ℕ → ReplayRefusal → Type 0
FitsFrom place (replay.Stops at) = place + at < 2 ^ 64
FitsFrom place replay.Memory = ⊤

-- reading of the body stops where the refusal says, within its bytes
abbrev pub IsStop : Form → Bool → Table → List ℕ → ReplayRefusal → Type 0
IsStop f due t body (replay.Stops within) = StopsIn f due t body within × (within ≤ length body)
IsStop f due t body replay.Memory = ⊤

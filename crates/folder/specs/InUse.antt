-- The generation that is in use after loading.
use Rattle.std.specs.Prelude.{◌≡◌, ◌⊎◌, ℕ, ◌+◌, ◌<◌, ◌≤◌, List, [], ◌∷◌, length}
use Rattle.outside_traits.specs.View.{View}
use Rattle.catalog_types.specs.declared.change.Change.TheVariants.{Checkpoint}
use Rattle.record_codec.specs.Forms.{newest}
use Rattle.record_codec.specs.Spelling.{keyless_snapshot}
use Rattle.journal_store.specs.Journals.{generation_of, Keeps}
use Rattle.journal_store.specs.Readings.{HaveBodies, IsUnfinished}
use Rattle.folder.specs.Folders.{journal_of, table_in}
use Rattle.folder.specs.Replay.{IsBodyOf, form_in}
use Rattle.folder.specs.declared.folder.Folder.{Folder}

-- the most bodies of a log that loading leaves
abbrev pub most_bodies : ℕ
most_bodies = 1024

-- Loading leaves a log of these bodies as it is: they aren't more, and are of the newest form. A log without one isn't left.
abbrev pub MayStay : List (List ℕ) → Type 0
MayStay bodies = (length bodies ≤ most_bodies) × (form_in bodies ≡ newest)

-- so it is with each log that these files have in use
abbrev pub HaveLogsThatStay : (ℕ → List ℕ) → Type 0
HaveLogsThatStay files = (g : ℕ) (bodies : List (List ℕ)) → HaveBodies files g bodies → MayStay bodies

-- loading changes none of these files: the making is finished, and the log stays
abbrev pub IsLoadedAsItIs : (ℕ → List ℕ) → Type 0
IsLoadedAsItIs files = (IsUnfinished (files 0) → ⊥) × HaveLogsThatStay files

-- the generation with these bodies, which was in use
pub record IsLeftInUse (v : View) (folder : Folder) (g : ℕ) (bodies : List (List ℕ)) : Type 0 where
  pub stays : MayStay bodies
  pub generation : generation_of (journal_of folder) ≡ g
  pub keeps : Keeps v (journal_of folder) g bodies

-- the next one, whose one body is the checkpoint of the table
pub record IsReplaced (v : View) (folder : Folder) (g : ℕ) (bodies : List (List ℕ)) : Type 0 where
  pub goes : MayStay bodies → ⊥
  pub generation : generation_of (journal_of folder) ≡ g + 1
  pub body : List ℕ
  pub spells : IsBodyOf newest (Checkpoint (keyless_snapshot (table_in folder))) body
  pub keeps : Keeps v (journal_of folder) (g + 1) (body ∷ [])

-- where these were the generation in use and its bodies, or are those of a newly made folder
abbrev pub IsInUse : View → Folder → ℕ → List (List ℕ) → Type 0
IsInUse v folder g bodies = IsLeftInUse v folder g bodies ⊎ IsReplaced v folder g bodies

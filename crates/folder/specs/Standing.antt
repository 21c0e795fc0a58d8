-- How a table and a journal stand to the store that they were loaded from.
use Rattle.std.specs.Prelude.{◌≡◌, ℕ, List}
use Rattle.outside_traits.specs.View.{View, IsImageAt}
use Rattle.catalog_types.specs.declared.change.Change.{Change}
use Rattle.record_codec.specs.declared.form.Form.{Form}
use Rattle.record_codec.specs.Forms.{newest}
use Rattle.catalog_core.specs.Table.{Table, empty_table}
use Rattle.journal_store.specs.Journals.{Keeps}
use Rattle.journal_store.specs.Making.{AreStable}
use Rattle.journal_store.specs.declared.journal.Journal.{Journal}
use Rattle.folder.specs.State.{State, IsValid, table}
use Rattle.folder.specs.Replay.{Replays, due_in, form_in}
use Rattle.folder.specs.Sound.{Care, HoldsAll}
use Rattle.folder.specs.Left.{IsStep, IsSettled}

-- After each crash now the logs, of this form, read as this table, and the journal is theirs. A crash leaves them as they read.
pub record StandsIn (f : Form) (v : View) (t : Table) (journal : Journal) : Type 0 where
  pub generation : ℕ
  pub bodies : List (List ℕ)
  pub form_is : form_in bodies ≡ f
  pub keeps : Keeps v journal generation bodies
  pub replays : Replays f (due_in generation) empty_table bodies t
  pub stable : AreStable v generation

-- They mean this state, with which the store is left.
pub record MeansIn (f : Form) (care : Care) (v : View) (t : Table) (journal : Journal) (s : State) : Type 0 where
  pub table_is : t ≡ table s
  pub stands : StandsIn f v t journal
  pub valid : IsValid s
  pub settled : IsSettled care v s

-- ---- the logs of a folder that is in use are of the newest form

abbrev pub Stands : View → Table → Journal → Type 0
Stands v t journal = StandsIn newest v t journal

abbrev pub Means : Care → View → Table → Journal → State → Type 0
Means care v t journal s = MeansIn newest care v t journal s

-- That state follows from this one by the change, and the files that it names are ready: they hold their bytes after each
-- crash now.
pub record IsNext (care : Care) (v : View) (s : State) (c : Change) (s' : State) : Type 0 where
  pub step : IsStep (table s) c (table s')
  pub valid : IsValid s'
  pub ready : (image : ℕ → List ℕ) → IsImageAt v v.moment image → HoldsAll care s' image

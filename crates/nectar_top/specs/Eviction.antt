-- The files of kept results that went in a run.
use Rattle.std.specs.Prelude.{◌≡◌, ◌⊎◌, ℕ, false, List, ◌∷◌}
use Rattle.std.specs.List.{Contains}
use Rattle.outside_traits.specs.Counts.{Rose}
use Rattle.outside_traits.specs.View.{View, Counts}
use Rattle.catalog_types.specs.PlainEntry.{PlainEntry}
use Rattle.entry_table.specs.Ids.{is_there}
use Rattle.script_text.specs.declared.answer.Answer.{Answer}
use Rattle.script_text.specs.declared.item.Item.{Item}
use Rattle.folder.specs.Sound.{Care}
use Rattle.folder.specs.State.{State}
use Rattle.session.specs.Machine.{Machine}
use Rattle.nectar_top.specs.Machine.{Run}

-- a kept result that the first state has and the second one hasn't has this file
abbrev pub Went : State → State → ℕ → Type 0
Went s new file = (e : PlainEntry) × Contains s.entries e × (is_there new.entries e.id ≡ false) × (e.file.file ≡ file)

-- so does one that went in a step of the run
abbrev pub WentIn : (care : Care) (old : Machine) (commands : List Item) (answers : List Answer) (new : Machine) → Run care old commands answers new → ℕ → Type 0
WentIn care old (command ∷ commands) (answer ∷ answers) new run file = Went old.state run.0.state file ⊎ WentIn care run.0 commands answers new run.2 file
WentIn care old commands answers new run file = ⊥

-- none of these files is there, unless a removal failed
abbrev pub AreGone : (ℕ → Type 0) → View → Counts → Counts → Type 0
AreGone went v old new = Rose old.removes new.removes ⊎ ((file : ℕ) → went file → v.there file ≡ false)

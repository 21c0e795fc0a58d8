-- What the logs of a folder read as, in the form that the log in use has: the table to which the changes in it lead, or the
-- place where reading stops.
use Rattle.std.specs.Prelude.{◌≡◌, ◌⊎◌, ℕ, ◌+◌, nat_lt, Bool, true, false, List, [], ◌∷◌, length}
use Rattle.byte_formats.specs.Format.{StopsAt}
use Rattle.catalog_types.specs.declared.change.Change.{Change}
use Rattle.record_codec.specs.declared.form.Form.{Form}
use Rattle.record_codec.specs.Forms.{form_of}
use Rattle.record_codec.specs.Spelling.{spelling_in}
use Rattle.record_codec.specs.Formats.{IsSpelledIn, format_in}
use Rattle.catalog_core.specs.Table.{Table, empty_table, Fits, after}
pub use Rattle.catalog_core.specs.Table.{is_checkpoint}
use Rattle.journal_store.specs.Readings.{HaveBodies, generation_file}
use Rattle.journal_store.specs.Readings as journal

-- the form of a log is told by its first body
abbrev pub form_in : List (List ℕ) → Form
form_in [] = form_of []
form_in (body ∷ more) = form_of body

-- in this form the body spells this change
abbrev pub IsBodyOf : Form → Change → List ℕ → Type 0
IsBodyOf f c body = IsSpelledIn f c × (body ≡ spelling_in f c)

-- A change may be made of this table: it fits, and it is a checkpoint exactly where one is due.
abbrev pub MayBeMade : Bool → Table → Change → Type 0
MayBeMade due t c = (is_checkpoint c ≡ due) × Fits c t

-- a log of a generation above 0 begins with a checkpoint
abbrev pub due_in : ℕ → Bool
due_in generation = nat_lt 0 generation

-- From this table the changes that the bodies spell lead to that one. A checkpoint is the first of them where it is due,
-- and no other is one.
abbrev pub Replays : Form → Bool → Table → List (List ℕ) → Table → Type 0
Replays f due t [] t' = (due ≡ false) × (t' ≡ t)
Replays f due t (body ∷ more) t' = (c : Change) × IsBodyOf f c body × MayBeMade due t c × Replays f false (after c t) more t'

-- the logs read as this table
pub record ReadsAs (files : ℕ → List ℕ) (t : Table) : Type 0 where
  pub generation : ℕ
  pub bodies : List (List ℕ)
  pub logs : HaveBodies files generation bodies
  pub replays : Replays (form_in bodies) (due_in generation) empty_table bodies t

-- ---- where reading stops

-- the body spells no change, and reading stops at this byte of it
abbrev pub IsUnreadable : Form → List ℕ → ℕ → Type 0
IsUnreadable f body at = ((c : Change) → IsBodyOf f c body → ⊥) × StopsAt (format_in f) body at

-- the body spells a change that may not be made
abbrev pub IsMisfit : Form → Bool → Table → List ℕ → Type 0
IsMisfit f due t body = (c : Change) × IsBodyOf f c body × (MayBeMade due t c → ⊥)

-- reading stops at this byte of the body: it spells no change, or one that may not be made
abbrev pub StopsIn : Form → Bool → Table → List ℕ → ℕ → Type 0
StopsIn f due t body within = IsUnreadable f body within ⊎ (IsMisfit f due t body × (within ≡ 0))

-- The first of these bodies has its gate at byte `gate`, and its own bytes 5 behind. Reading stops at byte `at`: within the
-- first body that isn't taken, or at the gate where a checkpoint is due and there is no body.
abbrev pub StopsReplay : Form → Bool → Table → ℕ → List (List ℕ) → ℕ → Type 0
StopsReplay f due t gate [] at = (due ≡ true) × (at ≡ gate)
StopsReplay f due t gate (body ∷ more) at =
    ((within : ℕ) × StopsIn f due t body within × (at ≡ gate + 5 + within))
    ⊎ ((c : Change) × IsBodyOf f c body × MayBeMade due t c × StopsReplay f false (after c t) (gate + length body + 5) more at)

-- the logs are there, and this is where the replay of the generation in use stops; its first gate is byte 8
pub record StopsInReplay (files : ℕ → List ℕ) (file at : ℕ) : Type 0 where
  pub generation : ℕ
  pub bodies : List (List ℕ)
  pub logs : HaveBodies files generation bodies
  pub file_is : file ≡ generation_file generation
  pub stops : StopsReplay (form_in bodies) (due_in generation) empty_table 8 bodies at

-- the files are no folder's: reading them stops at this byte of this file
abbrev pub StopsReading : (ℕ → List ℕ) → ℕ → ℕ → Type 0
StopsReading files file at = journal.StopsReading files file at ⊎ StopsInReplay files file at

-- A log is replaced by the next generation's, which begins with a checkpoint.
use Rattle.std.proofs.Common.{◌≡◌, inl, inr, ℕ, ◌+◌, ◌≤◌, Bool, true, false, List, [], ◌∷◌, length, refl, sym, ◌∙◌, subst, arith}
use Rattle.std.specs.Prelude.{IsTrue, ◌↔◌}
use Rattle.std.proofs.lemmas.Bool.{false≢true}
use Rattle.std.proofs.lemmas.Bool.Decides.{nat_tests}
use Rattle.outside_traits.specs.View.{View, Now}
use Rattle.outside_traits.specs.Runs.{Spans}
use Rattle.outside_traits.proofs.RunLemmas.{spans_wider, image_has}
use Rattle.catalog_types.specs.declared.change.Change.TheVariants as change
use Rattle.record_codec.specs.declared.form.Form.{Form}
use Rattle.record_codec.specs.Forms.{newest}
use Rattle.record_codec.specs.Spelling.{change_spelling, keyless_snapshot}
use Rattle.record_codec.proofs.Keyless.{keyless_is, keyless_spelled}
use Rattle.record_codec.proofs.Newer.{told}
use Rattle.catalog_core.specs.IsTable.{IsTable}
use Rattle.catalog_core.specs.Table.{Table, empty_table}
use Rattle.folder.specs.Spelled.{IsSpelledTable}
use Rattle.folder.proofs.Restored.{keyless-fits, table-back}
use Rattle.folder.proofs.Whole.{whole-spelled}
use Rattle.journal_store.specs.Readings.{is_journal_file, IsJournalFile}
use Rattle.journal_store.specs.Journals.{HaveFormerOrNext, Keeps}
use Rattle.journal_store.specs.Making.{AreStable}
use Rattle.journal_store.specs.declared.journal.Journal.{Journal}
use Rattle.folder.specs.State.{State}
use Rattle.folder.specs.Replay.{form_in, IsBodyOf, Replays, ReadsAs, due_in}
use Rattle.folder.specs.InUse.{most_bodies, MayStay}
use Rattle.folder.specs.Sound.{Care, IsSound}
use Rattle.folder.specs.Left.{Everything, StaysSound}
use Rattle.folder.specs.Standing.{StandsIn, MeansIn, Stands, Means}
use Rattle.folder.proofs.Frames.{named_is_no_journal, holds_beside}
use Rattle.folder.proofs.Replays.{reads_of}
use Rattle.folder.proofs.SpelledLogs.{log_table}

next_is_due : (g : ℕ) → due_in (g + 1) ≡ true
next_is_due g = grind (arith, nat_tests)

-- bodies whose number and form are such that the log isn't left
pub goes_on : (bodies : List (List ℕ)) (f : Form) (many : ℕ) (b : Bool) → many ≡ length bodies → f ≡ form_in bodies → IsTrue b ↔ (many ≤ most_bodies) × (f ≡ newest) → b ≡ false → MayStay bodies → ⊥
goes_on bodies f many b many_is form_is tells isnt stays =
    let few = stays.0 in
    false≢true (sym isnt ∙ tells.1 (omega (arith, few, many_is), form_is ∙ stays.1))

module _ (t : Table) (is_table : IsTable t) (spelled : IsSpelledTable t) (body : List ℕ) (body_is : body ≡ change_spelling (change.Checkpoint t)) where
  -- the body spells the checkpoint as it is read
  pub body_spells : IsBodyOf newest (change.Checkpoint (keyless_snapshot t)) body
  body_spells = (keyless_is newest (change.Checkpoint t) (whole-spelled t is_table spelled), body_is ∙ sym (keyless_spelled newest (change.Checkpoint t)))

  -- it begins with the newest form's byte
  pub body_form : form_in (body ∷ []) ≡ newest
  body_form = subst (λ b. form_in (b ∷ []) ≡ newest) (sym body_is) (told newest t)

  -- which leads from the empty table to this one
  pub next_replays : (g : ℕ) → Replays newest (due_in (g + 1)) empty_table (body ∷ []) t
  next_replays g =
      subst (λ due. Replays newest due empty_table (body ∷ []) t) (sym (next_is_due g))
      (change.Checkpoint (keyless_snapshot t), body_spells, (refl, keyless-fits t is_table), (refl, sym (table-back t is_table)))

pub stands_table : (f : Form) (v : View) (t : Table) (journal : Journal) → StandsIn f v t journal → IsTable t
stands_table f v t journal stands = log_table f (due_in stands.generation) stands.bodies t stands.replays

module _ (f : Form) (u v : View) (t : Table) (journal : Journal) (spelled : IsSpelledTable t) (body : List ℕ) (body_is : body ≡ change_spelling (change.Checkpoint t)) (stands : StandsIn f u t journal) where
  is_table : IsTable t
  is_table = stands_table f u t journal stands

  pub replaced_stands : (journal' : Journal) → Keeps v journal' (stands.generation + 1) (body ∷ []) → AreStable v (stands.generation + 1) → Stands v t journal'
  replaced_stands journal' keeps stable = record {
    generation = stands.generation + 1;
    bodies = body ∷ [];
    form_is = body_form t is_table spelled body body_is;
    keeps = keeps;
    replays = next_replays t is_table spelled body body_is stands.generation;
    stable = stable;
  }

  -- both generations read as the table
  pub either_reads : (image : ℕ → List ℕ) → HaveFormerOrNext image stands.generation stands.bodies body → ReadsAs image t
  either_reads image (inl former) = reads_of f image stands.generation stands.bodies t former stands.form_is stands.replays
  either_reads image (inr next) =
      reads_of newest image (stands.generation + 1) (body ∷ []) t next (body_form t is_table spelled body body_is) (next_replays t is_table spelled body body_is stands.generation)

module _ (f : Form) (care : Care) (u v : View) (t : Table) (journal : Journal) (s : State) (law : (g : ℕ) → Now u g (u.files g)) (means : MeansIn f care u t journal s)
    (spelled : IsSpelledTable t) (body : List ℕ) (body_is : body ≡ change_spelling (change.Checkpoint t))
    (run : Spans IsJournalFile (λ image. HaveFormerOrNext image means.stands.generation means.stands.bodies body) u v) where
  replaced_one : (image : ℕ → List ℕ) → HaveFormerOrNext image means.stands.generation means.stands.bodies body
      → ((g : ℕ) → (IsJournalFile g → ⊥) → Now u g (image g)) → IsSound care image s
  replaced_one image either others = record {
    reading = subst (λ x. ReadsAs image x) means.table_is (either_reads f u v t journal spelled body body_is means.stands image either);
    valid = means.valid;
    holds = holds_beside care u is_journal_file law image others s (λ i is. (means.settled i is).holds) (λ at bytes names. named_is_no_journal s at bytes means.valid names);
  }

  -- each crash leaves the state as it was
  pub replaced_stays : StaysSound care s u v
  replaced_stays = spans_wider IsJournalFile Everything (λ image. HaveFormerOrNext image means.stands.generation means.stands.bodies body) (λ image. IsSound care image s) u v run (λ g is. tt) replaced_one

  pub replaced_means : (journal' : Journal) → Keeps v journal' (means.stands.generation + 1) (body ∷ []) → AreStable v (means.stands.generation + 1) → Means care v t journal' s
  replaced_means journal' keeps stable = record {
    table_is = means.table_is;
    stands = replaced_stands f u v t journal spelled body body_is means.stands journal' keeps stable;
    valid = means.valid;
    settled = image_has Everything (λ image. IsSound care image s) u v replaced_stays;
  }

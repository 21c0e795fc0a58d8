-- What a crash leaves while a change is recorded.
use Rattle.std.proofs.Common.{◌≡◌, ◌≢◌, inl, inr, ℕ, ◌+◌, Bool, false, List, [], ◌∷◌, ◌++◌, refl, sym, ap, ◌∙◌, subst, arith}
use Rattle.std.specs.Prelude.{IsTrue}
use Rattle.outside_traits.specs.View.{View, Now, IsImageAt}
use Rattle.outside_traits.specs.Runs.{Spans, Touches}
use Rattle.outside_traits.proofs.RunLemmas.{spans_of, spans_on, spans_wider, image_has, files_have}
use Rattle.gated_log.specs.Stands.{IsBeforeOrAfter}
use Rattle.catalog_types.specs.declared.change.Change.{Change}
use Rattle.record_codec.specs.Forms.{newest}
use Rattle.catalog_core.specs.Table.{Table, empty_table, after}
use Rattle.journal_store.specs.Readings.{generation_file, is_journal_file, IsJournalFile}
use Rattle.journal_store.specs.Journals.{Keeps}
use Rattle.journal_store.specs.Making.{AreStable}
use Rattle.journal_store.specs.declared.journal.Journal.{Journal}
use Rattle.journal_store.proofs.Checkpointing.{root_not_log}
use Rattle.journal_store.proofs.MakingLemmas.{log_is_journal}
use Rattle.folder.specs.State.{State, IsValid, table}
use Rattle.folder.specs.Replay.{form_in, IsBodyOf, MayBeMade, Replays, due_in}
use Rattle.folder.specs.Sound.{Care, HoldsAll, Speaks, IsSound}
use Rattle.folder.specs.Left.{AreApart, IsSoundForOneOf, IsLeft, IsLeftWith, Everything, Since, StaysSound}
use Rattle.folder.specs.Standing.{Stands, Means, IsNext}
use Rattle.folder.proofs.Replays.{form_in-push, reads_of, Replays-push}
use Rattle.folder.proofs.Frames.{named_is_no_journal, sound_beside, holds_beside, stands_same}

-- ---- the table and the journal, on every store that tells its files

-- after a commit
pub commit_stands : (u v : View) (t t' : Table) (journal journal' : Journal) (c : Change) (body : List ℕ) (stands : Stands u t journal) → IsBodyOf newest c body → MayBeMade false t c
    → t' ≡ after c t → Keeps v journal' stands.generation (stands.bodies ++ body ∷ []) → AreStable v stands.generation → Stands v t' journal'
commit_stands u v t t' journal journal' c body stands is_body may t_is keeps stable = record {
  generation = stands.generation;
  bodies = stands.bodies ++ body ∷ [];
  form_is = form_in-push stands.bodies body stands.form_is;
  keeps = keeps;
  replays = subst (λ x. Replays newest (due_in stands.generation) empty_table (stands.bodies ++ body ∷ []) x) (sym t_is)
      (Replays-push newest (due_in stands.generation) empty_table t stands.bodies body c stands.replays is_body may);
  stable = stable;
}

-- and after a run on files that are no logs
pub beside_stands : (mine : ℕ → Type 0) (u v : View) (t : Table) (journal : Journal) → ((g : ℕ) → IsJournalFile g → mine g → ⊥) → Spans mine (λ image. Unit {0}) u v → Stands u t journal → Stands v t journal
beside_stands mine u v t journal other run =
    stands_same u v t journal (λ g x log now. run.others v.moment g x run.time.later (omega arith) (other g log) now) (λ g log. run.same g (other g log))

-- ---- a commit

module _ (care : Care) (u v : View) (t : Table) (journal : Journal) (s s' : State) (c : Change) (body : List ℕ)
    (law : (g : ℕ) → Now u g (u.files g)) (means : Means care u t journal s) (next : IsNext care u s c s') (is_body : IsBodyOf newest c body) where
  pub before_replays : Replays newest (due_in means.stands.generation) empty_table means.stands.bodies (table s)
  before_replays = subst (λ x. Replays newest (due_in means.stands.generation) empty_table means.stands.bodies x) means.table_is means.stands.replays

  pub after_replays : Replays newest (due_in means.stands.generation) empty_table (means.stands.bodies ++ body ∷ []) (table s')
  after_replays = subst (λ x. Replays newest (due_in means.stands.generation) empty_table (means.stands.bodies ++ body ∷ []) x) (sym next.step.1)
      (Replays-push newest (due_in means.stands.generation) empty_table (table s) means.stands.bodies body c before_replays is_body next.step.0)

  after_form : form_in (means.stands.bodies ++ body ∷ []) ≡ newest
  after_form = form_in-push means.stands.bodies body means.stands.form_is

  beside_logs : (image : ℕ → List ℕ) → ((g : ℕ) → g ≢ generation_file means.stands.generation → Now u g (image g)) → (g : ℕ) → (IsTrue (is_journal_file g) → ⊥) → Now u g (image g)
  beside_logs image others g plain = others g (λ is. plain (subst IsJournalFile (sym is) (log_is_journal means.stands.generation means.stands.keeps.few)))

  keeps_files : (x : State) → IsValid x → ((image : ℕ → List ℕ) → IsImageAt u u.moment image → HoldsAll care x image)
      → (image : ℕ → List ℕ) → ((g : ℕ) → g ≢ generation_file means.stands.generation → Now u g (image g)) → HoldsAll care x image
  keeps_files x valid ready image others =
      holds_beside care u is_journal_file law image (beside_logs image others) x ready (λ at bytes names. named_is_no_journal x at bytes valid names)

  -- an image is of the old state where the log lacks the new body, and of the next one where it has it
  pub commit_one : (image : ℕ → List ℕ) → IsBeforeOrAfter means.stands.bodies body (image (generation_file means.stands.generation))
      → ((g : ℕ) → g ≢ generation_file means.stands.generation → Now u g (image g)) → IsSoundForOneOf care s s' image
  commit_one image (inl old) others = inl (record {
    reading =
        reads_of newest image means.stands.generation means.stands.bodies (table s)
        (inl (record { root = means.stands.keeps.root (image 0) (others 0 (root_not_log means.stands.generation)); log = old; few = means.stands.keeps.few })) means.stands.form_is before_replays;
    valid = means.valid;
    holds = keeps_files s means.valid (λ i is. (means.settled i is).holds) image others;
  })
  commit_one image (inr new) others = inr (record {
    reading =
        reads_of newest image means.stands.generation (means.stands.bodies ++ body ∷ []) (table s')
        (inl (record { root = means.stands.keeps.root (image 0) (others 0 (root_not_log means.stands.generation)); log = new; few = means.stands.keeps.few })) after_form after_replays;
    valid = next.valid;
    holds = keeps_files s' next.valid next.ready image others;
  })

  pub commit_since : Touches (generation_file means.stands.generation) (IsBeforeOrAfter means.stands.bodies body) u v → Since care s s' u v
  commit_since run = spans_of (generation_file means.stands.generation) (IsBeforeOrAfter means.stands.bodies body) Everything (IsSoundForOneOf care s s') u v run tt commit_one

  -- and once it is done the next state is meant
  pub commit_means : (t' : Table) (journal' : Journal) → t' ≡ after c t → Touches (generation_file means.stands.generation) (IsBeforeOrAfter means.stands.bodies body) u v
      → Keeps v journal' means.stands.generation (means.stands.bodies ++ body ∷ []) → AreStable v means.stands.generation → Means care v t' journal' s'
  commit_means t' journal' t_is run keeps stable =
      record {
        table_is = t_is ∙ ap (after c) means.table_is ∙ sym next.step.1;
        stands = commit_stands u v t t' journal journal' c body means.stands is_body (subst (λ (x : Table). MayBeMade false x c) (sym means.table_is) next.step.0) t_is keeps stable;
        valid = next.valid;
        settled = λ image is. record {
          reading =
              reads_of newest image means.stands.generation (means.stands.bodies ++ body ∷ []) (table s')
              (inl (record { root = keeps.root (image 0) (is 0); log = keeps.log (image (generation_file means.stands.generation)) (is (generation_file means.stands.generation)); few = keeps.few }))
              after_form after_replays;
          valid = next.valid;
          holds = keeps_files s' next.valid next.ready image (λ g other. run.others v.moment g (image g) run.time.later (omega arith) other (is g));
        };
      }

-- ---- a run on files of which neither the logs nor the state speak

module _ (mine : ℕ → Bool) (care : Care) (u v : View) (t : Table) (journal : Journal) (s : State) (law : (g : ℕ) → Now u g (u.files g)) (means : Means care u t journal s)
    (unnamed : (g : ℕ) → IsTrue (mine g) → Speaks s g → ⊥) (run : Spans (λ g. IsTrue (mine g)) (λ image. Unit {0}) u v) where
  pub beside_stays : StaysSound care s u v
  beside_stays =
      spans_wider (λ g. IsTrue (mine g)) Everything (λ image. Unit {0}) (λ image. IsSound care image s) u v run (λ g is. tt)
      (λ image any others. sound_beside care u mine law image others s means.settled unnamed)

  pub beside_means : Means care v t journal s
  beside_means = record {
    table_is = means.table_is;
    stands = beside_stands (λ g. IsTrue (mine g)) u v t journal (λ g log is. unnamed g is (inl log)) run means.stands;
    valid = means.valid;
    settled = image_has Everything (λ image. IsSound care image s) u v beside_stays;
  }

-- ---- a run behind another one, in which the second state stays

pub since_then_stays : (care : Care) (a b : State) (u v w : View) → Since care a b u v → StaysSound care b v w → Since care a b u w
since_then_stays care a b u v w since stays =
    spans_on Everything (IsSoundForOneOf care a b) u v w since
    (spans_wider Everything Everything (λ image. IsSound care image b) (IsSoundForOneOf care a b) v w stays (λ g any. any) (λ image is others. inr is))

-- and one in which the first does
pub since_then_first : (care : Care) (a b : State) (u v w : View) → Since care a b u v → StaysSound care a v w → Since care a b u w
since_then_first care a b u v w since stays =
    spans_on Everything (IsSoundForOneOf care a b) u v w since
    (spans_wider Everything Everything (λ image. IsSound care image a) (IsSoundForOneOf care a b) v w stays (λ g any. any) (λ image is others. inl is))

-- ---- what stands after a call that failed

pub apart_back : (a b : State) → AreApart a b → AreApart b a
apart_back a b (inl same) = inl (sym same)
apart_back a b (inr other) = inr (λ same. other (sym same))

module _ (care : Care) (u v : View) (a b : State) (apart : AreApart a b) (law : (g : ℕ) → Now v g (v.files g)) (since : Since care a b u v) where
  images : (image : ℕ → List ℕ) → IsImageAt v v.moment image → IsSoundForOneOf care a b image
  images = image_has Everything (IsSoundForOneOf care a b) u v since

  pub left_of_since : IsLeftWith care v a b
  left_of_since = elim (files_have Everything (IsSoundForOneOf care a b) u v since law) [
    | inl of_a ↦ inl (record { apart = apart; read = of_a; images = images })
    | inr of_b ↦ inr (record { apart = apart_back a b apart; read = of_b; images = λ image is. elim (images image is) [ inl x ↦ inr x | inr x ↦ inl x ] })
  ]

-- a store with a state that is meant is left with it
pub left_of_means : (care : Care) (v : View) (t : Table) (journal : Journal) (s : State) → ((g : ℕ) → Now v g (v.files g)) → Means care v t journal s → IsLeft care v s s
left_of_means care v t journal s law means = record { apart = inl refl; read = means.settled v.files law; images = λ image is. inl (means.settled image is) }

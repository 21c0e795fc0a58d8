-- The soundness of a state speaks of the logs and of the files that the state names, and of no others.
use Rattle.std.proofs.Common.{◌≡◌, ◌≢◌, ◌∙◌, inl, inr, ℕ, ◌+◌, ◌<◌, ◌≤◌, true, false, Bool, List, refl, sym, subst, arith}
use Rattle.std.proofs.lemmas.Bool.Decides.{nat_tests}
use Rattle.std.specs.Prelude.{IsTrue}
use Rattle.std.proofs.lemmas.Bool.{both_ways}
use Rattle.outside_traits.specs.View.{View, Now, IsImageAt}
use Rattle.outside_traits.specs.Runs.{put_back}
use Rattle.outside_traits.proofs.RunLemmas.{put_back_other, image_before}
use Rattle.rows_core.specs.declared.file_ref.FileRef.{FileRef}
use Rattle.catalog_core.specs.Table.{Table}
use Rattle.journal_store.specs.Readings.{generation_file, IsJournalFile, is_journal_file}
use Rattle.journal_store.specs.declared.journal.Journal.{Journal}
use Rattle.journal_store.proofs.MakingLemmas.{log_is_journal}
use Rattle.folder.specs.State.{State, Names, IsValid}
use Rattle.folder.specs.Replay.{ReadsAs}
use Rattle.folder.specs.Sound.{Care, Holds, HoldsAll, Speaks, IsSound}
use Rattle.folder.specs.Left.{IsSettled}
use Rattle.folder.specs.Standing.{Stands}
use Rattle.folder.proofs.JournalLemmas.{few_in, have_same}

pub root_is_journal : IsJournalFile 0
root_is_journal = refl

pub no_journal_file : (n : ℕ) → 0 < n → n < 4294967296 → is_journal_file n ≡ false
no_journal_file n low high = grind (arith, nat_tests)

-- a file that a state names is no log, and neither are the next ones
pub named_is_no_journal : (s : State) (at : FileRef) (bytes : List ℕ) → IsValid s → Names s at bytes → IsJournalFile at.file → ⊥
named_is_no_journal s at bytes valid names is =
    let given = valid.given at bytes names in
    let low : 0 < at.file = given.0 in
    let high : at.file < s.next_file = given.1 in
    let last : s.next_file ≤ 4294967296 = valid.last in
    both_ways (is_journal_file at.file) (no_journal_file at.file low (omega (arith, high, last))) is

pub later_is_no_journal : (s : State) (file : ℕ) → IsValid s → s.next_file ≤ file → file < 4294967296 → IsJournalFile file → ⊥
later_is_no_journal s file valid later room is =
    let first : 0 < s.next_file = valid.first in
    both_ways (is_journal_file file) (no_journal_file file (omega (arith, first, later)) room) is

-- a state doesn't name the next files
pub later_is_not_named : (s : State) (file : ℕ) (at : FileRef) (bytes : List ℕ) → IsValid s → s.next_file ≤ file → Names s at bytes → file ≢ at.file
later_is_not_named s file at bytes valid later names is = let high : at.file < s.next_file = (valid.given at bytes names).1 in absurd (omega (arith, high, later, is))

pub reads_same : (a b : ℕ → List ℕ) (t : Table) → ((g : ℕ) → IsJournalFile g → b g ≡ a g) → ReadsAs a t → ReadsAs b t
reads_same a b t same reading = record {
  generation = reading.generation;
  bodies = reading.bodies;
  logs = have_same a b reading.generation reading.bodies (same 0 root_is_journal) (same (generation_file reading.generation) (log_is_journal reading.generation (few_in a reading.generation reading.bodies reading.logs))) reading.logs;
  replays = reading.replays;
}

-- what stands is kept where the logs read as before, and no more is left of them
pub stands_same : (u v : View) (t : Table) (journal : Journal) → ((g : ℕ) (x : List ℕ) → IsJournalFile g → Now v g x → Now u g x) → ((g : ℕ) → IsJournalFile g → v.files g ≡ u.files g)
    → Stands u t journal → Stands v t journal
stands_same u v t journal here same stands =
    let file : ℕ = generation_file stands.generation in
    let log : IsJournalFile (generation_file stands.generation) = log_is_journal stands.generation stands.keeps.few in
    record {
      generation = stands.generation;
      bodies = stands.bodies;
      form_is = stands.form_is;
      keeps = record {
        is_generation = stands.keeps.is_generation;
        end = stands.keeps.end;
        root = λ x now. stands.keeps.root x (here 0 x root_is_journal now);
        log = λ x now. stands.keeps.log x (here file x log now);
        few = stands.keeps.few;
      };
      replays = stands.replays;
      stable = record {
        root = λ x now. stands.stable.root x (here 0 x root_is_journal now) ∙ sym (same 0 root_is_journal);
        log = λ x now. stands.stable.log x (here file x log now) ∙ sym (same file log);
      };
    }

-- soundness passes between files that agree where it speaks
pub sound_same : (care : Care) (a b : ℕ → List ℕ) (s : State) → IsSound care a s → ((g : ℕ) → Speaks s g → b g ≡ a g) → IsSound care b s
sound_same care a b s sound same = record {
  reading = reads_same a b _ (λ g is. same g (inl is)) sound.reading;
  valid = sound.valid;
  holds = λ at bytes names. subst (λ x. Holds care at bytes x) (sym (same at.file (inr (at, bytes, names, refl)))) (sound.holds at bytes names);
}

module _ (care : Care) (u : View) (mine : ℕ → Bool) (law : (g : ℕ) → Now u g (u.files g))
    (image : ℕ → List ℕ) (others : (g : ℕ) → (IsTrue (mine g) → ⊥) → Now u g (image g)) where
  -- a run on files of which a state's soundness doesn't speak keeps the state
  pub sound_beside : (s : State) → IsSettled care u s → ((g : ℕ) → IsTrue (mine g) → Speaks s g → ⊥) → IsSound care image s
  sound_beside s settled unnamed =
      sound_same care (put_back mine u.files image) image s (settled _ (image_before mine u image law others))
      (λ g speaks. sym (put_back_other mine u.files image g (λ is. unnamed g is speaks)))

  -- a run on files that a state doesn't name keeps its files
  pub holds_beside : (s : State) → ((image : ℕ → List ℕ) → IsImageAt u u.moment image → HoldsAll care s image)
      → ((at : FileRef) (bytes : List ℕ) → Names s at bytes → IsTrue (mine at.file) → ⊥) → HoldsAll care s image
  holds_beside s ready unnamed = λ at bytes names.
      subst (λ x. Holds care at bytes x) (put_back_other mine u.files image at.file (unnamed at bytes names))
      (ready (put_back mine u.files image) (image_before mine u image law others) at bytes names)

-- New files, before the change that names them is recorded.
use Rattle.std.proofs.Common.{◌≡◌, ◌≢◌, ◌∙◌, inl, inr, ℕ, ◌+◌, ◌==◌, ◌^◌, ◌<◌, ◌≤◌, List, refl, sym, ap, subst, true≢false, arith}
use Rattle.std.specs.Prelude.{IsTrue}
use Rattle.std.proofs.lemmas.Bool.{both_ways, eqb-true, eq-eqb}
use Rattle.outside_traits.specs.View.{View, Now, Only}
use Rattle.outside_traits.specs.Runs.{ChangesOnly, Spans}
use Rattle.outside_traits.proofs.RunLemmas.{spans_of}
use Rattle.catalog_core.specs.Table.{Table}
use Rattle.journal_store.specs.Readings.{users_file, IsJournalFile, is_journal_file}
use Rattle.journal_store.specs.declared.journal.Journal.{Journal}
use Rattle.folder.specs.State.{State, IsValid}
use Rattle.folder.specs.Sound.{Care, Speaks}
use Rattle.folder.specs.Left.{StaysSound}
use Rattle.folder.specs.Standing.{Stands, Means}
use Rattle.folder.proofs.Frames.{later_is_no_journal, later_is_not_named, no_journal_file}
use Rattle.folder.proofs.Crash.{beside_stays, beside_means, beside_stands}
use Rattle.folder.proofs.Tables.{stands-table}

-- a run on one file
one_file : (file : ℕ) (u v : View) → ChangesOnly file u v → Spans (λ g. IsTrue (g == file)) (λ image. Unit {0}) u v
one_file file u v run = spans_of file (λ x. Unit {0}) (λ g. IsTrue (g == file)) (λ image. Unit {0}) u v run (eq-eqb file file refl) (λ image here others. tt)

module _ (care : Care) (u v : View) (t : Table) (journal : Journal) (s : State) (file ahead : ℕ)
    (law : (g : ℕ) → Now u g (u.files g)) (means : Means care u t journal s) (file_is : file ≡ t.next_file + ahead) (room : t.next_file + ahead < 2 ^ 32) (run : ChangesOnly file u v) where
  unspoken : Speaks s file → ⊥
  unspoken speaks =
      let same : t.next_file ≡ s.next_file = ap (λ (x : Table). x.next_file) means.table_is in
      let later : s.next_file ≤ file = omega (arith, file_is, same) in
      elim speaks [
        | inl log ↦ later_is_no_journal s file means.valid later (omega (arith, file_is, room)) log
        | inr named ↦ later_is_not_named s file named.0 named.1 means.valid later named.2 named.3
      ]

  unnamed : (g : ℕ) → IsTrue (g == file) → Speaks s g → ⊥
  unnamed g is speaks = unspoken (subst (λ n. Speaks s n) (eqb-true g file is) speaks)

  pub written_stays : StaysSound care s u v
  written_stays = beside_stays (λ g. g == file) care u v t journal s law means unnamed (one_file file u v run)

  pub written_means : Means care v t journal s
  written_means = beside_means (λ g. g == file) care u v t journal s law means unnamed (one_file file u v run)

-- so the logs are as they were
pub written_stands : (u v : View) (t : Table) (journal : Journal) (file ahead : ℕ) → file ≡ t.next_file + ahead → t.next_file + ahead < 2 ^ 32 → ChangesOnly file u v
    → Stands u t journal → Stands v t journal
written_stands u v t journal file ahead file_is room run stands =
    let low : 0 < t.next_file = (stands-table u t journal stands).first_file in
    let positive : 0 < file = omega (arith, file_is, low) in
    let below : file < 4294967296 = omega (arith, file_is, room) in
    beside_stands (λ g. IsTrue (g == file)) u v t journal
    (λ g log is. both_ways (is_journal_file file) (no_journal_file file positive below) (subst IsJournalFile (eqb-true g file is) log)) (one_file file u v run) stands

-- any other file holds what it held
pub others_stay : (u v : View) (file named : ℕ) → named ≡ file → ChangesOnly file u v → (g : ℕ) (held : List ℕ) → g ≢ named → Only held (Now u g) → Only held (Now v g)
others_stay u v file named is run g held other only = λ x now. only x (run.others v.moment g x run.time.later (omega arith) (subst (λ n. g ≢ n) is other) now)

-- ---- the users' file

-- it is no log, and its number is above those of the files that a state names
users_unspoken : (s : State) → IsValid s → (g : ℕ) → IsTrue (g == users_file) → Speaks s g → ⊥
users_unspoken s valid g is (inl log) = true≢false (sym log ∙ ap is_journal_file (eqb-true g users_file is))
users_unspoken s valid g is (inr named) =
    let high : named.0.file < s.next_file = (valid.given named.0 named.1 named.2).1 in
    let last : s.next_file ≤ 4294967296 = valid.last in
    let same : g ≡ named.0.file = named.3 in
    let users : g ≡ users_file = eqb-true g users_file is in
    omega (arith, high, last, same, users)

module _ (care : Care) (u v : View) (t : Table) (journal : Journal) (s : State) (law : (g : ℕ) → Now u g (u.files g)) (means : Means care u t journal s) (run : ChangesOnly users_file u v) where
  pub users_keep : StaysSound care s u v
  users_keep = beside_stays (λ g. g == users_file) care u v t journal s law means (users_unspoken s means.valid) (one_file users_file u v run)

  pub users_mean : Means care v t journal s
  users_mean = beside_means (λ g. g == users_file) care u v t journal s law means (users_unspoken s means.valid) (one_file users_file u v run)

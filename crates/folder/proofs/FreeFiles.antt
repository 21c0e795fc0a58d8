-- Files that a table names no more are files of which neither the logs nor its state speak.
use Rattle.std.proofs.Common.{◌≢◌, ◌∙◌, inl, inr, sym, ap, subst, ℕ, ◌==◌, ◌<◌, ◌≤◌, Bool, List, arith}
use Rattle.std.specs.Prelude.{IsTrue}
use Rattle.std.specs.List.{All, Contains, list_any}
use Rattle.std.proofs.lemmas.Bool.{both_ways, eqb-true}
use Rattle.std.proofs.lemmas.Cmp.{nat_eq_equiv}
use Rattle.std.proofs.lemmas.List.Elements.{All-contains}
use Rattle.std.proofs.lemmas.Map.Views.{Contains-from_any, list_any-from_Contains}
use Rattle.outside_traits.specs.Runs.{Spans}
use Rattle.outside_traits.specs.View.{View, Now}
use Rattle.outside_traits.proofs.RunLemmas.{spans_wider}
use Rattle.rows_core.specs.declared.file_ref.FileRef.{FileRef}
use Rattle.plan_laws.proofs.Members.{mapped}
use Rattle.catalog_core.specs.Table.{Table}
use Rattle.journal_store.specs.Readings.{IsJournalFile, is_journal_file}
use Rattle.journal_store.specs.declared.journal.Journal.{Journal}
use Rattle.folder.specs.State.{State, Names, IsValid, extent_of, stream_of, table}
use Rattle.folder.specs.Sound.{Care, Speaks}
use Rattle.folder.specs.Left.{StaysSound}
use Rattle.folder.specs.Removing.{IsFree, ChangesAmong}
use Rattle.folder.specs.Standing.{Stands, Means}
use Rattle.folder.proofs.Crash.{beside_stays, beside_means, beside_stands}
use Rattle.folder.proofs.Frames.{no_journal_file}
use Rattle.folder.proofs.Tables.{stands-table}

-- it is no log
free_is_no_journal : (t : Table) (file : ℕ) → t.next_file ≤ 4294967296 → IsFree t file → IsJournalFile file → ⊥
free_is_no_journal t file last free log =
    let low : 0 < file = free.given.0 in
    let high : file < t.next_file = free.given.1 in
    both_ways (is_journal_file file) (no_journal_file file low (omega (arith, high, last))) log

-- nor does a state of the table name it
free_is_not_named : (s : State) (file : ℕ) (at : FileRef) (bytes : List ℕ) → IsFree (table s) file → Names s at bytes → file ≢ at.file
free_is_not_named s file at bytes free (inl names) is =
    free.no_extent (stream_of names.stream) (extent_of names.extent) (mapped stream_of s.streams names.stream names.has.0) (mapped extent_of names.stream.extents names.extent names.has.1)
    (ap (λ (r : FileRef). r.file) (sym names.at_is) ∙ sym is)
free_is_not_named s file at bytes free (inr names) is = free.no_result names.entry names.has (ap (λ (r : FileRef). r.file) (sym names.at_is) ∙ sym is)

free_is_unspoken : (s : State) (file : ℕ) → IsValid s → IsFree (table s) file → Speaks s file → ⊥
free_is_unspoken s file valid free (inl log) = free_is_no_journal (table s) file valid.last free log
free_is_unspoken s file valid free (inr named) = free_is_not_named s file named.0 named.1 free named.2 named.3

-- ---- a run on such files

abbrev is_one_of : List ℕ → ℕ → Bool
is_one_of files file = list_any (λ other. file == other) files

module _ (care : Care) (u v : View) (t : Table) (journal : Journal) (s : State) (files : List ℕ)
    (law : (g : ℕ) → Now u g (u.files g)) (means : Means care u t journal s) (free : All (IsFree t) files) (run : ChangesAmong files u v) where
  unspoken : (g : ℕ) → IsTrue (is_one_of files g) → Speaks s g → ⊥
  unspoken g is speaks =
      let one = All-contains (IsFree t) files g free (Contains-from_any eqb-true g files is) in
      free_is_unspoken s g means.valid (subst (λ (x : Table). IsFree x g) means.table_is one) speaks

  tested : Spans (λ g. IsTrue (is_one_of files g)) (λ image. Unit {0}) u v
  tested = spans_wider (Contains files) (λ g. IsTrue (is_one_of files g)) (λ image. Unit {0}) (λ image. Unit {0}) u v run (λ g has. list_any-from_Contains nat_eq_equiv g files has) (λ image any others. tt)

  pub removed_stays : StaysSound care s u v
  removed_stays = beside_stays (is_one_of files) care u v t journal s law means unspoken tested

  pub removed_means : Means care v t journal s
  removed_means = beside_means (is_one_of files) care u v t journal s law means unspoken tested

pub removed_stands : (u v : View) (t : Table) (journal : Journal) (files : List ℕ) → All (IsFree t) files → ChangesAmong files u v → Stands u t journal → Stands v t journal
removed_stands u v t journal files free run stands =
    let last : t.next_file ≤ 4294967296 = (stands-table u t journal stands).last_file in
    beside_stands (Contains files) u v t journal (λ g log has. free_is_no_journal t g last (All-contains (IsFree t) files g free has) log) run stands
